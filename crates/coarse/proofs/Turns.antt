-- The two loops that count keys, of cells and of faces: what a turn needs and leaves, and what the loop's end and its early
-- stop say.
-- Assumes nothing.
use Rattle.std.proofs.Common.{◌≡◌, sym, ◌∙◌, ap, arith}
use mathlib.Core.Bool.{true, false, not}
use mathlib.Core.List.{List, [], flat_map}
use Prim.Native.Nat.{ℕ, ◌+◌, ◌*◌, ◌≤◌, ◌<◌}
use lib.Dec.{lit<}
use lib.ListN.{length, get_or}
use Rattle.base.specs.Fours.{faces}
use Rattle.mesh.specs.Coarse.{twiceb}
use Rattle.coarse.specs.declared.tally.Tally.{Tally}
use Rattle.coarse.specs.Cells.{Ranked, crowdedb}
use Rattle.coarse.specs.Tally.{lead, low_cell, low_face, Open, Tallied}
use Rattle.coarse.proofs.Faces.{length-faces}
use Rattle.coarse.proofs.Meets.{Sofar, meets_open, meets_turn, meets_over, meets_end}
use Rattle.coarse.proofs.Repeats.{cells, twice_none, twice_some}
use Rattle.coarse.proofs.Crowds.{crowd_none, crowd_some}

module _ {qs : List (List ℕ)} (r : Ranked qs) {N : ℕ} where
  -- of the cells, k have been counted
  module _ {t : Tally N} {k : ℕ} (s : Sofar lead low_cell 1 qs t k) where
    pub cells_end : length qs ≤ k → true ≡ not (twiceb qs)
    cells_end h = sym (ap not (twice_none (cells qs r.four (rw r.cells tt)) (meets_end lead low_cell 1 qs s h)))

    module _ (h : k < length qs) where
      pub cells_open : 4 * length qs ≤ N → (x y : ℕ) → Open t x y
      cells_open room = meets_open lead low_cell 1 qs s (omega arith) (lit< tt)

      module _ {x y : ℕ} (ex : x ≡ lead (get_or qs k [])) (ey : y ≡ low_cell (get_or qs k []))
          {t' : Tally N} {c : ℕ} (a : Tallied t x y t' c) where
        pub cells_turn : c ≤ 1 → Sofar lead low_cell 1 qs t' (k + 1)
        cells_turn l = meets_turn lead low_cell 1 qs s h ex ey a l

        pub cells_over : 1 < c → false ≡ not (twiceb qs)
        cells_over l =
            let q = get_or qs k [] in
            sym (ap not (twice_some (lead q) (low_cell q) (cells qs r.four (rw r.cells tt)) (meets_over lead low_cell 1 qs s h ex ey a l)))

  -- of their faces, i have been counted
  module _ {t : Tally N} {i : ℕ} (s : Sofar lead low_face 2 (flat_map faces qs) t i) where
    pub faces_end : 4 * length qs ≤ i → true ≡ not (crowdedb qs)
    faces_end h =
        sym (ap not (crowd_none qs (meets_end lead low_face 2 (flat_map faces qs) s (omega (arith, length-faces qs)))))

    module _ (h : i < 4 * length qs) where
      pub faces_open : 4 * length qs ≤ N → (x y : ℕ) → Open t x y
      faces_open room = meets_open lead low_face 2 (flat_map faces qs) s (omega arith) (lit< tt)

      module _ {f : List ℕ} (e : f ≡ get_or (flat_map faces qs) i []) {x y : ℕ} (ex : x ≡ lead f) (ey : y ≡ low_face f)
          {t' : Tally N} {c : ℕ} (a : Tallied t x y t' c) where
        inside : i < length (flat_map faces qs)
        inside = omega (arith, length-faces qs)

        pub faces_turn : c ≤ 2 → Sofar lead low_face 2 (flat_map faces qs) t' (i + 1)
        faces_turn l = meets_turn lead low_face 2 (flat_map faces qs) s inside (ex ∙ ap lead e) (ey ∙ ap low_face e) a l

        pub faces_over : 2 < c → false ≡ not (crowdedb qs)
        faces_over l =
            sym (ap not (crowd_some (cells qs r.four (rw r.cells tt)) i inside
            (meets_over lead low_face 2 (flat_map faces qs) s inside (ex ∙ ap lead e) (ey ∙ ap low_face e) a l)))
