-- A level's rows, its cells over numbers, and a cell's children, by cell numbers.
--   Stands cs k ds es   the cells ds stand in cs from k on, and then es
-- Laws: rows_range, cells_of_rows, cells_range, placed_range (a level's rows, cells over numbers, and corners), up_end, kids_range (a
-- cell's children).
-- Assumes nothing.
use mathlib.Core.Path.{◌≡◌, refl, sym, ◌∙◌, ap, ap₂}
use mathlib.Core.List.{List, [], ◌∷◌, ◌++◌, map}
use Prim.Native.Nat.{ℕ, suc, ◌+◌, ◌-◌, ◌≤◌, ◌<◌}
use native.Mathlib.Nat.{add-zero}
use native.Mathlib.Omega.{arith}
use lib.Dec.{eqb}
use lib.ListN.{length, get_or, take, drop, length-drop, get_or-append}
use lib.Seq.{drop-cons, drop-drop, get_or-drop, get_or-take, take-take, length-take-le}
use Rattle.base.specs.Lists.{filterb}
use Rattle.mesh.specs.Cells.{Cell, no_cell}
use Rattle.mesh.specs.Weights.{Point}
use Rattle.mesh.specs.Table.{next, size_of, sizes}
use Rattle.mesh.specs.Layout.{Corner, number_in, map_cell}
use Rattle.mesh.specs.Step.{Row, rows_from, kids}
use Rattle.rows.specs.Numbered.{cells_at}
use Rattle.base.specs.Every.{All}
use Rattle.numbering.specs.Tests.{numbered_cells, Placed}
use Rattle.rows.specs.Many.{next_size}
use Rattle.tables.specs.Cells.{strip}
use Rattle.lineage.specs.Olds.{first_child}
use Rattle.flagging.specs.Flags.{kids_of}
use Rattle.keeping.specs.Ranges.{Blocks, blocks}
use Rattle.keeping.specs.Born.{born_row}
use Rattle.lineage.specs.Firsts.{first_add, first_next, first_up, Firsts}
use Rattle.keeping.proofs.Tests.{row_at, Seen}
use Rattle.rows.specs.Laws.{cells_cons}
use Rattle.base.specs.Range.{range}
use Rattle.base.specs.Each.{filter_map}

abbrev pub Stands : List (Cell Point) → ℕ → List (Cell Point) → List (Cell Point) → Type 0
Stands cs k ds es = drop k cs ≡ ds ++ es

module _ (cs : List (Cell Point)) (k : ℕ) (d : Cell Point) (ds es : List (Cell Point)) (b : Stands cs k (d ∷ ds) es) where
  stands_first : get_or cs k no_cell ≡ d
  stands_first = let w : k + 0 ≡ k = add-zero k in rw w at (sym (get_or-drop k cs 0 no_cell)) ∙ ap (λ (l : List (Cell Point)). get_or l 0 no_cell)
      b

  stands_rest : Stands cs (suc k) ds es
  stands_rest = let w : suc k ≡ k + 1 = omega arith in rw (w, ← drop-drop 1 k cs) (ap (drop 1) b)

  stands_in : k < length cs
  stands_in = omega (arith, ap length b, length-drop k cs)

stands_at : (cs : List (Cell Point)) (k : ℕ) (ds es : List (Cell Point)) → Stands cs k ds es → (i : ℕ) → i < length ds
    → get_or cs (k + i) no_cell ≡ get_or ds i no_cell
stands_at cs k ds es b i h = sym (get_or-drop k cs i no_cell) ∙ ap (λ (l : List (Cell Point)). get_or l i no_cell) b
    ∙ get_or-append ds es no_cell i h

-- the rows of a level
pub rows_range : (cs : List (Cell Point)) (ss ms : List ℕ) (k : ℕ) (ds es : List (Cell Point)) → Stands cs k ds es
    → k + length ds ≤ length ss
    → rows_from k ds (take (length ds) (drop k ss)) ms ≡ map (row_at cs ss ms) (range k (length ds))
unfolding rows_from range
rows_range cs ss ms k [] es b h = refl
rows_range cs ss ms k (d ∷ ds) es b h =
    rw (drop-cons ss k 0 (omega arith))
    (ap₂ {A = Cell Point} {B = List Row} {C = List Row}
    (λ c l. record { number = k; cell = c; status = get_or ss k 0; mark = get_or ms k 0 } ∷ l) (sym (stands_first cs k d ds es b))
    (rows_range cs ss ms (suc k) ds es (stands_rest cs k d ds es b) (omega arith)))

pub cells_of_rows : (cs : List (Cell Point)) (ss ms : List ℕ) (k : ℕ) (ds es : List (Cell Point)) → Stands cs k ds es
    → map (λ r. r.cell) (map (row_at cs ss ms) (range k (length ds))) ≡ ds
unfolding range
cells_of_rows cs ss ms k [] es b = refl
cells_of_rows cs ss ms k (d ∷ ds) es b = ap₂ ◌∷◌ (stands_first cs k d ds es b)
    (cells_of_rows cs ss ms (suc k) ds es (stands_rest cs k d ds es b))

module _ (ks : List Corner) (cs : List (Cell Point)) (t : List ℕ) (s : Seen ks cs t) where
  pub placed_range : (k : ℕ) (ds es : List (Cell Point)) → Stands cs k ds es → All (Placed ks) ds
  placed_range k [] es b = tt
  placed_range k (d ∷ ds) es b = (
    rw (stands_first cs k d ds es b) at (s.placed k (stands_in cs k d ds es b)),
    placed_range (suc k) ds es
        (stands_rest cs k d ds es b),
  )

  pub cells_range : (k : ℕ) (ds es : List (Cell Point)) → Stands cs k ds es → cells_at t k (length ds) ≡ map strip (numbered_cells ks ds)
  unfolding cells_at
  cells_range k [] es b = refl
  cells_range k (d ∷ ds) es b =
      cells_cons t k (length ds)
      ∙ ap₂ ◌∷◌ (s.cells k (stands_in cs k d ds es b) ∙ ap (λ (c : Cell Point). strip (map_cell (number_in ks) c))
      (stands_first cs k d ds es b))
      (cells_range (suc k) ds es (stands_rest cs k d ds es b))

-- a cell's children in the level above
module _ (m : ℕ) (ss : List ℕ) (first : ℕ) (ds : List (Cell Point)) where
  abbrev own : List ℕ
  own = take (length ds) (drop first ss)

  abbrev last : ℕ
  last = first + length ds

  module _ (e : last ≡ first_child m ss first) (h : last ≤ length ss) where
    own-length : length own ≡ length ds
    own-length = length-take-le (length ds) (drop first ss) (omega (arith, length-drop first ss))

    up-length : length (next first ds own) ≡ sizes own
    up-length = next_size first ds own (omega (arith, own-length))

    pub up_end : last + length (next first ds own) ≡ first_child m ss last
    up_end = omega (arith, up-length, e, first_add m ss first (length ds))

    module _ (cs : List (Cell Point)) (ms ks : List ℕ) (f : Firsts m ss ks) (es : List (Cell Point))
        (b : Stands cs last (next first ds own) es) where
      parent_of : (k j : ℕ) → first ≤ k → k < last → first_child m ss k ≤ j → j < first_child m ss (suc k) → (get_or cs j no_cell).parent ≡ k
      parent_of k j p q x y =
          let i = k - first in
          let w : first + i ≡ k = omega arith in
          let o : sizes (take i own) ≡ sizes (take i (drop first ss)) = ap sizes (take-take i (length ds) (drop first ss) (omega arith)) in
          let a : first_child m ss k ≡ last + sizes (take i own) = rw w at (first_add m ss first i) ∙ omega (arith, e, o) in
          let g : get_or own i 0 ≡ get_or ss k 0 = get_or-take (length ds) (drop first ss) i 0 (omega arith) ∙ get_or-drop first ss i 0
          ∙ ap (λ (z : ℕ). get_or ss z 0) w in
          let n : first_child m ss (suc k) ≡ first_child m ss k + size_of (get_or ss k 0) = first_next m ss k (omega arith) in
          let r : j - first_child m ss k < size_of (get_or own i 0) = rw g (omega arith) in
          let top : first_child m ss (suc k) ≤ first_child m ss last = first_up m ss (suc k) last (omega arith) in
          let z : j ≡ last + (sizes (take i own) + (j - first_child m ss k)) = omega arith in
          let c : get_or cs j no_cell ≡ get_or (next first ds own) (sizes (take i own) + (j - first_child m ss k)) no_cell =
          ap (λ (z : ℕ). get_or cs z no_cell) z ∙ stands_at cs last (next first ds own) es b (sizes (take i own) + (j - first_child m ss k))
          (omega (arith, up_end)) in
          ap (λ (c : Cell Point). c.parent) c ∙ born_row first no_cell ds own (sym own-length) i (rw own-length (omega arith))
          (j - first_child m ss k) r ∙ w

      pub kids_range : (k : ℕ) → first ≤ k → k < last → kids (map (row_at cs ss ms) (range last (length (next first ds own)))) k ≡ map
          (row_at cs ss ms) (kids_of ks k)
      unfolding kids kids_of
      kids_range k p q =
          let bl : Blocks (λ j. (get_or cs j no_cell).parent) (first_child m ss) first last =
          record { up = λ x y a c d. first_up m ss x y c; own = λ k j a c x y. parent_of k j a c x y } in
          let n : length (next first ds own) ≡ first_child m ss last - first_child m ss first = omega (arith, up_end, e) in
          filter_map (λ r. eqb r.cell.parent k) (row_at cs ss ms) (range last (length (next first ds own)))
          ∙ ap (map (row_at cs ss ms))
          (ap (λ (l : List ℕ). filterb (λ j. eqb (get_or cs j no_cell).parent k) l) (ap₂ range e n)
          ∙ blocks (λ j. (get_or cs j no_cell).parent) (first_child m ss) (length ds) first last k refl bl p q
          ∙ ap₂ (λ (x y : ℕ). range x (y - x)) (sym (f.at k (omega arith))) (sym (f.at (suc k) (omega arith))))
