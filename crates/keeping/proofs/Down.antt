-- From the highest level down: new red edges and what the cells keep, level by level.
--   Down h first ds   what is said of h levels from the cells ds, numbered from first, on
-- Laws: filter_red (the edges of rows that pass a test), kept_none, high_none (no cells), down (what is said of the levels holds).
-- Assumes nothing.
use mathlib.Core.Path.{◌≡◌, refl, sym, ◌∙◌, ap, ap₂}
use mathlib.Core.Bool.{Bool, true, false}
use mathlib.Core.List.{List, [], ◌∷◌, ◌++◌, map, flat_map, flatten}
use Prim.Native.Nat.{ℕ, zero, suc, ◌+◌, ◌-◌, ◌≤◌, ◌<◌}
use native.Mathlib.Nat.{add-zero}
use native.Mathlib.Omega.{arith}
use lib.Dec.{eqb}
use lib.ListN.{length, get_or, take, drop, length-drop}
use lib.Seq.{drop-drop, drop-append_seam}
use Rattle.base.specs.Lists.{anyb, filterb, sameb}
use Rattle.mesh.specs.Cells.{Cell, redb, edges, heldb, red_edges, no_cell}
use Rattle.mesh.specs.Weights.{Point}
use Rattle.mesh.specs.Table.{Level, next, levels, cells_of}
use Rattle.mesh.specs.Layout.{Corner, number_in}
use Rattle.mesh.specs.Step.{Row, rows, rows_from, kids, new_redb, rows_up, edges_up, new_reds}
use Rattle.edges.specs.Pairs.{Pair}
use Rattle.rows.specs.Numbered.{cell_at, cells_at}
use Rattle.base.specs.Every.{All}
use Rattle.base.specs.Each.{map_same}
use Rattle.numbering.specs.Corners.{Has}
use Rattle.numbering.specs.Renamed.{red_edges_in}
use Rattle.numbering.specs.Tests.{numbered_cells, edge_in, EndsPlaced, red_edges_numbers}
use Rattle.tables.specs.Cells.{red_strip}
use Rattle.lineage.specs.Olds.{flag_of, flags_of, flags, first_child}
use Rattle.kept.specs.Kept.{kept_of, kept_rows, kept_levels}
use Rattle.flagging.specs.Flags.{kids_of, red_atb, flags_at, reds_up, kepts_at, kept_up, high_up}
use Rattle.lineage.specs.Firsts.{first_up, Firsts, firsts_top, firsts_up}
use Rattle.keeping.proofs.Tests.{row_at, Seen, all_range, red_row, kept_row}
use Rattle.keeping.proofs.Levels.{Stands, rows_range, cells_of_rows, placed_range, cells_range, up_end, kids_range}
use Rattle.lineage.specs.Flags.{flag_red}
use Rattle.base.specs.Range.{range}

filter_red : (f : Row → Bool) (rs : List Row) → flat_map (λ r. edges [] r.cell) (filterb f rs) ≡ red_edges [] (map (λ r. r.cell) rs)
    (map (λ r. flag_of (f r)) rs)
unfolding filterb red_edges flat_map flatten
filter_red f [] = refl
filter_red f (r ∷ rs) = go (f r) refl (filter_red f rs)
  where
    go : (b : Bool) → f r ≡ b → flat_map (λ r. edges [] r.cell) (filterb f rs) ≡ red_edges [] (map (λ r. r.cell) rs)
        (map (λ r. flag_of (f r)) rs)
        → flat_map (λ r. edges [] r.cell) (filterb f (r ∷ rs)) ≡ red_edges [] (map (λ r. r.cell) (r ∷ rs))
        (map (λ r. flag_of (f r)) (r ∷ rs))
    go true e i = rw (e, filterb, flag_red true, red_edges) (ap (λ (l : List (Point × Point)). edges [] r.cell ++ l) i)
    go false e i = rw (e, filterb, flag_red false, red_edges) i

map-map : {A B C : Type 0} (g : B → C) (h : A → B) (l : List A) → map g (map h l) ≡ map (λ x. g (h x)) l
map-map g h [] = refl
map-map g h (x ∷ l) = ap (λ m. g (h x) ∷ m) (map-map g h l)

module _ (t ss ms firsts : List ℕ) where
  -- nothing above the highest level
  kept_none : (h k : ℕ) → get_or firsts k 0 ≡ k → kept_up t ss ms firsts h k k ≡ []
  unfolding kept_up kepts_at range
  kept_none zero k e = refl
  kept_none (suc h) k e = let z : k - k ≡ 0 = omega arith in rw (z, e) (kept_none h k e)

  high_none : (h k : ℕ) → get_or firsts k 0 ≡ k → high_up t ss ms firsts h k k ≡ false
  unfolding high_up flags_at anyb range
  high_none zero k e = refl
  high_none (suc zero) k e = let z : k - k ≡ 0 = omega arith in rw z
  high_none (suc (suc h)) k e = rw e (high_none (suc h) k e)

  -- one level more: fs are its flags
  high_more : (h first last : ℕ) (fs : List ℕ) (rest : List (List ℕ))
      → fs ≡ flags_at t ss ms firsts (heldb eqb (reds_up t ss ms firsts h last (get_or firsts last 0))) first (last - first)
      → anyb redb (get_or rest (h - 1) []) ≡ high_up t ss ms firsts h last (get_or firsts last 0)
      → anyb redb (get_or (fs ∷ rest) h []) ≡ high_up t ss ms firsts (suc h) first last
  unfolding high_up
  high_more zero first last fs rest e i = ap (anyb redb) e
  high_more (suc h) first last fs rest e i = let z : suc h - 1 ≡ h = omega arith in rw z at i

  reds_none : (h k : ℕ) → reds_up t ss ms firsts h k k ≡ []
  unfolding reds_up red_edges cells_at
  reds_none zero k = refl
  reds_none (suc h) k = let z : k - k ≡ 0 = omega arith in rw z

module _ (ks : List Corner) (cs : List (Cell Point)) (t : List ℕ) (s : Seen ks cs t) (m : ℕ) (ss ms firsts : List ℕ)
    (f : Firsts m ss firsts)
    (count : length cs ≡ length ss) where
  pub record Down (h first : ℕ) (ds : List (Cell Point)) : Type 0 where
    pub kept_are : flatten (kept_levels (levels h first ds (drop first ss)) ms) ≡ kept_up t ss ms firsts h first (first + length ds)
    pub high_is : anyb redb (get_or (flags (levels h first ds (drop first ss)) ms) (h - 1) []) ≡ high_up t ss ms firsts h first
        (first + length ds)
    pub reds_are : map (edge_in ks) (edges_up (new_reds (levels h first ds (drop first ss)) ms)) ≡ reds_up t ss ms firsts h first
        (first + length ds)
    pub ends : All (EndsPlaced ks) (edges_up (new_reds (levels h first ds (drop first ss)) ms))

  rows_up_lem : (h k : ℕ) (ds : List (Cell Point)) → k + length ds ≤ length ss → cells_of (levels h k ds (drop k ss)) ≡ drop k cs
      → rows_up (levels h k ds (drop k ss)) ms ≡ map (row_at cs ss ms) (range k (length ds))
  unfolding levels rows_up rows cells_of flat_map flatten range
  rows_up_lem zero k [] h e = refl
  rows_up_lem zero k (d ∷ ds) h e = absurd (omega (arith, ap length e, length-drop k cs))
  rows_up_lem (suc n) k [] h e = refl
  rows_up_lem (suc n) k (d ∷ ds) h e =
      rows_range cs ss ms k (d ∷ ds)
      (cells_of (levels n (k + length (d ∷ ds)) (next k (d ∷ ds) (take (length (d ∷ ds)) (drop k ss))) (drop (length (d ∷ ds)) (drop k ss))))
      (sym e) h

  next_stands : (h k : ℕ) (ds : List (Cell Point)) → k + length ds ≤ length ss → cells_of (levels h k ds (drop k ss)) ≡ drop k cs
      → Stands cs k ds (drop (length ds) (drop k cs))
  unfolding levels cells_of flat_map flatten
  next_stands zero k [] h e = refl
  next_stands zero k (d ∷ ds) h e = absurd (omega (arith, ap length e, length-drop k cs))
  next_stands (suc n) k [] h e = refl
  next_stands (suc n) k (d ∷ ds) h e =
      let rest = cells_of (levels n (k + length (d ∷ ds)) (next k (d ∷ ds) (take (length (d ∷ ds)) (drop k ss)))
      (drop (length (d ∷ ds)) (drop k ss))) in
      let w : drop (length (d ∷ ds)) (drop k cs) ≡ rest = ap (drop (length (d ∷ ds))) (sym e) ∙ drop-append_seam (d ∷ ds) rest in
      sym e ∙ ap (λ (l : List (Cell Point)). (d ∷ ds) ++ l) (sym w)

  -- a level, and what is above it
  module _ (h first : ℕ) (ds : List (Cell Point)) (e : first + length ds ≡ first_child m ss first) (g : first ≤ length ss) where
    abbrev last : ℕ
    last = first + length ds

    abbrev own : List ℕ
    own = take (length ds) (drop first ss)

    abbrev up : List (Cell Point)
    up = next first ds own

    abbrev above : List Level
    above = levels h last up (drop last ss)

    inside : last ≤ length ss
    inside = omega (arith, e, first_up m ss first (length ss) g, f.whole)

    module _ (b : Stands cs first ds (cells_of above)) (a : cells_of above ≡ drop last cs) (i : Down h last up) where
      abbrev es : List (Point × Point)
      es = edges_up (new_reds above ms)

      up_inside : last + length up ≤ length ss
      up_inside = omega (arith, up_end m ss first ds e inside, first_up m ss last (length ss) inside, f.whole)

      kids_are : (k : ℕ) → first ≤ k → k < last → kids (rows_up above ms) k ≡ map (row_at cs ss ms) (kids_of firsts k)
      kids_are k p q =
          ap (λ (l : List Row). kids l k) (rows_up_lem h last up up_inside a)
          ∙ kids_range m ss first ds e inside cs ms firsts f (drop (length up) (drop last cs)) (next_stands h last up up_inside a) k p q

      kids_inside : (k : ℕ) → first ≤ k → k < last → All (λ j. j < length cs) (kids_of firsts k)
      unfolding kids_of
      kids_inside k p q =
          let x = firsts_up m ss firsts f k (suc k) (omega arith) (omega (arith, inside)) in
          let y = firsts_top m ss firsts f (suc k) (omega (arith, inside)) in
          all_range (λ j. j < length cs) (get_or firsts k 0) (get_or firsts (suc k) 0 - get_or firsts k 0) (λ j v w. omega (arith, count))

      above_end : last + length up ≡ get_or firsts last 0
      above_end = up_end m ss first ds e inside ∙ sym (f.at last inside)

      reds_up_lem : map (edge_in ks) es ≡ reds_up t ss ms firsts h last (get_or firsts last 0)
      reds_up_lem = i.reds_are ∙ rw above_end

      -- the test of a new red cell, at each cell of the level
      red_here : (k : ℕ) → first ≤ k → k < first + length ds
          → new_redb (rows_up above ms) es (row_at cs ss ms k) ≡ red_atb t ss ms firsts (heldb eqb (map (edge_in ks) es)) k
      red_here k p q = red_row ks cs t ss ms s es i.ends firsts (rows_up above ms) k (omega (arith, count, inside)) (kids_inside k p q)
          (kids_are k p q)

      level_flags : flags_of above ms (rows_from first ds own ms) ≡ flags_at t ss ms firsts
          (heldb eqb (reds_up t ss ms firsts h last (get_or firsts last 0))) first (last - first)
      unfolding flags_of flags_at
      level_flags =
          let z : last - first ≡ length ds = omega arith in
          let below : All (λ k. flag_of (new_redb (rows_up above ms) es (row_at cs ss ms k)) ≡ flag_of
          (red_atb t ss ms firsts (heldb eqb (map (edge_in ks) es)) k)) (range first (length ds)) =
          all_range _ first (length ds) (λ k p q. ap flag_of (red_here k p q)) in
          ap (flags_of above ms) (rows_range cs ss ms first ds (cells_of above) b inside)
          ∙ map-map (λ r. flag_of (new_redb (rows_up above ms) es r)) (row_at cs ss ms) (range first (length ds))
          ∙ map_same _ _ (range first (length ds)) below
          ∙ ap₂ (λ (l : List Pair) (n : ℕ). flags_at t ss ms firsts (heldb eqb l) first n) reds_up_lem (sym z)

      -- what the level's cells keep, where the edges of its new red cells are fs
      level_kept : (fs : List (Point × Point)) → All (EndsPlaced ks) fs
          → kept_rows above ms fs (rows_from first ds own ms) ≡ kepts_at t ss ms firsts
          (heldb eqb (reds_up t ss ms firsts h last (get_or firsts last 0))) (map (edge_in ks) fs) first (last - first)
      unfolding kept_rows kepts_at
      level_kept fs p =
          let z : last - first ≡ length ds = omega arith in
          let below : All (λ k. kept_of [] sameb fs (new_redb (rows_up above ms) es (row_at cs ss ms k)) (get_or cs k no_cell) ≡ kept_of 0 eqb
          (map (edge_in ks) fs) (red_atb t ss ms firsts (heldb eqb (map (edge_in ks) es)) k) (cell_at t k)) (range first (length ds)) =
          all_range _ first (length ds)
          (λ k x y. kept_row ks cs t ss ms s fs p k (omega (arith, count, inside)) _ _ (red_here k x y)) in
          ap (kept_rows above ms fs) (rows_range cs ss ms first ds (cells_of above) b inside)
          ∙ map-map (λ r. kept_of [] sameb fs (new_redb (rows_up above ms) es r) r.cell) (row_at cs ss ms) (range first (length ds))
          ∙ map_same _ _ (range first (length ds)) below
          ∙ ap₂ (λ (l : List Pair) (n : ℕ). kepts_at t ss ms firsts (heldb eqb l) (map (edge_in ks) fs) first n) reds_up_lem (sym z)

      level_reds_lem : edges_up (filterb (new_redb (rows_up above ms) es) (rows_from first ds own ms) ∷ new_reds above ms) ≡ red_edges [] ds
          (flags_of above ms (rows_from first ds own ms))
      unfolding edges_up flags_of
      level_reds_lem =
          filter_red (new_redb (rows_up above ms) es) (rows_from first ds own ms)
          ∙ ap (λ (l : List (Cell Point)). red_edges [] l (flags_of above ms (rows_from first ds own ms)))
          (ap (map (λ (r : Row). r.cell)) (rows_range cs ss ms first ds (cells_of above) b inside)
          ∙ cells_of_rows cs ss ms first ds (cells_of above) b)

      reds_numbers : map (edge_in ks) (red_edges [] ds (flags_of above ms (rows_from first ds own ms))) ≡ reds_up t ss ms firsts (suc h) first
          last
      unfolding reds_up
      reds_numbers =
          let z : last - first ≡ length ds = omega arith in
          sym (red_edges_numbers ks ds (flags_of above ms (rows_from first ds own ms)) (placed_range ks cs t s first ds (cells_of above) b))
          ∙ sym (red_strip (numbered_cells ks ds) (flags_of above ms (rows_from first ds own ms)))
          ∙ ap₂ (λ (c : List (Cell ℕ)) (l : List ℕ). red_edges 0 c l) (sym (cells_range ks cs t s first ds (cells_of above) b)
          ∙ ap (cells_at t first) (sym z)) level_flags

      module _ (ls : List Level) (l : ls ≡ record { first = first; cells = ds; statuses = own } ∷ above) where
        edges_here : edges_up (new_reds ls ms) ≡ red_edges [] ds (flags_of above ms (rows_from first ds own ms))
        unfolding new_reds rows
        edges_here = rw l level_reds_lem

        reds_here : map (edge_in ks) (edges_up (new_reds ls ms)) ≡ reds_up t ss ms firsts (suc h) first last
        reds_here = ap (map (edge_in ks)) edges_here ∙ reds_numbers

        ends_here : All (EndsPlaced ks) (edges_up (new_reds ls ms))
        ends_here = rw edges_here (red_edges_in [] 0 (number_in ks) (Has ks) ds (flags_of above ms (rows_from first ds own ms))
            (placed_range ks cs t s first ds (cells_of above) b))

        kept_rows_lem : kept_rows above ms (edges_up (new_reds ls ms)) (rows_from first ds own ms) ≡ kepts_at t ss ms firsts
            (heldb eqb (reds_up t ss ms firsts h last (get_or firsts last 0))) (reds_up t ss ms firsts (suc h) first last) first (last - first)
        kept_rows_lem =
            level_kept (edges_up (new_reds ls ms)) ends_here
            ∙ ap (λ (l : List Pair). kepts_at t ss ms firsts (heldb eqb (reds_up t ss ms firsts h last (get_or firsts last 0))) l first
            (last - first)) reds_here

        levels_kept : kept_levels ls ms ≡ kept_rows above ms (edges_up (new_reds ls ms)) (rows_from first ds own ms) ∷ kept_levels above ms
        unfolding kept_levels rows
        levels_kept = rw l

        kept_here : flatten (kept_levels ls ms) ≡ kept_up t ss ms firsts (suc h) first last
        unfolding kept_up flat_map flatten
        kept_here = rw levels_kept (ap₂ ◌++◌ kept_rows_lem (i.kept_are ∙ rw above_end))

        high_here : anyb redb (get_or (flags ls ms) h []) ≡ high_up t ss ms firsts (suc h) first last
        unfolding flags rows
        high_here = rw l (high_more t ss ms firsts h first last (flags_of above ms (rows_from first ds own ms)) (flags above ms) level_flags
            (i.high_is ∙ rw above_end))

  pub down : (h first : ℕ) (ds : List (Cell Point)) → first + length ds ≡ first_child m ss first → first ≤ length ss
      → cells_of (levels h first ds (drop first ss)) ≡ drop first cs → Down h first ds
  unfolding levels flags kept_levels kept_up high_up new_reds edges_up reds_up anyb cells_of flat_map flatten
  down zero first ds e g a = record { kept_are = refl; high_is = refl; reds_are = refl; ends = tt }
  down (suc h) first [] e g a =
      let w : first + 0 ≡ first = add-zero first in
      let z : get_or firsts first 0 ≡ first = f.at first g ∙ sym e ∙ w in
      record {
        kept_are = rw w (sym (kept_none t ss ms firsts (suc h) first z));
        high_is = rw w (sym (high_none t ss ms firsts (suc h) first z));
        reds_are = rw w (sym (reds_none t ss ms firsts (suc h) first));
        ends = tt;
      }
  down (suc h) first (d ∷ ds) e g a =
      let cells = d ∷ ds in
      let last = first + length cells in
      let own = take (length cells) (drop first ss) in
      let up = next first cells own in
      let above = levels h last up (drop last ss) in
      let l : levels (suc h) first cells (drop first ss) ≡ record { first = first; cells = cells; statuses = own } ∷ above = rw
      (drop-drop (length cells) first ss) in
      let b : drop first cs ≡ cells ++ cells_of above = sym a ∙ ap cells_of l in
      let w : cells_of above ≡ drop last cs = sym (drop-append_seam cells (cells_of above)) ∙ ap (drop (length cells)) (sym b)
      ∙ drop-drop (length cells) first cs in
      let n : last ≤ length ss = inside h first cells e g in
      let i : Down h last up = down h last up (up_end m ss first cells e n) n w in
      let q : suc h - 1 ≡ h = omega arith in
      record {
        kept_are = kept_here h first cells e g b w i (levels (suc h) first cells (drop first ss)) l;
        high_is = rw q (high_here h first cells e g b w i (levels (suc h) first cells (drop first ss)) l);
        reds_are = reds_here h first cells e g b w i (levels (suc h) first cells (drop first ss)) l;
        ends = ends_here h first cells e g b w i (levels (suc h) first cells (drop first ss)) l;
      }
