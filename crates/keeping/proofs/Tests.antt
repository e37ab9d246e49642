-- The new red cells over rows of numbers are those of rules 7.3 to 7.6.
--   row_at cs ss ms j   the row of the cell j
--   Seen ks cs t       the rows t are those of the cells cs, whose points are all among the corners ks
-- Laws: all_range (what holds at each number of a range), red_row (the test of a new red cell), kept_row (what a cell keeps).
-- Assumes nothing.
use mathlib.Core.Path.{◌≡◌, refl, sym, ◌∙◌, ap, ap₂}
use mathlib.Core.Bool.{Bool, true, false, ◌&&◌, ◌||◌, not}
use mathlib.Core.List.{List, [], ◌∷◌, map}
use Prim.Native.Nat.{ℕ, zero, suc, ◌+◌, ◌≤◌, ◌<◌}
use native.Mathlib.Omega.{arith}
use lib.Dec.{eqb}
use lib.ListN.{length, get_or}
use Rattle.base.specs.Lists.{allb, anyb, sameb}
use Rattle.mesh.specs.Cells.{Cell, redb, edge, edges, heldb, bits_of, pattern, no_cell}
use Rattle.mesh.specs.Weights.{Point}
use Rattle.mesh.specs.Layout.{Corner, number_in, map_cell}
use Rattle.mesh.specs.Step.{Row, kids, deletedb, turnedb, new_redb, red_afterb}
use Rattle.edges.specs.Pairs.{Pair}
use Rattle.rows.specs.Numbered.{cell_at}
use Rattle.base.specs.Every.{All, all_more}
use Rattle.base.specs.Each.{all_map, map_more}
use Rattle.numbering.specs.Corners.{Has}
use Rattle.numbering.specs.Renamed.{edges-map, edges_in}
use Rattle.numbering.specs.Tests.{edge_in, Placed, EndsPlaced, held_numbers}
use Rattle.tables.specs.Cells.{strip}
use Rattle.kept.specs.Kept.{kept_of}
use Rattle.flagging.specs.Flags.{kids_of, idleb, touchedb, pulledb, red_atb}
use Rattle.base.specs.Range.{range}

abbrev pub row_at : List (Cell Point) → List ℕ → List ℕ → ℕ → Row
row_at cs ss ms j = record { number = j; cell = get_or cs j no_cell; status = get_or ss j 0; mark = get_or ms j 0 }

pub record Seen (ks : List Corner) (cs : List (Cell Point)) (t : List ℕ) : Type 0 where
  pub placed : (j : ℕ) → j < length cs → Placed ks (get_or cs j no_cell)
  pub cells : (j : ℕ) → j < length cs → cell_at t j ≡ strip (map_cell (number_in ks) (get_or cs j no_cell))

any-map : {A B : Type 0} (h : A → B) (g : A → Bool) (g' : B → Bool) (l : List A) → All (λ x. g' (h x) ≡ g x) l
    → anyb g' (map h l) ≡ anyb g l
unfolding anyb
any-map h g g' [] e = refl
any-map h g g' (x ∷ l) e = ap₂ ◌||◌ e.0 (any-map h g g' l e.1)

strip_edges : (c : Cell ℕ) → edges 0 (strip c) ≡ edges 0 c
unfolding edges edge
strip_edges c = refl

pub all_range : (P : ℕ → Type 0) (k m : ℕ) → ((j : ℕ) → k ≤ j → j < k + m → P j) → All P (range k m)
unfolding range
all_range P k zero h = tt
all_range P k (suc m) h = (h k (omega arith) (omega arith), all_range P (suc k) m (λ j a b. h j (omega arith) (omega arith)))

module _ (ks : List Corner) (cs : List (Cell Point)) (t ss ms : List ℕ) (s : Seen ks cs t) (es : List (Point × Point))
    (p : All (EndsPlaced ks) es) where
  abbrev held : Pair → Bool
  held = heldb eqb (map (edge_in ks) es)

  edges_at : (j : ℕ) → j < length cs → edges 0 (cell_at t j) ≡ map (edge_in ks) (edges [] (get_or cs j no_cell))
  edges_at j h =
      ap (edges 0) (s.cells j h) ∙ strip_edges (map_cell (number_in ks) (get_or cs j no_cell))
      ∙ edges-map [] 0 (number_in ks) (Has ks) (get_or cs j no_cell) (s.placed j h)

  edges_placed : (j : ℕ) → j < length cs → All (EndsPlaced ks) (edges [] (get_or cs j no_cell))
  edges_placed j h = edges_in [] 0 (number_in ks) (Has ks) (get_or cs j no_cell) (s.placed j h)

  idle_row : (j : ℕ) → j < length cs
      → ((eqb (get_or ss j 0) 0 && eqb (get_or ms j 0) 2) && allb (λ e. not (heldb sameb es e)) (edges [] (get_or cs j no_cell))) ≡ idleb t ss ms
      held j
  unfolding idleb
  idle_row j h =
      ap (λ (b : Bool). (eqb (get_or ss j 0) 0 && eqb (get_or ms j 0) 2) && b)
      (sym (ap (allb (λ (e : Pair). not (held e))) (edges_at j h)
      ∙ all_map (edge_in ks) (λ e. not (heldb sameb es e)) (λ e. not (held e)) (edges [] (get_or cs j no_cell))
      (all_more (EndsPlaced ks) (λ e. not (held (edge_in ks e)) ≡ not (heldb sameb es e)) (λ e q. ap not (held_numbers ks es e p q))
      (edges [] (get_or cs j no_cell)) (edges_placed j h))))

  touched_row : (g j : ℕ) → g < length cs → j < length cs
      → anyb (λ e. not (heldb sameb (edges [] (get_or cs g no_cell)) e) && heldb sameb es e) (edges [] (get_or cs j no_cell)) ≡ touchedb t held g
      j
  unfolding touchedb
  touched_row g j k h =
      sym (ap (anyb (λ (e : Pair). not (heldb eqb (edges 0 (cell_at t g)) e) && held e)) (edges_at j h)
      ∙ any-map (edge_in ks) (λ e. not (heldb sameb (edges [] (get_or cs g no_cell)) e) && heldb sameb es e)
      (λ e. not (heldb eqb (edges 0 (cell_at t g)) e) && held e) (edges [] (get_or cs j no_cell))
      (all_more (EndsPlaced ks) (λ e. (not (heldb eqb (edges 0 (cell_at t g)) (edge_in ks e)) && held (edge_in ks e))
      ≡ (not (heldb sameb (edges [] (get_or cs g no_cell)) e) && heldb sameb es e))
      (λ e q.
      ap₂ (λ (x y : Bool). not x && y)
      (ap (λ (l : List Pair). heldb eqb l (edge_in ks e)) (edges_at g k) ∙ held_numbers ks (edges [] (get_or cs g no_cell)) e (edges_placed g k)
      q)
      (held_numbers ks es e p q))
      (edges [] (get_or cs j no_cell)) (edges_placed j h)))

  -- families of rows
  deleted_rows : (js : List ℕ) → All (λ j. j < length cs) js → deletedb (map (row_at cs ss ms) js) es ≡ allb (idleb t ss ms held) js
  unfolding deletedb
  deleted_rows js h =
      all_map (row_at cs ss ms) (idleb t ss ms held) (λ r. (eqb r.status 0 && eqb r.mark 2) && allb (λ e. not (heldb sameb es e))
      (edges [] r.cell)) js
      (all_more (λ j. j < length cs) _ idle_row js h)

  turned_rows : (g : ℕ) (js : List ℕ) → g < length cs → All (λ j. j < length cs) js
      → turnedb (edges [] (get_or cs g no_cell)) (map (row_at cs ss ms) js) es ≡ anyb (pulledb t ms held g) js
  unfolding turnedb pulledb
  turned_rows g js k h =
      any-map (row_at cs ss ms) (pulledb t ms held g)
      (λ r. eqb r.mark 1 || anyb (λ e. not (heldb sameb (edges [] (get_or cs g no_cell)) e) && heldb sameb es e) (edges [] r.cell)) js
      (all_more (λ j. j < length cs) _ (λ j l. ap (λ (b : Bool). eqb (get_or ms j 0) 1 || b) (touched_row g j k l)) js h)

  regular_row : (k : ℕ) → k < length cs → (cell_at t k).regular ≡ (get_or cs k no_cell).regular
  unfolding map_cell
  regular_row k h = ap (λ (c : Cell ℕ). c.regular) (s.cells k h)

  pub red_row : (firsts : List ℕ) (up : List Row) (k : ℕ) → k < length cs → All (λ j. j < length cs) (kids_of firsts k)
      → kids up k ≡ map (row_at cs ss ms) (kids_of firsts k)
      → new_redb up es (row_at cs ss ms k) ≡ red_atb t ss ms firsts held k
  unfolding red_afterb red_atb
  red_row firsts up k h g e =
      let d : deletedb (kids up k) es ≡ allb (idleb t ss ms held) (kids_of firsts k) = rw e (deleted_rows (kids_of firsts k) g) in
      let u : turnedb (edges [] (get_or cs k no_cell)) (kids up k) es ≡ anyb (pulledb t ms held k) (kids_of firsts k) = rw e
      (turned_rows k (kids_of firsts k) h g) in
      let f : Bool → Bool → Bool → Bool =
      λ x y z. elim (redb (get_or ss k 0)) [
        | true ↦ not x
        | false ↦ elim (eqb (get_or ss k 0) 0) [ true ↦ y && eqb (get_or ms k 0) 1 | false ↦ z ]
      ] in
      ap (λ (x : Bool). f x (get_or cs k no_cell).regular (turnedb (edges [] (get_or cs k no_cell)) (kids up k) es)) d
      ∙ ap (λ (z : Bool). f (allb (idleb t ss ms held) (kids_of firsts k)) (get_or cs k no_cell).regular z) u
      ∙ ap (λ (y : Bool). f (allb (idleb t ss ms held) (kids_of firsts k)) y (anyb (pulledb t ms held k) (kids_of firsts k)))
      (sym (regular_row k h))

  pattern_row : (j : ℕ) → j < length cs → pattern [] sameb es (get_or cs j no_cell) ≡ pattern 0 eqb (map (edge_in ks) es) (cell_at t j)
  unfolding pattern
  pattern_row j h =
      ap bits_of (map_more (edge_in ks) held (heldb sameb es) (edges [] (get_or cs j no_cell))
      (all_more (EndsPlaced ks) (λ e. heldb sameb es e ≡ held (edge_in ks e)) (λ e q. sym (held_numbers ks es e p q))
      (edges [] (get_or cs j no_cell)) (edges_placed j h))
      ∙ ap (map held) (sym (edges_at j h)))

  pub kept_row : (j : ℕ) → j < length cs → (b b' : Bool) → b ≡ b'
      → kept_of [] sameb es b (get_or cs j no_cell) ≡ kept_of 0 eqb (map (edge_in ks) es) b' (cell_at t j)
  unfolding kept_of
  kept_row j h b b' e = ap₂ (λ (c : Bool) (x : ℕ). elim c [ true ↦ 64 | false ↦ x ]) e (pattern_row j h)
