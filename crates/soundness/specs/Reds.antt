-- What makes an old cell a new red one: an edge of one of its children that a new red cell one level up has.
-- Laws: held_up (the edges of the new red cells one level up), new_red_by (a refined cell with a child's edge, not its own, among
-- the edges es of new red cells).
use Rattle.std.specs.Prelude.{◌≡◌, ◌≢◌, ◌&&◌, ◌||◌, ℕ, zero, suc, ◌+◌, ◌<◌, length, get_or}
use Rattle.std.proofs.Math.Path.{refl}
use Rattle.std.proofs.Common.{◌∙◌, ap, arith}
use Rattle.std.proofs.Math.Bool.{Bool, true, false, not, and-false, or-true}
use mathlib.Core.List.{List, [], ◌∷◌, flat_map}
use Rattle.std.proofs.Math.Dec.{T, eqb}
use borrow.Author.Tests.{eq-eqb, ne_eqb}
use Rattle.base.specs.Lists.{allb, anyb, filterb, sameb}
use Rattle.base.specs.Bools.{is_true}
use Rattle.mesh.specs.Cells.{Cell, redb, edge, edges, heldb, no_cell}
use Rattle.mesh.specs.Weights.{Point}
use Rattle.mesh.specs.Table.{Level}
use Rattle.mesh.specs.Step.{Row, rows, kids, deletedb, turnedb, new_redb, rows_up, edges_up, new_reds, red_afterb}
use Rattle.lineage.specs.Same.{row_in}
use Rattle.lineage.specs.Flags.{no_row, new_red_at, length-rows, rows_at, any_chosen}
use Rattle.base.specs.Every.{any_at}
use Rattle.base.specs.Each.{allb_failing}
use Rattle.carriers.specs.Lists.{edge_at_lem, edge_count}
use Rattle.carriers.specs.Joins.{Edge, held_first, held_second}

abbrev edges_of : List Row → List Edge
edges_of rs = flat_map (λ r. edges [] r.cell) rs

held_chosen : (f : Row → Bool) (e : Edge) (rs : List Row) (u : ℕ) → u < length rs → f (get_or rs u no_row) ≡ true
    → T (heldb sameb (edges [] (get_or rs u no_row).cell) e)
    → T (heldb sameb (edges_of (filterb f rs)) e)
unfolding filterb flat_map
held_chosen f e [] u h q t = absurd (omega arith)
held_chosen f e (r ∷ rs) zero h q t = rw (q, filterb) (held_first e (edges [] r.cell) (edges_of (filterb f rs)) t)
held_chosen f e (r ∷ rs) (suc u) h q t = go (f r) refl (held_chosen f e rs u (omega arith) q t)
  where
    go : (b : Bool) → f r ≡ b → T (heldb sameb (edges_of (filterb f rs)) e) → T (heldb sameb (edges_of (filterb f (r ∷ rs))) e)
    go true p i = rw (p, filterb) (held_second e (edges [] r.cell) (edges_of (filterb f rs)) i)
    go false p i = rw (p, filterb) i

pub held_up : (ms : List ℕ) (ls : List Level) (l : Level) → length l.statuses ≡ length l.cells → (u : ℕ) → u < length l.cells
    → new_red_at ms ls l u ≡ true
    → (e : Edge) → T (heldb sameb (edges [] (get_or l.cells u no_cell)) e) → T (heldb sameb (edges_up (new_reds (l ∷ ls) ms)) e)
unfolding edges_up new_reds
held_up ms ls l k u h q e t =
    let x : get_or (rows l ms) u no_row ≡ row_in l ms u = rows_at l ms k u h in
    held_chosen (new_redb (rows_up ls ms) (edges_up (new_reds ls ms))) e (rows l ms) u (omega (arith, length-rows l ms k))
    (ap (new_redb (rows_up ls ms) (edges_up (new_reds ls ms))) x ∙ q) (rw x t)

-- a chosen element that fails a test
all_fails : {A : Type 0} (d : A) (g : A → Bool) (l : List A) (t : ℕ) → t < length l → g (get_or l t d) ≡ false → allb g l ≡ false
unfolding allb
all_fails d g [] t h q = absurd (omega arith)
all_fails d g (x ∷ l) zero h q = rw q
all_fails d g (x ∷ l) (suc t) h q = rw (all_fails d g l t (omega arith) q) (and-false (g x))

module _ (l : Level) (ms : List ℕ) (known : length l.statuses ≡ length l.cells) (es : List Edge) (r : Row) (u : ℕ)
    (below : u < length l.cells)
    (child : (get_or l.cells u no_cell).parent ≡ r.number) (y : ℕ) (hy : y < 6)
    (held : T (heldb sameb es (edge [] (get_or l.cells u no_cell) y))) where
  abbrev c : Cell Point
  c = get_or l.cells u no_cell

  abbrev mine : Row → Bool
  mine s = eqb s.cell.parent r.number

  at : get_or (rows l ms) u no_row ≡ row_in l ms u
  at = rows_at l ms known u below

  long : u < length (rows l ms)
  long = omega (arith, length-rows l ms known)

  is_mine : mine (get_or (rows l ms) u no_row) ≡ true
  is_mine = ap mine at ∙ eq-eqb c.parent r.number child

  not_deleted : deletedb (kids (rows l ms) r.number) es ≡ false
  unfolding deletedb kids
  not_deleted =
      let free : Edge → Bool = λ e. not (heldb sameb es e) in
      let gone : Row → Bool = λ s. (eqb s.status 0 && eqb s.mark 2) && allb (λ e. not (heldb sameb es e)) (edges [] s.cell) in
      let w : allb free (edges [] c) ≡ false =
      all_fails ([], []) free (edges [] c) y (omega (arith, edge_count [] c))
      (ap free (edge_at_lem [] c y hy) ∙ rw (is_true (heldb sameb es (edge [] c y)) held) refl) in
      allb_failing mine gone no_row (rows l ms) u long is_mine
      (ap gone at ∙ rw w (and-false (eqb (get_or l.statuses u 0) 0 && eqb (get_or ms (l.first + u) 0) 2)))

  turned : (own : List Edge) → heldb sameb own (edge [] c y) ≡ false → turnedb own (kids (rows l ms) r.number) es ≡ true
  unfolding turnedb kids
  turned own n =
      let new : Edge → Bool = λ e. not (heldb sameb own e) && heldb sameb es e in
      let turns : Row → Bool = λ s. eqb s.mark 1 || anyb (λ e. not (heldb sameb own e) && heldb sameb es e) (edges [] s.cell) in
      let v : T (new (edge [] c y)) = rw n held in
      let w : anyb new (edges [] c) ≡ true =
      is_true (anyb new (edges [] c)) (any_at new ([], []) (edges [] c) y (omega (arith, edge_count [] c)) (rw (edge_at_lem [] c y hy) v)) in
      any_chosen no_row mine turns (rows l ms) u long is_mine (ap turns at ∙ rw w (or-true (eqb (get_or ms (l.first + u) 0) 1)))

  pub new_red_by : r.status ≢ 0 → heldb sameb (edges [] r.cell) (edge [] c y) ≡ false → new_redb (rows l ms) es r ≡ true
  unfolding red_afterb
  new_red_by z n = go (redb r.status) refl
    where
      go : (b : Bool) → redb r.status ≡ b → new_redb (rows l ms) es r ≡ true
      go true q = rw (q, red_afterb) (rw not_deleted refl)
      go false q = rw (q, ne_eqb r.status 0 z, red_afterb) (turned (edges [] r.cell) n)
