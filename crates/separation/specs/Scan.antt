-- Scans of the six edges of a cell and of the cells of a table: the rest decides as the whole does.
-- Assumes nothing.
use Rattle.std.specs.Prelude.{◌≡◌, refl, Bool, true, false, ◌&&◌, ◌||◌, not, eqb, List, [], ◌∷◌, get_or, drop}
use Rattle.std.proofs.Math.Path.{sym}
use Rattle.std.proofs.Math.Bool.{or-true}
use Rattle.base.specs.Places.{hasb}
use Prim.Native.Nat.{ℕ, zero, suc, ◌+◌, ◌*◌, ◌-◌, ◌<◌}
use native.Mathlib.Omega.{arith}
use Rattle.base.specs.Bools.{not_both}
use Rattle.base.specs.Lists.{allb, anyb}
use Rattle.mesh.specs.Cells.{Cell, edge, edges, heldb}
use Rattle.rows.specs.Numbered.{cell_at, cells_at}
use Rattle.edges.specs.Pairs.{Pair, isb, sorted}
use Rattle.closure.specs.Listed.{listed_apart}
use Rattle.rows.specs.Laws.{cells_cons}

drop-edge : (c : Cell ℕ) (e : ℕ) → e < 6 → drop e (edges 0 c) ≡ edge 0 c e ∷ drop (suc e) (edges 0 c)
unfolding edges
drop-edge c zero h = refl
drop-edge c (suc zero) h = refl
drop-edge c (suc (suc zero)) h = refl
drop-edge c (suc (suc (suc zero))) h = refl
drop-edge c (suc (suc (suc (suc zero)))) h = refl
drop-edge c (suc (suc (suc (suc (suc zero))))) h = refl
drop-edge c (suc (suc (suc (suc (suc (suc e)))))) h = absurd (omega arith)

next : (c : Cell ℕ) (e : ℕ) → e < 6 → drop e (edges 0 c) ≡ edge 0 c e ∷ drop (e + 1) (edges 0 c)
next c e h = let w : e + 1 ≡ suc e = omega arith in rw w (drop-edge c e h)

module _ (f : Pair → Bool) (c : Cell ℕ) (e : ℕ) (h : e < 6) where
  pub any_hit : f (edge 0 c e) ≡ true → anyb f (drop e (edges 0 c)) ≡ true
  unfolding anyb
  any_hit t = rw (next c e h, t)

  pub any_next : f (edge 0 c e) ≡ false → anyb f (drop e (edges 0 c)) ≡ anyb f (drop (e + 1) (edges 0 c))
  unfolding anyb
  any_next t = rw (next c e h, t)

  pub all_miss : f (edge 0 c e) ≡ false → allb f (drop e (edges 0 c)) ≡ false
  unfolding allb
  all_miss t = rw (next c e h, t)

  pub all_next : f (edge 0 c e) ≡ true → allb f (drop e (edges 0 c)) ≡ allb f (drop (e + 1) (edges 0 c))
  unfolding allb
  all_next t = rw (next c e h, t)

pub any_none : (f : Pair → Bool) (c : Cell ℕ) → anyb f (drop 6 (edges 0 c)) ≡ false
unfolding anyb edges
any_none f c = refl

pub all_end : (f : Pair → Bool) (c : Cell ℕ) → allb f (drop 6 (edges 0 c)) ≡ true
unfolding allb edges
all_end f c = refl

-- the cells of a table
module _ (f : Cell ℕ → Bool) (t : List ℕ) (last c : ℕ) (h : c < last) where
  pub cells_miss : f (cell_at t c) ≡ false → allb f (cells_at t c (last - c)) ≡ false
  unfolding allb
  cells_miss e =
      let k : last - c ≡ suc (last - (c + 1)) = omega arith in
      rw (k, cells_cons t c (last - (c + 1)), e)

  pub cells_next : f (cell_at t c) ≡ true → allb f (cells_at t c (last - c)) ≡ allb f (cells_at t (c + 1) (last - (c + 1)))
  unfolding allb
  cells_next e =
      let k : last - c ≡ suc (last - (c + 1)) = omega arith in
      let w : c + 1 ≡ suc c = omega arith in
      rw (k, cells_cons t c (last - (c + 1)), e, w)

pub cells_end_lem : (f : Cell ℕ → Bool) (t : List ℕ) (last : ℕ) → allb f (cells_at t last (last - last)) ≡ true
unfolding allb cells_at
cells_end_lem f t last = let e : last - last ≡ 0 = omega arith in rw e

-- Rule 6.4, of one edge of a child.
abbrev pub apart_test : List Pair → List ℕ → ℕ → Pair → Bool
apart_test es t g e = heldb eqb (edges 0 (cell_at t g)) e || not (hasb isb es (sorted e))

-- no red cell has the edge
abbrev pub free_test : List Pair → Pair → Bool
free_test es e = not (hasb isb es (sorted e))

pub six_free : (es : List Pair) (c : Cell ℕ) → hasb isb es (sorted (edge 0 c 0)) ≡ false → hasb isb es (sorted (edge 0 c 1)) ≡ false
    → hasb isb es (sorted (edge 0 c 2)) ≡ false → hasb isb es (sorted (edge 0 c 3)) ≡ false → hasb isb es (sorted (edge 0 c 4)) ≡ false
    → hasb isb es (sorted (edge 0 c 5)) ≡ false → allb (free_test es) (edges 0 c) ≡ true
unfolding allb edges
six_free es c p q r s t u = rw (p, q, r, s, t, u)

-- where no edge is listed, the condition holds at each
pub free_apart : (es : List Pair) (t : List ℕ) (g : ℕ) (l : List Pair) → allb (free_test es) l ≡ true → allb (apart_test es t g) l ≡ true
unfolding allb
free_apart es t g [] h = refl
free_apart es t g (e ∷ l) h = go (hasb isb es (sorted e)) (free_apart es t g l) h
  where
    go : (b : Bool) → (allb (free_test es) l ≡ true → allb (apart_test es t g) l ≡ true) → (not b && allb (free_test es) l) ≡ true
        → ((heldb eqb (edges 0 (cell_at t g)) e || not b) && allb (apart_test es t g) l) ≡ true
    go true i k = not_both false k refl
    go false i k = rw (or-true (heldb eqb (edges 0 (cell_at t g)) e)) (i k)

module _ (es : List Pair) (t : List ℕ) (c : ℕ) where
  pub regular_apart : (cell_at t c).regular ≡ true → listed_apart es t (cell_at t c) ≡ true
  unfolding listed_apart
  regular_apart e = rw (e, listed_apart)

  pub irregular_apart : (cell_at t c).regular ≡ false → allb (apart_test es t (get_or t (8 * c + 1) 0)) (edges 0 (cell_at t c)) ≡ listed_apart es t
      (cell_at t c)
  unfolding listed_apart cell_at
  irregular_apart e = sym (rw e)
