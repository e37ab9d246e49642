-- Cells of which no edge is listed, told by their corners: an edge that is listed has two corners that are.
--   twob p q r s     two of the four tests pass
--   Unlisted es c    no edge of the cell c is listed in es
-- Laws: unlisted (where no two corners may be listed), unlisted_pattern (the pattern is 0), unlisted_free (each edge is free).
use Rattle.std.specs.Prelude.{◌≡◌, refl, Bool, true, not, List, ℕ, zero, suc, ◌+◌, ◌≤◌, ◌<◌, leb}
use Rattle.std.proofs.Math.Path.{sym}
use Rattle.std.proofs.Common.{ap, arith, le-leb}
use Rattle.std.proofs.Math.Bool.{false}
use Rattle.base.specs.Bools.{one_if, not_both}
use Rattle.base.specs.Lists.{allb}
use Rattle.base.specs.Places.{hasb}
use Rattle.mesh.specs.Cells.{Cell, corner, edge, edges, bits_of}
use Rattle.edges.specs.Pairs.{Pair, sorted, isb}
use Rattle.probing.specs.Probed.{Unmet}
use Rattle.closure.specs.Listed.{listed_pattern}
use Rattle.closure.specs.Closed.{six_bits}

unfoldable pub twob : Bool → Bool → Bool → Bool → Bool
unfolding one_if
twob p q r s = leb 2 (one_if p + one_if q + one_if r + one_if s)

pub record Unlisted (es : List Pair) (c : Cell ℕ) : Type 0 where
  pub none : (e : ℕ) → e < 6 → hasb isb es (sorted (edge 0 c e)) ≡ false

-- an edge whose ends are not both listed
ends_apart : (es : List Pair) (a b : ℕ) (p q : Bool) → (p ≡ false → Unmet es a) → (q ≡ false → Unmet es b)
    → (p ≡ true → q ≡ true → ⊥) → hasb isb es (sorted (a, b)) ≡ false
ends_apart es a b true true f g n = absurd (n refl refl)
ends_apart es a b true false f g n = (g refl).second a
ends_apart es a b false q f g n = (f refl).first b

module _ (es : List Pair) (c : Cell ℕ) (p q r s : Bool) (f : p ≡ false → Unmet es (corner 0 c 0)) (g : q ≡ false → Unmet es (corner 0 c 1))
    (h : r ≡ false → Unmet es (corner 0 c 2)) (i : s ≡ false → Unmet es (corner 0 c 3)) where
  abbrev sum : ℕ
  sum = one_if p + one_if q + one_if r + one_if s

  pub unlisted : twob p q r s ≡ false → Unlisted es c
  unfolding twob one_if edge
  unlisted t = record { none = each }
    where
      few : 2 ≤ sum → ⊥
      few l = not_both (leb 2 sum) (le-leb 2 sum l) t

      each : (e : ℕ) → e < 6 → hasb isb es (sorted (edge 0 c e)) ≡ false
      each zero l = ends_apart es (corner 0 c 0) (corner 0 c 1) p q f g (λ a b. few (omega (arith, ap one_if a, ap one_if b)))
      each (suc zero) l = ends_apart es (corner 0 c 0) (corner 0 c 2) p r f h (λ a b. few (omega (arith, ap one_if a, ap one_if b)))
      each (suc (suc zero)) l = ends_apart es (corner 0 c 0) (corner 0 c 3) p s f i (λ a b. few (omega (arith, ap one_if a, ap one_if b)))
      each (suc (suc (suc zero))) l =
          ends_apart es (corner 0 c 1) (corner 0 c 2) q r g h (λ a b. few (omega (arith, ap one_if a, ap one_if b)))
      each (suc (suc (suc (suc zero)))) l =
          ends_apart es (corner 0 c 1) (corner 0 c 3) q s g i (λ a b. few (omega (arith, ap one_if a, ap one_if b)))
      each (suc (suc (suc (suc (suc zero))))) l =
          ends_apart es (corner 0 c 2) (corner 0 c 3) r s h i (λ a b. few (omega (arith, ap one_if a, ap one_if b)))
      each (suc (suc (suc (suc (suc (suc e)))))) l = absurd (omega arith)

module _ (es : List Pair) (c : Cell ℕ) (u : Unlisted es c) where
  pub unlisted_pattern : listed_pattern es c ≡ 0
  unfolding bits_of one_if
  unlisted_pattern =
      sym (six_bits es c false false false false false false (sym (u.none 0 (omega arith))) (sym (u.none 1 (omega arith)))
      (sym (u.none 2 (omega arith))) (sym (u.none 3 (omega arith))) (sym (u.none 4 (omega arith))) (sym (u.none 5 (omega arith))))

  pub unlisted_free : allb (λ e. not (hasb isb es (sorted e))) (edges 0 c) ≡ true
  unfolding allb edges
  unlisted_free =
      rw (
        u.none 0 (omega arith),
        u.none 1 (omega arith),
        u.none 2 (omega arith),
        u.none 3 (omega arith),
        u.none 4 (omega arith),
        u.none 5 (omega arith),
      )
