-- Counts written, as the code writes them.
use mathlib.Core.Path.{◌≡◌, refl, ◌∙◌, ap, ap₂}
use mathlib.Core.Bool.{Bool, true, false}
use mathlib.Core.List.{List}
use Prim.Native.Nat.{ℕ, ◌+◌, ◌-◌, ◌/◌, ◌%◌, ◌^◌, ◌≤◌, ◌<◌}
use native.Mathlib.Omega.{arith}
use native.Mathlib.Decide.{dec_lt}
use native.Mathlib.Nat.{div-eq_of_lt}
use lib.Dec.{eqb}
use borrow.Author.Tests.{eq-eqb}
use Rattle.base.specs.Limits.{most_slots}
use Rattle.store.specs.Fields.{field, PART, FIRST_SLOT, HOLDERS, SUM, count_code}
use Rattle.store.specs.Fetch.{bitb}
use Rattle.turns.specs.Loops.{each_from, SameHead, head_self}
use Rattle.turns.specs.Tally.{tally_one}
use Rattle.turns.specs.Post.{besides, count_one, post_end}
use Rattle.turns.specs.Start.{level_from}
use Rattle.turns.specs.Step.{slot_from, tallied, enter_counts}
use Rattle.turns.specs.Heads.{posted_head}

module _ (x : List ℕ) (m : ℕ) where
  pub besides_own : (b : ℕ) → m / 2 ^ (field x PART - 1) % 2 ≡ 1 → b ≡ 2 ^ (field x PART - 1) → m - b ≡ besides x m
  unfolding besides bitb
  besides_own b h e = ap (λ (n : ℕ). m - n) e ∙ rw (eq-eqb (m / 2 ^ (field x PART - 1) % 2) 1 h, besides)

-- a bit that is set is no more than the whole
pub besides_room : (m b : ℕ) → m / b % 2 ≡ 1 → b ≤ m
besides_room m b h = go (dec_lt m b)
  where
    go : Dec (m < b) → b ≤ m
    go (yes l) = let z : m / b ≡ 0 = div-eq_of_lt l in absurd (omega (arith, ap (λ (n : ℕ). n % 2) z, h))
    go (no l) = omega arith

module _ (x : List ℕ) (s : ℕ) where
  pub count_none : field x (SUM + s) ≡ 0 → x ≡ count_one x s
  unfolding count_one
  count_none h = rw (eq-eqb (field x (SUM + s)) 0 h, count_one)

  pub count_head : SameHead x (count_one x s)
  unfolding count_one
  count_head = go (eqb (field x (SUM + s)) 0) refl
    where
      go : (t : Bool) → eqb (field x (SUM + s)) 0 ≡ t → SameHead x (count_one x s)
      go true e = rw (e, count_one) (head_self x)
      go false e = rw (e, count_one) (posted_head x (count_code + s) (field x (SUM + s)) (besides x (field x (HOLDERS + s))))

  pub slot_low : field x (FIRST_SLOT + s) < most_slots → field x (FIRST_SLOT + s) ≡ slot_from x s
  unfolding slot_from
  slot_low h = omega arith

-- a level
pub counts_is : (x y z w : List ℕ) (k a b f l : ℕ) → a ≡ level_from x k → b ≡ level_from x (k + 1) → f ≡ slot_from x k → l ≡ slot_from x (k + 1)
    → y ≡ each_from tally_one (b - a) a x → z ≡ each_from count_one (l - f) f y → w ≡ post_end z → w ≡ enter_counts x k
unfolding enter_counts tallied
counts_is x y z w k a b f l i j g h t p e =
    let u : y ≡ tallied x k = t ∙ ap₂ (λ (n m : ℕ). each_from tally_one (n - m) m x) j i in
    e ∙ ap post_end (p ∙ ap (each_from count_one (l - f) f) u ∙ ap₂ (λ (n m : ℕ). each_from count_one (n - m) m (tallied x k)) h g)
