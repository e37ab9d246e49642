-- The tests of `Decide`, as the code makes them.
use mathlib.Core.Path.{◌≡◌, refl, ◌∙◌}
use mathlib.Core.Bool.{Bool, true, false, ◌&&◌, not}
use mathlib.Core.List.{List}
use Prim.Native.Nat.{ℕ, ◌+◌}
use lib.Dec.{eqb}
use borrow.Author.Tests.{eq-eqb}
use Rattle.store.specs.Fields.{field, PART, FAMILY, STATUS, MARK, RED}
use Rattle.turns.specs.Loops.{some_from, SameHead, head_self, head-set}
use Rattle.turns.specs.Decide.{hit_of, idle_kid, busyb, ruleb, decide_one}
use native.Mathlib.Omega.{arith}

not_not : (b : Bool) → b ≡ not (not b)
not_not true = refl
not_not false = refl

module _ (x : List ℕ) (d : ℕ) where
  pub busy_hit : (r : Bool) → field x (STATUS + d) ≡ 0 → field x (MARK + d) ≡ 2 → r ≡ some_from (hit_of x d) 6 0 → r ≡ busyb x d
  unfolding busyb idle_kid
  busy_hit r s h e = e ∙ not_not (some_from (hit_of x d) 6 0)
      ∙ rw (eq-eqb (field x (STATUS + d)) 0 s, eq-eqb (field x (MARK + d)) 2 h, busyb)

module _ (x : List ℕ) (c : ℕ) where
  pub decide_head : SameHead x (decide_one x c)
  unfolding decide_one
  decide_head = go (eqb (field x (FAMILY + c)) (field x PART) && ruleb x c) refl
    where
      go : (t : Bool) → (eqb (field x (FAMILY + c)) (field x PART) && ruleb x c) ≡ t → SameHead x (decide_one x c)
      go true e = rw (e, decide_one) (head-set x (RED + c) 1 (omega arith))
      go false e = rw (e, decide_one) (head_self x)
