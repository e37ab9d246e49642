-- A mark that is written keeps the header.
use mathlib.Core.Path.{◌≡◌, refl}
use mathlib.Core.Bool.{Bool, true, false}
use mathlib.Core.List.{List}
use Prim.Native.Nat.{ℕ, ◌+◌, ◌-◌, ◌^◌}
use Rattle.store.specs.Fields.{field, OWNER, RED}
use Rattle.turns.specs.Loops.{SameHead, head_self}
use Rattle.turns.specs.Post.{ghost_at, mark_one}
use Rattle.turns.specs.Heads.{posted_head}

module _ (x : List ℕ) (c : ℕ) where
  pub mark_head : SameHead x (mark_one x c)
  unfolding mark_one
  mark_head = go (ghost_at x c) refl
    where
      go : (t : Bool) → ghost_at x c ≡ t → SameHead x (mark_one x c)
      go true e = rw (e, mark_one) (posted_head x c (field x (RED + c)) (2 ^ (field x (OWNER + c) - 1)))
      go false e = rw (e, mark_one) (head_self x)
