-- The tally, as the code makes it.
use mathlib.Core.Path.{◌≡◌, refl, ◌∙◌}
use mathlib.Core.Bool.{Bool, true, false}
use mathlib.Core.List.{List}
use Prim.Native.Nat.{ℕ, ◌+◌, ◌%◌}
use native.Mathlib.Omega.{arith}
use lib.Dec.{ltb}
use borrow.Author.Tests.{eq-eqb}
use Rattle.base.specs.Limits.{most_slots}
use Rattle.store.specs.Fields.{field, PART, OWNER, RED, SUM}
use Rattle.turns.specs.Loops.{each_from, SameHead, head_self, head-set, each_head}
use Rattle.turns.specs.Decide.{slot_at}
use Rattle.turns.specs.Tally.{add_one, add_edge, talliedb, tally_one}

module _ (x : List ℕ) (s : ℕ) where
  add_head : SameHead x (add_one x s)
  unfolding add_one
  add_head = go (ltb s most_slots) refl
    where
      go : (t : Bool) → ltb s most_slots ≡ t → SameHead x (add_one x s)
      go true e = rw (e, add_one) (head-set x (SUM + s) ((field x (SUM + s) + 1) % 65536) (omega arith))
      go false e = rw (e, add_one) (head_self x)

pub edge_head : (c : ℕ) (x : List ℕ) (e : ℕ) → SameHead x (add_edge c x e)
unfolding add_edge
edge_head c x e = add_head x (slot_at x c e)

module _ (x : List ℕ) (c : ℕ) where
  pub tally_here : (y : List ℕ) → field x (OWNER + c) ≡ field x PART → field x (RED + c) ≡ 1 → y ≡ each_from (add_edge c) 6 0 x
      → y ≡ tally_one x c
  unfolding tally_one talliedb
  tally_here y o h e = e ∙ rw (eq-eqb (field x (OWNER + c)) (field x PART) o, eq-eqb (field x (RED + c)) 1 h, tally_one)

  pub tally_head : SameHead x (tally_one x c)
  unfolding tally_one
  tally_head = go (talliedb x c) refl
    where
      go : (t : Bool) → talliedb x c ≡ t → SameHead x (tally_one x c)
      go true e = rw (e, tally_one) (each_head (add_edge c) (edge_head c) 6 0 x)
      go false e = rw (e, tally_one) (head_self x)
