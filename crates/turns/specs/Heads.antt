-- Entries that are written keep the header.
use Rattle.std.specs.Prelude.{◌≡◌, Bool, ◌&&◌, not, List, ℕ, ◌+◌, eqb}
use Rattle.std.proofs.Math.Path.{refl}
use Rattle.std.proofs.Math.Bool.{true, false}
use Rattle.std.proofs.Common.{arith}
use Rattle.std.proofs.Math.Dec.{ltb}
use Rattle.std.proofs.Math.ListN.{set}
use Rattle.store.specs.Fields.{field, WRITTEN, CODE, VALUE, RECEIVERS, most_entries}
use Rattle.turns.specs.Loops.{SameHead, head_self, head_on, head-set}
use Rattle.turns.specs.Post.{entered, posted}

module _ (x : List ℕ) (k v m : ℕ) where
  entered_head : SameHead x (entered x k v m)
  unfolding entered
  entered_head =
      let n = field x WRITTEN in
      let a = set x (CODE + field x WRITTEN) k in
      let b = set a (VALUE + field x WRITTEN) v in
      let d = set b (RECEIVERS + field x WRITTEN) m in
      head_on x a (set d WRITTEN (n + 1)) (head-set x (CODE + n) k (omega arith))
      (head_on a b (set d WRITTEN (n + 1)) (head-set a (VALUE + n) v (omega arith))
      (head_on b d (set d WRITTEN (n + 1)) (head-set b (RECEIVERS + n) m (omega arith)) (head-set d WRITTEN (n + 1) (omega arith))))

  pub posted_head : SameHead x (posted x k v m)
  unfolding posted
  posted_head = go (not (eqb m 0) && ltb (field x WRITTEN) most_entries) refl
    where
      go : (t : Bool) → (not (eqb m 0) && ltb (field x WRITTEN) most_entries) ≡ t → SameHead x (posted x k v m)
      go true e = rw (e, posted) entered_head
      go false e = rw (e, posted) (head_self x)
