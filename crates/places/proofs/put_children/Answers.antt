use lib.ListN.{get_or}
use Prim.Native.Nat.{ℕ}
use native.Mathlib.Numerals.{add-one}
use native.Mathlib.Omega.{arith}
use mathlib.Core.Path.{refl, sym, ◌∙◌}
use Rattle.turns.specs.Loops.{each_out}
use Rattle.places.specs.Front.{front_again, child_front}
use Rattle.places.proofs.Placing.{child_is}
use Rattle.places.proofs.put_children.Goals as goal

pub loop-i-preserved : goal.loop-i-preserved
loop-i-preserved c =
    rw add-one (front_again _ (child_front _ _) _ _ _ _ _ _ c.loop-i.invariant
    (omega arith)
    (child_is _ _ _ (λ (i : ℕ). get_or c.args.fresh.now i 0) _ _ refl
    c.put_child.ensures))

pub returns : goal.returns
returns c =
    sym (each_out _ _ _ _ (omega arith)) ∙ c.loop-i.invariant.1
