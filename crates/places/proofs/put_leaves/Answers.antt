use native.Mathlib.Numerals.{add-one}
use native.Mathlib.Omega.{arith}
use mathlib.Core.Path.{sym, ◌∙◌}
use Rattle.turns.specs.Loops.{each_out}
use Rattle.places.specs.Front.{front_again, leaf_front}
use Rattle.places.proofs.put_leaves.Goals as goal

pub loop-i-preserved : goal.loop-i-preserved
loop-i-preserved c =
    rw add-one (front_again _ (leaf_front _) _ _ _ _ _ _ c.loop-i.invariant (omega arith)
    c.put_leaf.ensures)

pub returns : goal.returns
returns c =
    sym (each_out _ _ _ _ (omega arith)) ∙ c.loop-i.invariant.1
