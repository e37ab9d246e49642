use Rattle.std.proofs.Common.{add-one, arith, sym, ◌∙◌}
use Rattle.turns.proofs.Counting.{count_head, counts_is}
use Rattle.turns.proofs.Tallying.{tally_head}
use Rattle.turns.specs.Loops.{head_on, each_again, each_out}
use Rattle.turns.specs.Post.{count_one}
use Rattle.turns.specs.Tally.{tally_one}
use Rattle.turns.specs.Usable.{usable_same}
use Rattle.turns.proofs.enter_counts.Goals as goal

pub loop-c-preserved : goal.loop-c-preserved
loop-c-preserved c = rw add-one (each_again tally_one tally_head _ _ _ _ _ _ c.loop-c.invariant (omega arith) c.tally_one.ensures)

pub loop-s-preserved : goal.loop-s-preserved
loop-s-preserved c = rw add-one (each_again count_one count_head _ _ _ _ _ _ c.loop-s.invariant (omega arith) c.count_one.ensures)

pub post_end-requires : goal.post_end-requires
post_end-requires c = usable_same _ _ (head_on _ _ _ c.loop-c.invariant.0 c.loop-s.invariant.0) c.requires.0

pub returns : goal.returns
returns c =
    counts_is _ _ _ _ _ _ _ _ _ c.level_from-first.ensures.0 c.level_from-last.ensures.0
    c.slot_from-from.ensures.0 c.slot_from-to.ensures.0
    (sym (each_out tally_one _ _ _ (omega arith)) ∙ c.loop-c.invariant.1)
    (sym (each_out count_one _ _ _ (omega arith)) ∙ c.loop-s.invariant.1) c.post_end.ensures
