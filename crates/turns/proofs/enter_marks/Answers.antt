use Rattle.std.proofs.Common.{add-one, arith, sym, ◌∙◌}
use Rattle.turns.proofs.Deciding.{decide_head}
use Rattle.turns.proofs.Posting.{mark_head}
use Rattle.turns.proofs.Starting.{enter_is}
use Rattle.turns.specs.Decide.{decide_one}
use Rattle.turns.specs.Loops.{head_on, each_again, each_out}
use Rattle.turns.specs.Post.{mark_one}
use Rattle.turns.specs.Usable.{usable_same}
use Rattle.turns.proofs.enter_marks.Goals as goal

pub decide_one-requires : goal.decide_one-requires
decide_one-requires c =
    let u = usable_same _ _ c.loop-c.invariant.0 c.requires.0 in
    (omega arith, omega arith, omega (arith, c.level_from-last.ensures.1))

pub loop-c-preserved : goal.loop-c-preserved
loop-c-preserved c = rw add-one (each_again decide_one decide_head _ _ _ _ _ _ c.loop-c.invariant (omega arith) c.decide_one.ensures)

pub loop-c-2-preserved : goal.loop-c-2-preserved
loop-c-2-preserved c = rw add-one (each_again mark_one mark_head _ _ _ _ _ _ c.loop-c-2.invariant (omega arith) c.mark_one.ensures)

pub post_end-requires : goal.post_end-requires
post_end-requires c = usable_same _ _ (head_on _ _ _ c.loop-c.invariant.0 c.loop-c-2.invariant.0) c.requires.0

pub returns : goal.returns
returns c =
    enter_is _ _ _ _ _ _ c.level_from-first.ensures.0 c.level_from-last.ensures.0
    (sym (each_out decide_one _ _ _ (omega arith)) ∙ c.loop-c.invariant.1)
    (sym (each_out mark_one _ _ _ (omega arith)) ∙ c.loop-c-2.invariant.1) _ c.post_end.ensures
