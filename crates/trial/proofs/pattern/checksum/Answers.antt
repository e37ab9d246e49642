-- One element less is left, and none at the end.
use Rattle.std.proofs.Common.{sym, ◌∙◌, ap, rules}
use Rattle.trial.proofs.Tables.{check_next, check_end}
use Rattle.trial.proofs.pattern.checksum.Goals as goal

pub loop-entry-preserved : goal.loop-entry-preserved
loop-entry-preserved g c =
    let l = c.loop-entry in (
      c.turn-sum.ensures.1,
      check_next g.T.Entry.taken l.sum c.args.list.now l.entry-index c.entry-item.result c.take.result c.turn-sum.result _ (search rules)
          (c.take.ensures.0 ∙ ap g.T.Entry.taken c.entry-item.is) c.turn-sum.ensures.0 l.invariant.1,
    )

pub returns : goal.returns
returns g c =
    let l = c.loop-entry in sym (check_end g.T.Entry.taken l.sum c.args.list.now l.entry-index (search rules)) ∙ l.invariant.1
