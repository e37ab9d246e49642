-- `tables::finish` meets its contract: the tests are those of the definition.
use Rattle.std.proofs.Common.{arith, length, eq-eqb, ne_eqb}
use Rattle.base.specs.Refuse.{refuse}
use Rattle.tables.specs.Finish.{all_entries}
use Rattle.tables.proofs.finish.Goals.{else-status-last-via-then-status-last+else-apart, else-status-last-via-else-status-last}
use Rattle.tables.proofs.finish.Goals as goal

pub returns-then-apart : goal.returns-then-apart
unfolding refuse
returns-then-apart g c =
    let e = all_entries c.args.red.now c.look_at_all.new.self c.look_at_all.ensures.from c.look_at_all.ensures.kept in
    rw (eq-eqb (length c.args.status.now) c.args.last (omega arith), ← e, ← c.apart.ensures, c.if-apart.true)

pub returns : goal.returns
unfolding refuse
returns g c =
    let e = all_entries c.args.red.now c.look_at_all.new.self c.look_at_all.ensures.from c.look_at_all.ensures.kept in
    elim c.else-status-last.branch [
      | else-status-last-via-then-status-last+else-apart w ↦
          rw (eq-eqb (length c.args.status.now) c.args.last w.if-status-last.true, ← e, ← w.apart.ensures, w.if-apart.false)
      | else-status-last-via-else-status-last w ↦ rw (ne_eqb (length c.args.status.now) c.args.last w.if-status-last.false)
    ]
