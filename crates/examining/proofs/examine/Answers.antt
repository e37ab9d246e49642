-- `examining::examine` meets its contract: a table that is too long or has other statuses is not sound, and any other is built.
use Rattle.std.proofs.Common.{◌∙◌, sym}
use Rattle.base.specs.Fours.{fours}
use Rattle.tables.specs.Finish.{answer_six, unsound_long, unsound_status}
use Rattle.examining.proofs.examine.Goals.{
  then-status-gt-MOST_CELLS-via-then-status-gt-MOST_CELLS,
  then-status-gt-MOST_CELLS-via-else-status-gt-MOST_CELLS+then-not-fits,
}
use Rattle.examining.proofs.examine.Goals as goal

pub returns-then-status-gt-MOST_CELLS-clause-answer : goal.returns-then-status-gt-MOST_CELLS-clause-answer
returns-then-status-gt-MOST_CELLS-clause-answer g c =
    answer_six c.args.n (fours c.args.mesh.now) c.args.status.now
    (elim c.then-status-gt-MOST_CELLS.branch [
      | then-status-gt-MOST_CELLS-via-then-status-gt-MOST_CELLS w ↦
          unsound_long c.args.n (fours c.args.mesh.now) c.args.status.now w.if-status-gt-MOST_CELLS.true
      | then-status-gt-MOST_CELLS-via-else-status-gt-MOST_CELLS+then-not-fits w ↦
          unsound_status c.args.n (fours c.args.mesh.now) c.args.status.now (sym w.fits.ensures ∙ w.if-not-fits.true)
    ])
