-- `tables::build` meets its contract: the loop holds `Here` (crate's specs), and each way out is one of its laws. The measure is
-- the number of levels left.
use Rattle.std.proofs.Common.{◌≡◌, ◌∙◌, sym, arith, rules, Err, add-one}
use Rattle.base.specs.Answer.{Accepted}
use Rattle.mesh.specs.Table.{soundb}
use Rattle.base.specs.Fours.{fours}
use Rattle.base.specs.Refuse.{passed}
use Rattle.tables.specs.Begin.{here_start}
use Rattle.tables.specs.Finish.{answer_six, top_parents, top_answer, top_laid}
use Rattle.tables.proofs.Turns.{turn_torn, turn_top, turn_high, turn_room, turn_next}
use Rattle.tables.proofs.build.Goals as goal

pub loop-size-init : goal.loop-size-init
loop-size-init g c =
    here_start c.args.n c.args.mesh.now c.args.status.now c.requires.mesh c.args.mids.now c.requires.empty.0 c.requires.empty.1
    c.lay_coarse-coarse.new.rows c.lay_coarse-coarse.result c.lay_coarse-coarse.ensures.0 c.lay_coarse-coarse.ensures.1 c.args.red.now
    c.requires.empty.2

pub returns-in_err-size-clause-answer : goal.returns-in_err-size-clause-answer
returns-in_err-size-clause-answer g c =
    let r : c.from_residual.result ≡ Err c.in_err-size.field-0.0 = search rules in
    rw (r, c.in_err-size.ensures.0)
    (answer_six c.args.n (fours c.args.mesh.now) c.args.status.now (turn_torn c.loop-size.invariant c.in_err-size.ensures.1))

pub finish-requires : goal.finish-requires
finish-requires g c =
    let k = c.in_ok-size.ensures in (
      search rules,
      (
        omega (arith, k.inside, c.requires.table_room.in_rows, c.loop-size.auto.rows, c.lay_coarse-coarse.auto.rows),
        top_parents (turn_top c.loop-size.invariant k c.requires.statuses c.if-size-eq0.true),
      ),
    )

pub returns-in_err-finish-clause-answer : goal.returns-in_err-finish-clause-answer
returns-in_err-finish-clause-answer g c =
    let t = turn_top c.loop-size.invariant c.in_ok-size.ensures c.requires.statuses c.if-size-eq0.true in
    let r : c.from_residual-in_err-finish.result ≡ Err c.in_err-finish.field-0.0 = search rules in
    rw r (c.in_err-finish.ensures ∙ top_answer t)

pub returns-then-size-eq0 : goal.returns-then-size-eq0
returns-then-size-eq0 g c =
    let t = turn_top c.loop-size.invariant c.in_ok-size.ensures c.requires.statuses c.if-size-eq0.true in
    let a = c.in_ok-finish.ensures ∙ top_answer t in
    record {
      answer = a;
      laid = (
        rw (add-one c.loop-size.level)
            (top_laid t (passed 6 (soundb c.args.n (fours c.args.mesh.now) c.args.status.now) Accepted (sym a)).0),
        c.lay_coarse-coarse.ensures.0,
      );
    }

pub returns-then-level-eq-TOP_LEVEL-clause-answer : goal.returns-then-level-eq-TOP_LEVEL-clause-answer
returns-then-level-eq-TOP_LEVEL-clause-answer g c =
    answer_six c.args.n (fours c.args.mesh.now) c.args.status.now
    (turn_high c.loop-size.invariant c.in_ok-size.ensures c.requires.statuses c.if-size-eq0.false c.if-level-eq-TOP_LEVEL.true)

pub grow_level-next-requires : goal.grow_level-next-requires
grow_level-next-requires g c = (
  search rules,
  turn_room c.loop-size.invariant c.in_ok-size.ensures c.requires.statuses c.requires.mesh.corners
      (omega (arith, c.requires.table_room.in_rows, c.loop-size.auto.rows, c.lay_coarse-coarse.auto.rows)) c.requires.table_room.in_mids,
)

pub loop-size-preserved : goal.loop-size-preserved
loop-size-preserved g c =
    rw (add-one c.loop-size.level)
    (turn_next c.loop-size.invariant c.in_ok-size.ensures c.requires.statuses c.if-size-eq0.false c.if-level-eq-TOP_LEVEL.false
    (omega (arith, c.requires.table_room.in_rows, c.loop-size.auto.rows, c.lay_coarse-coarse.auto.rows))
    (rw (add-one c.loop-size.level) at c.grow_level-next.ensures))
