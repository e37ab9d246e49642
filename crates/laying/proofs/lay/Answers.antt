-- `laying::lay` meets its contract: the loop holds `Laying` (specs of tables), and each need is one law of a sound table (`Turns`). The
-- measure is the number of levels left.
use Rattle.std.proofs.Common.{arith, rules, add-one}
use Rattle.tables.specs.Begin.{laying_start}
use Rattle.laying.proofs.Turns.{sound_statuses, lay_inside, lay_ended, lay_room, lay_next}
use Rattle.laying.proofs.lay.Goals as goal

pub loop-n-init : goal.loop-n-init
loop-n-init g c =
    laying_start c.args.n c.args.mesh.now c.args.status.now c.requires.mesh c.args.mids.now c.requires.empty.0 c.requires.empty.1
    c.lay_coarse-coarse.new.rows c.lay_coarse-coarse.result c.lay_coarse-coarse.ensures.0 c.lay_coarse-coarse.ensures.1

pub level_size-size-requires : goal.level_size-size-requires
level_size-size-requires g c =
    let s = sound_statuses _ _ _ c.requires.sound in record {
      first_le_last = (omega (arith, c.loop-n.invariant.end), lay_inside _ _ _ c.requires.sound c.loop-n.invariant, s.few);
      status_value = s.fit;
    }

pub returns-then-size-eq0 : goal.returns-then-size-eq0
returns-then-size-eq0 g c =
    record {
      laid = rw (add-one c.loop-n.level)
          (lay_ended _ _ _ c.requires.sound c.loop-n.invariant c.level_size-size.ensures c.if-size-eq0.true);
      coarse = c.lay_coarse-coarse.ensures.0;
    }

pub grow_level-next-requires : goal.grow_level-next-requires
grow_level-next-requires g c = (
  search rules,
  lay_room _ _ _ c.requires.sound c.loop-n.invariant c.level_size-size.ensures c.if-size-eq0.false
      (omega (arith, c.requires.table_room.in_rows, c.loop-n.auto.rows, c.lay_coarse-coarse.auto.rows)) c.requires.mesh.corners
      c.requires.table_room.in_mids,
)

pub loop-n-preserved : goal.loop-n-preserved
loop-n-preserved g c =
    rw (add-one c.loop-n.level)
    (lay_next _ _ _ c.requires.sound c.loop-n.invariant c.level_size-size.ensures c.if-size-eq0.false
    (omega (arith, c.requires.table_room.in_rows, c.loop-n.auto.rows, c.lay_coarse-coarse.auto.rows))
    (rw (add-one c.loop-n.level) at c.grow_level-next.ensures))
