-- `tables::lay_coarse` meets its contract: a turn writes the row of the next coarse cell.
use Rattle.std.proofs.Common.{◌≡◌, ◌/◌, refl, sym, length, take, arith}
use mathlib.Core.List.{flat_map}
use Rattle.std.proofs.Math.Seq.{take_all}
use Rattle.base.specs.Fours.{fours, length-fours}
use Rattle.tables.proofs.CoarseRows.{row_more}
use Rattle.tables.proofs.lay_coarse.Goals as goal

pub loop-c-init : goal.loop-c-init
unfolding flat_map
loop-c-init c = refl

pub loop-c-preserved : goal.loop-c-preserved
loop-c-preserved c =
    rw c.write_row.ensures (row_more c.args.mesh.now c.loop-c.rows c.loop-c.c (omega (arith, c.loop-c-test.true))
    (omega (arith, c.loop-c-test.true, c.loop-c.auto.rows, c.requires.1, c.requires.0.few)) c.loop-c.invariant)

pub returns : goal.returns
returns c =
    let k : c.loop-c.c ≡ length c.args.mesh.now / 4 = omega (arith, c.loop-c.auto.c-end, c.loop-c-test.false) in
    let t : take (length c.args.mesh.now / 4) (fours c.args.mesh.now) ≡ fours c.args.mesh.now = take_all (length c.args.mesh.now / 4)
    (fours c.args.mesh.now) (omega (arith, length-fours c.args.mesh.now)) in
    (sym (length-fours c.args.mesh.now), rw (k, t) at c.loop-c.invariant)
