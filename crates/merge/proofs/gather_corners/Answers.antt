-- `merge::gather_corners` meets its contract: a turn takes the next coarse cell.
use Rattle.std.proofs.Common.{◌≡◌, refl, sym, ◌∙◌, arith, add-one}
use Rattle.merge.proofs.Corners.{gathering_start, gathering_none, gathering_low, gathering_on, gathering_out}
use Rattle.merge.proofs.gather_corners.Goals as goal

pub loop-i-init : goal.loop-i-init
loop-i-init c = gathering_start c.args.stores.now c.args.parts c.args.n c.args.m c.args.mesh.now

pub returns-in_default : goal.returns-in_default
returns-in_default c =
    (refl, gathering_none c.args.stores.now c.args.parts c.args.n c.args.m c.loop-i.i c.loop-i-test.true c.in_default.ensures)

pub returns-then-not-ascending : goal.returns-then-not-ascending
returns-then-not-ascending c = (
  refl,
  gathering_low c.args.stores.now c.args.parts c.args.n c.args.m c.loop-i.i c.in-Some.j c.loop-i-test.true c.in-Some.ensures
      c.corners_of-cell.result c.corners_of-cell.ensures (sym c.ascending.ensures ∙ c.if-not-ascending.true),
)

pub loop-i-preserved : goal.loop-i-preserved
loop-i-preserved c =
    rw (add-one c.loop-i.i) (gathering_on c.args.stores.now c.args.parts c.args.n c.args.m c.loop-i.i c.in-Some.j c.loop-i-test.true
    c.in-Some.ensures c.corners_of-cell.result c.corners_of-cell.ensures c.loop-i.mesh c.loop-i.invariant c.requires.2 (omega arith)
    c.requires.0 c.requires.1 c.copy_from_slice.new.self c.copy_from_slice.ensures.after (sym c.ascending.ensures ∙ c.if-not-ascending.false))

pub returns : goal.returns
returns c =
    let k : c.loop-i.i ≡ c.args.m = omega arith in
    gathering_out c.args.stores.now c.args.parts c.args.n c.args.m c.loop-i.mesh c.loop-i.i k c.loop-i.invariant
