-- `merge::row::Row::build` meets its contract: a turn finds the next cell.
use Rattle.std.proofs.Common.{◌≡◌, rules, arith, Err}
use Rattle.merge.proofs.Settling.{going_start, going_on, going_failed, going_out}
use Rattle.merge.proofs.row.Row.build.Goals as goal

pub loop-row-init : goal.loop-row-init
loop-row-init c =
    going_start c.args.masters.now c.args.m c.requires c.coarse-row.result c.coarse-row.ensures.0 c.coarse-row.ensures.1 c.coarse-row.ensures.2

pub returns-in_err-settle : goal.returns-in_err-settle
returns-in_err-settle c =
    let r : c.from_residual.result ≡ Err c.in_err-settle.field-0.0 = search rules in
    rw r (
      c.in_err-settle.ensures.0,
      going_failed c.args.masters.now c.args.m c.loop-row.row c.loop-row.invariant c.in_err-settle.ensures.1,
    )

pub loop-row-preserved : goal.loop-row-preserved
loop-row-preserved c =
    going_on c.args.masters.now c.args.m c.loop-row.row c.settle.new.self c.loop-row.invariant c.in_ok-settle.ensures

pub loop-row-smaller : goal.loop-row-smaller
loop-row-smaller c = omega (arith, c.in_ok-settle.ensures.next, c.loop-row.row.behind, c.settle.new.self.behind)

pub returns : goal.returns
returns c = going_out c.args.masters.now c.args.m c.loop-row.row c.loop-row.invariant (omega arith)
