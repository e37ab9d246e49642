-- `writing::fresh_with` meets its contract: the invariant says that the statuses before are set.
use Rattle.std.proofs.Common.{◌≡◌, sym, replicate, arith}
use Rattle.cutting.specs.Answer.{cut_of}
use Rattle.rows.specs.Cuts.{cut_ok}
use Rattle.growth.specs.Written.{written_none}
use Rattle.writing.proofs.Fresh.{red_ends, row_more, row_all}
use Rattle.writing.proofs.fresh_with.Goals.{After-unwrap-family}
use Rattle.writing.proofs.fresh_with.Goals as goal

digits_are : (c : After-unwrap-family) → c.unwrap-family.result.digits ≡ (cut_of 63).digits
digits_are c = (rw c.unwrap-family.ensures at c.cut.ensures.family).1

pub unwrap-family-requires : goal.unwrap-family-requires
unwrap-family-requires c = cut_ok 63 (omega arith) c.cut.result c.cut.ensures.answer

pub loop-i-init : goal.loop-i-init
loop-i-init c = sym (written_none (replicate 8 0) 0)

pub fresh_status-requires : goal.fresh_status-requires
fresh_status-requires c =
    let f = (goal.at.fresh_status-requires c).After-unwrap-family in
    (omega arith, rw (digits_are f) (red_ends c.loop-i.i c.loop-i-test.true))

pub loop-i-preserved : goal.loop-i-preserved
loop-i-preserved c =
    let f = (goal.at.loop-i-preserved c).After-unwrap-family in
    row_more c.args.held.now (digits_are f) c.loop-i.invariant c.loop-i-test.true c.fresh_status.ensures

pub returns : goal.returns
returns c = row_all c.args.held.now c.loop-i.invariant c.loop-i-test.false
