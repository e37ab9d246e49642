-- `writing::Keeping::write_family` meets its contract: the cell is red, or its children are leaves.
use Rattle.std.proofs.Common.{arith}
use Rattle.rows.specs.Sizes.{size_red}
use Rattle.writing.proofs.Family.{done_leaves, leaves_taken}
use Rattle.writing.proofs.Keeping.write_family.Goals as goal

pub write_red-requires : goal.write_red-requires
write_red-requires c =
    omega (arith, size_red c.args.t c.if-t-eq64.true)

pub returns-then-t-eq64 : goal.returns-then-t-eq64
returns-then-t-eq64 c =
    let size = size_red c.args.t c.if-t-eq64.true in
    record { behind = omega arith; wrote = rw c.if-t-eq64.true c.write_red.ensures }

pub returns-clause-wrote : goal.returns-clause-wrote
returns-clause-wrote c =
    done_leaves c.args.self.now.keeps c.args.t c.args.o c.if-t-eq64.false c.size_of-size.ensures.0
    (leaves_taken c.size_of-size.result 8 c.size_of-size.ensures.1) c.write_new.ensures
