-- Two bytes are a number, least byte first.
use Rattle.std.proofs.Common.{arith}
use Rattle.archive.proofs.Tests.{whole_two}
use Rattle.archive.proofs.number.Goals as goal

pub returns : goal.returns
returns c = omega (arith, whole_two c.args.bytes.now c.args.at c.requires, c.from_le_bytes.ensures)
