-- Six bits, each twice as much as the one before it.
use Rattle.std.proofs.Common.{arith}
use Rattle.mesh.specs.Cells.{bits_of}
use Rattle.probing.specs.Probed.{from_one}
use Rattle.closure.proofs.bits.Goals as goal

pub returns : goal.returns
unfolding bits_of
returns c =
    omega (
      arith,
      from_one c.args.a,
      from_one c.args.b,
      from_one c.args.c,
      from_one c.args.d,
      from_one c.args.e,
      from_one c.args.f,
      c.from.ensures,
      c.from-2.ensures,
      c.from-3.ensures,
      c.from-4.ensures,
      c.from-5.ensures,
      c.from-6.ensures,
    )
