-- An i32 reads back as itself, and the literal is 2 ^ 10.
use lib.IntN.{pos}
use lib.Ieee.{of_bits}
use lib.ListN.{get_or}
use mir.Facts.{to_z-of_z}
use mir.Syntax.{w32}
use mir.Val.{SFits}
use Rattle.std.proofs.Common.{rules}
use Rattle.position.specs.Position.{coordinate_of}
use Rattle.position.proofs.coordinate.Goals as goal

pub returns : goal.returns
unfolding coordinate_of of_bits
returns c =
    let f : SFits w32 (get_or c.args.sums.now c.args.at (pos 0)) = record { sfits = search rules } in rw (c.from.ensures, to_z-of_z f)
