-- `archive::load_positions` meets its contract: each number stands at its place of the bytes. The measure is the number of numbers left.
use mathlib.Core.Path.{sym, ◌∙◌}
use native.Mathlib.Omega.{arith}
use lib.ListN.{length}
use lib.IntN.{pos}
use mir.Syntax.{w32}
use mir.Facts.{to_z-of_z}
use Rattle.archive.specs.Form.{corner_records}
use Rattle.archive.proofs.Fill.{filled_more}
use Rattle.archive.proofs.Fields.{corner_at_lem, corner_inside}
use Rattle.archive.proofs.load_positions.Goals as goal

pub coordinate-requires : goal.coordinate-requires
coordinate-requires c =
    corner_inside c.args.bytes.now c.loop-k.k (omega (arith, c.loop-k-test.true))

pub loop-k-preserved : goal.loop-k-preserved
loop-k-preserved c =
    filled_more (corner_records (length c.args.bytes.now) c.args.bytes.now).0 c.args.positions.now c.loop-k.invariant (pos 0) _
    (omega (arith, c.loop-k-test.true)) (to_z-of_z {w = w32} (record { sfits = c.coordinate.type_inv }) ∙ c.coordinate.ensures
    ∙ sym (corner_at_lem (length c.args.bytes.now) c.args.bytes.now c.loop-k.k (omega (arith, c.loop-k-test.true))))
