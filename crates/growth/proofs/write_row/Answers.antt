-- `growth::write_row` meets its contract: the part of the table that is copied to is the row.
use Rattle.std.proofs.Common.{◌≡◌, ◌+◌, ◌*◌, ◌-◌, length, arith}
use Rattle.growth.proofs.Stored.{row_written}
use Rattle.growth.proofs.write_row.Goals as goal

pub returns : goal.returns
returns c =
    let e : 8 * c.args.at + 8 - 8 * c.args.at ≡ length c.args.row = omega (arith, c.copy_from_slice.ensures.len) in
    row_written c.args.cells.now (8 * c.args.at) _ c.args.row c.copy_from_slice.new.self e c.copy_from_slice.ensures.after
