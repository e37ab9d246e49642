-- `cutting::digit_table` meets its contract: the constant is `digits`.
use mathlib.Core.List.{flatten}
use Rattle.cutting.proofs.Table.{digits, digits_table}
use Rattle.cutting.proofs.digit_table.Goals as goal

pub returns : goal.returns
unfolding digits flatten
returns c =
    digits_table
