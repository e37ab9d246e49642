-- `cutting::start_table` meets its contract: the constant is `starts`.
use mathlib.Core.List.{flatten}
use Rattle.cutting.proofs.Table.{starts, starts_table}
use Rattle.cutting.proofs.start_table.Goals as goal

pub returns : goal.returns
unfolding starts flatten
returns c =
    starts_table
