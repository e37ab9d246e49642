-- `rows::is_regular` meets its contract: the flag stands in the row.
use mathlib.Core.Path.{refl}
use Rattle.rows.specs.Numbered.{cell_at}
use Rattle.rows.proofs.is_regular.Goals as goal

pub returns : goal.returns
unfolding cell_at
returns c =
    refl
