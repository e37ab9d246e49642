use Rattle.held.proofs.Rows.{row_put}
use mathlib.Core.Path.{refl, ap, ◌∙◌}
use Rattle.base.specs.Bools.{one_if}
use Rattle.store.proofs.Flags.{flag_is}
use Rattle.held.proofs.write_row.Goals as goal

pub returns : goal.returns
returns c =
    row_put _ _ _ c.key_of-key.ensures _ _ _ _ _ _ _
    (c.from.ensures ∙ flag_is _ ∙ ap one_if c.is_ghost.ensures)
    c.status_of.ensures.0 refl refl c.write_digits.ensures
