-- The rows of a done part, or why there are none.
use Rattle.std.proofs.Common.{◌∙◌}
use Rattle.yuccadice.proofs.Results.{code_none, code_refused, value_new, value_old}
use Rattle.yuccadice.proofs.Told.{held_rows, held_refused}
use Rattle.yuccadice.proofs.yd_held.Goals as goal

pub returns-in-Ok : goal.returns-in-Ok
returns-in-Ok c =
    let v = held_rows _ _ _ c.in-Ok.ensures.answer in
    (code_none v.0, c.held.ensures.rows_value, value_new _ v.0 v.1)

pub returns-in-Err : goal.returns-in-Err
returns-in-Err c =
    let e = held_refused _ _ _ c.in-Err.ensures.answer in
    (c.number.ensures ∙ code_refused e, c.held.ensures.rows_value, value_old _ e)
