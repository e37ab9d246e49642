-- A message's length, or 0 where there is none.
use Rattle.std.proofs.Common.{◌≡◌, ◌∙◌, ap}
use Rattle.yuccadice.specs.After.{fetched_code, fetched_length}
use Rattle.yuccadice.proofs.Told.{fetched_some}
use Rattle.yuccadice.proofs.yd_fetch.Goals as goal

pub returns-in-Ok : goal.returns-in-Ok
returns-in-Ok c =
    let v = fetched_some c.in-Ok.length _ c.unwrap_or.result c.args.byte_count.now c.in-Ok.ensures.answer c.unwrap_or.ensures in
    (v.0, c.fetch.ensures.store_value, c.fetch.ensures.out_value, v.1)

pub returns-in-Err : goal.returns-in-Err
unfolding fetched_code fetched_length
returns-in-Err c =
    let v = c.in-Err.ensures.answer in (
      c.number.ensures ∙ ap fetched_code v,
      c.fetch.ensures.store_value,
      c.fetch.ensures.out_value,
      ap (fetched_length c.args.byte_count.now) v,
    )
