-- Each stage in turn.
use Rattle.std.proofs.Common.{◌≡◌, ◌∙◌, ap, sym, Ok}
use Rattle.held.specs.Progress.{progressed}
use Rattle.yuccadice.specs.After.{progress_code, progress_stage, progress_round, progress_result}
use Rattle.yuccadice.proofs.yd_stage.Goals as goal

pub returns-in-Ok-Running : goal.returns-in-Ok-Running
unfolding progress_code progress_stage progress_round progress_result
returns-in-Ok-Running c =
    let v = ap (λ p. progressed (Ok p)) (sym c.in-Ok-Running.field-0-is) ∙ c.in-Ok-Running.ensures in (
      ap progress_code v,
      ap (progress_stage c.args.stage.now) v,
      ap (progress_round c.args.round.now) v,
      ap (progress_result c.args.res.now) v,
    )

pub returns-in-Ok-Done : goal.returns-in-Ok-Done
unfolding progress_code progress_stage progress_round progress_result
returns-in-Ok-Done c =
    let v = ap (λ p. progressed (Ok p)) (sym c.in-Ok-Done.field-0-is) ∙ c.in-Ok-Done.ensures in (
      ap progress_code v,
      ap (progress_stage c.args.stage.now) v,
      ap (progress_round c.args.round.now) v,
      ap (progress_result c.args.res.now) v,
    )

pub returns-in-Ok-Ended : goal.returns-in-Ok-Ended
unfolding progress_code progress_stage progress_round progress_result
returns-in-Ok-Ended c =
    let v = ap (λ p. progressed (Ok p)) (sym c.in-Ok-Ended.field-0-is) ∙ c.in-Ok-Ended.ensures in (
      ap progress_code v,
      ap (progress_stage c.args.stage.now) v,
      ap (progress_round c.args.round.now) v,
      c.from.ensures ∙ (c.number.ensures ∙ ap (progress_result c.args.res.now) v),
    )

pub returns-in-Err : goal.returns-in-Err
unfolding progress_code progress_stage progress_round progress_result
returns-in-Err c =
    let v = c.in-Err.ensures in (
      c.number-in-Err.ensures ∙ ap progress_code v,
      ap (progress_stage c.args.stage.now) v,
      ap (progress_round c.args.round.now) v,
      ap (progress_result c.args.res.now) v,
    )
