-- The statuses of a sound table are counted level by level.
use Rattle.std.proofs.Common.{◌≡◌, ◌∙◌, sym, rules, Err, arith, ℕ}
use Rattle.std.proofs.lemmas.List.{length-replicate}
use Rattle.pairs.specs.Keys.{clear_new}
use Rattle.base.specs.Refuse.{held_after}
use Rattle.queries.proofs.Answers.{counts_long}
use Rattle.queries.proofs.Results.{fits_levels, number_after, counts_after}
use Rattle.queries.proofs.counts_in.Goals as goal

pub returns-in_err-open-clause-answer : goal.returns-in_err-open-clause-answer
returns-in_err-open-clause-answer g c =
    let r : c.from_residual.result ≡ Err c.in_err-open.field-0.0 = search rules in
    let l = counts_long c.args.positions.now c.args.cells.now c.args.status.now c.args.counts.now c.requires.full_counts_in_bounds in
    rw r (c.in_err-open.ensures.answer ∙ l)

pub returns-in_err-open-clause-counts_value : goal.returns-in_err-open-clause-counts_value
unfolding held_after
returns-in_err-open-clause-counts_value g c =
    let l = counts_long c.args.positions.now c.args.cells.now c.args.status.now c.args.counts.now c.requires.full_counts_in_bounds in
    rw (sym (c.in_err-open.ensures.answer ∙ l))

pub count_levels-requires-clause-levels : goal.count_levels-requires-clause-levels
count_levels-requires-clause-levels g c = fits_levels _ _ _ _ _ _ _ _ _ c.in_ok-open.ensures.fits

pub returns-clause-answer : goal.returns-clause-answer
returns-clause-answer g c =
    c.in_ok-open.ensures.answer
    ∙ counts_long c.args.positions.now c.args.cells.now c.args.status.now c.args.counts.now c.requires.full_counts_in_bounds

pub returns-clause-levels : goal.returns-clause-levels
returns-clause-levels g c =
    number_after _ _ _ _ _ _ _ _ _ c.in_ok-open.ensures.fits c.count_levels.result c.count_levels.ensures.value

pub returns-clause-counts_value : goal.returns-clause-counts_value
unfolding held_after
returns-clause-counts_value g c =
    let l = counts_long c.args.positions.now c.args.cells.now c.args.status.now c.args.counts.now c.requires.full_counts_in_bounds in
    rw (sym (c.in_ok-open.ensures.answer ∙ l))
    (counts_after _ _ _ _ _ _ _ _ _ c.in_ok-open.ensures.fits c.args.counts.now _ c.count_levels.result c.count_levels.ensures.value
    c.count_levels.ensures.counts_value)

pub invariant_of-mids : goal.invariant_of-mids
invariant_of-mids g c =
    record {
      sized = (
        length-replicate {A = ℕ} g.row.M 0,
        length-replicate {A = ℕ} g.row.M 0,
        length-replicate {A = ℕ} g.row.MH 65535,
        length-replicate {A = ℕ} g.row.M 0,
      );
      in_order = (clear_new g.row.MH c.requires.sizes.2).empty _ _ _;
      up = omega arith;
    }
