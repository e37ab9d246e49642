-- The rows of a sound table lead from a cell to its coarse ancestor.
use Rattle.std.proofs.Common.{◌≡◌, ◌∙◌, arith, rules, Err, ℕ}
use Rattle.std.proofs.lemmas.List.{length-replicate}
use Rattle.pairs.specs.Keys.{clear_new}
use Rattle.queries.proofs.Answers.{ancestor_refused, ancestor_beyond, ancestor_there}
use Rattle.queries.proofs.Results.{fits_upward, fits_climb}
use Rattle.queries.proofs.ancestor_in.Goals as goal

pub returns-in_err-sizes-clause-answer : goal.returns-in_err-sizes-clause-answer
returns-in_err-sizes-clause-answer g c =
    let r : c.from_residual.result ≡ Err c.in_err-sizes.field-0.0 = search rules in
    rw r (ancestor_refused c.args.positions.now c.args.cells.now c.args.status.now c.args.cell c.in_err-sizes.ensures.answer)

pub returns-then-cell-sizes-clause-answer : goal.returns-then-cell-sizes-clause-answer
returns-then-cell-sizes-clause-answer g c =
    let o = c.in_ok-sizes.ensures in
    ancestor_beyond c.args.positions.now c.args.cells.now c.args.status.now c.args.cell o.answer (omega (arith, o.fits.sound.counted))

pub climb-requires : goal.climb-requires
climb-requires g c = fits_upward _ _ _ _ _ _ _ _ _ c.in_ok-sizes.ensures.fits c.args.cell (omega arith)

pub returns-clause-answer : goal.returns-clause-answer
returns-clause-answer g c =
    let o = c.in_ok-sizes.ensures in
    ancestor_there c.args.positions.now c.args.cells.now c.args.status.now c.args.cell o.answer (omega (arith, o.fits.sound.counted))

pub returns-clause-ancestor : goal.returns-clause-ancestor
returns-clause-ancestor g c =
    c.climb.ensures ∙ fits_climb _ _ _ _ _ _ _ _ _ c.in_ok-sizes.ensures.fits c.args.cell (omega arith)

pub invariant_of-mids : goal.invariant_of-mids
invariant_of-mids g c =
    record {
      sized = (
        length-replicate {A = ℕ} g.row.M 0,
        length-replicate {A = ℕ} g.row.M 0,
        length-replicate {A = ℕ} g.row.MH 65535,
        length-replicate {A = ℕ} g.row.M 0,
      );
      in_order = (clear_new g.row.MH c.requires.sizes.2).empty _ _ _;
      up = omega arith;
    }
