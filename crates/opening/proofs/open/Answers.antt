-- The mesh is examined first, then the table.
use Rattle.std.proofs.Common.{◌≡◌, ◌∙◌, sym, ap, rules, Err}
use Rattle.base.specs.Refuse.{code_of}
use Rattle.opening.specs.Accepted.{mesh_passed}
use Rattle.opening.proofs.Answers.{table_mesh, table_examined, examined_fits}
use Rattle.opening.proofs.open.Goals as goal

pub returns-in_err-examine_mesh-clause-answer : goal.returns-in_err-examine_mesh-clause-answer
returns-in_err-examine_mesh-clause-answer g c =
    let r : c.from_residual.result ≡ Err c.in_err-examine_mesh.field-0.0 = search rules in
    rw r (table_mesh c.args.positions.now c.args.cells.now c.args.status.now c.in_err-examine_mesh.ensures)

pub examine-requires : goal.examine-requires
unfolding code_of
examine-requires g c = (
  search rules,
  ((mesh_passed c.args.positions.now c.args.cells.now (ap code_of (sym c.in_ok-examine_mesh.ensures))).mesh, c.requires),
)

pub returns-clause-answer : goal.returns-clause-answer
returns-clause-answer g c =
    c.examine.ensures.answer ∙ table_examined c.args.positions.now c.args.cells.now c.args.status.now c.in_ok-examine_mesh.ensures

pub returns-clause-fits : goal.returns-clause-fits
returns-clause-fits g c =
    examined_fits c.args.positions.now c.args.cells.now c.args.status.now c.in_ok-examine_mesh.ensures _ _ _ _ c.examine.result
    c.examine.ensures.answer c.examine.ensures.laid
