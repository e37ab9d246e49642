-- The tests stand in the order of the refusals, and each has what it asks from those before it.
use Rattle.std.proofs.Common.{◌≡◌, ◌∙◌, sym}
use Rattle.base.specs.Fours.{fours}
use Rattle.mesh.specs.Laws.{answer_0, answer_1, answer_2, answer_3, answer_4, answer_5}
use Rattle.coarse.proofs.Answers.{ranked}
use Rattle.coarse.proofs.Rows.{placed}
use Rattle.coarse.proofs.Scan.{chunks_are_fours}
use Rattle.coarse.proofs.examine_mesh.Goals as goal

pub returns-then-not-counts_ok : goal.returns-then-not-counts_ok
returns-then-not-counts_ok c = answer_1 c.args.positions.now c.args.cells.now (sym c.if-not-counts_ok.ensures)

pub returns-then-not-positions_ok : goal.returns-then-not-positions_ok
returns-then-not-positions_ok c =
    answer_2 c.args.positions.now c.args.cells.now (sym c.if-not-counts_ok.ensures) (sym c.if-not-positions_ok.ensures)

pub returns-then-not-cells_ok : goal.returns-then-not-cells_ok
returns-then-not-cells_ok c =
    let e : c.as_chunks.result.0.now ≡ fours c.args.cells.now = c.as_chunks.ensures.front ∙ chunks_are_fours c.args.cells.now in
    answer_3 c.args.positions.now c.args.cells.now (sym c.if-not-counts_ok.ensures) (sym c.if-not-positions_ok.ensures)
    (sym (rw e at c.if-not-cells_ok.ensures))

pub solid-requires : goal.solid-requires
solid-requires c = placed c.args.positions.now (sym c.if-not-positions_ok.ensures) c.as_chunks.result.0.now (sym c.if-not-cells_ok.ensures)

pub returns-then-not-solid : goal.returns-then-not-solid
returns-then-not-solid c =
    let e : c.as_chunks.result.0.now ≡ fours c.args.cells.now = c.as_chunks.ensures.front ∙ chunks_are_fours c.args.cells.now in
    answer_4 c.args.positions.now c.args.cells.now (sym c.if-not-counts_ok.ensures) (sym c.if-not-positions_ok.ensures)
    (sym (rw e at c.if-not-cells_ok.ensures)) (sym (rw e at c.if-not-solid.ensures))

pub single-requires : goal.single-requires
single-requires c =
    let e : c.as_chunks.result.0.now ≡ fours c.args.cells.now = c.as_chunks.ensures.front ∙ chunks_are_fours c.args.cells.now in
    rw e (ranked c.args.positions.now c.args.cells.now (sym c.if-not-counts_ok.ensures) (sym (rw e at c.if-not-cells_ok.ensures)))

pub returns-then-not-single : goal.returns-then-not-single
returns-then-not-single c =
    let e : c.as_chunks.result.0.now ≡ fours c.args.cells.now = c.as_chunks.ensures.front ∙ chunks_are_fours c.args.cells.now in
    answer_5 c.args.positions.now c.args.cells.now (sym c.if-not-counts_ok.ensures) (sym c.if-not-positions_ok.ensures)
    (sym (rw e at c.if-not-cells_ok.ensures)) (sym (rw e at c.if-not-solid.ensures)) (sym (rw e at c.if-not-single.ensures))

pub returns : goal.returns
returns c =
    let e : c.as_chunks.result.0.now ≡ fours c.args.cells.now = c.as_chunks.ensures.front ∙ chunks_are_fours c.args.cells.now in
    answer_0 c.args.positions.now c.args.cells.now (sym c.if-not-counts_ok.ensures) (sym c.if-not-positions_ok.ensures)
    (sym (rw e at c.if-not-cells_ok.ensures)) (sym (rw e at c.if-not-solid.ensures)) (sym (rw e at c.if-not-single.ensures))
