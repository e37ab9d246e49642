-- A status that is not red asks for nothing.
use Rattle.std.proofs.Common.{rules, ◌≡◌, List, length, ap, ◌∙◌}
use Rattle.edges.specs.Pairs.{Pair}
use Rattle.edges.specs.Table.{grown_none}
use Rattle.rows.specs.Numbered.{cell_at}
use Rattle.redlist.specs.Ready.{red_of}
use Rattle.redlist.specs.Steps.{red_is, red_not, six}
use Rattle.redlist.proofs.red_cell.Goals as goal

pub red_edges-requires : goal.red_edges-requires
red_edges-requires g c =
    let d = cell_at c.args.cells.now c.args.c in
    let e : length (red_of c.args.status d) ≡ 6 = ap (λ (l : List Pair). length l) (red_is c.args.status d c.if-status-eq64.true) ∙ six d in
    let r = rw e at c.requires in
    (search rules, r)

pub returns-then-status-eq64 : goal.returns-then-status-eq64
returns-then-status-eq64 g c = rw (red_is c.args.status (cell_at c.args.cells.now c.args.c) c.if-status-eq64.true) c.red_edges.ensures

pub returns-else-status-eq64 : goal.returns-else-status-eq64
returns-else-status-eq64 g c =
    rw (red_not c.args.status (cell_at c.args.cells.now c.args.c) c.if-status-eq64.false) (grown_none c.args.table.now c.requires.edges)
