-- A turn inserts the edges of the next cell, if it is red.
use Rattle.std.proofs.Common.{rules, arith, ◌+◌, ◌*◌, ◌-◌, ◌≤◌, ◌<◌, length, get_or}
use Rattle.edges.specs.Table.{grown_none, grown_both}
use Rattle.rows.specs.Numbered.{cell_at, part}
use Rattle.redlist.specs.Ready.{red_of, red_count}
use Rattle.redlist.specs.Steps.{space_left, reds_step, reds_fit, none_yet}
use Rattle.redlist.proofs.red_level.Goals as goal

pub loop-c-init : goal.loop-c-init
loop-c-init g c = rw (none_yet c.args.cells.now c.args.status.now c.args.first) (grown_none c.args.table.now c.requires.ready.edges)

pub red_cell-requires : goal.red_cell-requires
red_cell-requires g c =
    let a = c.args in
    let k = c.loop-c.c in
    let up : a.first ≤ k = search rules in
    let rows : 8 * (k + 1) ≤ length a.cells.now = omega (arith, c.requires.ready.rows, c.loop-c-test.true) in (
      search rules,
      record {
        rows = rows;
        edges = c.loop-c.invariant.distinct;
        space = space_left c.loop-c.invariant (length (red_of (get_or a.status.now k 0) (cell_at a.cells.now k)))
            (6 * red_count (part a.status.now a.first (a.last - a.first))) c.requires.ready.space
            (reds_fit a.cells.now a.status.now a.first k up a.last c.loop-c-test.true c.requires.range.inside);
      },
    )

pub loop-c-preserved : goal.loop-c-preserved
loop-c-preserved g c =
    let a = c.args in
    let k = c.loop-c.c in
    let up : a.first ≤ k = search rules in
    let inside : k < length a.status.now = omega (arith, c.loop-c-test.true, c.requires.range.inside) in
    rw (reds_step a.cells.now a.status.now a.first k up inside) (grown_both c.loop-c.invariant c.red_cell.ensures)
