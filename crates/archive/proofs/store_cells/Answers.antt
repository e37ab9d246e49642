-- A turn stores one cell's record.
use Rattle.std.proofs.Common.{◌≡◌, ◌/◌, ◌∙◌, ◌<◌, ℕ, List, [], length, get_or, arith, rules}
use Rattle.archive.specs.Job.{cell_bytes}
use Rattle.archive.proofs.Stores.{records_start, records_turn, records_all, chunk_length, cell-size, cells_flat}
use Rattle.archive.proofs.store_cells.Goals as goal

pub loop-i-init : goal.loop-i-init
loop-i-init c = records_start cell_bytes 9 [] c.as_chunks.result.0.now c.args.from c.args.out.now

pub loop-i-preserved : goal.loop-i-preserved
loop-i-preserved c =
    let ts = c.args.cells.now in
    let qs = c.as_chunks.result.0.now in
    let q : List ℕ = get_or qs c.loop-i.i [] in
    let h : c.loop-i.i < length qs = search rules in
    let four : length q ≡ 4 = rw c.as_chunks.ensures.front (chunk_length 4 (length ts / 4) ts (omega arith) c.loop-i.i (omega (arith, c.as_chunks.ensures.front_len))) in
    records_turn cell_bytes 9 [] qs c.args.from c.args.out.now c.loop-i.invariant h (cell-size q four) c.put_cell.ensures

pub returns : goal.returns
returns c =
    records_all cell_bytes 9 [] c.as_chunks.result.0.now c.args.from c.args.out.now c.loop-i.invariant (search rules)
    ∙ rw (c.as_chunks.ensures.front, cells_flat c.args.cells.now)
