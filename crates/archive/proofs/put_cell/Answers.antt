-- A letter and four fields are one run of stores.
use Rattle.std.proofs.Common.{◌∙◌, ap, rules, List, ℕ, get_or}
use lib.Seq.{sets}
use Rattle.base.specs.Fours.{four_points}
use Rattle.archive.specs.Job.{bytes, cell_bytes}
use Rattle.archive.proofs.Stores.{cell_stores}
use Rattle.archive.proofs.put_cell.Goals as goal

pub returns : goal.returns
unfolding bytes
returns c =
    let q = c.args.cell.now in
    let a = c.args.at in
    cell_stores c.args.out.now a (get_or q 0 0) (get_or q 1 0) (get_or q 2 0) (get_or q 3 0)
    (rw c.to_le_bytes.ensures at c.put.ensures)
    (rw c.to_le_bytes-2.ensures at c.put-2.ensures)
    (rw c.to_le_bytes-3.ensures at c.put-3.ensures)
    (rw c.to_le_bytes-4.ensures at c.put-4.ensures)
    ∙ ap (λ (k : List ℕ). sets c.args.out.now a (cell_bytes k)) (four_points q (search rules))
