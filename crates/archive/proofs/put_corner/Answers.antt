-- A letter and three fields are one run of stores.
use Rattle.std.proofs.Common.{◌∙◌, refl}
use Rattle.archive.specs.Job.{word}
use Rattle.archive.proofs.Signed.{i32_written}
use Rattle.archive.proofs.Stores.{corner_stores}
use Rattle.archive.proofs.put_corner.Goals as goal

pub returns : goal.returns
returns c =
    corner_stores c.args.out.now c.args.at c.args.x c.args.y c.args.z (word c.args.x) (word c.args.y) (word c.args.z) refl refl refl
    (rw (c.to_le_bytes.ensures ∙ i32_written c.args.x c.ranges.x) at c.put.ensures)
    (rw (c.to_le_bytes-2.ensures ∙ i32_written c.args.y c.ranges.y) at c.put-2.ensures)
    (rw (c.to_le_bytes-3.ensures ∙ i32_written c.args.z c.ranges.z) at c.put-3.ensures)
