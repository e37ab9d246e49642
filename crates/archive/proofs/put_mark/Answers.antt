-- A letter, a field and a byte are one run of stores.
use Rattle.archive.specs.Job.{bytes}
use Rattle.archive.proofs.Stores.{mark_stores}
use Rattle.archive.proofs.put_mark.Goals as goal

pub returns : goal.returns
unfolding bytes
returns c = mark_stores c.args.out.now c.args.at c.args.cell c.args.mark (rw c.to_le_bytes.ensures at c.put.ensures)
