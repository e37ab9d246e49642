-- `filling::put_six` meets its contract: six numbers are copied.
use Rattle.filling.proofs.Passing.{six_copied}
use Rattle.filling.proofs.put_six.Goals as goal

pub returns : goal.returns
returns c =
    six_copied c.args.slots.now c.args.c c.args.region.now c.copy_from_slice.new.self c.requires.0 c.told-slots c.requires.1
    c.copy_from_slice.ensures.after
