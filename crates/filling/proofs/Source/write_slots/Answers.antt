-- `filling::Source::write_slots` meets its contract: three regions one behind the other.
use Rattle.filling.proofs.Joining.{slots_written}
use Rattle.filling.specs.Regions.{slot_by, holder_by}
use Rattle.filling.proofs.Source.write_slots.Goals as goal

pub returns : goal.returns
returns c =
    let s = c.args.self.now in
    slots_written c.args.store.now c.fill_slots.new.region c.fill_holders.new.region c.fill.new.self
    (slot_by s.cols.now s.cells c.args.part s.slots.now) (holder_by s.cols.now s.cells c.args.part s.slots.now s.masks.now)
    c.requires c.fill_slots.ensures c.fill_holders.ensures (c.fill.ensures.after (λ y e. e))
