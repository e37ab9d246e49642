-- `filling::Source::write_store` meets its contract: three parts one behind the other.
use Rattle.filling.proofs.Joining.{store_is}
use Rattle.filling.proofs.Source.write_store.Goals as goal

pub returns : goal.returns
returns c =
    let s = c.args.self.now in
    store_is s.cols.now s.mesh.now s.slots.now s.masks.now s.firsts.now s.starts.now s.cells c.args.part s.parts s.corners s.levels
    c.args.store.now c.write_front.new.store c.write_columns.new.store c.write_slots.new.store c.requires c.write_front.auto.store
    c.write_front.ensures c.write_columns.ensures c.write_slots.ensures
