-- `filling::Source::write_front` meets its contract: four regions one behind the other.
use Rattle.std.proofs.Common.{◌/◌, length, arith}
use Rattle.std.proofs.Common.{arith}
use Rattle.filling.proofs.Joining.{front_written}
use Rattle.filling.specs.Laws.{header_size}
use Rattle.filling.specs.Regions.{head_by}
use Rattle.filling.proofs.Source.write_front.Goals as goal

pub returns : goal.returns
returns c =
    let s = c.args.self.now in
    let n = length s.mesh.now / 4 in
    front_written c.args.store.now c.fill_head.new.region (head_by c.args.part s.parts s.corners n s.cells s.levels)
    c.copy_from_slice.new.self s.firsts.now c.copy_from_slice-2.new.self s.starts.now c.fill.new.self
    c.requires c.fill_head.ensures (header_size c.args.part s.parts s.corners n s.cells s.levels) c.copy_from_slice.ensures.after (omega arith)
    c.copy_from_slice-2.ensures.after (omega arith) (c.fill.ensures.after (λ y e. e))
