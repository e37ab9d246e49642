-- `divide::write_parts` meets its contract: a turn writes the next store.
use Rattle.std.proofs.Common.{◌≡◌, List, ℕ, ◌∙◌, ap, arith, add-one}
use Rattle.divide.specs.Divided.{part_by, store_put}
use Rattle.divide.proofs.Dividing.{more_start, more_turn, lent_back, part_length, parts_room}
use Rattle.divide.proofs.write_parts.Goals as goal

pub loop-j-init : goal.loop-j-init
loop-j-init c =
    let s = c.args.source.now in
    more_start (part_by s.cols.now s.mesh.now s.slots.now s.firsts.now s.starts.now s.cells s.parts s.corners s.levels)
    (part_length s.cols.now s.mesh.now s.slots.now s.firsts.now s.starts.now s.cells s.parts s.corners s.levels s.sized.0 s.sized.1) c.args.stores.now

pub loop-j-preserved : goal.loop-j-preserved
loop-j-preserved c =
    let s = c.args.source.now in
    let f = (part_by s.cols.now s.mesh.now s.slots.now s.firsts.now s.starts.now s.cells s.parts s.corners s.levels) in
    rw (add-one c.loop-j.j) (lent_back s.cols.now s.mesh.now s.slots.now s.masks.now s.firsts.now s.starts.now s.cells s.parts s.corners s.levels
    c.requires.masks c.loop-j.stores c.write_store.new.store c.loop-j.j c.write_store.ensures
    ∙ ap (λ (x : List ℕ). store_put f x c.loop-j.j) c.loop-j.invariant
    ∙ more_turn f (part_length s.cols.now s.mesh.now s.slots.now s.firsts.now s.starts.now s.cells s.parts s.corners s.levels s.sized.0 s.sized.1) c.args.stores.now c.loop-j.j
    (parts_room c.args.stores.now c.loop-j.j (omega (arith, c.requires.stores_room.1)) c.requires.stores_room.0))

pub returns : goal.returns
returns c =
    let s = c.args.source.now in
    let k : c.loop-j.j ≡ s.parts = omega arith in
    rw k at c.loop-j.invariant
