-- `filling::fill_masks` meets its contract: a turn takes the next lower part.
use Rattle.std.proofs.Common.{◌≡◌, ℕ, ◌+◌, ◌-◌, ◌∙◌, ap, arith}
use Rattle.std.proofs.Math.ListN.{replicate}
use Rattle.filling.proofs.Passing.{masks_none, masks_room, flags_room, masks_turn, ones_are}
use Rattle.filling.proofs.fill_masks.Goals as goal

pub loop-p-init : goal.loop-p-init
loop-p-init c =
    masks_none c.args.cols.now c.args.cells c.args.slots.now c.fill.new.self
    (c.fill.ensures.after (λ y e. e) ∙ ap (λ (n : ℕ). replicate n 0) c.told-masks)

pub add_bits-requires : goal.add_bits-requires
add_bits-requires c =
    let z : c.loop-p.p - 1 + 1 ≡ c.loop-p.p = omega arith in
    record {
      masks_room = masks_room c.args.cols.now c.args.cells c.args.slots.now c.loop-p.p c.loop-p.masks c.loop-p-test.true (omega arith)
          c.loop-p.invariant;
      flags_room = flags_room c.args.cols.now c.args.cells c.args.slots.now (replicate 24576 1) ones_are c.loop-p.p c.fill_holders.new.region
          (rw z at c.fill_holders.ensures);
    }

pub loop-p-preserved : goal.loop-p-preserved
loop-p-preserved c =
    let z : c.loop-p.p - 1 + 1 ≡ c.loop-p.p = omega arith in
    masks_turn c.args.cols.now c.args.cells c.args.slots.now (replicate 24576 1) ones_are c.loop-p.p c.fill_holders.new.region
    (rw z at c.fill_holders.ensures) c.loop-p-test.true (omega arith) c.loop-p.masks c.add_bits.new.masks c.loop-p.invariant
    c.add_bits.ensures
