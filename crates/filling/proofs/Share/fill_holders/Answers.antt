-- `filling::Share::fill_holders` meets its contract: a turn takes the next cell.
use Rattle.std.proofs.Common.{◌∙◌, sym}
use Rattle.base.specs.Limits.{most_slots}
use Rattle.filling.proofs.Passing.{mark_here, mark_not, mark_none, zeros_are}
use Rattle.filling.specs.Regions.{Tabled, holder_to}
use Rattle.filling.proofs.Share.fill_holders.Goals.{then-holds, else-holds}
use Rattle.filling.proofs.Share.fill_holders.Goals as goal

pub loop-c-init : goal.loop-c-init
loop-c-init c =
    let s = c.args.self.now in
    zeros_are c.args.region.now c.fill.new.self most_slots (Tabled most_slots (holder_to s.cols.now s.cells s.part c.args.slots.now c.args.masks.now 0)) (c.fill.ensures.after (λ y e. e))
    c.requires.region_len (mark_none s.cols.now s.cells s.part c.args.slots.now c.args.masks.now)

pub loop-c-preserved : goal.loop-c-preserved
loop-c-preserved c =
    let s = c.args.self.now in
    elim c.if-holds.branch [
      | then-holds w ↦
          rw w.region-is (mark_here s.cols.now s.cells s.part c.args.slots.now c.args.masks.now c.loop-c.c c.loop-c.region c.loop-c.invariant
          (sym c.holds.ensures ∙ w.if-holds.true) w.put_masks.new.region w.put_masks.ensures)
      | else-holds w ↦
          rw w.region-is (mark_not s.cols.now s.cells s.part c.args.slots.now c.args.masks.now c.loop-c.c c.loop-c.region c.loop-c.invariant
          (sym c.holds.ensures ∙ w.if-holds.false))
    ]
