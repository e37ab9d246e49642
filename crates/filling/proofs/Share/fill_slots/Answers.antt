-- `filling::Share::fill_slots` meets its contract: a turn takes the next cell.
use Rattle.std.proofs.Common.{◌≡◌, ◌∙◌, sym, arith}
use Rattle.base.specs.Limits.{most_slots}
use Rattle.filling.proofs.Passing.{six_here, six_not, six_none, six_all, zeros_are}
use Rattle.filling.specs.Regions.{Tabled, slot_to}
use Rattle.filling.proofs.Share.fill_slots.Goals.{then-holds, else-holds}
use Rattle.filling.proofs.Share.fill_slots.Goals as goal

pub loop-c-init : goal.loop-c-init
loop-c-init c =
    let s = c.args.self.now in
    zeros_are c.args.region.now c.fill.new.self most_slots (Tabled most_slots (slot_to s.cols.now s.cells s.part c.args.slots.now 0)) (c.fill.ensures.after (λ y e. e))
    c.requires (six_none s.cols.now s.cells s.part c.args.slots.now)

pub loop-c-preserved : goal.loop-c-preserved
loop-c-preserved c =
    let s = c.args.self.now in
    elim c.if-holds.branch [
      | then-holds w ↦
          rw w.region-is (six_here s.cols.now s.cells s.part c.args.slots.now c.loop-c.c c.loop-c.region c.loop-c.invariant
          (sym c.holds.ensures ∙ w.if-holds.true) w.put_six.new.region w.put_six.ensures)
      | else-holds w ↦
          rw w.region-is (six_not s.cols.now s.cells s.part c.args.slots.now c.loop-c.c c.loop-c.region c.loop-c.invariant
          (sym c.holds.ensures ∙ w.if-holds.false))
    ]

pub returns : goal.returns
returns c =
    let s = c.args.self.now in
    let k : c.loop-c.c ≡ s.cells = omega arith in
    six_all s.cols.now s.cells s.part c.args.slots.now c.loop-c.region (rw k at c.loop-c.invariant)
