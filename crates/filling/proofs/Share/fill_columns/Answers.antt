-- `filling::Share::fill_columns` meets its contract: a turn takes the next cell.
use Rattle.std.proofs.Common.{◌≡◌, ◌∙◌, sym, arith}
use Rattle.store.specs.Fields.{columns_length}
use Rattle.filling.proofs.Passing.{column_here, column_not, column_none, column_all, zeros_are}
use Rattle.filling.specs.Regions.{Tabled, column_to}
use Rattle.filling.proofs.Share.fill_columns.Goals.{then-holds, else-holds}
use Rattle.filling.proofs.Share.fill_columns.Goals as goal

pub loop-c-init : goal.loop-c-init
loop-c-init c =
    let s = c.args.self.now in
    zeros_are c.args.region.now c.fill.new.self columns_length (Tabled columns_length (column_to s.cols.now s.cells s.part 0)) (c.fill.ensures.after (λ y e. e))
    c.requires (column_none s.cols.now s.cells s.part)

pub loop-c-preserved : goal.loop-c-preserved
loop-c-preserved c =
    let s = c.args.self.now in
    elim c.if-holds.branch [
      | then-holds w ↦
          rw w.region-is (column_here s.cols.now s.cells s.part c.loop-c.c (omega (arith, c.loop-c-test.true, s.few)) c.loop-c.region c.loop-c.invariant
          (sym c.holds.ensures ∙ w.if-holds.true) w.put_column.new.region w.put_column.ensures)
      | else-holds w ↦
          rw w.region-is (column_not s.cols.now s.cells s.part c.loop-c.c (omega (arith, c.loop-c-test.true, s.few)) c.loop-c.region c.loop-c.invariant
          (sym c.holds.ensures ∙ w.if-holds.false))
    ]

pub returns : goal.returns
returns c =
    let s = c.args.self.now in
    let k : c.loop-c.c ≡ s.cells = omega arith in
    column_all s.cols.now s.cells s.part c.loop-c.region (rw k at c.loop-c.invariant)
