-- `filling::Share::fill_columns` meets its contract: a turn takes the next cell.
use Rattle.store.specs.Fields.{columns_length}
use Rattle.filling.specs.Regions.{Tabled, column_to}
use Rattle.filling.proofs.Share.fill_columns.Given as goal

abbrev pub invariant-loop-c : goal.invariant-loop-c
invariant-loop-c l = Tabled columns_length (column_to l.self.cols.now l.self.cells l.self.part l.c) l.region
