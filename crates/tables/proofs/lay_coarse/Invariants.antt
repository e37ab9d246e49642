-- `tables::lay_coarse` meets its contract: a turn writes the row of the next coarse cell.
use Rattle.std.proofs.Common.{◌≡◌, ◌*◌, take}
use mathlib.Core.List.{flat_map}
use Rattle.base.specs.Fours.{fours}
use Rattle.tables.specs.Start.{coarse_row}
use Rattle.tables.proofs.lay_coarse.Given as goal

abbrev pub invariant-loop-c : goal.invariant-loop-c
invariant-loop-c l = take (8 * l.c) l.rows ≡ flat_map coarse_row (take l.c (fours l.mesh))
