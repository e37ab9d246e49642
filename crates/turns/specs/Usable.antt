-- What the work of a part asks of its store: the length and a header in its ranges.
use Rattle.std.specs.Prelude.{List, ℕ, ◌≤◌, length}
use Rattle.std.proofs.Common.{arith}
use Rattle.base.specs.Limits.{most_cells, most_levels, most_parts}
use Rattle.store.specs.Fields.{field, full, PART, PARTS, CELLS, LEVELS}
use Rattle.turns.specs.Loops.{SameHead}

pub record Usable (x : List ℕ) : Type 0 where
  pub long : full ≤ length x
  pub part_least : 1 ≤ field x PART
  pub part_most : field x PART ≤ field x PARTS
  pub parts_most : field x PARTS ≤ most_parts
  pub cells_most : field x CELLS ≤ most_cells
  pub levels_least : 1 ≤ field x LEVELS
  pub levels_most : field x LEVELS ≤ most_levels

pub usable_same : (x y : List ℕ) → SameHead x y → Usable x → Usable y
usable_same x y h u = record {
  long = omega (arith, h.size, u.long);
  part_least = omega (arith, h.head 1 (omega arith), u.part_least);
  part_most = omega (arith, h.head 1 (omega arith), h.head 2 (omega arith), u.part_most);
  parts_most = omega (arith, h.head 2 (omega arith), u.parts_most);
  cells_most = omega (arith, h.head 5 (omega arith), u.cells_most);
  levels_least = omega (arith, h.head 6 (omega arith), u.levels_least);
  levels_most = omega (arith, h.head 6 (omega arith), u.levels_most);
}
