-- The limits, by name.
use Rattle.std.specs.Prelude.{ℕ, ◌+◌, ◌*◌}

-- Rule 1.2: of a coarse mesh.
abbrev pub most_coarse_corners : ℕ
most_coarse_corners = 512

-- Rule 1.2.
abbrev pub most_coarse_cells : ℕ
most_coarse_cells = 256

-- Rule 3.4: of a table, over all levels.
abbrev pub most_cells : ℕ
most_cells = 4096

-- Rule 5.7: what these can have.
abbrev pub most_corners : ℕ
most_corners = 16384

-- Rule 3.4: levels 0 to 10.
abbrev pub most_levels : ℕ
most_levels = 11

-- Rule 3.4: the highest of them.
abbrev pub top_level : ℕ
top_level = 10

-- Rule 15.1: parts of a split.
abbrev pub most_parts : ℕ
most_parts = 16

-- Rule 15.5: edges of a table, those of each level by themselves; six a cell.
abbrev pub most_slots : ℕ
most_slots = 6 * most_cells

-- Rule 15.10: stands for every number of cells above the limit.
abbrev pub too_many : ℕ
too_many = most_cells + 1

-- Rule 10.5: of an archive, in bytes.
abbrev pub most_bytes : ℕ
most_bytes = 65536

-- Full lengths of lent tables (rule 9.1).
-- Rule 9.2: eight numbers a cell.
abbrev pub full_rows : ℕ
full_rows = 8 * most_cells

-- Rule 9.3: two ends a corner.
abbrev pub full_ends : ℕ
full_ends = 2 * most_corners

-- Rule 9.4: three sums a corner.
abbrev pub full_sums : ℕ
full_sums = 3 * most_corners

-- Rule 9.5: four counts a level.
abbrev pub full_counts : ℕ
full_counts = 4 * most_levels

-- Rule 9.7: three coordinates a coarse corner.
abbrev pub full_positions : ℕ
full_positions = 3 * most_coarse_corners

-- Rule 9.7: four corners a coarse cell.
abbrev pub full_coarse : ℕ
full_coarse = 4 * most_coarse_cells

-- Rule 9.7: marks of a job; no archive has more, as each takes four bytes.
abbrev pub most_marks : ℕ
most_marks = 16384
