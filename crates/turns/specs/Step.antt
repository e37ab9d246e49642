-- The round of counts: the work of a part on entering it. (The step of a part, with all its rounds, is in `partstep`.)
--   slot_from x k      the first slot of a level, at most 24,576
--   tallied x k       the store with the masters of the level that will be red added to their slots
--   enter_counts x k   the store tallied, with counts and the end written
use Rattle.std.specs.Prelude.{List, ℕ, ◌+◌, ◌-◌, min}
use Rattle.base.specs.Limits.{most_slots}
use Rattle.store.specs.Fields.{field, FIRST_SLOT}
use Rattle.turns.specs.Loops.{each_from}
use Rattle.turns.specs.Tally.{tally_one}
use Rattle.turns.specs.Post.{count_one, post_end}
use Rattle.turns.specs.Start.{level_from}

unfoldable pub slot_from : List ℕ → ℕ → ℕ
slot_from x k = min (field x (FIRST_SLOT + k)) most_slots

-- Rule 15.4.
unfoldable pub tallied : List ℕ → ℕ → List ℕ
unfolding level_from each_from tally_one
tallied x k = each_from tally_one (level_from x (k + 1) - level_from x k) (level_from x k) x

-- Rule 15.7.
unfoldable pub enter_counts : List ℕ → ℕ → List ℕ
unfolding slot_from tallied each_from count_one post_end
enter_counts x k = post_end (each_from count_one (slot_from x (k + 1) - slot_from x k) (slot_from x k) (tallied x k))
