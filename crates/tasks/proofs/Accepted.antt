-- Laws of an accepted split: split_slots and split_bound (its slots, and how small its task is), split_columns, split_header, split_marks
-- and split_before (a store of it, by `Columns` and `Idle`).
use Rattle.std.specs.Prelude.{◌≡◌, true, List, length, get_or}
use Prim.Native.Nat.{ℕ, suc, ◌≤◌, Fin}
use Rattle.soundness.specs.Sound.{sound_parts}
use Rattle.exchange.specs.Finite.{parts}
use Rattle.rounds.specs.Bound.{SmallTask}
use Rattle.store.specs.Fields.{field, CELLS}
use Rattle.store.specs.Header.{headerb}
use Rattle.turns.specs.Start.{marks_due}
use Rattle.parts.specs.Starts.{startb, place_on}
use Rattle.splitting.specs.Admissible.{owners_counted}
use Rattle.splitting.specs.Split.{Slots}
use Rattle.entering.specs.Columns.{Columns, count_before}
use Rattle.split.specs.Columns.{slot_of}
use Rattle.split.specs.Stored.{Stored}
use Rattle.tasks.specs.Edges.{slots_on}
use Rattle.tasks.proofs.Edges.{slots_split}
use Rattle.tasks.specs.Holders.{split_task}
use Rattle.tasks.proofs.Sizes.{split_small}
use Rattle.tasks.proofs.Columns.{columns_of}
use Rattle.tasks.specs.Idle.{idle_header, marks_due_lem, marks_before}
use Rattle.tasks.specs.Accepted.{Splits}

module _ (Q n : ℕ) (qs : List (List ℕ)) (ss os : List ℕ) (g : Splits Q n qs ss os) where
  pub split_slots : Slots n qs ss (slot_of n qs ss) (slots_on n qs ss)
  split_slots = slots_split n qs ss g.four g.mesh g.sound

  pub split_bound : SmallTask (parts (suc Q)) (split_task Q n qs ss os) (length ss)
  split_bound = split_small n qs ss (sound_parts n qs ss g.sound) Q os

  module _ (p : Fin (suc Q)) (x : List ℕ) (st : Stored n qs ss (suc Q) os (suc p.0) x) where
    pub split_columns : Columns (suc Q) (split_task Q n qs ss os) p x
    split_columns =
        columns_of Q n qs ss os g.four g.mesh g.sound g.owners p x st g.parts_few g.coarse_least g.coarse_most

    pub split_header : headerb x ≡ true
    split_header =
        idle_header n qs ss (suc Q) os p.0 x g.sound st g.parts_few p.1 g.corners_least g.corners_most g.coarse_least
        g.coarse_most

    pub split_marks : (ms : List ℕ) → marks_due x ms (field x CELLS) 0 0 ≡ startb ss os (suc p.0) ms
    split_marks = marks_due_lem n qs ss (suc Q) os p.0 x g.sound st (owners_counted n qs ss (suc Q) os g.owners).many

    pub split_before : (c : ℕ) → c ≤ length ss → get_or os c 0 ≡ suc p.0 → count_before x c ≡ place_on os c
    split_before = marks_before n qs ss (suc Q) os p.0 x g.sound st
