-- One step in the tables of a replay.
-- Assumes nothing.
use mathlib.Core.Path.{◌≡◌, refl, ◌∙◌}
use mathlib.Core.Bool.{Bool, true, false}
use mathlib.Core.List.{List, ◌++◌}
use Prim.Native.Nat.{ℕ, ◌≤◌}
use native.Mathlib.Omega.{arith}
use lib.Dec.{T}
use lib.ListN.{length, take, drop}
use lib.Seq.{take_at, length-take-le}
use Rattle.base.specs.Bools.{not_both}
use Rattle.base.specs.Fours.{fours}
use Rattle.base.specs.Limits.{most_cells}
use Rattle.base.specs.Refuse.{refuse}
use Rattle.std.specs.Prelude.{Result, IfOk}
use Rattle.base.specs.declared.Refusal.{Refusal}
use Rattle.base.specs.Answer.{Refused}
use Rattle.tables.specs.declared.Sizes.{Sizes}
use Rattle.mesh.specs.Table.{soundb}
use Rattle.mesh.specs.Answers.{marksb, limits_answer, new_table}
use Rattle.replay.specs.Run.{spread, one_answer, one_table}
use Rattle.replay.specs.Scan.{Spread, Fitting}
use Rattle.tables.specs.Sound.{Mesh, LaidSound}
use Rattle.replay.specs.Going.{Came}

-- a table with its front written
pub front : (k : ℕ) (from old new : List ℕ) → k ≤ length from → new ≡ take k from ++ drop k old → take k new ≡ take k from
front k from old new h e = rw e (take_at (take k from) (drop k old) k (length-take-le k from h))

-- the marks are examined
module _ (ss : List ℕ) (ms : List (ℕ × ℕ)) (new : List ℕ) where
  pub fitting_missed : Spread (length ss) ms new false → Fitting ss ms new false
  fitting_missed s =
      record {
        answer = rw (← s.answer);
        marks = λ z. not_both false z refl;
      }

  pub fitting_tested : Spread (length ss) ms new true → (r : Bool) → r ≡ marksb ss (take (length ss) new) → Fitting ss ms new r
  fitting_tested s r e =
      record {
        answer = e ∙ rw (← s.answer, s.marks refl);
        marks = λ z. s.marks refl;
      }

-- a table with its rows
pub relaid : (n : ℕ) (mesh new table₀ table rows ps qs : List ℕ) (cells levels mids k : ℕ) → Mesh n mesh
    → T (soundb n (fours mesh) (take cells new)) → cells ≤ most_cells → most_cells ≤ length new → most_cells ≤ length table
    → table ≡ take cells new ++ drop cells table₀ → LaidSound n (fours mesh) (take cells table) rows ps qs k levels mids
    → Came n mesh rows table cells levels (take cells new)
relaid n mesh new table₀ table rows ps qs cells levels mids k m s few room lent w l =
    let t : take cells table ≡ take cells new = front cells new table₀ table (omega arith) w in
    record {
      table_is = t;
      going = record {
        held = record { accepted = m; sound = rw t s; table = rw l.counted l.table };
        few = few;
        room = lent;
      };
      high = l.high;
    }

-- a step by its marked cells
module _ (n : ℕ) (qs : List (List ℕ)) (old : List ℕ) (ms : List (ℕ × ℕ)) (out : List ℕ) where
  pub moved_missed : Fitting old ms out false → one_answer n qs old ms ≡ Refused 7
  unfolding one_answer refuse
  moved_missed f = rw (← f.answer)

  pub moved_on : Fitting old ms out true → (j : ℕ) → length old ≡ j → one_answer n qs old ms ≡ limits_answer n qs old (take j out)
  unfolding one_answer refuse
  moved_on f j e =
      let t : take j out ≡ spread (length old) ms = rw (← e) (f.marks refl) in
      rw (← f.answer, ← t)

  pub moved_table : Fitting old ms out true → (j : ℕ) → length old ≡ j → one_table n qs old ms ≡ new_table n qs old (take j out)
  moved_table f j e =
      let t : take j out ≡ spread (length old) ms = rw (← e) (f.marks refl) in
      rw (← t)

  pub moved_all : Fitting old ms out true → (j : ℕ) → length old ≡ j → (mesh rows table : List ℕ) (r : Result Sizes Refusal)
      → IfOk r (λ s. Came n mesh rows table s.cells s.levels (new_table n qs old (take j out)))
      → IfOk r (λ s. Came n mesh rows table s.cells s.levels (one_table n qs old ms))
  moved_all f j e mesh rows table r w = rw (moved_table f j e) w
