-- The mesh, and then the steps of a job in turn.
-- Assumes nothing.
use mathlib.Core.Path.{◌≡◌, sym, ◌∙◌, ap}
use mathlib.Core.List.{List}
use Prim.Native.Nat.{ℕ}
use native.Mathlib.Omega.{arith}
use lib.IntN.{ℤ}
use lib.ListN.{length, take}
use lib.Seq.{length-take-le}
use borrow.Author.Tests.{eq-eqb, ne_eqb}
use Rattle.base.specs.Fours.{fours}
use Rattle.base.specs.Refuse.{refuse, and_then}
use Rattle.std.specs.Prelude.{Result, Ok, Err, IfOk}
use Rattle.base.specs.declared.Refusal.{Refusal}
use Rattle.base.specs.Answer.{Accepted, Refused}
use Rattle.tables.specs.declared.Sizes.{Sizes}
use Rattle.mesh.specs.Coarse.{coarse_corner_count, mesh_answer}
use Rattle.archive.specs.Tables.{pairs, steps_from, steps_of}
use Rattle.replay.specs.Run.{rest_table, run_table, flat_answer, tables_answer}
use Rattle.replay.specs.Going.{Came, step_ends, Replayed}

module _ (ps : List ℤ) (ts cs ms es : List ℕ) where
  pub ended_mesh : (k : ℕ) → Refused k ≡ mesh_answer ps ts → Refused k ≡ tables_answer ps ts cs ms es
  unfolding tables_answer and_then
  ended_mesh k e = rw (← e)

  module _ (a : Accepted ≡ mesh_answer ps ts) where
    pub ended_lengths : (length cs ≡ length ms → ⊥) → Refused 7 ≡ tables_answer ps ts cs ms es
    unfolding tables_answer and_then refuse
    ended_lengths d = rw (← a, ne_eqb (length cs) (length ms) d)

    pub ended : length cs ≡ length ms → tables_answer ps ts cs ms es ≡ flat_answer (coarse_corner_count ps) (fours ts) (rest_table (fours ts)) 0 (pairs cs ms) es
    unfolding tables_answer and_then refuse
    ended d = rw (← a, eq-eqb (length cs) (length ms) d)

  pub came_ended : (rows table : List ℕ) (c l : ℕ)
      → Came (coarse_corner_count ps) ts rows table c l (run_table (coarse_corner_count ps) (fours ts) (rest_table (fours ts)) (steps_from 0 (pairs cs ms) es))
      → Replayed ps ts cs ms es table c l
  unfolding steps_of
  came_ended rows table c l f =
      let e : take c table ≡ step_ends ps ts cs ms es = f.table_is in
      record {
        counted = ap length (sym e) ∙ length-take-le c table (omega (arith, f.going.few, f.going.room));
        few = f.going.few;
        table_is = e;
        sound = rw e at f.going.held.sound;
        high = rw e at f.high;
      }

  pub all_ended : (rows table : List ℕ) (r : Result Sizes Refusal) → IfOk r (λ s. Came (coarse_corner_count ps) ts rows table s.cells s.levels
      (run_table (coarse_corner_count ps) (fours ts) (rest_table (fours ts)) (steps_from 0 (pairs cs ms) es)))
      → IfOk r (λ s. Replayed ps ts cs ms es table s.cells s.levels)
  all_ended rows table (Ok s) f = came_ended rows table s.cells s.levels f
  all_ended rows table (Err e) f = tt
