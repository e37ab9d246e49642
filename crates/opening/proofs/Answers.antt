-- The answer to a mesh with its table, from what their tests answer.
-- Laws: table_mesh (a mesh that is refused), table_examined and examined_fits (one that is not).
use Rattle.std.proofs.Common.{◌≡◌, sym, ap, ℕ, List, Result, Ok, Err, IfOk, T, length}
use Rattle.std.specs.Prelude.{ℤ}
use Rattle.base.specs.Fours.{fours}
use Rattle.base.specs.Answer.{Accepted, Refused}
use Rattle.base.specs.Refuse.{and_then, answered, code_of, passed, refuse}
use Rattle.base.specs.declared.Refusal.{Refusal}
use Rattle.mesh.specs.Coarse.{coarse_corner_count, mesh_answer}
use Rattle.mesh.specs.Table.{soundb}
use Rattle.mesh.specs.Answers.{table_answer}
use Rattle.tables.specs.Sound.{LaidSound, sound_answer}
use Rattle.tables.specs.declared.Sizes.{Sizes}
use Rattle.opening.specs.Accepted.{mesh_passed}
use Rattle.opening.specs.Opened.{Fits}

module _ (ps : List ℤ) (ts ss : List ℕ) where
  pub table_mesh : {k : ℕ} → Refused k ≡ mesh_answer ps ts → Refused k ≡ table_answer ps ts ss
  unfolding table_answer and_then
  table_mesh e = rw (← e)

  module _ (a : Accepted ≡ mesh_answer ps ts) where
    pub table_examined : sound_answer (coarse_corner_count ps) (fours ts) ss ≡ table_answer ps ts ss
    unfolding table_answer and_then
    table_examined = rw (← a)

    pub examined_fits : (rows xs ys : List ℕ) (m : ℕ) (r : Result Sizes Refusal)
        → answered r ≡ sound_answer (coarse_corner_count ps) (fours ts) ss
        → IfOk r (λ s. LaidSound (coarse_corner_count ps) (fours ts) ss rows xs ys s.cells s.levels m × (s.coarse ≡ length (fours ts)))
        → IfOk r (λ s. Fits ps ts ss rows xs ys s.cells s.levels m)
    unfolding code_of
    examined_fits rows xs ys m (Err k) e l = tt
    examined_fits rows xs ys m (Ok s) e l =
        let p = mesh_passed ps ts (ap code_of (sym a)) in
        record {
          mesh = p.mesh;
          positions = p.positions;
          table = (passed 6 (soundb (coarse_corner_count ps) (fours ts) ss) Accepted (sym e)).0;
          sound = l.0;
        }
