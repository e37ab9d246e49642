-- An accepted mesh with a table over it that is sound (table_meets) or accepted (examined_meets): leaves meet face to face (Rule 13.2).
use Rattle.std.specs.Prelude.{◌≡◌, List, ℕ, T, ℤ}
use Rattle.base.specs.Fours.{fours}
use Rattle.base.specs.Answer.{Accepted}
use Rattle.mesh.specs.Coarse.{coarse_corner_count, mesh_answer}
use Rattle.mesh.specs.Table.{soundb}
use Rattle.mesh.specs.Answers.{table_answer}
use Rattle.lattice.specs.Levels.{fours_four}
use Rattle.conformity.specs.Leaves.{meetb}
use Rattle.conformity.proofs.Meets.{sound_meets}
use Rattle.conformity.specs.Accepted.{mesh_parts, table_parts}

module _ (ps : List ℤ) (ts : List ℕ) where
  abbrev n : ℕ
  n = coarse_corner_count ps

  module _ (accepted : mesh_answer ps ts ≡ Accepted) where
    module _ (ss : List ℕ) (sound : T (soundb n (fours ts) ss)) where
      table_meets : T (meetb n (fours ts) ss)
      table_meets = sound_meets n (fours ts) ss (fours_four ts) (mesh_parts ps ts accepted).0 (mesh_parts ps ts accepted).1 sound

  module _ (ss : List ℕ) (e : table_answer ps ts ss ≡ Accepted) where
    pub examined_meets : T (meetb n (fours ts) ss)
    examined_meets = table_meets (table_parts ps ts ss e).0 ss (table_parts ps ts ss e).1
