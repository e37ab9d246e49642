-- What an accepted mesh says of itself, and with a table over it that is sound or accepted, of the leaves (Rules 13.1, 13.2).
-- Laws: mesh_parts (an accepted mesh), table_parts (an accepted table), table_open, examined_open; and in proofs/Accepted table_meets (a
-- sound table), examined_meets (an accepted one).
use Rattle.std.specs.Prelude.{◌≡◌, List, ℕ, T, ℤ}
use Rattle.base.specs.Fours.{fours}
use Rattle.base.specs.Refuse.{refuse, passed, both}
use Rattle.base.specs.Answer.{Accepted}
use Rattle.mesh.specs.Coarse.{coarse_corner_count, cellsb, singleb, mesh_answer}
use Rattle.mesh.specs.Table.{soundb}
use Rattle.mesh.specs.Answers.{table_answer}
use Rattle.mesh.specs.Laws.{mesh_accepted}
use Rattle.lattice.specs.Levels.{fours_four}
use Rattle.conformity.specs.Leaves.{openb}
use Rattle.conformity.specs.Open.{sound_open}

module _ (ps : List ℤ) (ts : List ℕ) where
  abbrev n : ℕ
  n = coarse_corner_count ps

  module _ (accepted : mesh_answer ps ts ≡ Accepted) where
    pub mesh_parts : T (cellsb n (fours ts)) × T (singleb (fours ts))
    mesh_parts = let m = mesh_accepted ps ts accepted in (m.cells, m.single)

    module _ (ss : List ℕ) (sound : T (soundb n (fours ts) ss)) where
      table_open : T (openb n (fours ts) ss)
      table_open = sound_open n (fours ts) ss (fours_four ts) mesh_parts.0 sound

  module _ (ss : List ℕ) (e : table_answer ps ts ss ≡ Accepted) where
    pub table_parts : (mesh_answer ps ts ≡ Accepted) × T (soundb n (fours ts) ss)
    unfolding table_answer
    table_parts =
        let (m, t) = both (mesh_answer ps ts) (refuse 6 (soundb n (fours ts) ss) Accepted) e in
        (m, (passed 6 (soundb n (fours ts) ss) Accepted t).0)

    pub examined_open : T (openb n (fours ts) ss)
    examined_open = table_open table_parts.0 ss table_parts.1
