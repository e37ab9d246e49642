-- An accepted mesh passes its tests; what these say.
-- Assumes nothing.
use Rattle.std.specs.Prelude.{◌≡◌, List, ℕ, T, ℤ}
use Rattle.std.proofs.Common.{◌∙◌, arith}
use Rattle.base.specs.Answer.{Accepted}
use Rattle.mesh.specs.Coarse.{coarse_corner_count, positionsb, mesh_answer}
use Rattle.mesh.specs.Laws.{mesh_counts, mesh_accepted, mesh_code}
use Rattle.tables.specs.Sound.{Mesh}
use Rattle.base.specs.Refuse.{code_of, answer_none}

pub record Passed (ps : List ℤ) (ts : List ℕ) : Type 0 where
  pub accepted : mesh_answer ps ts ≡ Accepted
  pub positions : T (positionsb ps)
  pub mesh : Mesh (coarse_corner_count ps) ts

module _ (ps : List ℤ) (ts : List ℕ) where
  pub mesh_passed : code_of (mesh_answer ps ts) ≡ 0 → Passed ps ts
  mesh_passed z =
      let a : mesh_answer ps ts ≡ Accepted = mesh_code ps ts ∙ answer_none (code_of (mesh_answer ps ts)) z in
      let m = mesh_accepted ps ts a in
      let k = mesh_counts ps ts m.counts in
      record {
        accepted = a;
        positions = m.positions;
        mesh = record {
          whole = k.fours;
          few = omega (arith, k.fours, k.few);
          some = omega (arith, k.some);
          corners = k.corners_few;
          cells = m.cells;
        };
      }
