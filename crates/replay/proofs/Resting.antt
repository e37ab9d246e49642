-- A mesh at rest, in the tables of a replay.
-- Assumes nothing.
use mathlib.Core.Path.{◌≡◌, refl, sym, ◌∙◌, ap}
use mathlib.Core.List.{List, ◌++◌}
use Prim.Native.Nat.{ℕ, ◌/◌, ◌≤◌}
use native.Mathlib.Omega.{arith}
use lib.IntN.{ℤ}
use lib.ListN.{length, take, replicate, length-replicate}
use lib.Seq.{take_at}
use Rattle.base.specs.Fours.{fours, length-fours}
use Rattle.base.specs.Limits.{most_cells}
use Rattle.base.specs.Refuse.{refuse, and_then, code_of}
use Rattle.base.specs.Answer.{Answer, Accepted, Refused}
use Rattle.mesh.specs.Coarse.{coarse_corner_count, mesh_answer}
use Rattle.mesh.specs.Table.{soundb}
use Rattle.tables.specs.Sound.{Mesh}
use Rattle.mesh.specs.Answers.{table_answer}
use Rattle.opening.specs.Opened.{Fits}
use Rattle.opening.specs.Accepted.{mesh_passed}
use Rattle.step.specs.Answers.{opened_held}
use Rattle.replay.specs.Run.{rest_table}
use Rattle.replay.specs.Going.{Came}
use Rattle.replay.specs.Rest.{rest_sound}

module _ (ps : List ℤ) (mesh : List ℕ) (k : ℕ) (few : length mesh / 4 ≤ 256 → k ≡ length mesh / 4) where
  abbrev zeros : List ℕ
  zeros = replicate k 0

  rest_is : Mesh (coarse_corner_count ps) mesh → zeros ≡ rest_table (fours mesh)
  rest_is m = ap (λ (j : ℕ). replicate {A = ℕ} j 0) (few (omega (arith, m.few)) ∙ sym (length-fours mesh))

  -- a table of leaves is accepted just where its mesh is
  rest_answer : table_answer ps mesh zeros ≡ mesh_answer ps mesh
  unfolding table_answer and_then refuse code_of
  rest_answer = go (mesh_answer ps mesh) refl
    where
      go : (a : Answer) → mesh_answer ps mesh ≡ a → and_then a (refuse 6 (soundb (coarse_corner_count ps) (fours mesh) zeros) Accepted) ≡ a
      go (Refused r) e = refl
      go Accepted e =
          let m = (mesh_passed ps mesh (ap code_of e)).mesh in
          rw (
            rest_is m,
            rest_sound (coarse_corner_count ps) (fours mesh) (omega (arith, length-fours mesh, m.some, m.whole))
                (omega (arith, length-fours mesh, m.few)),
          )

  pub rest_front : (table rest : List ℕ) → table ≡ zeros ++ rest → take k table ≡ zeros
  rest_front table rest e = rw e (take_at zeros rest k (length-replicate k 0))

  pub rested_answer : (table rest : List ℕ) → table ≡ zeros ++ rest → table_answer ps mesh (take k table) ≡ mesh_answer ps mesh
  rested_answer table rest e = rw (rest_front table rest e) rest_answer

  pub rested : (table rest rows xs ys : List ℕ) (cells levels mids : ℕ) → table ≡ zeros ++ rest → k ≤ 256 → most_cells ≤ length table
      → Fits ps mesh (take k table) rows xs ys cells levels mids
      → Came (coarse_corner_count ps) mesh rows table k levels (rest_table (fours mesh))
  rested table rest rows xs ys cells levels mids e f room o =
      let t : take k table ≡ zeros = rest_front table rest e in
      record {
        table_is = t ∙ rest_is o.mesh;
        going = record { held = opened_held ps mesh (take k table) rows xs ys cells levels mids o; few = omega arith; room = room };
        high = o.sound.high;
      }
