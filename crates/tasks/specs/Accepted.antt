-- An accepted split: what its answer says, and what the stores of its parts are.
--   Splits Q n qs ss os      a sound table over an accepted mesh, with the owners of Q + 1 parts, within the limits
-- Laws: splits_from (an accepted split is so), split_table, split_room, split_after_lem and split_store_lem (the table and the stores after the
-- call). What its slots, its task and its stores are is in proofs/Accepted.
use Rattle.std.specs.Prelude.{◌≡◌, Bool, ◌&&◌, List, ◌++◌, T, length, ℤ}
use Rattle.std.proofs.Common.{sym, subst, arith, leb→le}
use Rattle.std.proofs.Math.Path.{ap}
use Prim.Native.Nat.{ℕ, suc, ◌*◌, ◌≤◌, Fin}
use Rattle.std.proofs.Math.Dec.{leb}
use Rattle.base.specs.Bools.{and_right}
use Rattle.base.specs.Every.{All}
use Rattle.base.specs.Fours.{fours, length-fours}
use Rattle.base.specs.Refuse.{refuse, and_then, passed, both}
use Rattle.base.specs.Answer.{Answer}
use Rattle.base.specs.Answer.{Accepted}
use Rattle.mesh.specs.Coarse.{coarse_corner_count, cellsb, mesh_answer}
use Rattle.mesh.specs.Table.{soundb}
use Rattle.mesh.specs.Answers.{table_answer}
use Rattle.mesh.specs.Laws.{AcceptedMesh, mesh_counts, mesh_accepted}
use Rattle.lattice.specs.Levels.{fours_four}
use Rattle.store.specs.Fields.{full}
use Rattle.store.specs.Stores.{store_in}
use Rattle.parts.specs.Owners.{ownersb}
use Rattle.split.specs.Split.{stores_after, split_in, split_answer, split_after}
use Rattle.split.specs.Stored.{Stored}
use Rattle.split.proofs.Stored.{stored_split}
use Rattle.split.specs.Stored as S

-- Rule 15.17.
pub record Splits (Q n : ℕ) (qs : List (List ℕ)) (ss os : List ℕ) : Type 0 where
  pub four : All (λ q. length q ≡ 4) qs
  pub mesh : T (cellsb n qs)
  pub sound : T (soundb n qs ss)
  pub owners : T (ownersb n qs ss (suc Q) os)
  pub parts_few : suc Q ≤ 16
  pub corners_least : 4 ≤ n
  pub corners_most : n ≤ 512
  pub coarse_least : 1 ≤ length qs
  pub coarse_most : length qs ≤ 256

module _ (ps : List ℤ) (ts ss : List ℕ) (Q : ℕ) (os b : List ℕ) (e : split_answer ps ts ss (suc Q) os b ≡ Accepted) where
  abbrev n : ℕ
  n = coarse_corner_count ps

  abbrev qs : List (List ℕ)
  qs = fours ts

  abbrev last : Bool
  last = ownersb (coarse_corner_count ps) (fours ts) ss (suc Q) os

  steps : (16 * full ≤ length b) × (table_answer ps ts ss ≡ Accepted) × T (leb 1 (suc Q) && leb (suc Q) 16) × T last
  unfolding split_answer
  steps =
      let eleven = refuse 11 last Accepted in
      let ten = refuse 10 (leb 1 (suc Q) && leb (suc Q) 16) eleven in
      let (a, r) = passed 15 (leb (16 * full) (length b)) (and_then (table_answer ps ts ss) ten) e in
      let (c, d) = both (table_answer ps ts ss) ten r in
      let (f, g) = passed 10 (leb 1 (suc Q) && leb (suc Q) 16) eleven d in
      (leb→le (16 * full) (length b) a, c, f, (passed 11 last Accepted g).0)

  table : (mesh_answer ps ts ≡ Accepted) × T (soundb (coarse_corner_count ps) (fours ts) ss)
  unfolding table_answer
  table =
      let (m, t) = both (mesh_answer ps ts) (refuse 6 (soundb (coarse_corner_count ps) (fours ts) ss) Accepted) steps.1 in
      (m, (passed 6 (soundb (coarse_corner_count ps) (fours ts) ss) Accepted t).0)

  split_room : 16 * full ≤ length b
  split_room = steps.0

  pub split_table : table_answer ps ts ss ≡ Accepted
  split_table = steps.1

  pub splits_from : Splits Q (coarse_corner_count ps) (fours ts) ss os
  splits_from =
      let m : AcceptedMesh ps ts = mesh_accepted ps ts table.0 in
      let k = mesh_counts ps ts m.counts in
      let l = length-fours ts in
      record {
        four = fours_four ts;
        mesh = m.cells;
        sound = table.1;
        owners = steps.3;
        parts_few = leb→le (suc Q) 16 (and_right (leb 1 (suc Q)) (leb (suc Q) 16) steps.2);
        corners_least = k.corners_some;
        corners_most = k.corners_few;
        coarse_least = omega (arith, k.some);
        coarse_most = omega (arith, k.few);
      }

  -- the table after the call
  split_after_lem : split_after ps ts ss (suc Q) os b ≡ stores_after (coarse_corner_count ps) (fours ts) ss (suc Q) os b
  unfolding split_after split_in
  split_after_lem = ap (λ (a : Answer). split_in a (stores_after (coarse_corner_count ps) (fours ts) ss (suc Q) os b) b) e

  -- the store of a part in it, and whatever is lent behind it
  pub split_store_lem : (r : List ℕ) (p : Fin (suc Q))
      → Stored (coarse_corner_count ps) (fours ts) ss (suc Q) os (suc p.0) (store_in (split_after ps ts ss (suc Q) os b) p.0 ++ r)
  split_store_lem r p =
      subst (λ (y : List ℕ). Stored n qs ss (suc Q) os (suc p.0) (store_in y p.0 ++ r)) (sym split_after_lem)
      (stored_split n qs ss (suc Q) os b (S.fours_long ts) splits_from.parts_few split_room p.0 p.1 r)
