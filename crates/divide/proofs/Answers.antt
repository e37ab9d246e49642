-- The answer of a split, condition by condition, and what the lent table then holds.
--   Split ps ts ss P os b r b'    the answer r and the table after
-- Laws: split_short, split_table, split_parts, split_owners, split_yes (each return), divisible_of, kids_known, owned_is
-- (what the work asks for).
use mathlib.Core.Path.{◌≡◌, refl, sym, ◌∙◌, ap}
use mathlib.Core.Bool.{Bool, true, false, ◌&&◌}
use mathlib.Core.List.{List, ◌++◌}
use Prim.Native.Nat.{ℕ, suc, ◌*◌, ◌/◌, ◌≤◌, ◌<◌}
use native.Mathlib.Omega.{arith}
use lib.Dec.{eqb, leb, eqb→eq, leb→le}
use lib.IntN.{ℤ}
use lib.ListN.{length, take}
use borrow.Author.Tests.{le-leb, lt-leb}
use Rattle.base.specs.Bools.{is_true, not_both, and_right}
use Rattle.base.specs.Fours.{fours, length-fours}
use Rattle.base.specs.Limits.{most_cells, most_parts, most_coarse_cells}
use Rattle.base.specs.Lists.{allb}
use Rattle.base.specs.Refuse.{refuse, and_then}
use Rattle.base.specs.Answer.{Answer}
use Rattle.base.specs.Answer.{Accepted, Refused}
use Rattle.mesh.specs.Coarse.{coarse_corner_count}
use Rattle.mesh.specs.Table.{soundb}
use Rattle.mesh.specs.Answers.{table_answer}
use Rattle.counting.specs.Sound.{sound_counted}
use Rattle.opening.specs.Opened.{Fits}
use Rattle.lineage.specs.Firsts.{first_children, firsts_taken}
use Rattle.parts.specs.Owners.{ownersb}
use Rattle.store.specs.Fields.{full}
use Rattle.split.specs.Split.{stores_after, split_answer, split_in, split_after}
use Rattle.columns.specs.Ten.{FirstKids, owners_by}
use Rattle.divide.specs.Divisible.{Divisible}
use Rattle.divide.proofs.Laid.{owners_are}
use Rattle.divide.proofs.Whole.{table_of, kids_of_lem}

module _ (ps : List ℤ) (ts ss : List ℕ) (P : ℕ) (os b : List ℕ) where
  abbrev owned : Bool
  owned = ownersb (coarse_corner_count ps) (fours ts) ss P os

  abbrev pub Split : Answer → List ℕ → Type 0
  Split r x = (r ≡ split_answer ps ts ss P os b) × (x ≡ split_after ps ts ss P os b)

  refused : (k : ℕ) → split_answer ps ts ss P os b ≡ Refused k → Split (Refused k) b
  unfolding split_after split_in
  refused k e = (sym e, sym (ap (λ (a : Answer). split_in a (stores_after (coarse_corner_count ps) (fours ts) ss P os b) b) e))

  accepted : split_answer ps ts ss P os b ≡ Accepted → (x : List ℕ) → x ≡ stores_after (coarse_corner_count ps) (fours ts) ss P os b → Split
      Accepted x
  unfolding split_after split_in
  accepted e x q = (sym e, q ∙ sym (ap (λ (a : Answer). split_in a (stores_after (coarse_corner_count ps) (fours ts) ss P os b) b) e))

  -- the answer from its tests
  told : Bool → Answer → Bool → Bool → Answer
  told room table within own = refuse 15 room (and_then table (refuse 10 within (refuse 11 own Accepted)))

  is_told : split_answer ps ts ss P os b ≡ told (leb (most_parts * full) (length b)) (table_answer ps ts ss) (leb 1 P && leb P most_parts) owned
  unfolding split_answer told refuse
  is_told = refl

  pub split_short : length b < most_parts * full → Split (Refused 15) b
  unfolding told refuse
  split_short h =
      refused 15 (is_told ∙ ap (λ (x : Bool). told x (table_answer ps ts ss) (leb 1 P && leb P most_parts) owned)
      (lt-leb (most_parts * full) (length b) h))

  module _ (room : most_parts * full ≤ length b) where
    here : split_answer ps ts ss P os b ≡ told true (table_answer ps ts ss) (leb 1 P && leb P most_parts) owned
    here = is_told ∙ ap (λ (x : Bool). told x (table_answer ps ts ss) (leb 1 P && leb P most_parts) owned)
        (le-leb (most_parts * full) (length b) room)

    pub split_table : (k : ℕ) → Refused k ≡ table_answer ps ts ss → Split (Refused k) b
    unfolding told refuse and_then
    split_table k e = refused k (here ∙ ap (λ (x : Answer). told true x (leb 1 P && leb P most_parts) owned) (sym e))

    module _ (e : Accepted ≡ table_answer ps ts ss) where
      next : split_answer ps ts ss P os b ≡ told true Accepted (leb 1 P && leb P most_parts) owned
      next = here ∙ ap (λ (x : Answer). told true x (leb 1 P && leb P most_parts) owned) (sym e)

      pub split_parts : (leb 1 P && leb P most_parts) ≡ false → Split (Refused 10) b
      unfolding told refuse and_then
      split_parts h = refused 10 (next ∙ ap (λ (x : Bool). told true Accepted x owned) h)

      module _ (h : (leb 1 P && leb P most_parts) ≡ true) where
        last : split_answer ps ts ss P os b ≡ told true Accepted true owned
        last = next ∙ ap (λ (x : Bool). told true Accepted x owned) h

        pub split_owners : ownersb (coarse_corner_count ps) (fours ts) ss P os ≡ false → Split (Refused 11) b
        unfolding told refuse and_then
        split_owners o = refused 11 (last ∙ ap (told true Accepted true) o)

        pub split_yes : ownersb (coarse_corner_count ps) (fours ts) ss P os ≡ true → (x : List ℕ)
            → x ≡ stores_after (coarse_corner_count ps) (fours ts) ss P os b → Split Accepted x
        unfolding told refuse and_then
        split_yes o x q = accepted (last ∙ ap (told true Accepted true) o) x q

-- the parts are few
pub parts_few : (P : ℕ) → (leb 1 P && leb P most_parts) ≡ true → P ≤ most_parts
parts_few P h = leb→le P most_parts (and_right (leb 1 P) (leb P most_parts) (rw h tt))

owners_many : (n : ℕ) (qs : List (List ℕ)) (ss : List ℕ) (P : ℕ) (os : List ℕ) → ownersb n qs ss P os ≡ true → length os ≡ length ss
unfolding ownersb
owners_many n qs ss P os t = go (eqb (length os) (length ss)) refl t
  where
    go : (b : Bool) → eqb (length os) (length ss) ≡ b → ownersb n qs ss P os ≡ true → length os ≡ length ss
    go true e u = eqb→eq (length os) (length ss) (rw e tt)
    go false e u = not_both (ownersb n qs ss P os) u (rw e)

-- what an opened table gives
module _ (ps : List ℤ) (ts ss rows xs ys : List ℕ) (cells levels m : ℕ) (f : Fits ps ts ss rows xs ys cells levels m) where
  abbrev n : ℕ
  n = coarse_corner_count ps

  pub statuses_few : allb (λ s. leb s 64) ss ≡ true
  statuses_few = (sound_counted n (fours ts) ss (is_true (soundb n (fours ts) ss) f.table)).statuses

  pub cells_few : length ss ≤ most_cells
  cells_few = (sound_counted n (fours ts) ss (is_true (soundb n (fours ts) ss) f.table)).small

  pub coarse_small : length ts / 4 ≤ most_coarse_cells
  coarse_small = omega (arith, f.mesh.few)

  module _ (ks rest : List ℕ) (made : ks ≡ first_children (length ts / 4) ss ++ rest) where
    firsts : take (suc (length ss)) ks ≡ first_children (length (fours ts)) ss
    firsts = rw (length-fours ts) (firsts_taken (length ts / 4) ss ks rest made)

    divisible_of : (os : List ℕ) (P : ℕ) (b : List ℕ) → length os ≡ length ss → P ≤ most_parts → most_parts * full ≤ length b
        → Divisible n ts ss rows ks os P levels b
    divisible_of os P b l h r =
        record {
          mesh = f.mesh;
          sound = f.table;
          table = rw f.sound.counted f.sound.table;
          kids = firsts;
          owners = l;
          parts = h;
          high = sym f.sound.high;
          room = r;
        }

    module _ (P : ℕ) (b : List ℕ) (h : P ≤ most_parts) (r : most_parts * full ≤ length b) where
      some : Divisible n ts ss rows ks ss P levels b
      some = divisible_of ss P b refl h r

      pub kids_known : FirstKids ks (length ss)
      kids_known = kids_of_lem n ts ss rows ks ss P levels b some

      pub owned_is : (os : List ℕ) → owners_by ss ks P os ≡ ownersb n (fours ts) ss P os
      owned_is os = owners_are n (fours ts) ss rows ks (table_of n ts ss rows ks ss P levels b some) P os

      pub divisible_known : (os : List ℕ) → ownersb n (fours ts) ss P os ≡ true → Divisible n ts ss rows ks os P levels b
      divisible_known os t = divisible_of os P b (owners_many n (fours ts) ss P os t) h r
