-- The task that a split table is, and that its flags are those of the step (sections 7 and 15 of the method).
--   Slots           numbers for the edges of each level: one for each edge, whichever cells have it
--   Owners          children of one cell have its family's owner
--   inner_of d e     the edge e of the cell d is not also its parent's
--   task_of          the task; part gives the part with a number
-- Laws: owners_fit (what the test of the owners says), leaf_owner (a leaf has no family), fits (it is a fit task); and in proofs/Split
-- flags_red (its flags are the new red cells), hits (its slots of new red cells are their edges).
use Rattle.std.specs.Prelude.{◌≡◌, T, leb}
use Rattle.std.proofs.Math.Path.{ap}
use Rattle.std.proofs.Common.{eqb→eq}
use Rattle.std.proofs.Math.Bool.{Bool, ◌&&◌, not}
use mathlib.Core.List.{List, []}
use Prim.Native.Nat.{ℕ, ◌<◌, pred}
use native.Mathlib.Omega.{arith}
use Rattle.std.proofs.Math.Dec.{eqb}
use Rattle.std.proofs.Math.ListN.{length, get_or}
use Rattle.base.specs.Lists.{allb, sameb}
use Rattle.base.specs.Bools.{and_right}
use Rattle.base.specs.Range.{range, range_member}
use Rattle.mesh.specs.Cells.{edge, edges, joinsb, heldb}
use Rattle.mesh.specs.Table.{levels_of}
use Rattle.mesh.specs.Layout.{edge_numbers}
use Rattle.soundness.specs.Sound.{Sound}
use Rattle.base.specs.Member.{Member}
use Rattle.rounds.specs.Task.{Task, Fit}
use Rattle.parts.specs.Owners.{nth_cell, children_of, family_of, ownersb}
use Rattle.splitting.specs.Members.{all_member, first_none}
use Rattle.splitting.specs.Numbers.{numbers_of, kid, number_inside, one_level}

-- Rule 5.4.
pub record Slots (n : ℕ) (qs : List (List ℕ)) (ss : List ℕ) (slot : ℕ → ℕ → ℕ) (slots : ℕ → List ℕ) : Type 0 where
  pub there : (k c e : ℕ) → Member c (numbers_of n qs ss k) → Member e edge_numbers → Member (slot c e) (slots k)
  pub apart : (j k x : ℕ) → Member x (slots j) → Member x (slots k) → j ≡ k
  pub same : (k c d e f : ℕ) → Member c (numbers_of n qs ss k) → Member d (numbers_of n qs ss k) → Member e edge_numbers → Member f edge_numbers
      → eqb (slot d f) (slot c e) ≡ joinsb sameb (edge [] (nth_cell n qs ss c) e) (edge [] (nth_cell n qs ss d) f)

-- Rule 15.1.
abbrev pub Owners : ℕ → List (List ℕ) → List ℕ → List ℕ → Type 0
Owners n qs ss os = (c d : ℕ) → c < length ss → Member d (children_of n qs ss c) → get_or os d 0 ≡ family_of n qs ss os c

pub owners_fit : (n : ℕ) (qs : List (List ℕ)) (ss : List ℕ) (P : ℕ) (os : List ℕ) → T (ownersb n qs ss P os) → Owners n qs ss os
unfolding ownersb
owners_fit n qs ss P os t c d h m =
    let each = and_right (eqb (length os) (length ss) && allb (λ o. leb 1 o && leb o P) os)
    (allb (λ c. allb (λ d. eqb (get_or os d 0) (family_of n qs ss os c)) (children_of n qs ss c)) (range 0 (length ss))) t in
    let one = all_member (λ c. allb (λ d. eqb (get_or os d 0) (family_of n qs ss os c)) (children_of n qs ss c)) (range 0 (length ss)) each c
    (range_member 0 (length ss) c (omega arith) (omega arith)) in
    eqb→eq (get_or os d 0) (family_of n qs ss os c)
    (all_member (λ d. eqb (get_or os d 0) (family_of n qs ss os c)) (children_of n qs ss c) one d m)

-- Rule 7.5.
unfoldable pub inner_of : ℕ → List (List ℕ) → List ℕ → ℕ → ℕ → Bool
unfolding heldb edges edge nth_cell sameb
inner_of n qs ss d e =
    not (heldb sameb (edges [] (nth_cell n qs ss (nth_cell n qs ss d).parent)) (edge [] (nth_cell n qs ss d) e))

abbrev pub task_of : {Part : Type 0} → ℕ → List (List ℕ) → List ℕ → (ℕ → ℕ → ℕ) → (ℕ → List ℕ) → List ℕ → (ℕ → Part) → Task Part
task_of n qs ss slot slots os part =
    record {
      top = pred (length (levels_of n qs ss));
      cells = numbers_of n qs ss;
      slots = slots;
      status = λ c. get_or ss c 0;
      regular = λ c. (nth_cell n qs ss c).regular;
      kids = children_of n qs ss;
      inner = inner_of n qs ss;
      slot = slot;
      path = λ c. (nth_cell n qs ss c).path;
      parent = λ c. (nth_cell n qs ss c).parent;
      owner = λ c. part (get_or os c 0);
      family = λ c. part (family_of n qs ss os c);
    }

module _ (n : ℕ) (qs : List (List ℕ)) (ss : List ℕ) (s : Sound n qs ss) (os : List ℕ) where
  pub leaf_owner : (k c : ℕ) → Member c (numbers_of n qs ss k) → get_or ss c 0 ≡ 0 → family_of n qs ss os c ≡ get_or os c 0
  unfolding family_of
  leaf_owner k c m z = first_none (λ d. get_or os d 0) (get_or os c 0) (children_of n qs ss c) (λ d q. (kid n qs ss s k c d m q).refined z)

module _ {Part : Type 0} (n : ℕ) (qs : List (List ℕ)) (ss : List ℕ) (s : Sound n qs ss) (slot : ℕ → ℕ → ℕ) (slots : ℕ → List ℕ)
    (sl : Slots n qs ss slot slots)
    (os : List ℕ) (own : Owners n qs ss os) (part : ℕ → Part) where
  abbrev J : Task Part
  J = task_of n qs ss slot slots os part

  pub fits : Fit J
  fits =
      record {
        kid_level = λ k c j m q. (kid n qs ss s k c j m q).up;
        kid_owner = λ k c j m q. ap part (own c j (number_inside n qs ss s k c m) q);
        leaf_family = λ k c m z. ap part (leaf_owner n qs ss s os k c m z);
        slot_level = sl.there;
        one_level = one_level n qs ss s;
        one_slot = sl.apart;
      }
