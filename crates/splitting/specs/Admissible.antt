-- A table with accepted owners meets the conditions A1 to A6 of source 001 (section 4.2).
--   Admissible n qs ss P os    the conditions, for the parts 1 to P
-- Law: admissible (the theorem).
use Rattle.std.specs.Prelude.{◌≡◌, refl, ◌≢◌, Bool, true, false, ◌&&◌, ◌||◌, not, ℕ, ◌≤◌, ◌<◌, get_or}
use Rattle.std.proofs.Math.Path.{sym}
use Rattle.std.proofs.Common.{◌∙◌, arith, eq-eqb}
use mathlib.Core.List.{List, [], ◌∷◌}
use Rattle.std.proofs.Math.Dec.{T, eqb, eqb→eq, leb, leb→le}
use Rattle.std.proofs.Math.ListN.{length}
use Rattle.base.specs.Lists.{allb, allb_at}
use Rattle.base.specs.Bools.{is_true, is_false, and_left, and_right, not_both}
use Rattle.base.specs.Range.{range}
use Rattle.base.specs.Member.{Member, member_head}
use Rattle.parts.specs.Owners.{children_of, first_or, family_of, ownersb}
use Rattle.parts.specs.Held.{masterb, ghostb}
use Rattle.splitting.specs.Split.{owners_fit}

module _ (n : ℕ) (qs : List (List ℕ)) (ss : List ℕ) (P : ℕ) (os : List ℕ) where
  -- Rule 15.2.
  pub record Admissible : Type 0 where
    -- masters and ghosts of a part are apart
    pub A1 : (p c : ℕ) → T (masterb os p c) → T (ghostb n qs ss os p c) → ⊥
    -- each cell is a master
    pub A2 : (c : ℕ) → c < length ss → (p : ℕ) × (1 ≤ p) × (p ≤ P) × T (masterb os p c)
    -- with one part only
    pub A3 : (p q c : ℕ) → T (masterb os p c) → T (masterb os q c) → p ≡ q
    -- a child is with its parent, or with its parent's ghost
    pub A4 : (p c d : ℕ) → c < length ss → Member d (children_of n qs ss c) → T (masterb os p d)
        → T (masterb os p c || ghostb n qs ss os p c)
    -- ghosts have children
    pub A5 : (p c : ℕ) → T (ghostb n qs ss os p c) → (d : ℕ) × Member d (children_of n qs ss c)
    -- and have them with them
    pub A6 : (p c d : ℕ) → c < length ss → T (ghostb n qs ss os p c) → Member d (children_of n qs ss c) → T (masterb os p d)

  -- what the test says of each owner
  pub record Ranged : Type 0 where
    pub many : length os ≡ length ss
    pub each : (c : ℕ) → c < length ss → (1 ≤ get_or os c 0) × (get_or os c 0 ≤ P)

  pub owners_counted : T (ownersb n qs ss P os) → Ranged
  unfolding ownersb
  owners_counted t =
      let a = and_left (eqb (length os) (length ss) && allb (λ o. leb 1 o && leb o P) os)
      (allb (λ c. allb (λ d. eqb (get_or os d 0) (family_of n qs ss os c)) (children_of n qs ss c)) (range 0 (length ss))) t in
      let many : length os ≡ length ss =
      eqb→eq (length os) (length ss) (and_left (eqb (length os) (length ss)) (allb (λ o. leb 1 o && leb o P) os) a) in
      let all : T (allb (λ o. leb 1 o && leb o P) os) = and_right (eqb (length os) (length ss)) (allb (λ o. leb 1 o && leb o P) os) a in
      record {
        many = many;
        each = λ c h.
            let u = allb_at (λ o. leb 1 o && leb o P) 0 os all c (omega arith) in (
              leb→le 1 (get_or os c 0) (and_left (leb 1 (get_or os c 0)) (leb (get_or os c 0) P) u),
              leb→le (get_or os c 0) P (and_right (leb 1 (get_or os c 0)) (leb (get_or os c 0) P) u),
            );
      }

  some_child : (l : List ℕ) (c : ℕ) → first_or (λ d. get_or os d 0) (get_or os c 0) l ≢ get_or os c 0 → (d : ℕ) × Member d l
  unfolding first_or
  some_child [] c h = absurd (h refl)
  some_child (d ∷ l) c h = (d, member_head d l)

  pub ghost_family : (p c : ℕ) → T (ghostb n qs ss os p c) → family_of n qs ss os c ≡ p
  unfolding ghostb
  ghost_family p c g = eqb→eq (family_of n qs ss os c) p (and_right (not (masterb os p c)) (eqb (family_of n qs ss os c) p) g)

  pub ghost_other : (p c : ℕ) → T (ghostb n qs ss os p c) → masterb os p c ≡ false
  unfolding ghostb
  ghost_other p c g = is_false (masterb os p c) (and_left (not (masterb os p c)) (eqb (family_of n qs ss os c) p) g)

  pub admissible : T (ownersb n qs ss P os) → Admissible
  unfolding masterb ghostb family_of
  admissible t =
      let own = owners_fit n qs ss P os t in
      record {
        A1 = λ p c m g. not_both (masterb os p c) (is_true (masterb os p c) m) (ghost_other p c g);
        A2 = λ c h. let (a, b) = (owners_counted t).each c h in (get_or os c 0, a, b, self (get_or os c 0));
        A3 = λ p q c a b. sym (eqb→eq (get_or os c 0) p a) ∙ eqb→eq (get_or os c 0) q b;
        A4 = λ p c d h m a. either_way p c (sym (own c d h m) ∙ eqb→eq (get_or os d 0) p a);
        A5 = λ p c g. parent_of p c g;
        A6 = λ p c d h g m. equal (get_or os d 0) p (own c d h m ∙ ghost_family p c g);
      }
    where
      equal : (a b : ℕ) → a ≡ b → T (eqb a b)
      equal a b e = rw (eq-eqb a b e) tt

      self : (a : ℕ) → T (eqb a a)
      self a = equal a a refl

      either_way : (p c : ℕ) → family_of n qs ss os c ≡ p → T (masterb os p c || ghostb n qs ss os p c)
      either_way p c e = go (masterb os p c) refl
        where
          go : (b : Bool) → masterb os p c ≡ b → T (b || (not b && eqb (family_of n qs ss os c) p))
          go true q = tt
          go false q = equal (family_of n qs ss os c) p e

      parent_of : (p c : ℕ) → T (ghostb n qs ss os p c) → (d : ℕ) × Member d (children_of n qs ss c)
      parent_of p c g =
          some_child (children_of n qs ss c) c
          (λ e. not_both (masterb os p c) (eq-eqb (get_or os c 0) p (sym e ∙ ghost_family p c g)) (ghost_other p c g))
