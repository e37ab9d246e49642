-- Owners, as the code looks at them.
-- Laws: family_here, family_own (the family's owner), range_chain (a range, as a chain has it), owners_many,
-- owners_parts, owners_then (the test, condition by condition).
use mathlib.Core.Path.{◌≡◌, refl, ap}
use mathlib.Core.Bool.{Bool, true, false, ◌&&◌}
use mathlib.Core.List.{List, ◌∷◌}
use Prim.Native.Nat.{ℕ, zero, suc, ◌+◌, ◌-◌, ◌≤◌, ◌<◌}
use native.Mathlib.Omega.{arith}
use lib.Dec.{eqb, leb}
use lib.ListN.{length, get_or}
use Rattle.std.specs.List.{range_with_len}
use borrow.Author.Tests.{eq-eqb, ne_eqb, lt-ltb, le-ltb}
use Rattle.base.specs.Lists.{allb}
use Rattle.base.specs.Range.{range}
use Rattle.columns.specs.Ten.{family_by, owners_by}

module _ (ks os : List ℕ) (c : ℕ) where
  pub family_here : get_or ks c 0 < get_or ks (suc c) 0 → get_or os (get_or ks c 0) 0 ≡ family_by ks os c
  unfolding family_by
  family_here h = rw (lt-ltb (get_or ks c 0) (get_or ks (suc c) 0) h, family_by)

  pub family_own : get_or ks (suc c) 0 ≤ get_or ks c 0 → get_or os c 0 ≡ family_by ks os c
  unfolding family_by
  family_own h = rw (le-ltb (get_or ks c 0) (get_or ks (suc c) 0) h, family_by)

  abbrev pub ownedb : ℕ → Bool
  ownedb d = eqb (get_or os d 0) (family_by ks os c)

module _ (P : ℕ) where
  abbrev pub partb : ℕ → Bool
  partb o = leb 1 o && leb o P

-- the numbers in a row, as a chain has them
pub range_chain : (a n : ℕ) → range_with_len a n ≡ range a n
unfolding range
range_chain a zero = refl
range_chain a (suc n) = let z : a + 1 ≡ suc a = omega arith in rw z (ap (λ (l : List ℕ). a ∷ l) (range_chain (suc a) n))

module _ (ss ks os : List ℕ) (P : ℕ) where
  abbrev pub onceb : ℕ → Bool
  onceb c = allb (ownedb ks os c) (range (get_or ks c 0) (get_or ks (suc c) 0 - get_or ks c 0))

  pub owners_many : (length os ≡ length ss → ⊥) → owners_by ss ks P os ≡ false
  unfolding owners_by
  owners_many h = rw (ne_eqb (length os) (length ss) h)

  module _ (e : length os ≡ length ss) where
    pub owners_parts : allb (partb P) os ≡ false → owners_by ss ks P os ≡ false
    unfolding owners_by
    owners_parts h = rw (eq-eqb (length os) (length ss) e, h)

    pub owners_then : allb (partb P) os ≡ true → owners_by ss ks P os ≡ allb onceb (range 0 (length ss))
    unfolding owners_by
    owners_then h = rw (eq-eqb (length os) (length ss) e, h)
