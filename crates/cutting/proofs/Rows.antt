-- The rows of the constant are the families of the rule, by a computed test; how many children they have.
use Rattle.std.specs.Prelude.{ℕ, ◌≤◌, ◌<◌, ◌≡◌, ◌&&◌, T, eqb, leb, length}
use Rattle.std.proofs.Common.{sym, leb→le}
use Rattle.base.specs.Lists.{belowb, belowb_at, samesb, samesb_eq, allb}
use Rattle.base.specs.Bools.{and_left, and_right}
use Rattle.cutting.specs.Rule.{family}
use Rattle.cutting.specs.Rows.{family_rows, row}

tested : T (belowb (λ p. samesb (row p) (family p)) 64)
unfolding belowb samesb family_rows row family
tested = tt

pub family_row : (p : ℕ) → p < 64 → family p ≡ row p
family_row p h = sym (samesb_eq (row p) (family p) (belowb_at (λ p. samesb (row p) (family p)) 64 tested p h))

-- a family has at most 8 children, of four digits each
few_test : T (belowb (λ p. leb (length (row p)) 8 && allb (λ c. eqb (length c) 4) (row p)) 64)
unfolding belowb allb family_rows row
few_test = tt

few : (p : ℕ) → p < 64 → T (leb (length (row p)) 8 && allb (λ c. eqb (length c) 4) (row p))
few = belowb_at (λ p. leb (length (row p)) 8 && allb (λ c. eqb (length c) 4) (row p)) 64 few_test

pub family_few : (p : ℕ) → p < 64 → length (family p) ≤ 8
family_few p h = rw (family_row p h)
    (leb→le (length (row p)) 8 (and_left (leb (length (row p)) 8) (allb (λ c. eqb (length c) 4) (row p)) (few p h)))

pub family_fours : (p : ℕ) → p < 64 → T (allb (λ c. eqb (length c) 4) (family p))
family_fours p h = rw (family_row p h) (and_right (leb (length (row p)) 8) (allb (λ c. eqb (length c) 4) (row p)) (few p h))
