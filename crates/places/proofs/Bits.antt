-- A pattern from its six tests, the last edge first.
use mathlib.Core.Path.{◌≡◌, refl, ◌∙◌, ap}
use mathlib.Core.Bool.{Bool}
use mathlib.Core.List.{map}
use Prim.Native.Nat.{ℕ, zero, suc, ◌+◌, ◌-◌, ◌*◌, ◌^◌, ◌≤◌, ◌<◌}
use native.Mathlib.Omega.{arith}
use lib.ListN.{drop}
use mir.Val.{bool_byte}
use Rattle.base.specs.Bools.{one_if, one_most}
use Rattle.store.proofs.Flags.{flag_is}
use Rattle.mesh.specs.Cells.{bits_of}
use Rattle.mesh.specs.Layout.{edge_numbers}

module _ (f : ℕ → Bool) where
  abbrev pub bits_from : ℕ → ℕ
  bits_from e = bits_of (drop e (map f edge_numbers))

  pub bits_none : 0 ≡ bits_from 6
  unfolding bits_of
  bits_none = refl

  bits_on : (e : ℕ) → e < 6 → bits_from e ≡ one_if (f e) + 2 * bits_from (suc e)
  unfolding bits_of
  bits_on zero h = refl
  bits_on (suc zero) h = refl
  bits_on (suc (suc zero)) h = refl
  bits_on (suc (suc (suc zero))) h = refl
  bits_on (suc (suc (suc (suc zero)))) h = refl
  bits_on (suc (suc (suc (suc (suc zero))))) h = refl
  bits_on (suc (suc (suc (suc (suc (suc e)))))) h = absurd (omega arith)

  pub bits_few : bits_from 0 ≤ 63
  bits_few =
      omega (
        arith,
        bits_on 0 (omega arith),
        bits_on 1 (omega arith),
        bits_on 2 (omega arith),
        bits_on 3 (omega arith),
        bits_on 4 (omega arith),
        bits_on 5 (omega arith),
        bits_none,
        one_most (f 0),
        one_most (f 1),
        one_most (f 2),
        one_most (f 3),
        one_most (f 4),
        one_most (f 5),
      )

  -- one turn of the loop
  pub bits_turn : (p e n : ℕ) (b : Bool) → 0 < e → e ≤ 6 → p ≡ bits_from e → n ≡ bool_byte b → b ≡ f (e - 1)
      → n + 2 * p ≡ bits_from (e - 1)
  bits_turn p e n b h g i k j =
      let z : suc (e - 1) ≡ e = omega arith in
      let w : bits_from (suc (e - 1)) ≡ bits_from e = ap bits_from z in
      omega (arith, i, k, flag_is b, ap one_if j, w, bits_on (e - 1) (omega arith))

  pub bits_end : (p e : ℕ) → e ≤ 0 → p ≡ bits_from e → p ≡ bits_of (map f edge_numbers)
  bits_end p e h i = let z : e ≡ 0 = omega arith in i ∙ ap bits_from z

-- how large a pattern is, of which the first e tests are left
abbrev pub few_bits : ℕ → ℕ → Type 0
few_bits p e = p < 2 ^ (6 - e)

-- one turn of the loop
pub few_turn : (p e n : ℕ) → 0 < e → e ≤ 6 → few_bits p e → n ≤ 1 → (p ≤ 31) × few_bits (n + 2 * p) (e - 1)
few_turn p zero n h g i k = absurd (omega arith)
few_turn p (suc zero) n h g i k = (omega arith, omega arith)
few_turn p (suc (suc zero)) n h g i k = (omega arith, omega arith)
few_turn p (suc (suc (suc zero))) n h g i k = (omega arith, omega arith)
few_turn p (suc (suc (suc (suc zero)))) n h g i k = (omega arith, omega arith)
few_turn p (suc (suc (suc (suc (suc zero))))) n h g i k = (omega arith, omega arith)
few_turn p (suc (suc (suc (suc (suc (suc zero)))))) n h g i k = (omega arith, omega arith)
few_turn p (suc (suc (suc (suc (suc (suc (suc e))))))) n h g i k = absurd (omega arith)
