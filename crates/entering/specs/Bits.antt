-- Bits of numbers.
-- Laws: bit_none (0 has none), bit_power (2 ^ a has the bit a), bit_ones (2 ^ n - 1 has those below n), bit_less (one bit taken away).
use Rattle.std.specs.Prelude.{◌≡◌, refl, Bool, true, false, ◌&&◌, not, ℕ, zero, suc, ◌-◌, ◌*◌, ◌/◌, ◌%◌, ◌^◌, ◌≤◌, eqb, ltb}
use Rattle.std.proofs.Common.{sym, ◌∙◌, ap, ap₂, div-one, arith, eq-eqb, ne_eqb, lt-ltb, le-ltb, eqb-true}
use Rattle.std.proofs.Math.Bool.{and-true}
use Rattle.std.proofs.Math.Nat.{div-div-eq-div-mul, pow-succ'}
use Rattle.std.proofs.Math.Decide.{ℕ_discrete, dec_lt}
use Rattle.store.specs.Fetch.{bitb}

bit_first : (m : ℕ) → bitb m 0 ≡ eqb (m % 2) 1
unfolding bitb
bit_first m = ap (λ (n : ℕ). eqb (n % 2) 1) (div-one m)

bit_half : (m b : ℕ) → bitb m (suc b) ≡ bitb (m / 2) b
unfolding bitb
bit_half m b = ap (λ (n : ℕ). eqb (n % 2) 1) (ap (λ (n : ℕ). m / n) (pow-succ' 2 b) ∙ sym (div-div-eq-div-mul m 2 (2 ^ b)))

pub bit_none : (b : ℕ) → bitb 0 b ≡ false
unfolding bitb
bit_none zero = refl
bit_none (suc b) = bit_half 0 b ∙ bit_none b

twice : (a : ℕ) → 2 ^ suc a ≡ 2 * 2 ^ a
twice a = pow-succ' 2 a

not_first : (b : ℕ) → eqb (suc b) 0 ≡ false
not_first b = ne_eqb (suc b) 0 (λ z. absurd (omega (arith, z)))

first_not : (b : ℕ) → eqb 0 (suc b) ≡ false
first_not b = ne_eqb 0 (suc b) (λ z. absurd (omega (arith, z)))

eq_suc : (b a : ℕ) → eqb (suc b) (suc a) ≡ eqb b a
eq_suc b a = elim (ℕ_discrete b a) [
  | yes e ↦ eq-eqb (suc b) (suc a) (ap suc e) ∙ sym (eq-eqb b a e)
  | no n ↦ ne_eqb (suc b) (suc a) (λ z. absurd (omega (arith, z, n))) ∙ sym (ne_eqb b a n)
]

lt_suc : (b a : ℕ) → ltb (suc b) (suc a) ≡ ltb b a
lt_suc b a = elim (dec_lt b a) [
  | yes e ↦ lt-ltb (suc b) (suc a) (omega arith) ∙ sym (lt-ltb b a e)
  | no n ↦ le-ltb (suc b) (suc a) (omega arith) ∙ sym (le-ltb b a (omega arith))
]

pub bit_power : (a b : ℕ) → bitb (2 ^ a) b ≡ eqb b a
unfolding bitb
bit_power zero zero = refl
bit_power zero (suc b) = bit_half 1 b ∙ bit_none b ∙ sym (not_first b)
bit_power (suc a) zero =
    let z : 2 ^ suc a % 2 ≡ 0 = omega (arith, twice a) in
    bit_first (2 ^ suc a) ∙ ap (λ (n : ℕ). eqb n 1) z ∙ sym (first_not a)
bit_power (suc a) (suc b) =
    let z : 2 ^ suc a / 2 ≡ 2 ^ a = omega (arith, twice a) in
    bit_half (2 ^ suc a) b ∙ ap (λ (n : ℕ). bitb n b) z ∙ bit_power a b ∙ sym (eq_suc b a)

one_least : (n : ℕ) → 1 ≤ 2 ^ n
one_least zero = omega arith
one_least (suc n) = omega (arith, twice n, one_least n)

pub bit_ones : (n b : ℕ) → bitb (2 ^ n - 1) b ≡ ltb b n
bit_ones zero b = bit_none b ∙ sym (le-ltb b 0 (omega arith))
bit_ones (suc n) zero =
    let z : (2 ^ suc n - 1) % 2 ≡ 1 = omega (arith, twice n, one_least n) in
    bit_first (2 ^ suc n - 1) ∙ ap (λ (n : ℕ). eqb n 1) z ∙ sym (lt-ltb 0 (suc n) (omega arith))
bit_ones (suc n) (suc b) =
    let z : (2 ^ suc n - 1) / 2 ≡ 2 ^ n - 1 = omega (arith, twice n, one_least n) in
    bit_half (2 ^ suc n - 1) b ∙ ap (λ (n : ℕ). bitb n b) z ∙ bit_ones n b ∙ sym (lt_suc b n)

bit_low : (a m : ℕ) → bitb m a ≡ true → 2 ^ a ≤ m
bit_low zero m e = let z : m % 2 ≡ 1 = eqb-true (m % 2) 1 (sym (bit_first m) ∙ e) in omega arith
bit_low (suc a) m e = omega (arith, twice a, bit_low a (m / 2) (sym (bit_half m a) ∙ e))

pub bit_less : (a b m : ℕ) → bitb m a ≡ true → bitb (m - 2 ^ a) b ≡ (bitb m b && not (eqb b a))
bit_less zero zero m e =
    let z : m % 2 ≡ 1 = eqb-true (m % 2) 1 (sym (bit_first m) ∙ e) in
    let y : (m - 1) % 2 ≡ 0 = omega arith in
    bit_first (m - 1) ∙ ap (λ (n : ℕ). eqb n 1) y ∙ sym (ap (λ (c : Bool). c && false) e)
bit_less zero (suc b) m e =
    let z : m % 2 ≡ 1 = eqb-true (m % 2) 1 (sym (bit_first m) ∙ e) in
    let y : (m - 1) / 2 ≡ m / 2 = omega arith in
    bit_half (m - 1) b ∙ ap (λ (n : ℕ). bitb n b) y ∙ sym (bit_half m b) ∙ sym (and-true (bitb m (suc b)))
    ∙ ap (λ (c : Bool). bitb m (suc b) && not c) (sym (not_first b))
bit_less (suc a) zero m e =
    let h = bit_low (suc a) m e in
    let y : (m - 2 ^ suc a) % 2 ≡ m % 2 = omega (arith, twice a) in
    bit_first (m - 2 ^ suc a) ∙ ap (λ (n : ℕ). eqb n 1) y ∙ sym (bit_first m) ∙ sym (and-true (bitb m 0))
    ∙ ap (λ (c : Bool). bitb m 0 && not c) (sym (first_not a))
bit_less (suc a) (suc b) m e =
    let h = bit_low (suc a) m e in
    let y : (m - 2 ^ suc a) / 2 ≡ m / 2 - 2 ^ a = omega (arith, twice a) in
    bit_half (m - 2 ^ suc a) b ∙ ap (λ (n : ℕ). bitb n b) y ∙ bit_less a b (m / 2) (sym (bit_half m a) ∙ e)
    ∙ ap₂ (λ (c d : Bool). c && not d) (sym (bit_half m b)) (sym (eq_suc b a))
