-- A place as two numbers that tell its path (rule 3.3): 256 times the level (at most 10) and the coarse cell; the child numbers, base 8.
--   key_path x y       the path of the key x, y
--   Key x y           the level is at most 10, and there are no more digits than levels
--   Keyed l x y       x, y is the key of the path l
-- Laws: key_place (the key of a place), key_child (of a child), key_coarse (of a coarse cell), key_same (a path has one key), key_digits
-- (the path's child numbers with zeros behind them).
use Rattle.std.specs.Prelude.{◌≡◌, refl, List, [], ◌∷◌, ◌++◌, ℕ, zero, suc, ◌+◌, ◌-◌, ◌*◌, ◌/◌, ◌%◌, ◌^◌, ◌≤◌, ◌<◌, min, length, take, replicate}
use Rattle.std.proofs.Common.{sym, ◌∙◌, ap, ap₂, zero-add, suc-add, mul_assoc, mul_comm, mod-lt, mul-le-mul_right, arith, length-append, take_all}
use Rattle.std.proofs.Math.Nat.{div-add-mod, pow-le-pow_right}
use Rattle.std.proofs.Math.Decide.{dec_lt}
use Rattle.store.specs.Places.{eights, path_of, eight_more}

unfoldable pub key_path : ℕ → ℕ → List ℕ
unfolding eights
key_path x y = x % 256 ∷ eights (x / 256) y

pub record Key (x y : ℕ) : Type 0 where
  pub level : x / 256 ≤ 10
  pub below : y < 2 ^ (3 * (x / 256))

pub record Keyed (l : List ℕ) (x y : ℕ) : Type 0 where
  pub key : Key x y
  pub path : key_path x y ≡ l

pub length-eights : (n y : ℕ) → length (eights n y) ≡ n
unfolding eights
length-eights zero y = refl
length-eights (suc n) y = ap suc (length-eights n (y / 8))

eights_zero : (n : ℕ) → eights n 0 ≡ replicate n 0
unfolding eights
eights_zero zero = refl
eights_zero (suc n) = ap (◌∷◌ 0) (eights_zero n)

-- digits behind digits
eights_join : (n m y q : ℕ) → y < 2 ^ (3 * n) → eights (n + m) (y + 2 ^ (3 * n) * q) ≡ eights n y ++ eights m q
unfolding eights
eights_join zero m y q h = let z : y + 1 * q ≡ q = omega arith in rw (z, zero-add m)
eights_join (suc n) m y q h =
    let e = eight_more n in
    let f : 2 ^ (3 * suc n) * q ≡ 8 * (2 ^ (3 * n) * q) = ap (λ (p : ℕ). p * q) e ∙ mul_assoc 8 (2 ^ (3 * n)) q in
    let a : (y + 2 ^ (3 * suc n) * q) % 8 ≡ y % 8 = omega arith in
    let b : (y + 2 ^ (3 * suc n) * q) / 8 ≡ y / 8 + 2 ^ (3 * n) * q = omega arith in
    rw (suc-add n m, a, b) (ap (◌∷◌ (y % 8)) (eights_join n m (y / 8) q (omega arith)))

eights_more : (n y q : ℕ) → eights n (y + 2 ^ (3 * n) * q) ≡ eights n y
unfolding eights
eights_more zero y q = refl
eights_more (suc n) y q =
    let e = eight_more n in
    let f : 2 ^ (3 * suc n) * q ≡ 8 * (2 ^ (3 * n) * q) = ap (λ (p : ℕ). p * q) e ∙ mul_assoc 8 (2 ^ (3 * n)) q in
    let a : (y + 2 ^ (3 * suc n) * q) % 8 ≡ y % 8 = omega arith in
    let b : (y + 2 ^ (3 * suc n) * q) / 8 ≡ y / 8 + 2 ^ (3 * n) * q = omega arith in
    rw (a, b) (ap (◌∷◌ (y % 8)) (eights_more n (y / 8) q))

take-eights : (n m y : ℕ) → take n (eights (n + m) y) ≡ eights n y
unfolding eights
take-eights zero m y = refl
take-eights (suc n) m y = rw (suc-add n m) (ap (◌∷◌ (y % 8)) (take-eights n m (y / 8)))

eights_same : (n y z : ℕ) → y < 2 ^ (3 * n) → z < 2 ^ (3 * n) → eights n y ≡ eights n z → y ≡ z
unfolding eights
eights_same zero y z g h e = omega arith
eights_same (suc n) y z g h e =
    let w = eight_more n in
    let a : y % 8 ≡ z % 8 = cc in
    let t : eights n (y / 8) ≡ eights n (z / 8) = cc in
    let b : y / 8 ≡ z / 8 = eights_same n (y / 8) (z / 8) (omega arith) (omega arith) t in
    omega arith

-- 8 to a level, as the code has it
pub power_most : (n : ℕ) → n ≤ 10 → 2 ^ (3 * n) ≤ 1073741824
power_most n h = pow-le-pow_right (omega arith) {i = 3 * n} {j = 30} (omega arith)

power_least : (n : ℕ) → 0 < 2 ^ (3 * n)
power_least n = pow-le-pow_right (omega arith) {i = 0} {j = 3 * n} (omega arith)

pub power_is : (n : ℕ) → n ≤ 10 → (1 * 2 ^ (3 * n) % 18446744073709551616 ≡ 2 ^ (3 * n))
    × (1 * 2 ^ (3 * n) % 18446744073709551616 ≤ 1073741824) × (0 < 1 * 2 ^ (3 * n) % 18446744073709551616)
power_is n h = small (2 ^ (3 * n)) (power_most n h) (power_least n)
  where
    small : (x : ℕ) → x ≤ 1073741824 → 0 < x → (1 * x % 18446744073709551616 ≡ x) × (1 * x % 18446744073709551616 ≤ 1073741824)
        × (0 < 1 * x % 18446744073709551616)
    small x a b = (omega arith, omega arith, omega arith)

-- the level of a place, at most 10
abbrev pub level_cut : ℕ → ℕ
level_cut head = min (head / 256) 10

abbrev pub digits_in : ℕ → ℕ → ℕ
digits_in digits more = digits % 32768 + 32768 * (more % 32768)

low_digits : (x : ℕ) → eights 5 (x % 32768) ≡ eights 5 x
low_digits x =
    let z : x ≡ x % 32768 + 32768 * (x / 32768) = omega arith in
    sym (ap (eights 5) z ∙ eights_more 5 (x % 32768) (x / 32768))

ten_digits : (a b : ℕ) → eights 10 (digits_in a b) ≡ eights 5 a ++ eights 5 b
ten_digits a b = eights_join 5 5 (a % 32768) (b % 32768) (omega arith) ∙ ap₂ ◌++◌ (low_digits a) (low_digits b)

cut_digits : (n z : ℕ) → eights n (z % 2 ^ (3 * n)) ≡ eights n z
cut_digits n z =
    sym (ap (eights n) (let w = div-add-mod z (2 ^ (3 * n)) in let v : z ≡ z % 2 ^ (3 * n) + 2 ^ (3 * n) * (z / 2 ^ (3 * n)) = omega arith
    in v)
    ∙ eights_more n (z % 2 ^ (3 * n)) (z / 2 ^ (3 * n)))

-- THE KEY of a place
pub key_place : (head digits more x y : ℕ) → x ≡ 256 * level_cut head + head % 256
    → y ≡ digits_in digits more % 2 ^ (3 * level_cut head)
    → Keyed (path_of (record { head = head; digits = digits; more = more })) x y
unfolding key_path path_of
key_place head digits more x y e f =
    let a : x / 256 ≡ level_cut head = omega arith in
    let b : x % 256 ≡ head % 256 = omega arith in
    let l : List ℕ = eights 5 digits ++ eights 5 more in
    let ten : length l ≡ 10 = length-append (eights 5 digits) (eights 5 more) ∙ ap₂ ◌+◌ (length-eights 5 digits) (length-eights 5 more) in
    let c : take (head / 256) l ≡ take (level_cut head) l = cut-take (head / 256) l ten in
    let k : level_cut head + (10 - level_cut head) ≡ 10 = omega arith in
    let d : take (level_cut head) l ≡ eights (level_cut head) (digits_in digits more) =
    ap (take (level_cut head)) (sym (ten_digits digits more) ∙ ap (λ (n : ℕ). eights n (digits_in digits more)) (sym k))
    ∙ take-eights (level_cut head) (10 - level_cut head) (digits_in digits more) in
    record {
      key = record {
        level = omega arith;
        below = rw (a, f) (mod-lt (digits_in digits more) (power_least (level_cut head)));
      };
      path = rw (a, b, f) (ap (◌∷◌ (head % 256)) (cut_digits (level_cut head) (digits_in digits more) ∙ sym (c ∙ d)));
    }
  where
    cut-take : (n : ℕ) (l : List ℕ) → length l ≡ 10 → take n l ≡ take (min n 10) l
    cut-take n l h = elim (dec_lt 10 n) [
      | yes k ↦ let z : min n 10 ≡ 10 = omega arith in rw z (take_all n l (omega arith) ∙ sym (take_all 10 l (omega arith)))
      | no k ↦ let z : min n 10 ≡ n = omega arith in rw z
    ]

-- THE KEY of a child
pub key_child : (x y i : ℕ) → Key x y → x / 256 < 10 → i < 8 → Keyed (key_path x y ++ (i ∷ [])) (x + 256) (y + i * 2 ^ (3 * (x / 256)))
unfolding key_path eights
key_child x y i k h g =
    let a : (x + 256) / 256 ≡ suc (x / 256) = omega arith in
    let b : (x + 256) % 256 ≡ x % 256 = omega arith in
    let c : i * 2 ^ (3 * (x / 256)) ≡ 2 ^ (3 * (x / 256)) * i = mul_comm i (2 ^ (3 * (x / 256))) in
    let m : suc (x / 256) ≡ x / 256 + 1 = omega arith in
    let w = eight_more (x / 256) in
    let d : i % 8 ≡ i = omega arith in
    let u : i * 2 ^ (3 * (x / 256)) ≤ 7 * 2 ^ (3 * (x / 256)) = mul-le-mul_right (2 ^ (3 * (x / 256))) (omega arith) in
    record {
      key = record { level = omega arith; below = rw (a, w) (omega (arith, k.below)) };
      path = rw (a, b) (ap (◌∷◌ (x % 256)) (ap₂ eights m (ap (λ (z : ℕ). y + z) c) ∙ eights_join (x / 256) 1 y i k.below
          ∙ ap (λ (z : ℕ). eights (x / 256) y ++ (z ∷ [])) d));
    }

pub key_coarse : (i : ℕ) → i < 256 → Keyed (i ∷ []) i 0
unfolding key_path eights
key_coarse i h =
    let a : i / 256 ≡ 0 = omega arith in
    let b : i % 256 ≡ i = omega arith in
    record { key = record { level = omega arith; below = rw a (omega arith) }; path = rw (a, b) }

-- a path has one key
pub key_same : (x y v w : ℕ) → Key x y → Key v w → key_path x y ≡ key_path v w → (x ≡ v) × (y ≡ w)
unfolding key_path
key_same x y v w k j e =
    let a : x % 256 ≡ v % 256 = cc in
    let t : eights (x / 256) y ≡ eights (v / 256) w = cc in
    let b : x / 256 ≡ v / 256 = sym (length-eights (x / 256) y) ∙ ap length t ∙ length-eights (v / 256) w in
    let s : eights (v / 256) y ≡ eights (v / 256) w = ap (λ (n : ℕ). eights n y) (sym b) ∙ t in
    (omega arith, eights_same (v / 256) y w (rw b at k.below) j.below s)

-- the child numbers, with zeros behind them
pub key_digits : (x y : ℕ) → Key x y → eights 10 y ≡ eights (x / 256) y ++ replicate (10 - x / 256) 0
key_digits x y k =
    let a : 10 ≡ x / 256 + (10 - x / 256) = omega (arith, k.level) in
    let z : y ≡ y + 2 ^ (3 * (x / 256)) * 0 = omega arith in
    ap₂ eights a z ∙ eights_join (x / 256) (10 - x / 256) y 0 k.below ∙ ap (λ (l : List ℕ). eights (x / 256) y ++ l)
    (eights_zero (10 - x / 256))
