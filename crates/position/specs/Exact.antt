-- Each coordinate is exactly the weighted sum over 1,024. An i32 is at most 2 ^ 31 in size, so this covers every table.
--   HasValue x s a c   (of lib.Ieee.Exact) the float x is finite, has the sign s, and is a / c in size
--   negative z         the sign of z, true where z is below 0
--   exact              the coordinate of a sum z is z / 1,024
--   zero_sum           that of 0 is +0
--   no_minus_zero      none is -0
use Rattle.std.specs.Prelude.{◌≡◌, refl, Bool, true, false, ℕ, suc, ◌*◌, ◌^◌, ◌≤◌, ◌<◌, ℤ, pos, negsuc, nat_abs}
use Rattle.std.proofs.Common.{sym, ◌∙◌, true≢false, mul_assoc, mul_comm, mul-pos, mul-lt-mul_of_pos_right, lt_of_lt_of_le, zero-lt-suc, arith, lit<, lit≤}
use lib.Ieee.{Float, nan, inf, fin, binary64, up, down, unlike, round, of_int, div}
use Rattle.std.specs.Float.Ieee.Fits.{down_pos}
use Rattle.std.specs.Float.Ieee.Exact.{HasValue, round_exact}
use Rattle.std.specs.Float.Ieee.Back.{round_whole}
use Rattle.std.specs.Float.Ieee.Scale.{round_same}
use Rattle.position.specs.Position.{coordinate_of}

-- Rule 8.2: the sign.
abbrev pub negative : ℤ → Bool
negative (pos n) = false
negative (negsuc n) = true

-- n / 1,024 is n * 2 ^ 1064 times the smallest positive f64, 2 ^ -1074, and n has at most the 53 digits that an f64 keeps.
fraction : (s : Bool) (n : ℕ) → n < 2 ^ 53 → HasValue (round binary64 s n 1024) s n 1024
fraction s n h =
    round_exact binary64 s n 1024 n 1064 (lit< tt) h
    (lt_of_lt_of_le (mul-lt-mul_of_pos_right h (lit< tt)) (lit≤ tt))
    (sym (mul_assoc n (2 ^ 1064) 1024))

-- The division of m * 2 ^ e by 1,024 rounds the same fraction.
same : (s : Bool) (m : ℕ) (e : ℤ) (n : ℕ) → m * up e * 1 ≡ n * down e
    → round binary64 s (m * up e * 1) (1024 * down e) ≡ round binary64 s n 1024
same s m e n v =
    round_same binary64 s (m * up e * 1) (1024 * down e) n 1024 (mul-pos (lit< tt) (down_pos e)) (lit< tt)
    (rw v (mul_assoc n (down e) 1024 ∙ rw (mul_comm (down e) 1024)))

-- 1,024 is positive, so the quotient has the sign of what is divided.
sign : (s : Bool) → unlike s false ≡ s
sign true = refl
sign false = refl

over : (x : Float) (s : Bool) (n : ℕ) → n < 2 ^ 53 → HasValue x s n 1
    → HasValue (div binary64 x (fin false 1 (pos 10))) s n 1024
unfolding div
over nan s n h v = v
over (inf t) s n h v = v
over (fin t m e) s n h v = rw (sign t, v.0, same s m e n v.1) (fraction s n h)

pub exact : (z : ℤ) → nat_abs z ≤ 2 ^ 31 → HasValue (coordinate_of z) (negative z) (nat_abs z) 1024
unfolding coordinate_of of_int
exact (pos n) h = over (round binary64 false n 1) false n (omega arith) (round_whole binary64 false n (omega arith))
exact (negsuc n) h =
    over (round binary64 true (suc n) 1) true (suc n) (omega arith) (round_whole binary64 true (suc n) (omega arith))

pub zero_sum : coordinate_of (pos 0) ≡ fin false 0 (pos 0)
unfolding coordinate_of
zero_sum = refl

pub no_minus_zero : (z : ℤ) → nat_abs z ≤ 2 ^ 31 → (e : ℤ) → coordinate_of z ≡ fin true 0 e → ⊥
no_minus_zero (pos n) h e q = true≢false (rw q at (exact (pos n) h)).0
no_minus_zero (negsuc n) h e q =
    let v : 0 * up e * 1024 ≡ suc n * down e = (rw q at (exact (negsuc n) h)).1 in
    let l : 0 < suc n * down e = mul-pos (zero-lt-suc n) (down_pos e) in
    omega arith
