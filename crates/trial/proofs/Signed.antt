-- Numbers of 32 bits with a sign, made from their bits or raised by 2 ^ 31, stay in range.
--   wider       an i32 is an i64
--   Raised z    z is a number below 2 ^ 32
--   raised      an i32 and 2 ^ 31 make such a number
--   raised_above  it is how far the number lies above the least i32
--   sum_is      the same of the bits that the program holds
--   twos_is     two's complement is the library's
use mathlib.Core.Path.{◌≡◌, refl, ◌∙◌}
use mathlib.Core.Bool.{Bool, true, false}
use lib.Dec.{ltb}
use Rattle.std.proofs.Math.Facts.{to_z-neg}
use Prim.Native.Nat.{ℕ, suc, ◌+◌, ◌-◌, ◌<◌, ◌≤◌}
use native.Mathlib.Omega.{arith}
use lib.IntN.{ℤ, pos, negsuc, ◌+ℤ◌}
use borrow.Author.Tests.{le-ltb, ltb-true, ltb-false}
use Rattle.trial.specs.Input.{twos}
use Rattle.trial.specs.Pattern.{above_least}
use mir.Syntax.{w32, w64}
use mir.Val.{SFits, to_z, of_z}
use mir.ValLaws.{to_z_pos, to_z-of_z}

wider : (z : ℤ) → SFits w32 z → SFits w64 z
wider (pos n) h = record { sfits = omega (arith, h.sfits) }
wider (negsuc n) h = record { sfits = omega (arith, h.sfits) }

pub record Raised (z : ℤ) : Type 0 where
  pub size : ℕ
  pub low : size < 4294967296
  pub same : z ≡ pos size

pub raised : (z : ℤ) → SFits w32 z → Raised (z +ℤ pos 2147483648)
raised (pos n) h = record { size = n + 2147483648; low = omega (arith, h.sfits); same = refl }
raised (negsuc n) h =
    record {
      size = 2147483648 - suc n;
      low = omega arith;
      same = rw (le-ltb 2147483648 (suc n) (omega (arith, h.sfits)));
    }

module _ (z : ℤ) (h : SFits w32 z) where
  pub raised_above : (raised z h).size ≡ above_least z
  unfolding above_least
  raised_above = rw (raised z h).same

  plain : to_z w64 (of_z w64 z) ≡ z
  plain = to_z-of_z w64 z (wider z h)

  pub sum_is : to_z w64 (of_z w64 (to_z w64 (of_z w64 z) +ℤ pos 2147483648)) ≡ pos (raised z h).size
  sum_is =
      rw (plain, (raised z h).same)
      (to_z-of_z w64 (pos (raised z h).size) (record { sfits = omega (arith, (raised z h).low) }))

-- two's complement
pub twos_is : (x : ℕ) → x < 4294967296 → to_z w32 x ≡ twos x
unfolding twos
twos_is x h = go (ltb x 2147483648) refl
  where
    go : (b : Bool) → ltb x 2147483648 ≡ b → to_z w32 x ≡ twos x
    go true t = let l : x < 2147483648 = ltb-true x 2147483648 t in to_z_pos w32 x l ∙ rw (t, twos)
    go false t =
        let l : 2147483648 ≤ x = ltb-false x 2147483648 t in
        let e : 4294967296 - suc (4294967295 - x) ≡ x = omega arith in
        let k : 4294967295 - x < 2147483648 = omega arith in
        let n : to_z w32 (4294967296 - suc (4294967295 - x)) ≡ negsuc (4294967295 - x) = to_z-neg w32 (4294967295 - x) k in
        rw e at n ∙ rw (t, twos)
