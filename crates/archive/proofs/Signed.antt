-- The library's bytes of numbers are the definitions'.
--   four_read    an i32 from four bytes
--   i32_written  the bytes of an i32
-- Assumes nothing.
use mathlib.Core.Path.{◌≡◌, refl, ◌∙◌}
use mathlib.Core.Bool.{Bool, true, false}
use Prim.Native.Nat.{ℕ, suc, ◌-◌, ◌/◌, ◌≤◌, ◌<◌}
use native.Mathlib.Omega.{arith}
use lib.Dec.{ltb}
use lib.IntN.{ℤ, pos, negsuc}
use borrow.Author.Tests.{ltb-true, ltb-false}
use mir.Syntax.{w32}
use mir.Val.{SFits, to_z, of_z}
use mir.ValLaws.{to_z_pos, to_z-of_z}
use Rattle.std.proofs.Math.Facts.{to_z-neg}
use Rattle.std.specs.Int.{to_le_bytes}
use Rattle.archive.specs.Job.{bytes, word}
use Rattle.archive.specs.Form.{signed}

pub signed_is : (x : ℕ) → x < 4294967296 → to_z w32 x ≡ signed x
unfolding signed
signed_is x h = go (ltb x 2147483648) refl
  where
    go : (b : Bool) → ltb x 2147483648 ≡ b → to_z w32 x ≡ signed x
    go true t = let l : x < 2147483648 = ltb-true x 2147483648 t in to_z_pos w32 x l ∙ rw (t, signed)
    go false t =
        let l : 2147483648 ≤ x = ltb-false x 2147483648 t in
        let e : 4294967296 - suc (4294967295 - x) ≡ x = omega arith in
        let k : 4294967295 - x < 2147483648 = omega arith in
        let n : to_z w32 (4294967296 - suc (4294967295 - x)) ≡ negsuc (4294967295 - x) = to_z-neg w32 (4294967295 - x) k in
        rw e at n ∙ rw (t, signed)

pub word_is : (z : ℤ) → SFits w32 z → of_z w32 z ≡ word z
unfolding word
word_is (pos n) f = refl
word_is (negsuc n) f = omega (arith, f.sfits)

pub four_written : (x : ℕ) → to_le_bytes w32 x ≡ bytes 4 x
unfolding bytes
four_written x =
    let a : x / 65536 ≡ x / 256 / 256 = omega arith in
    let b : x / 16777216 ≡ x / 256 / 256 / 256 = omega arith in
    rw (a, b)

pub i32_written : (z : ℤ) → SFits w32 z → to_le_bytes w32 (of_z w32 (to_z w32 (of_z w32 z))) ≡ bytes 4 (word z)
i32_written z f = rw (to_z-of_z w32 z f, word_is z f) (four_written (word z))
