-- The place of a child, as the code makes it.
--   Number d i l      the child number i behind l others has room beside d
-- Laws: number_is, child_short, child_long, child_beyond.
use mathlib.Core.Path.{◌≡◌, refl}
use Prim.Native.Nat.{ℕ, ◌+◌, ◌-◌, ◌*◌, ◌%◌, ◌^◌, ◌≤◌, ◌<◌}
use native.Mathlib.Nat.{mul-le-mul}
use native.Mathlib.Omega.{arith}
use lib.Dec.{T, leb, leb→le}
use borrow.Author.Tests.{lt-ltb, le-ltb}
use Rattle.base.specs.Lists.{belowb, belowb_at}
use Rattle.store.specs.declared.Place.{Place}
use Rattle.store.specs.Places.{place_level, child_place}

powers : T (belowb (λ l. leb (2 ^ (3 * l)) 4096) 5)
unfolding belowb
powers = tt

-- a child number moved up
pub record Number (d i l : ℕ) : Type 0 where
  pub few : i * 2 ^ (3 * l) % 18446744073709551616 ≤ 268431360
  pub is : (d + i * 2 ^ (3 * l) % 18446744073709551616) % 65536 ≡ (d + i * 2 ^ (3 * l)) % 65536

pub number_is : (d i l : ℕ) → i ≤ 65535 → l < 5 → Number d i l
number_is d i l h g = go (i * 2 ^ (3 * l))
    (mul-le-mul h (leb→le (2 ^ (3 * l)) 4096 (belowb_at (λ l. leb (2 ^ (3 * l)) 4096) 5 powers l g)))
    refl
  where
    go : (n : ℕ) → n ≤ 65535 * 4096 → i * 2 ^ (3 * l) ≡ n → Number d i l
    go n m e =
        let z : n % 18446744073709551616 ≡ n = omega arith in
        record { few = rw (e, z) (omega arith); is = rw (e, z) refl }

module _ (p : Place) (i : ℕ) where
  pub child_short : (d : ℕ) → place_level p < 5 → d ≡ (p.digits + i * 2 ^ (3 * place_level p)) % 65536
      → ◌≡◌ {A = Place} (record { head = (p.head + 256) % 65536; digits = d; more = p.more }) (child_place p i)
  unfolding child_place
  child_short d h e = rw (lt-ltb (place_level p) 5 h, e, child_place)

  pub child_long : (d : ℕ) → 5 ≤ place_level p → place_level p < 10 → d ≡ (p.more + i * 2 ^ (3 * (place_level p - 5))) % 65536
      → ◌≡◌ {A = Place} (record { head = (p.head + 256) % 65536; digits = p.digits; more = d }) (child_place p i)
  unfolding child_place
  child_long d h g e = rw (le-ltb (place_level p) 5 h, lt-ltb (place_level p) 10 g, e, child_place)

  pub child_beyond : 5 ≤ place_level p → 10 ≤ place_level p
      → ◌≡◌ {A = Place} (record { head = (p.head + 256) % 65536; digits = p.digits; more = p.more }) (child_place p i)
  unfolding child_place
  child_beyond h g = rw (le-ltb (place_level p) 5 h, le-ltb (place_level p) 10 g, child_place)
