-- The walk to the next message, one step at a time.
use Rattle.std.specs.Prelude.{◌≡◌, List}
use Rattle.std.proofs.Common.{ap}
use Prim.Native.Nat.{ℕ, suc, ◌+◌, ◌-◌, ◌/◌, ◌%◌, ◌^◌, ◌≤◌, ◌<◌}
use native.Mathlib.Numerals.{add-one}
use native.Mathlib.Omega.{arith}
use borrow.Author.Tests.{eq-eqb, ne_eqb, lt-ltb, le-ltb}
use Rattle.store.specs.Fields.{field, CURSOR, BIT}
use Rattle.store.specs.Fetch.{entry_count, receivers_at, bitb, bit_from, spot_at, seek_from, next_to_give}

pub bit_here : (m b : ℕ) → b < 16 → m / 2 ^ b % 2 ≡ 1 → bit_from (16 - b) m b ≡ b
unfolding bit_from bitb
bit_here m b h t =
    let z : 16 - b ≡ suc (15 - b) = omega arith in
    rw (z, bit_from, eq-eqb (m / 2 ^ b % 2) 1 t)

pub bit_on : (m b : ℕ) → b < 16 → (m / 2 ^ b % 2 ≡ 1 → ⊥) → bit_from (16 - b) m b ≡ bit_from (16 - (b + 1)) m (b + 1)
unfolding bit_from bitb
bit_on m b h t =
    let z : 16 - b ≡ suc (16 - suc b) = omega arith in
    rw (add-one, z, bit_from, ne_eqb (m / 2 ^ b % 2) 1 t)

pub bit_out : (m b : ℕ) → 16 ≤ b → bit_from (16 - b) m b ≡ 16
unfolding bit_from
bit_out m b h = let z : 16 - b ≡ 0 = omega arith in rw z

module _ (x : List ℕ) (n j b : ℕ) where
  abbrev found : ℕ
  found = bit_from (16 - b) (receivers_at x j) b

  pub seek_stops : j < n → found < 16 → seek_from x (n - j) j b ≡ spot_at j found
  unfolding seek_from
  seek_stops h t =
      let z : n - j ≡ suc (n - suc j) = omega arith in
      rw (z, seek_from, lt-ltb found 16 t)

  pub seek_on : j < n → 16 ≤ found → seek_from x (n - j) j b ≡ seek_from x (n - (j + 1)) (j + 1) 0
  unfolding seek_from
  seek_on h t =
      let z : n - j ≡ suc (n - suc j) = omega arith in
      rw (add-one, z, seek_from, le-ltb found 16 t)

  pub seek_out : n ≤ j → seek_from x (n - j) j b ≡ spot_at j 16
  unfolding seek_from
  seek_out h = let z : n - j ≡ 0 = omega arith in rw z

pub next_is : (x : List ℕ) (n : ℕ) → n ≡ entry_count x → seek_from x (n - field x CURSOR) (field x CURSOR) (field x BIT) ≡ next_to_give x
unfolding next_to_give
next_is x n e = ap (λ (k : ℕ). seek_from x (k - field x CURSOR) (field x CURSOR) (field x BIT)) e

pub ruleset seeking = (seek_stops, seek_on, seek_out, next_is)
