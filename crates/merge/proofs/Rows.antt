-- The row of keys, as the code writes it.
use mathlib.Core.Path.{◌≡◌, refl, ◌∙◌}
use mathlib.Core.List.{List}
use Prim.Native.Nat.{ℕ, suc, ◌+◌, ◌*◌, ◌/◌, ◌^◌, ◌≤◌, ◌<◌}
use native.Mathlib.Decide.{ℕ_discrete}
use native.Mathlib.Nat.{mul-le-mul}
use native.Mathlib.Omega.{arith}
use lib.ListN.{length, get_or, set, replicate, length-set, length-replicate, get_or-replicate}
use lib.Seq.{get_or-set_same, get_or-set_other}
use Rattle.held.specs.Key.{Key, key_child, key_coarse, power_most}
use Rattle.merge.specs.Sweep.{KeyRow, Seeded, Pushed}
use Rattle.base.specs.Limits.{most_cells, most_coarse_cells}

-- the heads of the first i coarse cells
pub record Headed (px : List ℕ) (i : ℕ) : Type 0 where
  pub long : length px ≡ most_cells
  pub heads : (j : ℕ) → j < i → get_or px j 0 ≡ j

pub headed_none : Headed (replicate most_cells 0) 0
headed_none = record { long = length-replicate {A = ℕ} most_cells 0; heads = λ j h. absurd (omega arith) }

pub headed_more : (px : List ℕ) (i : ℕ) → Headed px i → i < most_cells → Headed (set px i i) (suc i)
headed_more px i s a =
    record {
      long = length-set px i i ∙ s.long;
      heads = λ j h. elim (ℕ_discrete j i) [
        | yes q ↦ rw q (get_or-set_same px i i 0 (omega (arith, s.long)))
        | no q ↦ get_or-set_other px i j i 0 q ∙ s.heads j (omega arith)
      ];
    }

module _ (px : List ℕ) (m : ℕ) (few : m ≤ most_coarse_cells) (s : Headed px m) where
  pub seeded : Seeded px (replicate most_cells 0) m
  seeded = record { heads = s.heads; digits = λ i h. get_or-replicate most_cells i 0 0 (omega arith) }

  pub seeded_keys : KeyRow px (replicate most_cells 0) 0 m
  seeded_keys =
      record { keys = λ i a b. rw (seeded.heads i b, seeded.digits i b) (key_coarse i (omega arith)).key }

module _ (px₀ py₀ : List ℕ) (e x y : ℕ) where
  pub pushed_none : Pushed px₀ py₀ e x y 0 px₀ py₀
  pushed_none =
      record {
        old_heads = λ i h. refl;
        old_digits = λ i h. refl;
        heads = λ i h. absurd (omega arith);
        digits = λ i h. absurd (omega arith);
      }

  pub pushed_more : (px py : List ℕ) (i v : ℕ) → Pushed px₀ py₀ e x y i px py → e + i < length px → e + i < length py
      → v ≡ y + i * 2 ^ (3 * (x / 256)) → Pushed px₀ py₀ e x y (suc i) (set px (e + i) (x + 256)) (set py (e + i) v)
  pushed_more px py i v s a b q =
      record {
        old_heads = λ j h. get_or-set_other px (e + i) j (x + 256) 0 (λ z. omega arith) ∙ s.old_heads j h;
        old_digits = λ j h. get_or-set_other py (e + i) j v 0 (λ z. omega arith) ∙ s.old_digits j h;
        heads = λ j h. elim (ℕ_discrete j i) [
          | yes z ↦ rw z (get_or-set_same px (e + i) (x + 256) 0 a)
          | no z ↦ get_or-set_other px (e + i) (e + j) (x + 256) 0 (λ w. z (omega arith)) ∙ s.heads j (omega arith)
        ];
        digits = λ j h. elim (ℕ_discrete j i) [
          | yes z ↦ rw z (get_or-set_same py (e + i) v 0 b ∙ q)
          | no z ↦ get_or-set_other py (e + i) (e + j) v 0 (λ w. z (omega arith)) ∙ s.digits j (omega arith)
        ];
      }

-- a child's digits have room
pub digits_room : (x y i p : ℕ) → Key x y → x / 256 < 10 → i < 8 → p ≡ 2 ^ (3 * (x / 256)) → y + i * p < 1073741824
digits_room x y i p k h g q =
    let w = key_child x y i k h g in
    let l : (x + 256) / 256 ≤ 10 = w.key.level in
    rw q (omega (arith, w.key.below, power_most ((x + 256) / 256) l))

pub product_room : (i p : ℕ) → i < 8 → p ≤ 1073741824 → i * p ≤ 8589934592
product_room i p h g = let l : i ≤ 8 = omega arith in let w : i * p ≤ 8 * 1073741824 = mul-le-mul l g in omega arith
