-- An edge that ends in a midpoint of a regular cell is an edge of regular cells of the next level alone.
-- Laws: not_both_on (not both ends of an edge lie on a lower lattice), next_level, not_own (it is no edge of the cell itself).
use mathlib.Core.List.{[]}
use Rattle.std.specs.Prelude.{◌≡◌, refl, ◌⊎◌, Bool, true, false, ℕ, suc, ◌+◌, ◌*◌, ◌<◌, ◌≤◌, T}
use Rattle.std.proofs.Common.{◌∙◌, inl, inr, arith}
use Rattle.std.proofs.Math.Logic.{⊎_elim}
use Rattle.std.proofs.Math.Decide.{dec_lt}
use Rattle.base.specs.Lists.{sameb}
use Rattle.cutting.specs.Rule.{low, high}
use Rattle.mesh.specs.Cells.{Cell, corner, edge, edges, joinsb, heldb}
use Rattle.mesh.specs.Weights.{Point, point}
use Rattle.families.specs.Kuhn.{steps_between, gap}
use Rattle.lattice.specs.Tails.{tail_sum}
use Rattle.lattice.specs.Regular.{unit_even, cancel, Regular, On, corner_on, point_on, mid_off}
use Rattle.families.specs.Children.{middle, middle_ends}
use Rattle.lattice.specs.Edges.{joins}
use Rattle.carriers.specs.Lists.{held_which}

module _ (n m l : ℕ) (q : Cell Point) (s : Regular n m q) where
  not_both_on : l < m → m ≤ 10 → (i j : ℕ) → i < j → j < 4 → On l (corner [] q i) → On l (corner [] q j) → ⊥
  not_both_on h g i j hi hj a b =
      let x = s.coordinates in
      let (p, w) = gap x s.kuhn i j hi hj in
      let t = steps_between x s.kuhn i j (omega arith) hj p in
      let (v, _, u) = unit_even l m h g in
      let y = a.0 p * v in
      let z = b.0 p * v in
      let e : x i p ≡ y + y = cancel m (x i p) (y + y) (tail_sum (corner [] q i) p) (tail_sum (corner [] q i) p) (s.tails i (omega arith) p)
      (a.1 p ∙ rw u (omega arith)) refl in
      let f : x j p ≡ z + z = cancel m (x j p) (z + z) (tail_sum (corner [] q j) p) (tail_sum (corner [] q j) p) (s.tails j hj p)
      (b.1 p ∙ rw u (omega arith)) refl in
      omega arith

module _ (n k m : ℕ) (c q : Cell Point) (h : k < 10) (g : m ≤ 10) (r : Regular n k c) (s : Regular n m q) (d e : ℕ) (hd : d < 10)
    (he : e < 10) where
  level_from_lem : (low d < high d) ⊎ (low e < high e) → (i j : ℕ) → i < 4 → j < 4 → (i < j) ⊎ (j < i) → point c d ≡ corner [] q i
      → point c e ≡ corner [] q j → m ≡ suc k
  level_from_lem z i j hi hj o x y =
      elim (dec_lt k m) [
        | no l ↦ absurd (⊎_elim (λ (w : low d < high d). mid_off n k m c (corner [] q i) h r (omega arith) (corner_on n m q s i hi) d hd w
            x)
            (λ (w : low e < high e). mid_off n k m c (corner [] q j) h r (omega arith) (corner_on n m q s j hj) e he w y) z)
        | yes l ↦ elim (dec_lt (suc k) m) [
          | no u ↦ omega arith
          | yes u ↦
              let a : On (suc k) (corner [] q i) = rw (← x) (point_on n k c h r d hd) in
              let b : On (suc k) (corner [] q j) = rw (← y) (point_on n k c h r e he) in
              absurd (⊎_elim (λ (w : i < j). not_both_on n m (suc k) q s u g i j w hj a b)
              (λ (w : j < i). not_both_on n m (suc k) q s u g j i w hi b a) o)
        ]
      ]

  pub next_level : (low d < high d) ⊎ (low e < high e) → (y : ℕ) → y < 6 → T (joinsb sameb (point c d, point c e) (edge [] q y)) → m ≡ suc k
  unfolding edge
  next_level z y hy t =
      let (a, b, _) = middle_ends y hy in
      let i = low (middle y) in
      let j = high (middle y) in
      ⊎_elim (λ (u : (point c d ≡ corner [] q i) × (point c e ≡ corner [] q j)). level_from_lem z i j (omega arith) b (inl a) u.0 u.1)
      (λ (u : (point c d ≡ corner [] q j) × (point c e ≡ corner [] q i)). level_from_lem z j i b (omega arith) (inr a) u.0 u.1)
      (joins (point c d) (point c e) (corner [] q i) (corner [] q j) t)

-- so it is no edge of the cell itself
pub not_own : (n k : ℕ) (c : Cell Point) → k < 10 → Regular n k c → (d e : ℕ) → d < 10 → e < 10 → (low d < high d) ⊎ (low e < high e)
    → heldb sameb (edges [] c) (point c d, point c e) ≡ false
not_own n k c h r d e hd he z = go (heldb sameb (edges [] c) (point c d, point c e)) refl
  where
    go : (b : Bool) → heldb sameb (edges [] c) (point c d, point c e) ≡ b → b ≡ false
    go true q =
        let (y, hy, t) = held_which [] c sameb (point c d, point c e) (rw q tt) in
        let m : k ≡ suc k = next_level n k k c c h (omega arith) r r d e hd he z y hy t in
        absurd (omega arith)
    go false q = refl
