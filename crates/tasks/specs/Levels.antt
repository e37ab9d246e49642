-- The cells of a level by number: the levels stand one behind the other.
-- Laws: below_none, below_coarse and below_more (how many cells lower levels have), below_first (the first cell of a level), below_top
-- and below_all (all cells), level_range and level_gap (the numbers of a level's cells), one_at_least (a mesh with cells has a level),
-- level_top (which levels have cells).
use Rattle.std.specs.Prelude.{◌≡◌, take}
use Rattle.std.proofs.Math.Path.{refl, sym, ap}
use Rattle.std.proofs.Common.{◌∙◌, arith, length-append, take-suc, take_all}
use mathlib.Core.List.{List, [], ◌∷◌, ◌++◌, flat_map}
use Prim.Native.Nat.{ℕ, zero, suc, ◌+◌, ◌-◌, ◌≤◌, ◌<◌}
use Rattle.std.proofs.Math.Decide.{dec_lt}
use Rattle.std.proofs.Math.ListN.{length, get_or-eq_default}
use Rattle.base.specs.Range.{range}
use Rattle.mesh.specs.Weights.{coarse_cells}
use Rattle.mesh.specs.Table.{Level, levels_of, cells_of}
use Rattle.mesh.specs.Laws.{length-coarse}
use Rattle.lattice.specs.Levels.{no_level}
use Rattle.lineage.specs.Levels.{levels_first, cells_first}
use Rattle.soundness.specs.Sound.{Sound, lv, level_there}
use Rattle.base.specs.Member.{Member}
use Rattle.splitting.specs.Numbers.{numbers_of, first_zero, stands}
use Rattle.split.specs.Columns.{level_at, cells_below}

cells_snoc : (ls : List Level) (l : Level) → length (cells_of (ls ++ (l ∷ []))) ≡ length (cells_of ls) + length l.cells
unfolding cells_of flat_map
cells_snoc [] l = length-append l.cells [] ∙ omega arith
cells_snoc (m ∷ ls) l =
    length-append m.cells (cells_of (ls ++ (l ∷ []))) ∙ omega (arith, cells_snoc ls l, length-append m.cells (cells_of ls))

module _ (n : ℕ) (qs : List (List ℕ)) (ss : List ℕ) where
  abbrev ls : List Level
  ls = levels_of n qs ss

  abbrev many : ℕ → ℕ
  many k = length (level_at n qs ss k).cells

  none_above : (k : ℕ) → length ls ≤ k → many k ≡ 0
  none_above k h = ap (λ (l : Level). length l.cells) (get_or-eq_default ls no_level {n = k} h)

  below_taken : (k : ℕ) → k ≤ length ls → cells_below n qs ss k ≡ length (cells_of (take k ls))
  unfolding cells_below cells_of flat_map
  below_taken zero h = refl
  below_taken (suc k) h =
      ap (λ (x : ℕ). x + many k) (below_taken k (omega arith))
      ∙ sym (ap (λ (l : List Level). length (cells_of l)) (take-suc ls k no_level h) ∙ cells_snoc (take k ls) (level_at n qs ss k))

  pub below_more : (k : ℕ) → cells_below n qs ss (suc k) ≡ cells_below n qs ss k + many k
  unfolding cells_below
  below_more k = refl

  pub below_none : cells_below n qs ss 0 ≡ 0
  unfolding cells_below
  below_none = refl

  below_high : (d : ℕ) → cells_below n qs ss (length ls + d) ≡ cells_below n qs ss (length ls)
  below_high zero = ap (cells_below n qs ss) (omega arith)
  below_high (suc d) =
      let z : length ls + suc d ≡ suc (length ls + d) = omega arith in
      ap (cells_below n qs ss) z ∙ below_more (length ls + d) ∙ omega (arith, none_above (length ls + d) (omega arith), below_high d)

  pub below_first : (k : ℕ) → k < length ls → (lv n qs ss k).first ≡ cells_below n qs ss k
  unfolding levels_of
  below_first zero h = first_zero n qs ss h ∙ sym below_none
  below_first (suc k) h =
      levels_first 12 0 (coarse_cells n qs) ss k h ∙ omega (arith, below_first k (omega arith), below_more k)

  -- a level, whether it has cells or not
  pub level_range : (k : ℕ) → numbers_of n qs ss k ≡ range (cells_below n qs ss k) (many k)
  unfolding numbers_of range
  level_range k =
      elim (dec_lt k (length ls)) [
        | yes h ↦ ap (λ (x : ℕ). range x (many k)) (below_first k h)
        | no h ↦ let z : many k ≡ 0 = none_above k (omega arith) in rw z refl
      ]

  pub level_gap : (k : ℕ) → numbers_of n qs ss k ≡ range (cells_below n qs ss k) (cells_below n qs ss (suc k) - cells_below n qs ss k)
  level_gap k =
      let z : cells_below n qs ss (suc k) - cells_below n qs ss k ≡ many k = omega (arith, below_more k) in
      level_range k ∙ ap (range (cells_below n qs ss k)) (sym z)

  pub below_coarse : cells_below n qs ss 1 ≡ length qs
  unfolding levels_of
  below_coarse =
      below_more 0 ∙ omega (arith, below_none, ap length (cells_first 11 0 (coarse_cells n qs) ss), length-coarse n qs)

  -- a mesh with cells has a level
  pub one_at_least : 1 ≤ length qs → 1 ≤ length ls
  unfolding levels_of
  one_at_least h =
      elim (dec_lt 0 (length ls)) [
        | yes g ↦ g
        | no g ↦
            absurd (omega (arith, none_above 0 (omega arith), ap length (cells_first 11 0 (coarse_cells n qs) ss), length-coarse n qs))
      ]

  module _ (s : Sound n qs ss) where
    pub below_top : cells_below n qs ss (length ls) ≡ length ss
    below_top =
        below_taken (length ls) (omega arith) ∙ ap (λ (l : List Level). length (cells_of l)) (take_all (length ls) ls (omega arith))
        ∙ sym s.many

    up : (k d : ℕ) → cells_below n qs ss k ≤ cells_below n qs ss (k + d)
    up k zero = let z : k + 0 ≡ k = omega arith in rw z (omega arith)
    up k (suc d) = let z : k + suc d ≡ suc (k + d) = omega arith in rw z (omega (arith, up k d, below_more (k + d)))

    pub below_all : (k : ℕ) → cells_below n qs ss k ≤ length ss
    below_all k =
        elim (dec_lt k (length ls)) [
          | yes h ↦
              let z : k + (length ls - k) ≡ length ls = omega arith in
              let w : cells_below n qs ss k ≤ cells_below n qs ss (length ls) = rw z at (up k (length ls - k)) in
              omega (arith, below_top)
          | no h ↦
              let z : length ls + (k - length ls) ≡ k = omega arith in
              let w : cells_below n qs ss k ≡ cells_below n qs ss (length ls) = rw z at (below_high (k - length ls)) in
              omega (arith, below_top)
        ]

    pub level_top : (k c : ℕ) → Member c (numbers_of n qs ss k) → k < length ls
    level_top k c m = let p = stands n qs ss s k c m in level_there n qs ss k p.t p.below
