-- A table that is written row by row from the front. It holds the rows written, p, and behind them what it held before: p is k
-- long, and the rest is `drop k l`.
-- Assumes nothing.
use mathlib.Core.Path.{◌≡◌, ◌∙◌}
use mathlib.Core.List.{List, ◌++◌}
use Prim.Native.Nat.{ℕ, ◌+◌, ◌-◌, ◌≤◌}
use native.Mathlib.Omega.{arith}
use lib.ListN.{length, drop, length-append, length-drop}
use lib.Seq.{sets, sets-eq, take_at, drop-append-add, drop-drop}

module _ {A : Type 0} (l p : List A) (k : ℕ) (e : length p ≡ k) where
  -- what was behind the rows is what was there before
  pub behind : (n : ℕ) → k ≤ n → drop n (p ++ drop k l) ≡ drop n l
  behind n h =
      let q : List A = drop k l in
      let j : length p + (n - k) ≡ n = omega arith in
      let i : k + (n - k) ≡ n = omega arith in
      rw j at (drop-append-add p q (n - k)) ∙ (rw i at (drop-drop (n - k) k l))

  pub same_size : k ≤ length l → length (p ++ drop k l) ≡ length l
  same_size h = simp (length-append, length-drop) (omega arith)

  -- one row more
  pub row : (vs : List A) (n : ℕ) → k + length vs ≡ n → n ≤ length l → sets (p ++ drop k l) k vs ≡ (p ++ vs) ++ drop n l
  row vs n f h =
      sets-eq vs (p ++ drop k l) k (rw (same_size (omega arith), f) h)
      ∙ rw (take_at p (drop k l) k e, f, behind n (omega arith))
