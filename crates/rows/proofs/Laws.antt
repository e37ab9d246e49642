-- Laws of a scan of the statuses: where it stops, and where it goes on.
use Rattle.std.specs.Prelude.{◌≡◌, true, false, List, leb, length, get_or, drop}
use Rattle.std.proofs.Common.{drop-cons}
use Prim.Native.Nat.{ℕ, suc, ◌+◌, ◌≤◌, ◌<◌}
use native.Mathlib.Omega.{arith}
use borrow.Author.Tests.{le-leb, lt-leb}
use Rattle.base.specs.Lists.{allb}

module _ (l : List ℕ) (c : ℕ) (h : c < length l) where
  pub fits_not : 64 < get_or l c 0 → allb (λ s. leb s 64) (drop c l) ≡ false
  unfolding allb
  fits_not g = rw (drop-cons l c 0 h, lt-leb (get_or l c 0) 64 g)

  pub fits_next : get_or l c 0 ≤ 64 → allb (λ s. leb s 64) (drop c l) ≡ allb (λ s. leb s 64) (drop (c + 1) l)
  unfolding allb
  fits_next g = let w : c + 1 ≡ suc c = omega arith in rw (drop-cons l c 0 h, le-leb (get_or l c 0) 64 g, w)
