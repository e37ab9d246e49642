-- One number more of a copy.
-- Assumes nothing.
use mathlib.Core.Path.{◌≡◌}
use mathlib.Core.List.{List, ◌++◌}
use Prim.Native.Nat.{ℕ, suc, ◌+◌, ◌<◌}
use native.Mathlib.Omega.{arith}
use lib.ListN.{length, get_or, set, take, drop}
use lib.Seq.{paste-suc}

pub copy_turn : (to from : List ℕ) (j : ℕ) → j < length to → j < length from
    → set (take j from ++ drop j to) j (get_or from j 0) ≡ take (j + 1) from ++ drop (j + 1) to
copy_turn to from j h g =
    let a : 0 + j ≡ j = omega arith in
    let b : 0 + suc j ≡ suc j = omega arith in
    let e : j + 1 ≡ suc j = omega arith in
    let t = paste-suc to 0 from j 0 (omega arith) g in
    rw e (rw (a, b) at t)
