-- One turn of the loop that copies a part of a list into an array of zeros.
-- Assumes nothing.
use mathlib.Core.Path.{◌≡◌}
use mathlib.Core.List.{List, ◌++◌, append_assoc}
use Prim.Native.Nat.{ℕ, suc, ◌+◌, ◌-◌, ◌<◌}
use native.Mathlib.Omega.{arith}
use lib.ListN.{length, get_or, take, drop, set, replicate, length-take, length-drop}
use lib.Seq.{take-suc, set_at, get_or-drop}

pub copy_more : (n : ℕ) (l : List ℕ) (from i : ℕ) → from + i < length l → i < n
    → set (take i (drop from l) ++ replicate (n - i) 0) i (get_or l (from + i) 0) ≡ take (suc i) (drop from l) ++ replicate (n - suc i) 0
copy_more n l from i h g =
    let e : n - i ≡ suc (n - suc i) = omega arith in
    let w : i < length (drop from l) = simp length-drop (omega arith) in
    let k : length (take i (drop from l)) ≡ i = simp (length-take, length-drop) (omega arith) in
    rw (e, take-suc (drop from l) i 0 w, append_assoc, get_or-drop from l i 0)
    (set_at (take i (drop from l)) 0 (replicate (n - suc i) 0) (get_or l (from + i) 0) i k)
