-- Parts of lists: how long they are, one element more, and what holds of each.
use Rattle.std.specs.Prelude.{List, [], ◌∷◌, ℕ, zero, suc, ◌+◌, ◌≤◌, ◌<◌, T, leb, length, get_or, take, drop}
use Rattle.std.proofs.Common.{arith, get_or-take, get_or-drop, le-leb}
use Rattle.std.proofs.Math.Seq.{take-nil}
use Rattle.base.specs.Lists.{allb}
use Rattle.base.specs.Every.{all_each}
use Rattle.rows.specs.Numbered.{part}
use Rattle.mesh.specs.Table.{sizes}
use Rattle.rows.specs.Laws.{length_part}

pub small_part : (l : List ℕ) (k m : ℕ) → k + m ≤ length l → ((c : ℕ) → k ≤ c → c < k + m → get_or l c 0 ≤ 64)
    → T (allb (λ s. leb s 64) (part l k m))
small_part l k m h q = all_each (λ s. leb s 64) 0 (part l k m) at
  where
    at : (i : ℕ) → i < length (part l k m) → T (leb (get_or (part l k m) i 0) 64)
    at i g =
        let w : i < m = rw (length_part l k m h) at g in
        rw (get_or-take m (drop k l) i 0 w, get_or-drop k l i 0, le-leb (get_or l (k + i) 0) 64 (q (k + i) (omega arith) (omega arith))) tt

pub sizes-take : (l : List ℕ) (j k : ℕ) → j ≤ k → sizes (take j l) ≤ sizes (take k l)
unfolding sizes
sizes-take [] j k h = rw (take-nil j, take-nil k) (omega arith)
sizes-take (x ∷ l) zero k h = omega arith
sizes-take (x ∷ l) (suc j) zero h = absurd (omega arith)
sizes-take (x ∷ l) (suc j) (suc k) h = omega (arith, sizes-take l j k (omega arith))
