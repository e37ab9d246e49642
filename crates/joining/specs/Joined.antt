-- Done stores of all parts, in any order, merge to the table that their masters are of.
--   Joining ..      what is lent: the stores of the parts 1 to P, each once, done with the same result and of the same split, with the
--                   masters of the table ss among their entries
-- Law: laid_at (stores laid one behind the other). THE THEOREM is in proofs/Joined.
use Rattle.std.specs.Prelude.{◌≡◌, ℕ, zero, suc, ◌+◌, ◌*◌, ◌≤◌, ◌<◌, T, length, get_or}
use Rattle.std.proofs.Math.Path.{ap}
use Rattle.std.proofs.Common.{◌∙◌, get_or-append-add}
use mathlib.Core.List.{List, [], ◌∷◌, ◌++◌, flat_map, append_assoc}
use native.Mathlib.Omega.{arith}
use Rattle.std.proofs.Math.ListN.{get_or-append}
use Rattle.base.specs.Limits.{most_parts}
use Rattle.mesh.specs.Coarse.{cellsb}
use Rattle.mesh.specs.Table.{soundb}
use Rattle.parts.specs.Held.{Entry}
use Rattle.store.specs.Fields.{field, full, OWNER}
use Rattle.joining.specs.Joint.{Order, Joint}
use Rattle.joining.specs.Done.{PartDone}

-- stores laid one behind the other
pub laid_at : (X : ℕ → List ℕ) (l : List ℕ) (rest : List ℕ) → ((j : ℕ) → j < length l → length (X (get_or l j 0)) ≡ full)
    → (j k : ℕ) → j < length l → k < full → get_or (flat_map X l ++ rest) (full * j + k) 0 ≡ field (X (get_or l j 0)) k
unfolding flat_map
laid_at X [] rest w j k h g = absurd (omega arith)
laid_at X (p ∷ l) rest w zero k h g =
    let z : full * 0 + k ≡ k = omega arith in
    rw z (ap (λ (m : List ℕ). get_or m k 0) (append_assoc (X p) (flat_map X l) rest)
    ∙ get_or-append (X p) (flat_map X l ++ rest) 0 k (omega (arith, w 0 (omega arith))))
laid_at X (p ∷ l) rest w (suc j) k h g =
    let z : full * suc j + k ≡ length (X p) + (full * j + k) = omega (arith, w 0 (omega arith)) in
    rw z (ap (λ (m : List ℕ). get_or m (length (X p) + (full * j + k)) 0) (append_assoc (X p) (flat_map X l) rest)
    ∙ get_or-append-add (X p) (flat_map X l ++ rest) (full * j + k) 0
    ∙ laid_at X l rest (λ i m. w (suc i) (omega arith)) j k (omega arith) g)

module _ (b : List ℕ) (P n result : ℕ) (qs : List (List ℕ)) (ss : List ℕ) (es : ℕ → List Entry) (X : ℕ → List ℕ) (l : List ℕ) where
  pub record Joining : Type 0 where
    pub room : most_parts * full ≤ length b
    pub some : 1 ≤ P
    pub order : Order P l
    pub at : (j k : ℕ) → j < P → k < full → get_or b (full * j + k) 0 ≡ field (X (get_or l j 0)) k
    pub done : (p : ℕ) → 1 ≤ p → p ≤ P → PartDone P n result qs (es p) p (X p)
    pub owner : (i : ℕ) → i < length qs → (p : ℕ) × (1 ≤ p) × (p ≤ P) × (field (X p) (OWNER + i) ≡ p)
    pub cells : T (cellsb n qs)
    pub sound : T (soundb n qs ss)
    pub joint : Joint n qs ss P es
