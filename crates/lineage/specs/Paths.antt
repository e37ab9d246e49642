-- Paths tell the cells of a level apart, and the coarse cells by their places.
--   path_at cs t   the path of the cell t of cs
--   Paths cs      no two cells of cs have the same path
-- Laws: snoc_inj (a path behind which a child number stands), paths_next, coarse_at (a coarse cell), paths_coarse,
-- upto_at, length_upto (numbers in their order).
use Rattle.std.specs.Prelude.{◌≡◌, refl, true, List, [], ◌∷◌, ◌++◌, map, ℕ, zero, suc, ◌+◌, ◌<◌, length, get_or, take}
use Rattle.std.proofs.Common.{sym, ◌∙◌, ap, ap₂, ⊎_elim, eq-or-lt_of_le, arith, length-append}
use Rattle.std.proofs.Math.ListN.{get_or-append}
use Rattle.std.proofs.lemmas.List.{get_or_at}
use Rattle.mesh.specs.Cells.{Cell, none, no_cell}
use Rattle.mesh.specs.Weights.{Point, coarse, coarse_from, coarse_cells}
use Rattle.mesh.specs.Table.{next, sizes}
use Rattle.lineage.specs.Olds.{up_to}
use Rattle.lineage.specs.Born.{born}
use Rattle.mesh.specs.Laws.{length-coarse}

abbrev pub path_at : List (Cell Point) → ℕ → List ℕ
path_at cs t = (get_or cs t no_cell).path

-- Rule 3.3: a path belongs to one cell.
abbrev pub Paths : List (Cell Point) → Type 0
Paths cs = (t u : ℕ) → t < length cs → u < length cs → path_at cs t ≡ path_at cs u → t ≡ u

pub snoc_inj : (l m : List ℕ) (x y : ℕ) → l ++ (x ∷ []) ≡ m ++ (y ∷ []) → (l ≡ m) × (x ≡ y)
snoc_inj [] [] x y e = (refl, cc)
snoc_inj [] (b ∷ m) x y e = absurd (omega (arith, ap length e, length-append m (y ∷ [])))
snoc_inj (a ∷ l) [] x y e = absurd (omega (arith, ap length e, length-append l (x ∷ [])))
snoc_inj (a ∷ l) (b ∷ m) x y e =
    let h : a ≡ b = cc in
    let t : l ++ (x ∷ []) ≡ m ++ (y ∷ []) = cc in
    let (p, q) = snoc_inj l m x y t in (ap₂ ◌∷◌ h p, q)

pub paths_next : (k : ℕ) (cs : List (Cell Point)) (ss : List ℕ) → Paths cs → Paths (next k cs ss)
paths_next k cs ss d t u ht hu e =
    let (b, x) = born k cs ss t ht in
    let (b', x') = born k cs ss u hu in
    let w : path_at cs b.p ++ (b.i ∷ []) ≡ path_at cs b'.p ++ (b'.i ∷ []) =
    sym (ap (λ (c : Cell Point). c.path) b.is) ∙ e ∙ ap (λ (c : Cell Point). c.path) b'.is in
    let (p, q) = snoc_inj (path_at cs b.p) (path_at cs b'.p) b.i b'.i w in
    let r : b.p ≡ b'.p = d b.p b'.p b.below b'.below p in
    x ∙ ap₂ (λ (y z : ℕ). sizes (take y ss) + z) r q ∙ sym x'

-- coarse cells
from_at : (n i : ℕ) (qs : List (List ℕ)) (t : ℕ) → t < length qs
    → get_or (coarse_from n i qs) t no_cell ≡ record
    { path = (i + t) ∷ []; parent = none; regular = true; points = map (coarse n) (get_or qs t []) }
unfolding coarse_from
from_at n i [] t h = absurd (omega arith)
from_at n i (q ∷ qs) zero h =
    ap {A = ℕ} {B = Cell Point} (λ x. record { path = x ∷ []; parent = none; regular = true; points = map (coarse n) q }) (omega arith)
from_at n i (q ∷ qs) (suc t) h =
    from_at n (suc i) qs t (omega arith)
    ∙ ap {A = ℕ} {B = Cell Point} (λ x. record { path = x ∷ []; parent = none; regular = true; points = map (coarse n) (get_or qs t []) })
    (omega arith)

pub coarse_at : (n : ℕ) (qs : List (List ℕ)) (t : ℕ) → t < length qs
    → get_or (coarse_cells n qs) t no_cell ≡ record { path = t ∷ []; parent = none; regular = true; points = map (coarse n) (get_or qs t []) }
unfolding coarse_cells
coarse_at n qs t h =
    from_at n 0 qs t h
    ∙ ap {A = ℕ} {B = Cell Point} (λ x. record { path = x ∷ []; parent = none; regular = true; points = map (coarse n) (get_or qs t []) })
    (omega arith)

pub paths_coarse : (n : ℕ) (qs : List (List ℕ)) → Paths (coarse_cells n qs)
paths_coarse n qs t u ht hu e =
    let w : ◌≡◌ {A = List ℕ} (t ∷ []) (u ∷ []) =
    sym (ap (λ (c : Cell Point). c.path) (coarse_at n qs t (omega (arith, length-coarse n qs)))) ∙ e
    ∙ ap (λ (c : Cell Point). c.path) (coarse_at n qs u (omega (arith, length-coarse n qs))) in
    cc

-- numbers in their order
pub length_upto : (n : ℕ) → length (up_to n) ≡ n
unfolding up_to
length_upto zero = refl
length_upto (suc n) = length-append (up_to n) (n ∷ []) ∙ omega (arith, length_upto n)

pub upto_at : (n i : ℕ) → i < n → get_or (up_to n) i 0 ≡ i
unfolding up_to
upto_at zero i h = absurd (omega arith)
upto_at (suc n) i h =
    ⊎_elim (λ (e : i ≡ n). rw e (get_or_at (up_to n) n [] 0 n (length_upto n)))
    (λ (l : i < n). get_or-append (up_to n) (n ∷ []) 0 i (rw (length_upto n) l) ∙ upto_at n i l)
    (eq-or-lt_of_le (omega arith))
