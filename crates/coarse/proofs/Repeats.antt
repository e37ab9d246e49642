-- What the counts of cell keys say: two cells have the same key just where they have the same corners, since corner numbers
-- below 512 make the keys one to one.
-- Assumes nothing.
use mathlib.Core.Path.{◌≡◌, refl, sym, ap}
use mathlib.Core.Bool.{Bool, true, false, ◌||◌}
use mathlib.Core.List.{List, [], ◌∷◌}
use Prim.Native.Nat.{ℕ, suc, ◌+◌, ◌*◌, ◌≤◌, ◌<◌}
use native.Mathlib.Omega.{arith}
use lib.Dec.{T}
use borrow.Author.Tests.{eq-eqb}
use Rattle.base.specs.Lists.{allb, anyb, sameb, sameb_eq}
use Rattle.base.specs.Bools.{one_if, is_true, and_left, and_right}
use lib.ListN.{length, get_or}
use Rattle.mesh.specs.Coarse.{cellb, cellsb, twiceb}
use Rattle.coarse.specs.Tally.{lead, low_cell}
use Rattle.coarse.proofs.Rows.{Rising, rising}
use Rattle.coarse.proofs.Count.{count, count_le, or_right, any_le_count}
use Rattle.coarse.proofs.Meets.{keyb, key_is, key_x, key_y}

-- lists of cells in order
pub data Cells : List (List ℕ) → Type 0 where
  none : Cells []
  cell : {a b c d : ℕ} {qs : List (List ℕ)} → Rising 512 a b c d → Cells qs → Cells ((a ∷ b ∷ c ∷ d ∷ []) ∷ qs)

cell_first : (q : List ℕ) {qs : List (List ℕ)} → length q ≡ 4 → T (cellb 512 q) → Cells qs → Cells (q ∷ qs)
cell_first [] e u cs = absurd (omega arith)
cell_first (a ∷ []) e u cs = absurd (omega arith)
cell_first (a ∷ b ∷ []) e u cs = absurd (omega arith)
cell_first (a ∷ b ∷ c ∷ []) e u cs = absurd (omega arith)
cell_first (a ∷ b ∷ c ∷ d ∷ []) e u cs = cell (rising 512 (a ∷ b ∷ c ∷ d ∷ []) (is_true (cellb 512 (a ∷ b ∷ c ∷ d ∷ [])) u)) cs
cell_first (a ∷ b ∷ c ∷ d ∷ x ∷ l) e u cs = absurd (omega arith)

pub cells : (qs : List (List ℕ)) → ((k : ℕ) → k < length qs → length (get_or qs k []) ≡ 4) → T (cellsb 512 qs) → Cells qs
unfolding cellsb allb
cells [] four t = none
cells (q ∷ qs) four t =
    cell_first q (four 0 (omega arith)) (and_left (cellb 512 q) (allb (cellb 512) qs) t)
    (cells qs (λ k h. four (suc k) (omega arith)) (and_right (cellb 512 q) (allb (cellb 512) qs) t))

pub same_key : (kx ky : List ℕ → ℕ) (t u : List ℕ) → sameb t u ≡ true → keyb kx ky (kx t) (ky t) u ≡ true
same_key kx ky t u e = let q : t ≡ u = sameb_eq t u (rw e tt) in key_is kx ky (kx t) (ky t) u (ap kx (sym q)) (ap ky (sym q))

-- where no element passes a test, none passes a stronger one
never : {A : Type 0} (f g : A → Bool) → ((x : A) → f x ≡ true → g x ≡ true) → (l : List A) → count g l ≡ 0 → anyb f l ≡ false
unfolding one_if
never f g h l z = go (anyb f l) refl
  where
    go : (b : Bool) → anyb f l ≡ b → b ≡ false
    go true e = let o : one_if (anyb f l) ≡ 1 = rw e in absurd (omega (arith, any_le_count f l, count_le f g h l))
    go false e = refl

pub twice_none : {qs : List (List ℕ)} → Cells qs → ((x y : ℕ) → count (keyb lead low_cell x y) qs ≤ 1) → twiceb qs ≡ false
unfolding twiceb count one_if
twice_none none h = refl
twice_none (cell {a} {b} {c} {d} {qs} r cs) h =
    let q = a ∷ b ∷ c ∷ d ∷ [] in
    let k : keyb lead low_cell (lead q) (low_cell q) q ≡ true = key_is lead low_cell (lead q) (low_cell q) q refl refl in
    let o : one_if (keyb lead low_cell (lead q) (low_cell q) q) ≡ 1 = rw k in
    let z : count (keyb lead low_cell (lead q) (low_cell q)) qs ≡ 0 = omega (arith, h (lead q) (low_cell q)) in
    rw (never (sameb q) (keyb lead low_cell (lead q) (low_cell q)) (same_key lead low_cell q) qs z)
    (twice_none cs (λ x y. omega (arith, h x y)))

-- one of the cells has the key of a cell: it is the cell
module _ (x y a b c d : ℕ) (r : Rising 512 a b c d) (k : keyb lead low_cell x y (a ∷ b ∷ c ∷ d ∷ []) ≡ true) where
  one_same : {p q s t : ℕ} → Rising 512 p q s t → keyb lead low_cell x y (p ∷ q ∷ s ∷ t ∷ []) ≡ true
      → sameb (a ∷ b ∷ c ∷ d ∷ []) (p ∷ q ∷ s ∷ t ∷ []) ≡ true
  unfolding sameb lead low_cell
  one_same {p} {q} {s} {t} r' l =
      let e : a * 512 + b ≡ x = key_x lead low_cell x y (a ∷ b ∷ c ∷ d ∷ []) k in
      let f : c * 512 + d ≡ y = key_y lead low_cell x y (a ∷ b ∷ c ∷ d ∷ []) k in
      let g : p * 512 + q ≡ x = key_x lead low_cell x y (p ∷ q ∷ s ∷ t ∷ []) l in
      let i : s * 512 + t ≡ y = key_y lead low_cell x y (p ∷ q ∷ s ∷ t ∷ []) l in
      rw (eq-eqb a p (omega arith), eq-eqb b q (omega arith), eq-eqb c s (omega arith), eq-eqb d t (omega arith))

  any_same : {qs : List (List ℕ)} → Cells qs → 1 ≤ count (keyb lead low_cell x y) qs → anyb (sameb (a ∷ b ∷ c ∷ d ∷ [])) qs ≡ true
  unfolding count anyb one_if
  any_same none h = absurd (omega arith)
  any_same (cell {a = p} {b = q} {c = s} {d = t} {qs = qs} r' cs) h = go (keyb lead low_cell x y (p ∷ q ∷ s ∷ t ∷ [])) refl (any_same cs) h
    where
      go : (m : Bool) → keyb lead low_cell x y (p ∷ q ∷ s ∷ t ∷ []) ≡ m
          → (1 ≤ count (keyb lead low_cell x y) qs → anyb (sameb (a ∷ b ∷ c ∷ d ∷ [])) qs ≡ true)
          → 1 ≤ one_if m + count (keyb lead low_cell x y) qs
          → sameb (a ∷ b ∷ c ∷ d ∷ []) (p ∷ q ∷ s ∷ t ∷ []) || anyb (sameb (a ∷ b ∷ c ∷ d ∷ [])) qs ≡ true
      go true e less h = rw (one_same r' e)
      go false e less h = or_right (sameb (a ∷ b ∷ c ∷ d ∷ []) (p ∷ q ∷ s ∷ t ∷ [])) (anyb (sameb (a ∷ b ∷ c ∷ d ∷ [])) qs)
          (less (omega arith))

pub twice_some : (x y : ℕ) {qs : List (List ℕ)} → Cells qs → 1 < count (keyb lead low_cell x y) qs → twiceb qs ≡ true
unfolding twiceb count one_if
twice_some x y none h = absurd (omega arith)
twice_some x y (cell {a} {b} {c} {d} {qs} r cs) h = go (keyb lead low_cell x y (a ∷ b ∷ c ∷ d ∷ [])) refl (twice_some x y cs) h
  where
    go : (m : Bool) → keyb lead low_cell x y (a ∷ b ∷ c ∷ d ∷ []) ≡ m → (1 < count (keyb lead low_cell x y) qs → twiceb qs ≡ true)
        → 1 < one_if m + count (keyb lead low_cell x y) qs → anyb (sameb (a ∷ b ∷ c ∷ d ∷ [])) qs || twiceb qs ≡ true
    go true e less h = rw (any_same x y a b c d r e cs (omega arith))
    go false e less h = or_right (anyb (sameb (a ∷ b ∷ c ∷ d ∷ [])) qs) (twiceb qs) (less (omega arith))
