-- Sizes of statuses and of lists of them.
-- Assumes nothing.
use Rattle.std.specs.Prelude.{◌≡◌, refl, true, false, Bool, List, [], ◌∷◌, leb, eqb, length, get_or, drop}
use Rattle.std.proofs.Common.{sym, ◌∙◌, ap, leb→le, length-drop, take-suc, get_or-drop}
use Prim.Native.Nat.{ℕ, suc, ◌+◌, ◌-◌, ◌≤◌, ◌<◌}
use native.Mathlib.Omega.{arith}
use borrow.Author.Tests.{eq-eqb, ne_eqb}
use Rattle.base.specs.Lists.{allb, allb_at}
use Rattle.cutting.specs.Rule.{family}
use Rattle.cutting.specs.Answer.{Cut, cut_of, cut_into, cut_of_accepted}
use Rattle.cutting.proofs.Rows.{family_few}
use Rattle.mesh.specs.Cells.{pattern_of}
use Rattle.mesh.specs.Table.{size_of, sizes}
use Rattle.rows.specs.Numbered.{part}
use Rattle.mesh.specs.Laws.{sizes_append, sizes_one, pattern_below}

-- the three cases of a status
pub size_leaf : (s : ℕ) → s ≡ 0 → size_of s ≡ 0
unfolding size_of
size_leaf s e = rw (eq-eqb s 0 e, size_of)

pub red_eight : length (family 63) ≡ 8
unfolding family
red_eight = refl

pub size_red : (s : ℕ) → s ≡ 64 → size_of s ≡ 8
unfolding size_of pattern_of
size_red s e = rw e red_eight

pattern_green : (s : ℕ) → (s ≡ 64 → ⊥) → pattern_of s ≡ s
unfolding pattern_of
pattern_green s b = rw (ne_eqb s 64 b, pattern_of)

size_refined : (s : ℕ) → (s ≡ 0 → ⊥) → size_of s ≡ length (family (pattern_of s))
unfolding size_of
size_refined s a = rw (ne_eqb s 0 a, size_of)

pub size_green : (s : ℕ) → (s ≡ 0 → ⊥) → (s ≡ 64 → ⊥) → s ≤ 64 → size_of s ≡ (cut_of s).count
unfolding cut_into
size_green s a b h = size_refined s a ∙ rw (pattern_green s b) (sym (ap (λ (f : Cut). f.count) (cut_of_accepted s (omega (arith, b)))))

pub green_few : (s : ℕ) → (s ≡ 64 → ⊥) → s ≤ 64 → (cut_of s).count ≤ 8
unfolding cut_into
green_few s b h = rw (cut_of_accepted s (omega (arith, b))) (family_few s (omega (arith, b)))

-- no family has more than eight cells
pub size_few : (s : ℕ) → s ≤ 64 → size_of s ≤ 8
unfolding size_of
size_few s h = go (eqb s 0) refl
  where
    go : (b : Bool) → eqb s 0 ≡ b → size_of s ≤ 8
    go true e = rw (e, size_of) (omega arith)
    go false e = rw (e, size_of) (family_few (pattern_of s) (pattern_below s h))

pub sizes_step : (l : List ℕ) (first c : ℕ) → first ≤ c → c < length l
    → sizes (part l first (c + 1 - first)) ≡ sizes (part l first (c - first)) + size_of (get_or l c 0)
sizes_step l first c h g =
    let e : c + 1 - first ≡ suc (c - first) = omega arith in
    let w : first + (c - first) ≡ c = omega arith in
    let k : c - first < length (drop first l) = simp length-drop (omega arith) in
    rw (e, take-suc (drop first l) (c - first) 0 k, get_or-drop first l (c - first) 0, w)
    (sizes_append (part l first (c - first)) (get_or l c 0 ∷ []) ∙ rw (sizes_one (get_or l c 0)))

pub sizes_none : (l : List ℕ) (first : ℕ) → sizes (part l first (first - first)) ≡ 0
unfolding sizes
sizes_none l first = let e : first - first ≡ 0 = omega arith in rw e

pub status_fits : (l : List ℕ) → allb (λ s. leb s 64) l ≡ true → (c : ℕ) → c < length l → get_or l c 0 ≤ 64
status_fits l t c h = leb→le (get_or l c 0) 64 (allb_at (λ s. leb s 64) 0 l (rw t tt) c h)
