-- No tie (Rule 2.6): no present point lies on the affine function through the heights of a child's four points.
--   corners4 c    the four points of a child
--   rise_over c x  how far x lies above that function, times the child's volume
-- Law: child_no_tie.
use Rattle.std.specs.Prelude.{◌≡◌, ◌≢◌, false, ◌||◌, List, [], ◌∷◌, ℕ, ◌<◌, T, eqb, ℤ, pos, length, get_or}
use Rattle.std.proofs.Common.{arith}
use Rattle.base.specs.Lists.{memberb, allb_at}
use Rattle.base.specs.Each.{all_filter, member_of}
use Rattle.cutting.specs.Rule.{points, low, high, edge_of, split, present, rise, family}
use Rattle.families.specs.Facts.{child_at, no_tie}

abbrev pub corners4 : List ℕ → List ℕ
corners4 c = get_or c 0 0 ∷ get_or c 1 0 ∷ get_or c 2 0 ∷ get_or c 3 0 ∷ []

-- Rule 2.6: the value that is tested, and never 0.
abbrev pub rise_over : List ℕ → ℕ → ℤ
rise_over c x = rise (get_or c 0 0) (get_or c 1 0) (get_or c 2 0) (get_or c 3 0) x

present_below : (p d : ℕ) → T (memberb d (present p)) → d < 10
unfolding present
present_below p d t =
    let small = all_filter (λ d. eqb (low d) (high d) || split p (edge_of d)) (λ d. d < 10) points (omega arith) in
    member_of (λ d. d < 10) d (present p) small t

pub child_no_tie : (p k x : ℕ) → p < 64 → k < length (family p) → T (memberb x (present p))
    → memberb x (corners4 (get_or (family p) k [])) ≡ false → rise_over (get_or (family p) k []) x ≢ pos 0
child_no_tie p k x h l t o =
    let c = get_or (family p) k [] in
    let w = child_at p k h l in
    let last : T (memberb (get_or c 3 0) (present p)) = allb_at (λ d. memberb d (present p)) 0 c w.present 3 (omega (arith, w.four)) in
    no_tie (get_or c 0 0) (get_or c 1 0) (get_or c 2 0) (get_or c 3 0) x w.rise01 w.rise12 w.rise23 (present_below p (get_or c 3 0) last)
    (present_below p x t) o w.solid
