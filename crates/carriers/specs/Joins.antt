-- Two edges with the same two ends.
--   Edge           an edge of cells over weights
--   SameEnds e f   e and f have the same two ends
-- Laws: ends_of, joins_from (the test says so), joins_sym, joins_trans, held_joined (an edge that stands in a list, by another with
-- its ends), held_first, held_second, held_either (an edge in one list or another).
use Rattle.std.specs.Prelude.{◌≡◌, ◌⊎◌, ◌&&◌}
use Rattle.std.proofs.Common.{sym, ◌∙◌}
use Rattle.std.proofs.Math.Logic.{inl, inr, ⊎_elim}
use mathlib.Core.List.{List, [], ◌∷◌, ◌++◌}
use Rattle.std.proofs.Math.Dec.{T}
use Rattle.base.specs.Lists.{anyb, sameb}
use Rattle.base.specs.Places.{sameb_self}
use Rattle.mesh.specs.Cells.{joinsb, heldb}
use Rattle.mesh.specs.Weights.{Point}
use Rattle.base.specs.Bools.{or_either, or_first, or_second, and_both}
use Rattle.lattice.specs.Edges.{joins}

abbrev pub Edge : Type 0
Edge = Point × Point

abbrev pub SameEnds : Edge → Edge → Type 0
SameEnds e f = ((e.0 ≡ f.0) × (e.1 ≡ f.1)) ⊎ ((e.0 ≡ f.1) × (e.1 ≡ f.0))

same_point : (p q : Point) → p ≡ q → T (sameb p q)
same_point p q e = rw (e, sameb_self q) tt

pub ends_of : (e f : Edge) → T (joinsb sameb e f) → SameEnds e f
ends_of e f t = joins e.0 e.1 f.0 f.1 t

pub joins_from : (e f : Edge) → SameEnds e f → T (joinsb sameb e f)
unfolding joinsb
joins_from e f (inl (a, b)) =
    or_first (sameb e.0 f.0 && sameb e.1 f.1) (sameb e.0 f.1 && sameb e.1 f.0)
    (and_both (sameb e.0 f.0) (sameb e.1 f.1) (same_point e.0 f.0 a) (same_point e.1 f.1 b))
joins_from e f (inr (a, b)) =
    or_second (sameb e.0 f.0 && sameb e.1 f.1) (sameb e.0 f.1 && sameb e.1 f.0)
    (and_both (sameb e.0 f.1) (sameb e.1 f.0) (same_point e.0 f.1 a) (same_point e.1 f.0 b))

pub joins_sym : (e f : Edge) → T (joinsb sameb e f) → T (joinsb sameb f e)
joins_sym e f t = joins_from f e (go (ends_of e f t))
  where
    go : SameEnds e f → SameEnds f e
    go (inl (a, b)) = inl (sym a, sym b)
    go (inr (a, b)) = inr (sym b, sym a)

pub joins_trans : (e f g : Edge) → T (joinsb sameb e f) → T (joinsb sameb f g) → T (joinsb sameb e g)
joins_trans e f g t u = joins_from e g (go (ends_of e f t) (ends_of f g u))
  where
    go : SameEnds e f → SameEnds f g → SameEnds e g
    go (inl (a, b)) (inl (c, d)) = inl (a ∙ c, b ∙ d)
    go (inl (a, b)) (inr (c, d)) = inr (a ∙ c, b ∙ d)
    go (inr (a, b)) (inl (c, d)) = inr (a ∙ d, b ∙ c)
    go (inr (a, b)) (inr (c, d)) = inl (a ∙ d, b ∙ c)

pub held_joined : (es : List Edge) (e f : Edge) → T (joinsb sameb e f) → T (heldb sameb es f) → T (heldb sameb es e)
unfolding heldb anyb
held_joined [] e f t u = u
held_joined (g ∷ es) e f t u =
    ⊎_elim (λ (v : T (joinsb sameb f g)). or_first (joinsb sameb e g) (heldb sameb es e) (joins_trans e f g t v))
    (λ (v : T (heldb sameb es f)). or_second (joinsb sameb e g) (heldb sameb es e) (held_joined es e f t v))
    (or_either (joinsb sameb f g) (heldb sameb es f) u)

module _ (e : Edge) where
  pub held_first : (es fs : List Edge) → T (heldb sameb es e) → T (heldb sameb (es ++ fs) e)
  unfolding heldb anyb
  held_first [] fs t = absurd t
  held_first (g ∷ es) fs t =
      ⊎_elim (λ (v : T (joinsb sameb e g)). or_first (joinsb sameb e g) (heldb sameb (es ++ fs) e) v)
      (λ (v : T (heldb sameb es e)). or_second (joinsb sameb e g) (heldb sameb (es ++ fs) e) (held_first es fs v))
      (or_either (joinsb sameb e g) (heldb sameb es e) t)

  pub held_second : (es fs : List Edge) → T (heldb sameb fs e) → T (heldb sameb (es ++ fs) e)
  unfolding heldb anyb
  held_second [] fs t = t
  held_second (g ∷ es) fs t = or_second (joinsb sameb e g) (heldb sameb (es ++ fs) e) (held_second es fs t)

  pub held_either : (es fs : List Edge) → T (heldb sameb (es ++ fs) e) → T (heldb sameb es e) ⊎ T (heldb sameb fs e)
  unfolding heldb anyb
  held_either [] fs t = inr t
  held_either (g ∷ es) fs t =
      ⊎_elim (λ (v : T (joinsb sameb e g)). inl (or_first (joinsb sameb e g) (heldb sameb es e) v))
      (λ (v : T (heldb sameb (es ++ fs) e)).
      ⊎_elim (λ (w : T (heldb sameb es e)). inl (or_second (joinsb sameb e g) (heldb sameb es e) w)) (λ (w : T (heldb sameb fs e)). inr w)
      (held_either es fs v))
      (or_either (joinsb sameb e g) (heldb sameb (es ++ fs) e) t)
