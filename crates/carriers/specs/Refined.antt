-- A cell that the red cells of its level split: what its own family joins.
--   StatusIn es c s   s is the status of c where es are the edges of its level's red cells
-- Laws: status_regular, status_green, pattern_red, pattern_green, asked_small (what a status says); joined_here and refined_here
-- (a cell that shares an edge of a red cell's child: its own family joins the ends of that edge, and it is refined).
use Rattle.std.specs.Prelude.{◌≡◌, ◌≢◌, Bool, List, [], ℕ, ◌<◌}
use Rattle.std.proofs.Math.Path.{refl}
use Rattle.std.proofs.Common.{sym, ◌∙◌, ap, arith}
use Rattle.std.proofs.Math.Bool.{true, false}
use Rattle.std.proofs.Math.Dec.{T}
use Rattle.base.specs.Lists.{sameb}
use Rattle.base.specs.Bools.{is_true, not_both}
use Rattle.cutting.specs.Rule.{split, family}
use Rattle.families.specs.Faces.{joinedb}
use Rattle.mesh.specs.Cells.{Cell, redb, pattern_of, edge, edges, joinsb, heldb, pattern, status_of}
use Rattle.mesh.specs.Weights.{Point, point}
use Rattle.mesh.specs.Laws.{pattern_small}
use Rattle.lattice.specs.Regular.{Regular}
use Rattle.carriers.specs.Carrier.{carried_edge, shared_edge}
use Rattle.carriers.specs.Patterns.{split_none, split_red, split_pattern}
use Rattle.carriers.specs.Joins.{Edge}

abbrev pub StatusIn : List Edge → Cell Point → ℕ → Type 0
StatusIn es c s = s ≡ status_of [] sameb es (redb s) c

module _ (es : List Edge) (c : Cell Point) (s : ℕ) (q : StatusIn es c s) where
  pub status_regular : s ≢ 0 → T c.regular
  unfolding status_of
  status_regular z = go c.regular refl
    where
      go : (b : Bool) → c.regular ≡ b → T c.regular
      go true e = rw e tt
      go false e = let w : s ≡ 0 = rw (e, status_of) at q in absurd (z w)

  pub status_green : T c.regular → redb s ≡ false → s ≡ pattern [] sameb es c
  unfolding status_of
  status_green t e = rw (is_true c.regular t, e, status_of) at q

pub pattern_red : (s : ℕ) → redb s ≡ true → pattern_of s ≡ 63
unfolding pattern_of
pattern_red s e = rw (e, pattern_of)

pub pattern_green : (s : ℕ) → redb s ≡ false → pattern_of s ≡ s
unfolding pattern_of
pattern_green s e = rw (e, pattern_of)

pub asked_small : (es : List Edge) (c : Cell Point) (s : ℕ) → StatusIn es c s → pattern_of s < 64
unfolding status_of
asked_small es c s q = go (redb s) refl c.regular refl
  where
    go : (b : Bool) → redb s ≡ b → (d : Bool) → c.regular ≡ d → pattern_of s < 64
    go true e d f = rw (pattern_red s e) (omega arith)
    go false e true f = let w : s ≡ pattern [] sameb es c = status_green es c s q (rw f tt) e in
        rw (pattern_green s e, w) (pattern_small [] sameb es c)
    go false e false f = let w : s ≡ 0 = rw (f, status_of) at q in rw (pattern_green s e, w) (omega arith)

module _ (n k : ℕ) (g p : Cell Point) (h : k < 10) (r : Regular n k g) (s : Regular n k p) (es : List Edge)
    (reds : (e : Edge) → T (heldb sameb (edges [] p) e) → T (heldb sameb es e))
    (t : ℕ) (q : StatusIn es g t) (regular : T g.regular)
    (d e a b : ℕ) (hd : d < 10) (he : e < 10) (ha : a < 10) (hb : b < 10) (j : T (joinedb (family 63) a b))
    (x : T (joinsb sameb (point g d, point g e) (point p a, point p b))) where
  pub joined_here : T (joinedb (family (pattern_of t)) d e)
  joined_here = carried_edge n k g p h r s d e a b hd he ha hb j x (pattern_of t) (asked_small es g t q)
      (λ z hz u. go (redb t) refl z hz (reds (edge [] g z) u))
    where
      go : (b : Bool) → redb t ≡ b → (z : ℕ) → z < 6 → T (heldb sameb es (edge [] g z)) → T (split (pattern_of t) z)
      go true e z hz u = rw (pattern_red t e, split_red z hz) tt
      go false e z hz u = rw (pattern_green t e, status_green es g t q regular e, split_pattern [] sameb es g z hz) u

  pub refined_here : (d ≡ e → ⊥) → t ≢ 0
  refined_here w y =
      let (z, hz, u) = shared_edge n k g p h r s d e a b hd he ha hb j x w in
      let f : redb t ≡ false = rw y refl in
      let v : pattern [] sameb es g ≡ 0 = sym (status_green es g t q regular f) ∙ y in
      let o : split 0 z ≡ true = ap (λ (m : ℕ). split m z) (sym v) ∙ split_pattern [] sameb es g z hz
      ∙ is_true (heldb sameb es (edge [] g z)) (reds (edge [] g z) u) in
      not_both (split 0 z) o (split_none z)
