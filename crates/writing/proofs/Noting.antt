-- Numbers noted one after the other: the edges of old children that are held.
-- Assumes nothing.
use mathlib.Core.Path.{◌≡◌, refl, sym, ◌∙◌, ap, ap₂}
use mathlib.Core.Bool.{Bool, true, false, ◌||◌}
use Rattle.std.proofs.Math.Bool.{or-true, or-false}
use mathlib.Core.List.{List, [], ◌∷◌, ◌++◌, map, flat_map, map-append}
use Prim.Native.Nat.{ℕ, suc, ◌+◌, ◌/◌, ◌%◌, ◌^◌, ◌<◌}
use native.Mathlib.Decide.{ℕ_discrete}
use native.Mathlib.Omega.{arith}
use lib.ListN.{length, get_or, take, set, replicate, length-set, get_or-replicate}
use lib.Seq.{get_or-set_same, get_or-set_other}
use borrow.Author.Tests.{eq-eqb, ne_eqb}
use Rattle.base.specs.Append.{filter_append, flat_snoc}
use Rattle.base.specs.Each.{map_same, all_filter}
use Rattle.base.specs.Lists.{filterb, memberb}
use Rattle.base.specs.Range.{range, range_snoc}
use Rattle.cutting.specs.Rule.{family, split}
use Rattle.cutting.specs.Answer.{cut_of}
use Rattle.digits.specs.Ends.{low_end, high_end, ends_below}
use Rattle.mesh.specs.Cells.{pattern_of}
use Rattle.mesh.specs.Laws.{edges_more}
use Rattle.mesh.specs.Layout.{edge_numbers}
use Rattle.mesh.specs.Table.{size_of}
use Rattle.rows.specs.Many.{size_refined, size_some}
use Rattle.kept.specs.Kept.{digit_pair, held_pairs}
use Rattle.writing.specs.Held.{pair_at, pairs_at, EndsBelow, held_below, noting, Noted}

noted_append : (h : List Bool) (l m : List ℕ) → noting h (l ++ m) ≡ noting (noting h l) m
unfolding noting
noted_append h [] m = refl
noted_append h (k ∷ l) m = noted_append (set h k true) l m

-- noted from the list, or before
noted_at : (h : List Bool) (l : List ℕ) (k : ℕ) → k < length h → get_or (noting h l) k false ≡ (memberb k l || get_or h k false)
unfolding noting memberb
noted_at h [] k g = refl
noted_at h (x ∷ l) k g =
    let on = noted_at (set h x true) l k (rw (length-set h x true) g) in
    elim (ℕ_discrete k x) [
      | yes e ↦ on ∙ rw (eq-eqb k x e, e, get_or-set_same h x true false (omega arith)) (or-true (memberb x l))
      | no n ↦ on ∙ rw (ne_eqb k x n, get_or-set_other h x k true false n)
    ]

noted_none : (l : List ℕ) → Noted (noting (replicate 100 false) l) l
noted_none l k g = noted_at (replicate 100 false) l k g ∙ rw (get_or-replicate 100 k false false g) (or-false (memberb k l))

-- one edge
module _ (ds : List ℕ) (j p y : ℕ) (held : List Bool) where
  pub edge_not : (p / 2 ^ y % 2 ≡ 1 → ⊥) → held ≡ noting held (pairs_at ds j p (y ∷ []))
  unfolding pairs_at split filterb noting
  edge_not n = rw (ne_eqb (p / 2 ^ y % 2) 1 n, filterb)

  pub edge_noted : (k : ℕ) → p / 2 ^ y % 2 ≡ 1 → k ≡ pair_at ds j y → set held k true ≡ noting held (pairs_at ds j p (y ∷ []))
  unfolding pairs_at split filterb noting
  edge_noted k e i = rw (eq-eqb (p / 2 ^ y % 2) 1 e, filterb, i)

-- the edges of a child
module _ (ds : List ℕ) (j p : ℕ) (held₀ : List Bool) where
  pub edges_none : p ≡ 0 → held₀ ≡ noting held₀ (pairs_at ds j p edge_numbers)
  unfolding pairs_at split filterb noting
  edges_none e = rw e

  pub edges_start : held₀ ≡ noting held₀ (pairs_at ds j p (take 0 edge_numbers))
  unfolding pairs_at filterb noting
  edges_start = refl

  pub edges_next : (y : ℕ) (held held' : List Bool) → held ≡ noting held₀ (pairs_at ds j p (take y edge_numbers)) → y < 6
      → held' ≡ noting held (pairs_at ds j p (y ∷ [])) → held' ≡ noting held₀ (pairs_at ds j p (take (y + 1) edge_numbers))
  unfolding pairs_at
  edges_next y held held' e h d =
      let s : y + 1 ≡ suc y = omega arith in
      d ∙ ap (λ (l : List Bool). noting l (pairs_at ds j p (y ∷ []))) e
      ∙ sym (noted_append held₀ (pairs_at ds j p (take y edge_numbers)) (pairs_at ds j p (y ∷ [])))
      ∙ ap (noting held₀) (sym (rw (s, edges_more y h, filter_append (split p) (take y edge_numbers) (y ∷ []))
      (map-append (pair_at ds j) (filterb (split p) (take y edge_numbers)) (filterb (split p) (y ∷ [])))))

-- the edges of the old children
module _ (s : ℕ) (small : s < 64) where
  own_pattern : pattern_of s ≡ s
  unfolding pattern_of
  own_pattern = rw (ne_eqb s 64 (λ z. absurd (omega (arith, z))), pattern_of)

  in_family : (j : ℕ) → j < size_of s → j < length (family s)
  in_family j h = omega (arith, size_refined s (size_some s j h), ap (λ (p : ℕ). length (family p)) own_pattern)

  module _ (j : ℕ) (h : j < size_of s) where
    pub old_ends : EndsBelow (cut_of s).digits j
    old_ends y m = ends_below s small j (in_family j h) y m

    pair_is : (y : ℕ) → y < 6 → pair_at (cut_of s).digits j y ≡ digit_pair (pattern_of s) j y
    pair_is y m = rw (own_pattern, low_end s small j (in_family j h) y m, high_end s small j (in_family j h) y m)

    pairs_are : (p : ℕ) → pairs_at (cut_of s).digits j p edge_numbers ≡ map (digit_pair (pattern_of s) j) (filterb (split p) edge_numbers)
    unfolding pairs_at
    pairs_are p = map_same _ _ (filterb (split p) edge_numbers) (all_filter (split p) _ edge_numbers (
      pair_is 0 (omega arith),
      (
        pair_is 1 (omega arith),
        (pair_is 2 (omega arith), (pair_is 3 (omega arith), (pair_is 4 (omega arith), (pair_is 5 (omega arith), tt)))),
      ),
    ))

  module _ (ks : List ℕ) (f : ℕ) where
    pub held_start : replicate 100 false ≡ noting (replicate 100 false) (held_below s ks f 0)
    unfolding noting range flat_map
    held_start = refl

    pub held_next : (j : ℕ) (held held' : List Bool) (ds : List ℕ) → held ≡ noting (replicate 100 false) (held_below s ks f j) → j < size_of s
        → ds ≡ (cut_of s).digits → held' ≡ noting held (pairs_at ds j (get_or ks (f + j) 0) edge_numbers)
        → held' ≡ noting (replicate 100 false) (held_below s ks f (j + 1))
    held_next j held held' ds e h i d =
        let g : ℕ → List ℕ = λ j. map (digit_pair (pattern_of s) j) (filterb (split (get_or ks (f + j) 0)) edge_numbers) in
        let w : j + 1 ≡ suc j = omega arith in
        let z : 0 + j ≡ j = omega arith in
        d ∙ ap (λ (l : List ℕ). noting held (pairs_at l j (get_or ks (f + j) 0) edge_numbers)) i
        ∙ ap₂ noting e (pairs_are j h (get_or ks (f + j) 0))
        ∙ sym (noted_append (replicate 100 false) (held_below s ks f j) (g j))
        ∙ ap (noting (replicate 100 false)) (sym (flat_snoc g (range 0 j) j) ∙ ap (flat_map g) (rw w (sym (rw z at (range_snoc 0 j)))))

    pub held_all : (j : ℕ) (held : List Bool) → held ≡ noting (replicate 100 false) (held_below s ks f j) → j ≡ size_of s
        → Noted held (held_pairs s ks f)
    unfolding held_pairs
    held_all j held e w k g =
        ap (λ (l : List Bool). get_or l k false) (e ∙ ap (λ (n : ℕ). noting (replicate 100 false) (held_below s ks f n)) w)
        ∙ noted_none (held_below s ks f (size_of s)) k g
