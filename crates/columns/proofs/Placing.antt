-- Places, inner edges and the ten numbers of a cell, as the code makes them.
--   tests t g c       which edges of c are not also those of g
-- Laws: place_coarse, place_child (places), outer_is, no_bits, small_bits, bit_turn, inner_none, inner_some (inner edges),
-- ten_is, kids_owned, filled_none, filled_more, filled_placed (all cells).
use mathlib.Core.Path.{◌≡◌, refl, sym, ◌∙◌, ap}
use mathlib.Core.Bool.{Bool, true, false, not}
use mir.Val.{bool_byte}
use mathlib.Core.List.{List, [], ◌∷◌, map}
use Prim.Native.Nat.{ℕ, zero, suc, ◌+◌, ◌-◌, ◌*◌, ◌^◌, ◌≤◌, ◌<◌}
use native.Mathlib.Nat.{eq-or-lt_of_le}
use mathlib.Core.Logic.{⊎_elim}
use native.Mathlib.Omega.{arith}
use lib.Dec.{T, eqb, leb, leb→le}
use lib.ListN.{length, get_or, drop}
use borrow.Author.Tests.{eq-eqb, ne_eqb}
use Rattle.base.specs.Bools.{one_if, one_most}
use Rattle.base.specs.Limits.{most_cells}
use Rattle.base.specs.Lists.{belowb, belowb_at}
use Rattle.mesh.specs.Cells.{edge, edges, heldb, bits_of}
use Rattle.mesh.specs.Layout.{edge_numbers}
use Rattle.rows.specs.Numbered.{cell_at}
use Rattle.ancestors.specs.Climb.{level_in, parent_in}
use Rattle.edges.specs.Pairs.{Pair}
use Rattle.store.specs.declared.Place.{Place}
use Rattle.store.specs.Places.{child_place}
use Rattle.store.specs.Written.{WroteAt}
use Rattle.columns.specs.Ten.{outerb, inner_by, place_by, family_by, ten_of, FirstKids, Sources, Filled, ParentPlaced}
use Rattle.columns.specs.Ten.{digits_column, head_column, more_column}

module _ (t cols : List ℕ) (c : ℕ) where
  pub place_coarse : level_in t c ≡ 0 → ◌≡◌ {A = Place} (record { head = c; digits = 0; more = 0 }) (place_by t (level_in t c) c)
  unfolding place_by
  place_coarse e = rw e

  pub place_child : ParentPlaced t cols c → 0 < level_in t c → (r : Place)
      → r ≡ child_place (record {
        head = get_or cols (head_column + parent_in t c) 0;
        digits = get_or cols (digits_column + parent_in t c) 0;
        more = get_or cols (more_column + parent_in t c) 0;
      }) (get_or t (8 * c + 2) 0)
      → r ≡ place_by t (level_in t c) c
  unfolding place_by
  place_child p h r e = e ∙ ap (λ (q : Place). child_place q (get_or t (8 * c + 2) 0)) (p.is h) ∙ sym (ap (λ (k : ℕ). place_by t k c) (p.level h))

module _ (t : List ℕ) (g c : ℕ) where
  abbrev pub tests : List Bool
  tests = map (outerb t g c) edge_numbers

  pub outer_is : (e : ℕ) (p : Pair) → p ≡ edge 0 (cell_at t c) e → (h : Bool) → h ≡ heldb eqb (edges 0 (cell_at t g)) p → (r : ℕ)
      → r ≡ bool_byte (not h) → r ≡ one_if (outerb t g c e)
  unfolding outerb one_if
  outer_is e p q h k r s =
      let w : h ≡ heldb eqb (edges 0 (cell_at t g)) (edge 0 (cell_at t c) e) = rw q at k in
      s ∙ byte (not h) ∙ ap (λ (x : Bool). one_if (not x)) w
    where
      byte : (x : Bool) → bool_byte x ≡ one_if x
      byte true = refl
      byte false = refl

  bits_more : (e : ℕ) → e < 6 → bits_of (drop e tests) ≡ one_if (outerb t g c e) + 2 * bits_of (drop (suc e) tests)
  unfolding bits_of
  bits_more zero h = refl
  bits_more (suc zero) h = refl
  bits_more (suc (suc zero)) h = refl
  bits_more (suc (suc (suc zero))) h = refl
  bits_more (suc (suc (suc (suc zero)))) h = refl
  bits_more (suc (suc (suc (suc (suc zero))))) h = refl
  bits_more (suc (suc (suc (suc (suc (suc e)))))) h = absurd (omega arith)

  pub no_bits : 0 ≡ bits_of (drop 6 tests)
  unfolding bits_of
  no_bits = refl

  few_bits : (d : ℕ) → d ≤ 6 → bits_of (drop (6 - d) tests) < 2 ^ d
  few_bits zero h = omega (arith, no_bits)
  few_bits (suc d) h =
      let z : suc (6 - suc d) ≡ 6 - d = omega arith in
      let w : bits_of (drop (suc (6 - suc d)) tests) < 2 ^ d = rw z (few_bits d (omega arith)) in
      omega (arith, bits_more (6 - suc d) (omega arith), one_most (outerb t g c (6 - suc d)))

  pub small_bits : (bits e : ℕ) → e ≤ 6 → bits ≡ bits_of (drop e tests) → bits < 64
  unfolding belowb
  small_bits bits e h q =
      let z : 6 - (6 - e) ≡ e = omega arith in
      let w : bits_of (drop e tests) < 2 ^ (6 - e) = rw z at (few_bits (6 - e) (omega arith)) in
      omega (arith, power (6 - e) (omega arith))
    where
      tested : T (belowb (λ d. leb (2 ^ d) 64) 7)
      tested = tt

      power : (d : ℕ) → d ≤ 6 → 2 ^ d ≤ 64
      power d h = leb→le (2 ^ d) 64 (belowb_at (λ d. leb (2 ^ d) 64) 7 tested d (omega arith))

  pub bit_turn : (bits e r : ℕ) → 0 < e → e ≤ 6 → bits ≡ bits_of (drop e tests) → r ≡ one_if (outerb t g c (e - 1))
      → r + 2 * bits ≡ bits_of (drop (e - 1) tests)
  bit_turn bits e r h l q b =
      let z : suc (e - 1) ≡ e = omega arith in
      let w : bits_of (drop (e - 1) tests) ≡ one_if (outerb t g c (e - 1)) + 2 * bits_of (drop e tests) =
      bits_more (e - 1) (omega arith) ∙ ap (λ (k : ℕ). one_if (outerb t g c (e - 1)) + 2 * bits_of (drop k tests)) z in
      omega arith

module _ (t : List ℕ) (c : ℕ) where
  pub inner_none : level_in t c ≡ 0 → 0 ≡ inner_by t c
  unfolding inner_by
  inner_none e = rw (eq-eqb (level_in t c) 0 e, inner_by)

  pub inner_some : (level_in t c ≡ 0 → ⊥) → (bits : ℕ) → bits ≡ bits_of (drop 0 (tests t (parent_in t c) c)) → bits ≡ inner_by t c
  unfolding inner_by
  inner_some e bits q = q ∙ sym (rw (ne_eqb (level_in t c) 0 e, inner_by))

module _ (t ss ks os : List ℕ) (c : ℕ) where
  pub ten_is : (f : ℕ) (p : Place) (b : ℕ) → f ≡ family_by ks os c → p ≡ place_by t (level_in t c) c → b ≡ inner_by t c
      → get_or os c 0 ∷ f ∷ get_or ss c 0 ∷ get_or t (8 * c + 3) 0 ∷ get_or ks c 0 ∷ parent_in t c ∷ p.head ∷ p.digits ∷ p.more ∷ b ∷ []
      ≡ ten_of t ss ks os c
  unfolding ten_of
  ten_is f p b x y z = rw (x, y, z)

module _ (t ss ks os : List ℕ) where
  pub kids_owned : Sources t ss ks os → FirstKids ks (length os)
  kids_owned r = rw r.owners r.kids

  pub filled_none : (cols : List ℕ) → Filled t ss ks os 0 cols
  filled_none cols = record { at = λ d j h g. absurd (omega arith) }

  pub filled_more : (c : ℕ) (cols l cols' : List ℕ) → c < most_cells → Filled t ss ks os c cols → l ≡ ten_of t ss ks os c
      → WroteAt (λ j. most_cells * j + c) (λ j. get_or l j 0) 10 cols cols' → Filled t ss ks os (suc c) cols'
  filled_more c cols l cols' low f e w =
      record {
        at = λ d j h g.
            ⊎_elim (λ (q : d ≡ c). rw (q, ← e) (w.here j g))
            (λ (q : d < c). w.other (most_cells * j + d) (λ i k z. absurd (omega (arith, z))) ∙ f.at d j q g)
            (eq-or-lt_of_le (omega arith));
      }

  pub filled_placed : Sources t ss ks os → (c : ℕ) (cols : List ℕ) → c < length ss → Filled t ss ks os c cols → ParentPlaced t cols c
  unfolding ten_of
  filled_placed r c cols h f =
      record {
        below = λ u. (r.up c h u).0;
        is = λ u.
            let b = (r.up c h u).0 in
            same (get_or cols (head_column + parent_in t c) 0) (get_or cols (digits_column + parent_in t c) 0)
            (get_or cols (more_column + parent_in t c) 0)
            (place_by t (level_in t (parent_in t c)) (parent_in t c)) (f.at (parent_in t c) 6 b (omega arith)) (f.at (parent_in t c) 7 b
            (omega arith))
            (f.at (parent_in t c) 8 b (omega arith));
        level = λ u. (r.up c h u).1;
      }
    where
      same : (a b d : ℕ) (p : Place) → a ≡ p.head → b ≡ p.digits → d ≡ p.more
          → ◌≡◌ {A = Place} (record { head = a; digits = b; more = d }) p
      same a b d p x y z = rw (x, y, z)
