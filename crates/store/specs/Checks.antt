-- The tests of a message that is handed over, as the code makes them.
use Rattle.std.specs.Prelude.{◌≡◌, Bool, not, List, ℕ, ◌+◌, ◌≤◌, ◌<◌, get_or}
use Rattle.std.proofs.Math.Path.{refl}
use Rattle.std.proofs.Common.{sym, ◌∙◌, ap, arith}
use Rattle.std.proofs.Math.Bool.{true, false}
use Rattle.std.proofs.Math.Dec.{T, eqb, leb, eqb→eq}
use Rattle.std.proofs.Math.ListN.{length}
use borrow.Author.Tests.{eq-eqb, ne_eqb, lt-ltb, le-leb, lt-leb}
use Rattle.base.specs.Bools.{and_right}
use Rattle.base.specs.Limits.{most_cells, most_levels, most_slots, too_many}
use Rattle.store.specs.Fields.{field, PART, PARTS, CELLS, OWNER, HOLDERS}
use Rattle.store.specs.Hand.{number_at, length_of, shapeb, routeb, ghost_markb, edge_countb, cell_totalb, contentb, wellb}

module _ (k : ℕ) where
  pub length-first : k ≡ 1 → 8 ≡ length_of k
  unfolding length_of
  length-first e = rw (eq-eqb k 1 e, length_of)

  pub length-second : k ≡ 2 → 9 ≡ length_of k
  unfolding length_of
  length-second e = rw (ne_eqb k 1 (λ z. omega arith), eq-eqb k 2 e, length_of)

  pub length_third : k ≡ 3 → 8 ≡ length_of k
  unfolding length_of
  length_third e = rw (ne_eqb k 1 (λ z. omega arith), ne_eqb k 2 (λ z. omega arith), eq-eqb k 3 e, length_of)

  pub length_fourth : k ≡ 4 → 5 ≡ length_of k
  unfolding length_of
  length_fourth e = rw (ne_eqb k 1 (λ z. omega arith), ne_eqb k 2 (λ z. omega arith), ne_eqb k 3 (λ z. omega arith), eq-eqb k 4 e, length_of)

module _ (m : List ℕ) where
  pub shape_some : (length m ≡ 0 → ⊥) → (n : ℕ) → n ≡ length_of (get_or m 0 0) → eqb (length m) n ≡ shapeb m
  unfolding shapeb
  shape_some h n e = rw (ne_eqb (length m) 0 h, shapeb) (ap (eqb (length m)) e)

  shape-length : shapeb m ≡ true → length m ≡ length_of (get_or m 0 0)
  unfolding shapeb
  shape-length e = eqb→eq (length m) (length_of (get_or m 0 0))
      (and_right (not (eqb (length m) 0)) (eqb (length m) (length_of (get_or m 0 0))) (rw e tt))

  shape_not_empty : shapeb m ≡ true → length m ≡ 0 → ⊥
  unfolding shapeb
  shape_not_empty e z = let t : T (shapeb m) = rw e tt in let f : shapeb m ≡ false = rw (eq-eqb (length m) 0 z, shapeb) in rw f at t

  pub shape_first : shapeb m ≡ true → get_or m 0 0 ≡ 1 → length m ≡ 8
  shape_first e k = shape-length e ∙ sym (length-first (get_or m 0 0) k)

  pub shape_second : shapeb m ≡ true → get_or m 0 0 ≡ 2 → length m ≡ 9
  shape_second e k = shape-length e ∙ sym (length-second (get_or m 0 0) k)

  pub shape_third : shapeb m ≡ true → get_or m 0 0 ≡ 3 → length m ≡ 8
  shape_third e k = shape-length e ∙ sym (length_third (get_or m 0 0) k)

  pub shape_least : shapeb m ≡ true → 5 ≤ length m
  unfolding length_of
  shape_least e = go (eqb (get_or m 0 0) 1) refl (eqb (get_or m 0 0) 2) refl (eqb (get_or m 0 0) 3) refl (eqb (get_or m 0 0) 4) refl
    where
      go : (a : Bool) → eqb (get_or m 0 0) 1 ≡ a → (b : Bool) → eqb (get_or m 0 0) 2 ≡ b → (c : Bool) → eqb (get_or m 0 0) 3 ≡ c → (d : Bool)
          → eqb (get_or m 0 0) 4 ≡ d → 5 ≤ length m
      go true p b q c r d s = let z : length_of (get_or m 0 0) ≡ 8 = rw (p, length_of) in omega (arith, shape-length e, z)
      go false p true q c r d s = let z : length_of (get_or m 0 0) ≡ 9 = rw (p, q, length_of) in omega (arith, shape-length e, z)
      go false p false q true r d s = let z : length_of (get_or m 0 0) ≡ 8 = rw (p, q, r, length_of) in omega (arith, shape-length e, z)
      go false p false q false r true s = let z : length_of (get_or m 0 0) ≡ 5 = rw (p, q, r, s, length_of) in omega (arith, shape-length e, z)
      go false p false q false r false s = let z : length_of (get_or m 0 0) ≡ 0 = rw (p, q, r, s, length_of) in
          absurd (shape_not_empty e (shape-length e ∙ z))

  pub total_within : (n : ℕ) → n ≡ number_at m 5 → n ≤ too_many → leb (get_or m 7 0) most_levels ≡ cell_totalb m
  unfolding cell_totalb
  total_within n e h = rw (le-leb (number_at m 5) too_many (rw e at h), cell_totalb)

module _ (x m : List ℕ) where
  pub route_to : 1 ≤ get_or m 1 0 → get_or m 1 0 ≤ field x PARTS → (get_or m 1 0 ≡ field x PART → ⊥)
      → eqb (get_or m 2 0) (field x PART) ≡ routeb x m
  unfolding routeb
  route_to g h e = rw (le-leb 1 (get_or m 1 0) g, le-leb (get_or m 1 0) (field x PARTS) h, ne_eqb (get_or m 1 0) (field x PART) e, routeb)

  module _ (c : ℕ) (i : c ≡ number_at m 5) where
    pub mark_value : c < field x CELLS → (field x (OWNER + c) ≡ 0 → ⊥) → leb (get_or m 7 0) 1 ≡ ghost_markb x m
    unfolding ghost_markb
    mark_value h e = rw (
      lt-ltb (number_at m 5) (field x CELLS) (rw i at h),
      ne_eqb (field x (OWNER + number_at m 5)) 0 (λ z. e (rw i z)),
      ghost_markb,
    )

    module _ (h : c < most_slots) (e : field x (HOLDERS + c) ≡ 0 → ⊥) (n : ℕ) (j : n ≡ number_at m 7) where
      pub count_none : n < 1 → false ≡ edge_countb x m
      unfolding edge_countb
      count_none g = rw (
        lt-ltb (number_at m 5) most_slots (rw i at h),
        ne_eqb (field x (HOLDERS + number_at m 5)) 0 (λ z. e (rw i z)),
        lt-leb 1 (number_at m 7) (rw j at g),
        edge_countb,
      )

      pub count_value : 1 ≤ n → leb n most_cells ≡ edge_countb x m
      unfolding edge_countb
      count_value g = rw (
        lt-ltb (number_at m 5) most_slots (rw i at h),
        ne_eqb (field x (HOLDERS + number_at m 5)) 0 (λ z. e (rw i z)),
        le-leb 1 (number_at m 7) (rw j at g),
        edge_countb,
      ) (ap (λ (y : ℕ). leb y most_cells) j)

  pub content_first : get_or m 0 0 ≡ 1 → ghost_markb x m ≡ contentb x m
  unfolding contentb
  content_first e = rw (eq-eqb (get_or m 0 0) 1 e, contentb)

  pub content_second : get_or m 0 0 ≡ 2 → edge_countb x m ≡ contentb x m
  unfolding contentb
  content_second e = rw (ne_eqb (get_or m 0 0) 1 (λ z. omega arith), eq-eqb (get_or m 0 0) 2 e, contentb)

  pub content_third : get_or m 0 0 ≡ 3 → cell_totalb m ≡ contentb x m
  unfolding contentb
  content_third e = rw (
    ne_eqb (get_or m 0 0) 1 (λ z. omega arith),
    ne_eqb (get_or m 0 0) 2 (λ z. omega arith),
    eq-eqb (get_or m 0 0) 3 e,
    contentb,
  )

  pub content_other : (get_or m 0 0 ≡ 1 → ⊥) → (get_or m 0 0 ≡ 2 → ⊥) → (get_or m 0 0 ≡ 3 → ⊥) → true ≡ contentb x m
  unfolding contentb
  content_other a b c = rw (ne_eqb (get_or m 0 0) 1 a, ne_eqb (get_or m 0 0) 2 b, ne_eqb (get_or m 0 0) 3 c, contentb)

  pub well_content : shapeb m ≡ true → routeb x m ≡ true → contentb x m ≡ wellb x m
  unfolding wellb
  well_content e f = rw (e, f, wellb)

pub ruleset shapes = (shape_first, shape_second, shape_third)
