-- The header's tests, as the code makes them.
--   Header x     the ranges of a header that fits
use Rattle.std.specs.Prelude.{◌≡◌, refl, Bool, true, false, ◌&&◌, ◌||◌, List, ℕ, ◌+◌, ◌*◌, ◌≤◌, ◌<◌, T, eqb, leb}
use Rattle.std.proofs.Common.{arith}
use Rattle.std.proofs.Math.Dec.{leb→le}
use borrow.Author.Tests.{eq-eqb, ne_eqb, le-leb, lt-leb}
use Rattle.base.specs.Bools.{and_left, and_right}
use Rattle.base.specs.Limits.{most_cells, most_coarse_cells, most_coarse_corners, most_levels, most_parts}
use Rattle.store.specs.Fields.{field, STAGE, PART, PARTS, CORNERS, COARSE, CELLS, LEVELS, ROUND, RESULT, ENTRIES}
use Rattle.store.specs.Header.{stageb, headerb}

pub bool_false : (b : Bool) → (T b → ⊥) → false ≡ b
bool_false true h = absurd (h tt)
bool_false false h = refl

-- a chain of tests
chain : (a b : Bool) → T (a && b) → T a × T b
chain a b t = (and_left a b t, and_right a b t)

module _ (x : List ℕ) where
  pub record Header : Type 0 where
    pub parts_least : 1 ≤ field x PARTS
    pub parts_most : field x PARTS ≤ most_parts
    pub part_least : 1 ≤ field x PART
    pub part_most : field x PART ≤ field x PARTS
    pub corners_least : 4 ≤ field x CORNERS
    pub corners_most : field x CORNERS ≤ most_coarse_corners
    pub coarse_least : 1 ≤ field x COARSE
    pub coarse_most : field x COARSE ≤ most_coarse_cells
    pub cells_least : field x COARSE ≤ field x CELLS
    pub cells_most : field x CELLS ≤ most_cells
    pub levels_least : 1 ≤ field x LEVELS
    pub levels_most : field x LEVELS ≤ most_levels
    pub entries_most : field x ENTRIES ≤ most_cells

  pub header_is : T (headerb x) → Header
  unfolding headerb
  header_is t =
      let (a, t) = chain (leb 1 (field x PARTS)) _ t in
      let (b, t) = chain (leb (field x PARTS) most_parts) _ t in
      let (c, t) = chain (leb 1 (field x PART)) _ t in
      let (d, t) = chain (leb (field x PART) (field x PARTS)) _ t in
      let (e, t) = chain (leb 4 (field x CORNERS)) _ t in
      let (f, t) = chain (leb (field x CORNERS) most_coarse_corners) _ t in
      let (g, t) = chain (leb 1 (field x COARSE)) _ t in
      let (h, t) = chain (leb (field x COARSE) most_coarse_cells) _ t in
      let (i, t) = chain (leb (field x COARSE) (field x CELLS)) _ t in
      let (j, t) = chain (leb (field x CELLS) most_cells) _ t in
      let (k, t) = chain (leb 1 (field x LEVELS)) _ t in
      let (l, t) = chain (leb (field x LEVELS) most_levels) _ t in
      let (m, t) = chain (leb (field x ENTRIES) most_cells) _ t in
      record {
        parts_least = leb→le 1 (field x PARTS) a;
        parts_most = leb→le (field x PARTS) most_parts b;
        part_least = leb→le 1 (field x PART) c;
        part_most = leb→le (field x PART) (field x PARTS) d;
        corners_least = leb→le 4 (field x CORNERS) e;
        corners_most = leb→le (field x CORNERS) most_coarse_corners f;
        coarse_least =
            leb→le 1 (field x COARSE) g;
        coarse_most = leb→le (field x COARSE) most_coarse_cells h;
        cells_least = leb→le (field x COARSE) (field x CELLS) i;
        cells_most = leb→le (field x CELLS) most_cells j;
        levels_least =
            leb→le 1 (field x LEVELS) k;
        levels_most = leb→le (field x LEVELS) most_levels l;
        entries_most = leb→le (field x ENTRIES) most_cells m;
      }

  pub header_yes : Header → headerb x ≡ stageb x
  unfolding headerb
  header_yes h =
      rw (
        le-leb 1 (field x PARTS) h.parts_least,
        le-leb (field x PARTS) most_parts h.parts_most,
        le-leb 1 (field x PART) h.part_least,
        le-leb (field x PART) (field x PARTS) h.part_most,
        le-leb 4 (field x CORNERS) h.corners_least,
        le-leb (field x CORNERS) most_coarse_corners h.corners_most,
        le-leb 1 (field x COARSE) h.coarse_least,
        le-leb (field x COARSE) most_coarse_cells h.coarse_most,
        le-leb (field x COARSE) (field x CELLS) h.cells_least,
        le-leb (field x CELLS) most_cells h.cells_most,
        le-leb 1 (field x LEVELS) h.levels_least,
        le-leb (field x LEVELS) most_levels h.levels_most,
        le-leb (field x ENTRIES) most_cells h.entries_most,
      )

  -- by stage
  pub split_no : field x STAGE ≡ 0 → (field x ROUND ≡ 0 → ⊥) → false ≡ stageb x
  unfolding stageb
  split_no e h = rw (eq-eqb (field x STAGE) 0 e, ne_eqb (field x ROUND) 0 h, stageb)

  pub split_is : field x STAGE ≡ 0 → field x ROUND ≡ 0 → eqb (field x RESULT) 0 ≡ stageb x
  unfolding stageb
  split_is e h = rw (eq-eqb (field x STAGE) 0 e, eq-eqb (field x ROUND) 0 h, stageb)

  pub running_no : field x STAGE ≡ 1 → 2 * field x LEVELS < field x ROUND → false ≡ stageb x
  unfolding stageb
  running_no e h = rw (
    ne_eqb (field x STAGE) 0 (λ z. omega arith),
    eq-eqb (field x STAGE) 1 e,
    lt-leb (field x ROUND) (2 * field x LEVELS) h,
    stageb,
  )

  pub running_is : field x STAGE ≡ 1 → field x ROUND ≤ 2 * field x LEVELS → eqb (field x RESULT) 0 ≡ stageb x
  unfolding stageb
  running_is e h = rw (
    ne_eqb (field x STAGE) 0 (λ z. omega arith),
    eq-eqb (field x STAGE) 1 e,
    le-leb (field x ROUND) (2 * field x LEVELS) h,
    stageb,
  )

  pub other_no : (field x STAGE ≡ 0 → ⊥) → (field x STAGE ≡ 1 → ⊥) → (field x STAGE ≡ 2 → ⊥) → false ≡ stageb x
  unfolding stageb
  other_no a b c = rw (ne_eqb (field x STAGE) 0 a, ne_eqb (field x STAGE) 1 b, ne_eqb (field x STAGE) 2 c, stageb)

  pub done_is : field x STAGE ≡ 2 → field x ROUND ≡ 2 * field x LEVELS + 1
      → (eqb (field x RESULT) 0 || (eqb (field x RESULT) 8 || eqb (field x RESULT) 9)) ≡ stageb x
  unfolding stageb
  done_is e h = rw (
    ne_eqb (field x STAGE) 0 (λ z. omega arith),
    ne_eqb (field x STAGE) 1 (λ z. omega arith),
    eq-eqb (field x STAGE) 2 e,
    eq-eqb (field x ROUND) (2 * field x LEVELS + 1) h,
    stageb,
  )
