-- What laying a table out and asking for a corner's position give together (Rules 8.1, 8.2, 9.4).
--   Over x z           the f64 x is z / 1,024, exactly: finite, with the sign of z, and of the size of z over 1,024
--   Exactly ps p r     the answer r is a point whose coordinates are the weighted sums of the weights p over 1,024; these sums are whole
--                      numbers of at most 512,000,000 in size
--   sums_after ..       the lent table of sums after laying out
-- Law: position_exact.
use Rattle.std.specs.Prelude.{◌≡◌, refl, ℕ, ◌+◌, ◌*◌, ◌≤◌, ◌<◌, T, ℤ, pos, nat_abs, Float, length, drop}
use Rattle.std.proofs.Common.{sym, ◌∙◌, arith, leb→le, length-append, length-drop}
use Rattle.std.proofs.Math.Path.{ap}
use mathlib.Core.List.{List, [], ◌∷◌, ◌++◌, flat_map}
use Rattle.std.proofs.Math.Nat.{add-zero}
use Rattle.std.specs.Float.Ieee.Exact.{HasValue}
use Rattle.std.proofs.Math.ListN.{get_or, get_or-append}
use Rattle.base.specs.Bools.{and_left, and_right}
use Rattle.base.specs.Every.{All}
use Rattle.base.specs.Fours.{fours}
use Rattle.base.specs.Limits.{most_corners, full_sums}
use Rattle.base.specs.Refuse.{held_after}
use Rattle.base.specs.Answer.{Accepted}
use Rattle.mesh.specs.Coarse.{coarse_corner_count, coordinate_at}
use Rattle.mesh.specs.Weights as weights
use Rattle.mesh.specs.Layout.{Corner, weighted_sum, sum_table}
use Rattle.mesh.specs.Answers.{corners_in}
use Rattle.mesh.specs.Laws.{mesh_counts}
use Rattle.lattice.specs.Levels.{fours_four}
use Rattle.lattice.specs.Tails.{Sized}
use Rattle.numbering.specs.Corners.{weights_at, corner_sized}
use Rattle.numbering.specs.Tables.{table_ends}
use Rattle.numbering.proofs.Tables.{sound_numbers}
use Rattle.corners.specs.Sums.{positions_small}
use Rattle.corners.specs.Sizes.{weighted_size}
use Rattle.corners.specs.Tables.{sums_at}
use Rattle.position.specs.Exact.{negative, exact}
use Rattle.position.specs.Position.{Position, At, coordinate_of, point_of, position_of, position_of_at}
use Rattle.position.specs.declared.Point.{Point}
use Rattle.layout.specs.Calls.{lentb, layout_answer}
use Rattle.layout.specs.Few.{corners_few}
use Rattle.demands.specs.Order.{first_passed}
use Rattle.demands.specs.Tests.{layout_tests}
use Rattle.demands.specs.Answered.{layout_first}

-- Rule 8.2: the f64 x is z over 1,024.
abbrev pub Over : Float → ℤ → Type 0
Over x z = HasValue x (negative z) (nat_abs z) 1024

-- Rules 8.1, 8.2: the position of a corner with the weights p.
pub record Exactly (ps : List ℤ) (p : weights.Point) (r : Position) : Type 0 where
  pub point : Point
  pub answer : r ≡ At point
  pub x : Over point.x (weighted_sum ps 0 p)
  pub y : Over point.y (weighted_sum ps 1 p)
  pub z : Over point.z (weighted_sum ps 2 p)
  pub small : (k : ℕ) → nat_abs (weighted_sum ps k p) ≤ 512000000

-- Rules 9.4, 12.7.
abbrev pub sums_after : List ℤ → List ℕ → List ℕ → List ℕ → List ℕ → List ℤ → List ℤ
sums_after ps ts ss table ends sums = held_after (layout_answer ps ts ss table ends sums) (sum_table ps (corners_in ps ts ss)) sums

length-sums : (ps : List ℤ) (ks : List Corner) → length (sum_table ps ks) ≡ 3 * length ks
unfolding sum_table flat_map
length-sums ps [] = refl
length-sums ps (k ∷ ks) = omega (arith, length-sums ps ks)

long_sums : (table ends : List ℕ) (sums : List ℤ) → T (lentb table ends sums) → full_sums ≤ length sums
unfolding lentb
long_sums table ends sums t = search (and_left, and_right, leb→le)

module _ (ps : List ℤ) (ts ss table ends : List ℕ) (sums : List ℤ) (e : layout_answer ps ts ss table ends sums ≡ Accepted) where
  abbrev ks : List Corner
  ks = corners_in ps ts ss

  abbrev new : List ℤ
  new = sum_table ps ks

  tests : All (λ t. T t.1) (layout_tests ps ts ss table ends sums)
  tests = first_passed (layout_tests ps ts ss table ends sums) (sym (layout_first ps ts ss table ends sums) ∙ e)

  held : sums_after ps ts ss table ends sums ≡ new ++ drop (length new) sums
  unfolding held_after
  held = rw e

  module _ (i : ℕ) (there : i < length ks) where
    abbrev p : weights.Point
    p = weights_at ks i

    sum_at : (k : ℕ) → k < 3 → get_or (sums_after ps ts ss table ends sums) (3 * i + k) (pos 0) ≡ weighted_sum ps k p
    unfolding coordinate_at
    sum_at k h =
        ap (λ (l : List ℤ). get_or l (3 * i + k) (pos 0)) held
        ∙ get_or-append new (drop (length new) sums) (pos 0) (3 * i + k) (omega (arith, length-sums ps ks)) ∙ sums_at ps k h ks i there

    full : full_sums ≤ length (sums_after ps ts ss table ends sums)
    full =
        let (lent, _) = tests in
        omega (
          arith,
          long_sums table ends sums lent,
          ap length held,
          length-append new (drop (length new) sums),
          length-drop (length new) sums,
        )

    sized : Sized (coarse_corner_count ps) p
    sized =
        let (_, (_, (_, (cells, (_, (_, (sound, _))))))) = tests in
        let numbers = sound_numbers (coarse_corner_count ps) (fours ts) ss (fours_four ts) cells sound in
        corner_sized (coarse_corner_count ps) ks (table_ends (coarse_corner_count ps) (fours ts) ss) numbers.corners i there

    within : (k : ℕ) → nat_abs (weighted_sum ps k p) ≤ 512000000
    within k =
        let (_, (_, (positions, _))) = tests in
        omega (arith, weighted_size ps (positions_small ps positions) k p, sized.total)

    below : i < most_corners
    below =
        let (_, (counts, (_, (_, (_, (_, (sound, _))))))) = tests in
        omega (arith, corners_few (coarse_corner_count ps) (fours ts) ss (mesh_counts ps ts counts).corners_few sound)

    over : (k : ℕ) → k < 3 → Over (coordinate_of (get_or (sums_after ps ts ss table ends sums) (3 * i + k) (pos 0))) (weighted_sum ps k p)
    over k h = rw (sum_at k h) (exact (weighted_sum ps k p) (omega (arith, within k)))

    pub position_exact : Exactly ps p (position_of (sums_after ps ts ss table ends sums) (length ks) i)
    unfolding point_of
    position_exact =
        record {
          point = point_of (sums_after ps ts ss table ends sums) i;
          answer = position_of_at (sums_after ps ts ss table ends sums) (length ks) i full there below;
          x = rw add-zero at (over 0 (omega arith));
          y = over 1 (omega arith);
          z = over 2 (omega arith);
          small = within;
        }
