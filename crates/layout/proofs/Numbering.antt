-- The corners of a sound table, from the ends of the new ones.
-- Assumes nothing.
use mathlib.Core.Path.{◌≡◌, ◌∙◌}
use mathlib.Core.List.{List}
use Prim.Native.Nat.{ℕ, ◌+◌, ◌-◌, ◌≤◌, ◌<◌}
use native.Mathlib.Nat.{zero-add}
use native.Mathlib.Omega.{arith}
use lib.ListN.{length, get_or}
use Rattle.mesh.specs.Layout.{Corner}
use Rattle.edges.specs.Pairs.{Pair}
use Rattle.edges.specs.Table.{listed}
use Rattle.edges.specs.Seek.{length-listed, at_pairs}
use Rattle.numbering.specs.Corners.{NumberedCorners, Midpoint, ends_at, even_sum}
use Rattle.corners.specs.Ends.{Ends}
use Rattle.corners.specs.Tables.{CornersNumbered}

module _ (n : ℕ) (ks : List Corner) (xs ys : List ℕ) (m : ℕ) (c : NumberedCorners n ks (listed xs ys 0 m)) where
  size : length (listed xs ys 0 m) ≡ m
  size = length-listed xs ys 0 (m - 0) ∙ omega arith

  pub corner_count : length ks ≡ n + m
  corner_count = omega (arith, c.count, size)

  ends_are : (j : ℕ) → j < m → ◌≡◌ {A = Pair} (ends_at (listed xs ys 0 m) j) (get_or xs j 0, get_or ys j 0)
  ends_are j h = rw zero-add at (at_pairs xs ys 0 (m - 0) j (omega arith))

  middle : (j : ℕ) → j < m → Midpoint n ks (n + j) (get_or xs j 0, get_or ys j 0)
  middle j h = rw (ends_are j h) at (c.midpoint j (omega (arith, size)))

  module _ (in_xs : m ≤ length xs) (in_ys : m ≤ length ys) where
    pub ends : Ends n xs ys m
    ends =
        record {
          many_x = in_xs;
          many_y = in_ys;
          below_x = λ j h. omega (arith, (middle j h).order, (middle j h).before);
          below_y = λ j h. (middle j h).before;
        }

    pub numbered : CornersNumbered n xs ys m ks
    numbered =
        record {
          count = corner_count;
          coarse_first = c.first;
          ends = ends;
          low = λ j h. (middle j h).low_is;
          high = λ j h. (middle j h).high_is;
          middle = λ j h. (middle j h).middle;
          even = λ j h. record { at = λ i. rw (ends_are j h) at (even_sum n ks (listed xs ys 0 m) c j (omega (arith, size)) i) };
        }
