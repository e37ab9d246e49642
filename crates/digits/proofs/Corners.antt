-- The corners of an edge, as the definitions of the families have them.
-- Assumes nothing.
use Rattle.std.proofs.Common.{◌≡◌, ◌&&◌, ℕ, ◌<◌, T, eqb, eqb→eq, get_or}
use Rattle.base.specs.Bools.{and_left, and_right}
use Rattle.base.specs.Lists.{belowb, belowb_at}
use Rattle.cutting.specs.Rule.{low, high}
use Rattle.families.specs.Children.{middle}
use Rattle.rows.specs.EdgeEnds.{lows, highs}

corners_tested : T (belowb (λ y. eqb (get_or lows y 0) (low (middle y)) && eqb (get_or highs y 0) (high (middle y))) 6)
unfolding belowb low high
corners_tested = tt

module _ (y : ℕ) (h : y < 6) where
  tested : T (eqb (get_or lows y 0) (low (middle y)) && eqb (get_or highs y 0) (high (middle y)))
  tested = belowb_at (λ y. eqb (get_or lows y 0) (low (middle y)) && eqb (get_or highs y 0) (high (middle y))) 6 corners_tested y h

  pub low_same : get_or lows y 0 ≡ low (middle y)
  low_same = eqb→eq (get_or lows y 0) (low (middle y))
      (and_left (eqb (get_or lows y 0) (low (middle y))) (eqb (get_or highs y 0) (high (middle y))) tested)

  pub high_same : get_or highs y 0 ≡ high (middle y)
  high_same = eqb→eq (get_or highs y 0) (high (middle y))
      (and_right (eqb (get_or lows y 0) (low (middle y))) (eqb (get_or highs y 0) (high (middle y))) tested)
