-- The position of a corner, from the table of weighted sums: corner k has three, at 3 k, 3 k + 1 and 3 k + 2.
--   coordinate_of z          a weighted sum z over 1,024, as an f64
--   point_of sums k          the three coordinates of corner k
--   corner_answer sums n k   whether corner k of n is answered: accepted, 15 or 7
--   Position                a point, or a refusal's number
--   positioned a p          the point p where a is accepted, else the refusal
--   position_of sums n k     the whole answer
--   told r                  what the result of a call tells of it
use Rattle.std.specs.Prelude.{Result, Ok, Err, ◌≡◌, false, ◌&&◌, List, ℕ, ◌+◌, ◌*◌, ◌≤◌, ◌<◌, leb, ltb, length, get_or, ℤ, pos, Float}
use Rattle.std.proofs.Math.Bool.{and-false}
use Rattle.std.specs.Float.{fin, binary64}
use Rattle.std.specs.Float.Ieee.{of_int, div}
use borrow.Author.Tests.{lt-ltb, le-ltb, le-leb, lt-leb}
use Rattle.base.specs.Refuse.{refuse, number_of}
use Rattle.base.specs.declared.Refusal.{Refusal}
use Rattle.base.specs.Answer.{Answer}
use Rattle.base.specs.Answer as answer
use Rattle.base.specs.Limits.{full_sums, most_corners}
use Rattle.position.specs.declared.Point.{Point}

-- Rule 8.2: the sum as an f64, over 1,024, which is 1 * 2 ^ 10.
unfoldable pub coordinate_of : ℤ → Float
unfolding of_int div
coordinate_of z = div binary64 (of_int binary64 z) (fin false 1 (pos 10))

-- Rule 8.2: three of them.
unfoldable pub point_of : List ℤ → ℕ → Point
unfolding coordinate_of
point_of sums k =
    record {
      x = coordinate_of (get_or sums (3 * k) (pos 0));
      y = coordinate_of (get_or sums (3 * k + 1) (pos 0));
      z = coordinate_of (get_or sums (3 * k + 2) (pos 0));
    }

-- Rule 12.8: 15 where the table is shorter than three sums for each of 16,384 corners; 7 where the number is not below the count, or not
-- below 16,384.
unfoldable pub corner_answer : List ℤ → ℕ → ℕ → Answer
unfolding refuse
corner_answer sums n k = refuse 15 (leb full_sums (length sums)) (refuse 7 (ltb k n && ltb k most_corners) answer.Accepted)

-- Rule 12.8: what a call for a position answers.
pub data Position : Type 0 where
  At : Point → Position
  Refused : ℕ → Position

-- Rule 12.1: a position, or a number alone.
unfoldable pub positioned : Answer → Point → Position
positioned answer.Accepted p = At p
positioned (answer.Refused c) p = Refused c

-- Rule 12.8: the whole answer.
unfoldable pub position_of : List ℤ → ℕ → ℕ → Position
unfolding positioned corner_answer point_of
position_of sums n k = positioned (corner_answer sums n k) (point_of sums k)

-- Rules 12.1, 12.3: what the result of a call tells.
abbrev pub told : Result Point Refusal → Position
told (Ok p) = At p
told (Err r) = Refused (number_of r)

module _ (sums : List ℤ) (n k : ℕ) where
  pub corner_short : length sums < full_sums → corner_answer sums n k ≡ answer.Refused 15
  unfolding corner_answer refuse
  corner_short h = rw (lt-leb full_sums (length sums) h)

  pub position_of_short : length sums < full_sums → position_of sums n k ≡ Refused 15
  unfolding position_of positioned
  position_of_short h = rw (corner_short h)

  module _ (full : full_sums ≤ length sums) where
    pub corner_beyond : n ≤ k → corner_answer sums n k ≡ answer.Refused 7
    unfolding corner_answer refuse
    corner_beyond h = rw (le-leb full_sums (length sums) full, le-ltb k n h)

    pub corner_above : most_corners ≤ k → corner_answer sums n k ≡ answer.Refused 7
    unfolding corner_answer refuse
    corner_above h = rw (le-leb full_sums (length sums) full, le-ltb k most_corners h, and-false (ltb k n))

    pub corner_there : k < n → k < most_corners → corner_answer sums n k ≡ answer.Accepted
    unfolding corner_answer refuse
    corner_there h l = rw (le-leb full_sums (length sums) full, lt-ltb k n h, lt-ltb k most_corners l)

    pub position_of_beyond : n ≤ k → position_of sums n k ≡ Refused 7
    unfolding position_of positioned
    position_of_beyond h = rw (corner_beyond h)

    pub position_of_above : most_corners ≤ k → position_of sums n k ≡ Refused 7
    unfolding position_of positioned
    position_of_above h = rw (corner_above h)

    pub position_of_at : k < n → k < most_corners → position_of sums n k ≡ At (point_of sums k)
    unfolding position_of positioned
    position_of_at h l = rw (corner_there h l)
