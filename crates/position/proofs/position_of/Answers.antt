-- The tests are those of the definition, and each coordinate is read at its own place.
use Rattle.std.proofs.Common.{sym}
use Rattle.position.specs.Position.{
  point_of,
  corner_short,
  corner_beyond,
  corner_above,
  corner_there,
  position_of_short,
  position_of_beyond,
  position_of_above,
  position_of_at,
}
use Rattle.position.proofs.position_of.Goals.{then-corner-corners-via-then-corner-corners, then-corner-corners-via-else-corner-corners+then-corner-ge-MOST_CORNERS}
use Rattle.position.proofs.position_of.Goals as goal

pub returns-then-sums-lt-FULL_SUMS-clause-answer : goal.returns-then-sums-lt-FULL_SUMS-clause-answer
returns-then-sums-lt-FULL_SUMS-clause-answer c =
    sym (corner_short c.args.sums.now c.args.corners c.args.corner c.if-sums-lt-FULL_SUMS.true)

pub returns-then-corner-corners-clause-answer : goal.returns-then-corner-corners-clause-answer
returns-then-corner-corners-clause-answer c =
    elim c.then-corner-corners.branch [
      | then-corner-corners-via-then-corner-corners w ↦
          sym (corner_beyond c.args.sums.now c.args.corners c.args.corner c.if-sums-lt-FULL_SUMS.false w.if-corner-corners.true)
      | then-corner-corners-via-else-corner-corners+then-corner-ge-MOST_CORNERS w ↦
          sym (corner_above c.args.sums.now c.args.corners c.args.corner c.if-sums-lt-FULL_SUMS.false w.if-corner-ge-MOST_CORNERS.true)
    ]

pub returns-clause-answer : goal.returns-clause-answer
returns-clause-answer c =
    sym
    (corner_there c.args.sums.now c.args.corners c.args.corner c.if-sums-lt-FULL_SUMS.false c.if-corner-corners.false c.if-corner-ge-MOST_CORNERS.false)

pub returns-clause-point : goal.returns-clause-point
unfolding point_of
returns-clause-point c = rw (c.coordinate.ensures, c.coordinate-2.ensures, c.coordinate-3.ensures)

pub returns-then-sums-lt-FULL_SUMS-clause-whole : goal.returns-then-sums-lt-FULL_SUMS-clause-whole
returns-then-sums-lt-FULL_SUMS-clause-whole c =
    sym (position_of_short c.args.sums.now c.args.corners c.args.corner c.if-sums-lt-FULL_SUMS.true)

pub returns-then-corner-corners-clause-whole : goal.returns-then-corner-corners-clause-whole
returns-then-corner-corners-clause-whole c =
    elim c.then-corner-corners.branch [
      | then-corner-corners-via-then-corner-corners w ↦
          sym (position_of_beyond c.args.sums.now c.args.corners c.args.corner c.if-sums-lt-FULL_SUMS.false w.if-corner-corners.true)
      | then-corner-corners-via-else-corner-corners+then-corner-ge-MOST_CORNERS w ↦
          sym (position_of_above c.args.sums.now c.args.corners c.args.corner c.if-sums-lt-FULL_SUMS.false w.if-corner-ge-MOST_CORNERS.true)
    ]

pub returns-clause-whole : goal.returns-clause-whole
unfolding point_of
returns-clause-whole c =
    rw (c.coordinate.ensures, c.coordinate-2.ensures, c.coordinate-3.ensures)
    (sym
    (position_of_at c.args.sums.now c.args.corners c.args.corner c.if-sums-lt-FULL_SUMS.false c.if-corner-corners.false
    c.if-corner-ge-MOST_CORNERS.false))
