-- `archive::load_steps` meets its contract: the record `Load` says what the tables hold where the scan has come. The measure is the
-- number of bytes left.
use native.Mathlib.Omega.{arith}
use Rattle.archive.proofs.StepTables.{load_start, load_inside, cells-length, marks-length, ends-length-is, mark_inside}
use Rattle.archive.proofs.StepTables.{mark_room, load_mark, step_room, load_step, load_cells, load_marks, load_ends}
use Rattle.archive.proofs.load_steps.Goals as goal

pub loop-at-init : goal.loop-at-init
loop-at-init c =
    load_start c.requires

pub bounds-bytes-at : goal.bounds-bytes-at
bounds-bytes-at c =
    load_inside c.requires c.loop-at.invariant

pub bounds-bytes-at-in-loop-at : goal.bounds-bytes-at-in-loop-at
bounds-bytes-at-in-loop-at c =
    load_inside c.requires
    c.loop-at.invariant

pub number-requires : goal.number-requires
number-requires c =
    omega (
      arith,
      mark_inside c.requires
          c.loop-at.invariant c.if-bytes-at-eq-MARK.true,
    )

pub bounds-marked-m : goal.bounds-marked-m
bounds-marked-m c =
    omega (
      arith,
      mark_room c.requires
          c.loop-at.invariant c.if-bytes-at-eq-MARK.true,
      cells-length
          c.requires
          c.loop-at.invariant,
      c.requires.marked_fit,
    )

pub bounds-bytes-at-then-bytes-at-eq-MARK : goal.bounds-bytes-at-then-bytes-at-eq-MARK
bounds-bytes-at-then-bytes-at-eq-MARK c =
    omega (
      arith,
      mark_inside c.requires
          c.loop-at.invariant c.if-bytes-at-eq-MARK.true,
    )

pub bounds-marks-m : goal.bounds-marks-m
bounds-marks-m c =
    omega (
      arith,
      mark_room
          c.requires
          c.loop-at.invariant c.if-bytes-at-eq-MARK.true,
      marks-length
          c.requires
          c.loop-at.invariant,
      c.requires.marks_fit,
    )

pub loop-at-preserved-then-bytes-at-eq-MARK : goal.loop-at-preserved-then-bytes-at-eq-MARK
loop-at-preserved-then-bytes-at-eq-MARK c =
    load_mark c.requires
    c.loop-at.invariant c.if-bytes-at-eq-MARK.true c.number.result
    c.number.ensures

pub bounds-ends-s : goal.bounds-ends-s
bounds-ends-s c =
    omega (
      arith,
      step_room c.requires
          c.loop-at.invariant c.loop-at-test.true c.if-bytes-at-eq-MARK.false,
      ends-length-is
          c.requires c.loop-at.invariant,
      c.requires.ends_fit,
    )

pub loop-at-smaller : goal.loop-at-smaller
loop-at-smaller c =
    omega (
      arith,
      load_inside c.requires
          c.loop-at.invariant,
    )

pub loop-at-preserved : goal.loop-at-preserved
loop-at-preserved c =
    load_step c.requires
    c.loop-at.invariant c.loop-at-test.true c.if-bytes-at-eq-MARK.false

pub returns : goal.returns
returns c =
    record {
      marked_value = load_cells c.requires c.loop-at.invariant c.loop-at-test.false;
      marks_value = load_marks c.requires c.loop-at.invariant c.loop-at-test.false;
      ends_value = load_ends
          c.requires c.loop-at.invariant c.loop-at-test.false;
    }
