-- `columns::place_of` meets its contract: a coarse cell, or a child of a cell whose place is written.
use native.Mathlib.Omega.{arith}
use Rattle.columns.proofs.Placing.{place_coarse, place_child}
use Rattle.columns.proofs.place_of.Goals as goal

pub returns-then-rows-c-eq0 : goal.returns-then-rows-c-eq0
returns-then-rows-c-eq0 c =
    place_coarse c.args.rows.now c.args.cols.now c.args.c c.if-rows-c-eq0.true

pub returns : goal.returns
returns c =
    place_child c.args.rows.now c.args.cols.now c.args.c c.requires.parent_placed (omega (
      arith,
      c.if-rows-c-eq0.false,
    )) c.child_place.result
    c.child_place.ensures
