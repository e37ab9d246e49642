use native.Mathlib.Numerals.{add-one}
use native.Mathlib.Omega.{arith}
use mathlib.Core.Path.{sym, ◌∙◌}
use Rattle.turns.specs.Loops.{each_out}
use Rattle.places.specs.Put.{place_cell}
use Rattle.places.specs.Front.{front_again, cell_front}
use Rattle.places.proofs.place_cells.Goals as goal

pub loop-c-preserved : goal.loop-c-preserved
loop-c-preserved c =
    rw add-one (front_again place_cell cell_front _ _ _ _ _ _ c.loop-c.invariant
    (omega arith) c.place_cell.ensures)

pub returns : goal.returns
returns c =
    sym (each_out place_cell _ _ _ (omega arith)) ∙ c.loop-c.invariant.1
