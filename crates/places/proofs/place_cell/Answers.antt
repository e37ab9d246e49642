use native.Mathlib.Omega.{arith}
use Rattle.places.specs.Front.{ghost_front}
use Rattle.places.proofs.place_cell.Goals as goal

pub place_family-requires : goal.place_family-requires
place_family-requires c =
    let w = ghost_front _ _ _ _
    c.place_master.ensures
    c.place_ghost.ensures in (omega (arith, w.size), omega (arith, w.head 5 (omega arith)), omega arith)
