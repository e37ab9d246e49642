use lib.ListN.{get_or}
use Prim.Native.Nat.{◌-◌}
use mathlib.Core.Path.{◌≡◌}
use Rattle.store.specs.Fields.{CELLS}
use Rattle.turns.specs.Loops.{each_from}
use Rattle.places.specs.Put.{place_cell}
use Rattle.places.specs.Front.{SameFront}
use Rattle.places.proofs.place_cells.Given as goal

abbrev pub invariant-loop-c : goal.invariant-loop-c
invariant-loop-c l = SameFront l.initial.store l.store × (each_from place_cell (l.c-end - l.c) l.c l.store ≡ each_from place_cell
    (get_or l.initial.store CELLS 0) 0 l.initial.store)
