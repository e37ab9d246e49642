-- `divide::write_parts` meets its contract: a turn writes the next store.
use Rattle.std.proofs.Common.{◌≡◌}
use Rattle.divide.specs.Divided.{part_by, stores_to}
use Rattle.divide.proofs.write_parts.Given as goal

abbrev pub invariant-loop-j : goal.invariant-loop-j
invariant-loop-j l =
    l.stores ≡ stores_to (part_by l.source.cols.now l.source.mesh.now l.source.slots.now l.source.firsts.now l.source.starts.now l.source.cells
    l.source.parts l.source.corners l.source.levels) l.initial.stores l.j
