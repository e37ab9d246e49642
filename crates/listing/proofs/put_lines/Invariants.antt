-- A turn writes the line of a level.
use Rattle.listing.proofs.Levels.{Lined}
use Rattle.listing.proofs.put_lines.Given as goal

abbrev pub invariant-loop-level : goal.invariant-loop-level
invariant-loop-level l = Lined l.initial.out l.at l.levels l.level l.p l.out
