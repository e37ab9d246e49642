-- The steps before are done, and the rest comes to what the whole comes to.
use Rattle.std.proofs.Common.{take}
use Rattle.archive.specs.Tables.{pairs}
use Rattle.replay.proofs.Turns.{Turn}
use Rattle.replay.proofs.run_steps.Given as goal

abbrev pub invariant-loop-end : goal.invariant-loop-end
invariant-loop-end l = Turn l.n l.mesh (take l.fn.first.cells l.initial.table) (pairs l.marked l.marks) l.ends l.rows l.table l.now.cells
    l.now.levels l.p l.end-index
