-- `counting::counts_of` meets its contract: after a turn the three numbers count the statuses passed.
use Rattle.std.proofs.Common.{◌≡◌, eqb, take}
use Rattle.mesh.specs.Cells.{redb}
use Rattle.mesh.specs.Counts.{count_if, greenb}
use Rattle.counting.proofs.counts_of.Given as goal

abbrev pub invariant-loop-s : goal.invariant-loop-s
invariant-loop-s l = (l.red ≡ count_if redb (take l.s-index l.own)) × (l.green ≡ count_if greenb (take l.s-index l.own))
    × (l.leaf ≡ count_if (λ s. eqb s 0) (take l.s-index l.own))
