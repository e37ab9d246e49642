-- The smaller number comes first.
use Rattle.std.proofs.Common.{rules}
use Rattle.edges.specs.Pairs.{sorted}
use Rattle.edges.proofs.sorted_ends.Goals as goal

pub returns : goal.returns
unfolding sorted
returns c = search rules
