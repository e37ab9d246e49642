-- A search that finds is a pair that is listed.
use Rattle.edges.specs.Seek.{told}
use Rattle.std.proofs.Common.{◌∙◌}
use Rattle.edges.proofs.holds.Goals as goal

pub returns : goal.returns
returns g c = c.is_some.ensures ∙ told c.args.table.now (c.args.a, c.args.b) c.sorted_ends-low.ensures c.find.result c.find.ensures
