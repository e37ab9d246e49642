-- A pair that is found is an edge that is listed.
use Rattle.edges.specs.Seek.{told_place}
use Rattle.probing.proofs.probe.Goals as goal

pub returns : goal.returns
returns g c = rw (told_place c.args.table.now (c.args.a, c.args.b) c.sorted_ends-low.ensures) at c.probe_pair.ensures
