-- It inserts the edge's two ends.
use Rattle.edges.specs.Table.{grown_one}
use Rattle.redlist.proofs.red_edge.Goals as goal

pub returns : goal.returns
returns g c = rw (← c.edge_of-a.ensures) (grown_one c.insert.ensures)
