-- `coarse::edge` meets its contract: the difference of two numbers within 500,000 is within a million.
use lib.Dec.{lit<}
use Rattle.coarse.specs.Volume.{edge_vector}
use Rattle.coarse.proofs.Size.{kept_told, kept_sub, kept_read, kept_tells}
use Rattle.coarse.proofs.edge.Goals as goal

pub returns : goal.returns
unfolding edge_vector
returns c =
    let k = kept_sub (kept_told c.coordinate_of.ensures (lit< tt)) (kept_told c.coordinate_of-2.ensures (lit< tt)) in
    kept_tells (kept_read k (lit< tt))
