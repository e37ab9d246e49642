-- `coarse::term` meets its contract: products of numbers within a million, so that all stays far below 2 to the 63.
use Rattle.coarse.specs.Volume.{term_of}
use Rattle.coarse.proofs.Volumes.{product_fits, minor_fits, term_fits, term_told}
use Rattle.coarse.proofs.term.Goals as goal

pub overflow_mul-s : goal.overflow_mul-s
overflow_mul-s c = product_fits c.edge.ensures c.edge-2.ensures

pub overflow_mul-t : goal.overflow_mul-t
overflow_mul-t c = product_fits c.edge-3.ensures c.edge-4.ensures

pub overflow_sub-result : goal.overflow_sub-result
overflow_sub-result c =
    minor_fits c.edge.ensures c.edge-2.ensures c.edge-3.ensures c.edge-4.ensures

pub overflow_mul-result : goal.overflow_mul-result
overflow_mul-result c =
    term_fits c.edge.ensures c.edge-2.ensures c.edge-3.ensures c.edge-4.ensures
    c.edge-5.ensures

pub returns : goal.returns
unfolding term_of
returns c =
    term_told c.edge.ensures c.edge-2.ensures c.edge-3.ensures c.edge-4.ensures
    c.edge-5.ensures
