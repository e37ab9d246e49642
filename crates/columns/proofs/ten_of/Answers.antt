-- `columns::ten_of` meets its contract: number by number.
use native.Mathlib.Omega.{arith}
use Rattle.columns.proofs.Placing.{ten_is, filled_placed}
use Rattle.columns.proofs.ten_of.Goals as goal

pub place_of-p-requires : goal.place_of-p-requires
place_of-p-requires c =
    record {
      c_in_bounds = (omega (arith, c.requires.sources.rows), omega (arith, c.requires.sources.few), c.requires.c_in_bounds.1);
      parent_placed = filled_placed c.args.rows.now c.args.status.now c.args.kids.now c.args.owners.now c.requires.sources c.args.c
          c.args.cols.now c.requires.c_in_bounds.0 c.requires.filled;
    }

pub returns : goal.returns
returns c =
    ten_is c.args.rows.now c.args.status.now c.args.kids.now c.args.owners.now c.args.c c.family_of-family.result c.place_of-p.result
    c.inner_of-inner.result c.family_of-family.ensures c.place_of-p.ensures c.inner_of-inner.ensures
