use Rattle.merge.specs.Stores.{store_is}
use native.Mathlib.Omega.{arith}
use lib.ListN.{length}
use mathlib.Core.Path.{◌∙◌, ap}
use Rattle.store.specs.Stores.{store_long}
use Rattle.merge.proofs.store_at.Goals as goal

pub returns : goal.returns
returns c = (
  store_is _ _,
  ap length (store_is c.args.stores.now c.args.j) ∙ store_long _ _ (omega arith)
      (omega arith),
)
