use native.Mathlib.Omega.{arith}
use Prim.Native.Nat.{ℕ}
use lib.ListN.{get_or}
use Rattle.places.specs.Status.{fresh_bits}
use Rattle.places.proofs.Placing.{children_is}
use Rattle.places.proofs.Knowing.{fresh_few}
use Rattle.places.proofs.place_fresh.Goals as goal

pub put_children-requires : goal.put_children-requires
put_children-requires c = (
  omega arith,
  λ i h. omega (
    arith,
    c.fresh_of-fresh.ensures i h,
    fresh_few
        c.args.store.now
        c.args.c i,
  ),
)

pub returns : goal.returns
returns c =
    children_is _ _ (λ (i : ℕ). get_or c.fresh_of-fresh.result i 0)
    (fresh_bits c.args.store.now
    c.args.c) _ _
    c.place_at-p.ensures
    c.fresh_of-fresh.ensures c.put_children.ensures
