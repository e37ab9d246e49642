-- `merge::masters::Masters::load_stores` meets its contract: a turn takes the store before.
use Rattle.std.proofs.Common.{◌≡◌, ◌-◌, rules, arith, Err}
use Rattle.merge.proofs.Loading.{storing_none, storing_on, storing_out, storing_full, entries_in_lem}
use Rattle.merge.proofs.masters.Masters.load_stores.Goals as goal

pub loop-i-init : goal.loop-i-init
loop-i-init c = storing_none c.args.self.now c.args.stores.now c.args.parts

pub load_store-requires : goal.load_store-requires
load_store-requires c = (
  omega (arith, c.store_at.ensures.1),
  rw c.store_at.ensures.0 (entries_in_lem c.args.stores.now c.args.parts (c.loop-i.i - 1) c.requires.few_entries (omega arith)),
)

pub returns-in_err-load_store : goal.returns-in_err-load_store
returns-in_err-load_store c =
    let r : c.from_residual.result ≡ Err c.in_err-load_store.field-0.0 = search rules in
    rw r (
      c.in_err-load_store.ensures.0,
      storing_full c.args.self.now c.loop-i.self c.args.stores.now c.loop-i.i c.args.parts c.loop-i-test.true (omega arith)
          c.loop-i.invariant (rw c.store_at.ensures.0 at c.in_err-load_store.ensures.1),
    )

pub loop-i-preserved : goal.loop-i-preserved
loop-i-preserved c =
    storing_on c.args.self.now c.loop-i.self c.load_store.new.self c.args.stores.now c.loop-i.i c.args.parts c.loop-i-test.true (omega arith)
    c.loop-i.invariant (rw c.store_at.ensures.0 at c.in_ok-load_store.ensures)

pub returns : goal.returns
returns c = storing_out c.args.self.now c.loop-i.self c.args.stores.now c.loop-i.i c.args.parts (omega arith) c.loop-i.invariant
