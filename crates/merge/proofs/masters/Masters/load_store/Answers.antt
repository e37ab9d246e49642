-- `merge::masters::Masters::load_store` meets its contract: a turn takes the entry before.
use Rattle.std.proofs.Common.{◌≡◌, rules, arith, Err}
use Rattle.store.specs.Fields.{field, ENTRIES}
use Rattle.merge.proofs.Loading.{loading_none, loading_on, loading_out, loading_full}
use Rattle.merge.proofs.masters.Masters.load_store.Goals as goal

pub loop-j-init : goal.loop-j-init
loop-j-init c = loading_none c.args.self.now c.args.store.now (field c.args.store.now ENTRIES)

pub returns-in_err-load_entry : goal.returns-in_err-load_entry
returns-in_err-load_entry c =
    let r : c.from_residual.result ≡ Err c.in_err-load_entry.field-0.0 = search rules in
    rw r (
      c.in_err-load_entry.ensures.0,
      loading_full c.args.self.now c.loop-j.self c.args.store.now c.loop-j.j c.loop-j-test.true (omega arith) c.loop-j.invariant
          c.in_err-load_entry.ensures.1,
    )

pub loop-j-preserved : goal.loop-j-preserved
loop-j-preserved c =
    loading_on c.args.self.now c.loop-j.self c.load_entry.new.self c.args.store.now c.loop-j.j (field c.args.store.now ENTRIES)
    c.loop-j-test.true (omega arith) c.loop-j.invariant c.in_ok-load_entry.ensures

pub returns : goal.returns
returns c = loading_out c.args.self.now c.loop-j.self c.args.store.now c.loop-j.j (omega arith) c.loop-j.invariant
