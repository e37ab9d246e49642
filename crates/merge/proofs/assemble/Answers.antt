-- `merge::assemble` meets its contract: the masters are loaded, and make the table.
use Rattle.std.proofs.Common.{◌≡◌, refl, rules, Err}
use Rattle.merge.proofs.Answers.{assembled_many, assembled_none, assembled_other, assembled_all}
use Rattle.merge.proofs.assemble.Goals as goal

pub returns-in_err-load_stores : goal.returns-in_err-load_stores
returns-in_err-load_stores c =
    let r : c.from_residual.result ≡ Err c.in_err-load_stores.field-0.0 = search rules in
    rw r (
      c.in_err-load_stores.ensures.0,
      assembled_many c.args.stores.now c.args.parts c.args.m c.new-masters.result c.new-masters.ensures c.in_err-load_stores.ensures.1,
    )

pub returns-in_err-row : goal.returns-in_err-row
returns-in_err-row c =
    let r : c.from_residual-in_err-row.result ≡ Err c.in_err-row.field-0.0 = search rules in
    rw r (
      c.in_err-row.ensures.0,
      assembled_none c.args.stores.now c.args.parts c.args.m c.new-masters.result c.new-masters.ensures c.load_stores.new.self
          c.in_ok-load_stores.ensures c.in_err-row.ensures.1,
    )

pub returns-then-row-masters : goal.returns-then-row-masters
returns-then-row-masters c = (
  refl,
  assembled_other c.args.stores.now c.args.parts c.args.m c.new-masters.result c.new-masters.ensures c.load_stores.new.self
      c.in_ok-load_stores.ensures c.in_ok-row.row c.in_ok-row.ensures c.if-row-masters.true,
)

pub returns : goal.returns
returns c =
    assembled_all c.args.stores.now c.args.parts c.args.m c.new-masters.result c.new-masters.ensures c.load_stores.new.self
    c.in_ok-load_stores.ensures c.in_ok-row.row c.in_ok-row.ensures c.if-row-masters.false
