-- `merge::merge` meets its contract: test by test.
use Rattle.std.proofs.Common.{◌≡◌, refl, sym, ◌∙◌, arith, rules, Err}
use Rattle.merge.proofs.Answers.{headed, passed, merge_short, merge_narrow, merge_header, merge_alike, merge_every, merge_corners}
use Rattle.merge.proofs.Answers.{merge_none, merge_last, fours_fit}
use Rattle.merge.specs.Stores.{few_entries}
use Rattle.merge.proofs.merge.Goals.{then-stores-via-then-stores, then-stores-via-else-stores+then-table-lt-MOST_CELLS}
use Rattle.merge.proofs.merge.Goals.{then-not-all_alike-via-then-not-all_alike, then-not-all_alike-via-else-not-all_alike+then-not-has_all}
use Rattle.merge.proofs.merge.Goals as goal

pub returns-then-stores : goal.returns-then-stores
returns-then-stores c =
    elim c.then-stores.branch [
      | then-stores-via-then-stores w ↦
          let s = merge_short c.args.stores.now c.args.table.now w.if-stores.true in
          record { answer = s.answer; cells = s.cells; table_value = s.table_value }
      | then-stores-via-else-stores+then-table-lt-MOST_CELLS w ↦
          let s = merge_narrow c.args.stores.now c.args.table.now w.if-stores.false w.if-table-lt-MOST_CELLS.true in
          record { answer = s.answer; cells = s.cells; table_value = s.table_value }
    ]

pub returns-then-not-header_fits : goal.returns-then-not-header_fits
returns-then-not-header_fits c =
    let s = merge_header c.args.stores.now c.args.table.now (omega arith) (omega arith) (sym c.header_fits.ensures ∙ c.if-not-header_fits.true) in
    record { answer = s.answer; cells = s.cells; table_value = s.table_value }

pub all_alike-requires : goal.all_alike-requires
all_alike-requires c =
    (omega arith, (headed c.args.stores.now (sym c.header_fits.ensures ∙ c.if-not-header_fits.false)).parts_most)

pub has_all-requires : goal.has_all-requires
has_all-requires c =
    (omega arith, (headed c.args.stores.now (sym c.header_fits.ensures ∙ c.if-not-header_fits.false)).parts_most)

pub returns-then-not-all_alike : goal.returns-then-not-all_alike
returns-then-not-all_alike c =
    elim c.then-not-all_alike.branch [
      | then-not-all_alike-via-then-not-all_alike w ↦
          let s = merge_alike c.args.stores.now c.args.table.now (omega arith) (omega arith) _ refl
          (sym c.all_alike.ensures ∙ w.if-not-all_alike.true) in
          record { answer = s.answer; cells = s.cells; table_value = s.table_value }
      | then-not-all_alike-via-else-not-all_alike+then-not-has_all w ↦
          let s = merge_every c.args.stores.now c.args.table.now (omega arith) (omega arith) _ refl
          (sym w.has_all.ensures ∙ w.if-not-has_all.true) in
          record { answer = s.answer; cells = s.cells; table_value = s.table_value }
    ]

pub gather_corners-requires : goal.gather_corners-requires
gather_corners-requires c =
    let h = headed c.args.stores.now (sym c.header_fits.ensures ∙ c.if-not-header_fits.false) in (omega arith, h.parts_most, h.coarse_most)

pub returns-in_err-gather_corners : goal.returns-in_err-gather_corners
returns-in_err-gather_corners c =
    let r : c.from_residual.result ≡ Err c.in_err-gather_corners.field-0.0 = search rules in
    let s = merge_corners c.args.stores.now c.args.table.now (omega arith) (omega arith) _ refl _ _ refl refl c.in_err-gather_corners.ensures.1 in
    rw (r, c.in_err-gather_corners.ensures.0) (record { answer = s.answer; cells = s.cells; table_value = s.table_value })

pub assemble-requires : goal.assemble-requires
assemble-requires c =
    let h = headed c.args.stores.now (sym c.header_fits.ensures ∙ c.if-not-header_fits.false) in
    record {
      full_in_bounds = (omega arith, h.parts_most, h.coarse_most);
      few_entries = few_entries _ _ (passed _ (sym c.all_alike.ensures ∙ c.if-not-all_alike.false));
    }

pub returns-in_err-row : goal.returns-in_err-row
returns-in_err-row c =
    let r : c.from_residual-in_err-row.result ≡ Err c.in_err-row.field-0.0 = search rules in
    let s = merge_none c.args.stores.now c.args.table.now (omega arith) (omega arith) _ refl _ _ refl refl c.in_err-row.ensures.1 in
    rw (r, c.in_err-row.ensures.0) (record { answer = s.answer; cells = s.cells; table_value = s.table_value })

pub finish-requires : goal.finish-requires
finish-requires c =
    let h = headed c.args.stores.now (sym c.header_fits.ensures ∙ c.if-not-header_fits.false) in
    record {
      le_m = (h.coarse_least, h.coarse_most, h.corners_most, omega arith);
      cells = fours_fit c.args.stores.now c.args.table.now (omega arith) (omega arith) _ refl _ _ refl refl _ c.in_ok-gather_corners.ensures;
    }

pub returns : goal.returns
returns c =
    let s = merge_last c.args.stores.now c.args.table.now (omega arith) (omega arith) _ refl _ _ refl refl _ c.in_ok-gather_corners.ensures
    c.in_ok-row.row c.in_ok-row.ensures (passed _ (sym c.header_fits.ensures ∙ c.if-not-header_fits.false))
    (sym c.all_alike.ensures ∙ c.if-not-all_alike.false) (sym c.has_all.ensures ∙ c.if-not-has_all.false) c.finish.new.table c.finish.result
    c.finish.ensures in
    record { answer = s.answer; cells = s.cells; table_value = s.table_value }
