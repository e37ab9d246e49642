-- What has room for the statuses of a sound table has room for its cells.
use Rattle.std.proofs.Common.{◌*◌, ◌≤◌, ◌∙◌, sym, arith, rules, length, ℕ}
use Rattle.std.proofs.lemmas.List.{length-replicate}
use Rattle.pairs.specs.Keys.{clear_new}
use Rattle.base.specs.Refuse.{held_after}
use Rattle.layout.proofs.Results.{layout_long, laid_refused, Lent, lent_long, fits_corners, fits_ends, fits_small, fits_counted, table_after, ends_after_lem}
use Rattle.layout.proofs.Results.{sums_after_lem}
use Rattle.layout.proofs.lay_out_in.Goals as goal

pub returns-in_err-laid : goal.returns-in_err-laid
returns-in_err-laid g c =
    laid_refused _ _ _ _ _ _ _ _ c.requires.lent (search rules) c.in_err-laid.ensures.answer

pub write_out-requires : goal.write_out-requires
write_out-requires g c =
    let f = c.in_ok-laid.ensures.fits in
    let t = c.open.new.mids in
    let l : Lent c.args.table.now c.args.ends.now c.args.sums.now = lent_long _ _ _ c.requires.lent in
    let n = fits_counted _ _ _ _ _ _ _ _ _ f in
    let m = c.requires.room (omega (arith, n, f.sound.few)) in (
      search rules,
      (
        (f.sound.few, f.sound.most),
        (
          (
            f.mesh.corners,
            fits_ends _ _ _ _ _ _ _ _ _ f (omega (arith, t.sized.0, n, m.2, f.sound.most)) (omega (arith, t.sized.1, n, m.2, f.sound.most)),
          ),
          (
            fits_small _ _ _ _ _ _ _ _ _ f,
            (omega (arith, n, m.1, c.open.auto.rows), (l.long_table, l.long_ends, l.long_sums)),
          ),
        ),
      ),
    )

pub returns : goal.returns
unfolding held_after
returns g c =
    let fits = c.in_ok-laid.ensures.fits in
    let t = c.open.new.mids in
    let n = fits_counted _ _ _ _ _ _ _ _ _ fits in
    let m = c.requires.room (omega (arith, n, fits.sound.few)) in
    let w = c.write_out.ensures in
    let hr : 8 * c.in_ok-laid.laid.cells ≤ length c.open.new.rows = omega (arith, n, m.1, c.open.auto.rows) in
    let hx : t.n ≤ length t.xs = omega (arith, t.sized.0, n, m.2, fits.sound.most) in
    let hy : t.n ≤ length t.ys = omega (arith, t.sized.1, n, m.2, fits.sound.most) in
    let e = c.in_ok-laid.ensures.answer
    ∙ sym (layout_long c.args.positions.now c.args.cells.now c.args.status.now c.args.table.now c.args.ends.now c.args.sums.now c.requires.lent) in
    record {
      answer = e;
      sizes = rw (fits.sound.counted, fits.sound.high, fits_corners _ _ _ _ _ _ _ _ _ fits);
      table_is = rw (sym e) (table_after _ _ _ _ _ _ _ _ _ fits hr hx hy c.args.table.now _ w.table_value);
      ends_are = rw (sym e) (ends_after_lem _ _ _ _ _ _ _ _ _ fits hr hx hy c.args.ends.now _ w.ends_value);
      sums_are = rw (sym e) (sums_after_lem _ _ _ _ _ _ _ _ _ fits hr hx hy c.args.sums.now _ w.sums_value);
    }

pub invariant_of-mids : goal.invariant_of-mids
invariant_of-mids g c =
    record {
      sized = (
        length-replicate {A = ℕ} g.row.M 0,
        length-replicate {A = ℕ} g.row.M 0,
        length-replicate {A = ℕ} g.row.MH 65535,
        length-replicate {A = ℕ} g.row.M 0,
      );
      in_order = (clear_new g.row.MH c.requires.sizes.2).empty _ _ _;
      up = omega arith;
    }
