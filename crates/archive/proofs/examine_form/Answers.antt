-- The corners, the cells and the scan make the form of the whole.
use Rattle.std.proofs.Common.{◌≤◌, ◌*◌, sym, length, rules}
use Rattle.archive.proofs.Whole.{corners_fit, found_fits, form_found, examined, too_long, found_of, rest_is}
use Rattle.archive.proofs.examine_form.Goals as goal

pub returns-then-bytes-gt-MOST_BYTES : goal.returns-then-bytes-gt-MOST_BYTES
returns-then-bytes-gt-MOST_BYTES c = too_long c.args.bytes.now c.if-bytes-gt-MOST_BYTES.true

pub overflow_mul-corners : goal.overflow_mul-corners
overflow_mul-corners c = let f = corners_fit c.args.bytes.now c.count_corners-corners.result c.count_corners-corners.ensures in search rules

pub slice_bounds-count_cells-count : goal.slice_bounds-count_cells-count
slice_bounds-count_cells-count c = corners_fit c.args.bytes.now c.count_corners-corners.result c.count_corners-corners.ensures

pub slice_bounds-count_cells-start : goal.slice_bounds-count_cells-start
slice_bounds-count_cells-start c = let f = corners_fit c.args.bytes.now c.count_corners-corners.result c.count_corners-corners.ensures in search rules

pub overflow_mul-corners-2 : goal.overflow_mul-corners-2
overflow_mul-corners-2 c = let f = corners_fit c.args.bytes.now c.count_corners-corners.result c.count_corners-corners.ensures in search rules

pub overflow_mul-cells : goal.overflow_mul-cells
overflow_mul-cells c = let f = found_fits (found_of c.count_corners-corners.ensures (rest_is c.args.bytes.now (13 * c.count_corners-corners.result)) c.count_cells-cells.ensures) in search rules

pub overflow_add-corners : goal.overflow_add-corners
overflow_add-corners c = let f = found_fits (found_of c.count_corners-corners.ensures (rest_is c.args.bytes.now (13 * c.count_corners-corners.result)) c.count_cells-cells.ensures) in search rules

pub scan_steps-requires : goal.scan_steps-requires
scan_steps-requires c = found_fits (found_of c.count_corners-corners.ensures (rest_is c.args.bytes.now (13 * c.count_corners-corners.result)) c.count_cells-cells.ensures)

pub returns-in_err-scan : goal.returns-in_err-scan
returns-in_err-scan c =
    let f = found_of c.count_corners-corners.ensures (rest_is c.args.bytes.now (13 * c.count_corners-corners.result)) c.count_cells-cells.ensures in
    let h : length c.args.bytes.now ≤ 65536 = search rules in
    rw c.from_residual.ensures (sym (form_found f h _ _ _ c.in_err-scan.ensures))

pub returns : goal.returns
returns c =
    let f = found_of c.count_corners-corners.ensures (rest_is c.args.bytes.now (13 * c.count_corners-corners.result)) c.count_cells-cells.ensures in
    let h : length c.args.bytes.now ≤ 65536 = search rules in (
      sym (form_found f h _ _ _ c.in_ok-scan.ensures),
      examined f h _ _ c.in_ok-scan.ensures,
    )
