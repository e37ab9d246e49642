-- The counts in front of the table are those of the archive's levels, at most 44.
use Rattle.std.proofs.Common.{◌≡◌, sym, arith, length-take-le}
use Rattle.jobs.proofs.Listings.{done_few, done_listing, refused_listing, written_as}
use Rattle.jobs.proofs.list.Goals as goal

pub overflow_mul-counts : goal.overflow_mul-counts
overflow_mul-counts c = omega (arith, done_few c.args.bytes.now _ _ (omega arith) (omega arith) _ c.in-Ok.ensures.answer c.in-Ok.ensures.size)

pub slice_bounds-counts-end : goal.slice_bounds-counts-end
slice_bounds-counts-end c = omega (arith, done_few c.args.bytes.now _ _ (omega arith) (omega arith) _ c.in-Ok.ensures.answer c.in-Ok.ensures.size, c.replay.auto.counts)

pub slice_bounds-write_listing-end : goal.slice_bounds-write_listing-end
slice_bounds-write_listing-end c = sym (length-take-le _ _ (omega (arith, done_few c.args.bytes.now _ _ (omega arith) (omega arith) _ c.in-Ok.ensures.answer c.in-Ok.ensures.size, c.replay.auto.counts)))

pub returns-in-Ok-clause-out_value : goal.returns-in-Ok-clause-out_value
returns-in-Ok-clause-out_value c =
    let e = done_listing c.args.bytes.now _ _ (omega arith) (omega arith) _ c.in-Ok.ensures.answer c.in-Ok.ensures.size _ c.in-Ok.ensures.counts_value in
    (written_as c.args.out.now e (c.write_listing.ensures.out_value, c.write_listing.ensures.value)).0

pub returns-in-Ok-clause-value : goal.returns-in-Ok-clause-value
returns-in-Ok-clause-value c =
    let e = done_listing c.args.bytes.now _ _ (omega arith) (omega arith) _ c.in-Ok.ensures.answer c.in-Ok.ensures.size _ c.in-Ok.ensures.counts_value in
    (written_as c.args.out.now e (c.write_listing.ensures.out_value, c.write_listing.ensures.value)).1

pub returns-in-Err-clause-out_value : goal.returns-in-Err-clause-out_value
returns-in-Err-clause-out_value c =
    let e = refused_listing c.args.bytes.now _ _ (omega arith) (omega arith) _ c.in-Err.ensures.answer in
    (written_as c.args.out.now (rw c.number.ensures e) (c.write_refusal.ensures.out_value, c.write_refusal.ensures.value)).0

pub returns-in-Err-clause-value : goal.returns-in-Err-clause-value
returns-in-Err-clause-value c =
    let e = refused_listing c.args.bytes.now _ _ (omega arith) (omega arith) _ c.in-Err.ensures.answer in
    (written_as c.args.out.now (rw c.number.ensures e) (c.write_refusal.ensures.out_value, c.write_refusal.ensures.value)).1
