-- A turn stores a mark, or the end of a step.
use Rattle.std.proofs.Common.{◌≡◌, ◌<◌, get_or, arith, rules}
use Rattle.archive.proofs.Storing.{storing_start, storing_length, storing_room, mark_room, storing_mark, storing_step, storing_end, storing_place}
use Rattle.archive.proofs.store_steps.Goals as goal

pub loop-last-init : goal.loop-last-init
loop-last-init c = storing_start c.requires.ends_rise c.args.from c.args.out.now c.requires.ends_in_bounds

pub put_mark-requires : goal.put_mark-requires
put_mark-requires c =
    let v = c.loop-k.invariant in
    let g : c.loop-k.k < get_or c.args.ends.now c.loop-last.last-index 0 = omega (arith, v.2, c.loop-k-test.true) in
    omega (arith, mark_room c.requires.ends_rise c.args.from c.args.out.now c.requires.ends_in_bounds v.0 v.1 g, storing_length c.requires.ends_rise c.args.from c.args.out.now c.requires.ends_in_bounds v.0)

pub overflow_add-at : goal.overflow_add-at
overflow_add-at c =
    let v = c.loop-k.invariant in
    let g : c.loop-k.k < get_or c.args.ends.now c.loop-last.last-index 0 = omega (arith, v.2, c.loop-k-test.true) in
    let r = mark_room c.requires.ends_rise c.args.from c.args.out.now c.requires.ends_in_bounds v.0 v.1 g in
    search rules

pub loop-k-preserved : goal.loop-k-preserved
loop-k-preserved c =
    let v = c.loop-k.invariant in
    let g : c.loop-k.k < get_or c.args.ends.now c.loop-last.last-index 0 = omega (arith, v.2, c.loop-k-test.true) in (
      storing_mark c.requires.ends_rise c.args.from c.args.out.now c.requires.ends_in_bounds v.0 v.1 g c.put_mark.ensures,
      v.1,
      v.2,
      omega arith,
    )

pub bounds-out-at : goal.bounds-out-at
bounds-out-at c =
    let v = c.loop-k.invariant in omega (arith, storing_room c.requires.ends_rise c.args.from c.args.out.now c.requires.ends_in_bounds v.0, storing_length c.requires.ends_rise c.args.from c.args.out.now c.requires.ends_in_bounds v.0)

pub overflow_add-at-in-loop-last : goal.overflow_add-at-in-loop-last
overflow_add-at-in-loop-last c = let r = storing_room c.requires.ends_rise c.args.from c.args.out.now c.requires.ends_in_bounds c.loop-k.invariant.0 in search rules

pub loop-last-preserved : goal.loop-last-preserved
loop-last-preserved c =
    let v = c.loop-k.invariant in
    let e : c.loop-k.k ≡ c.from-end.result = omega (arith, v.3, c.loop-k-test.false) in
    rw e at (storing_step c.requires.ends_rise c.args.from c.args.out.now c.requires.ends_in_bounds v.0 v.1 (omega (arith, v.2, c.loop-k-test.false)))

pub bounds-out-at-2 : goal.bounds-out-at-2
bounds-out-at-2 c =
    omega (arith, storing_room c.requires.ends_rise c.args.from c.args.out.now c.requires.ends_in_bounds c.loop-last.invariant, storing_length c.requires.ends_rise c.args.from c.args.out.now c.requires.ends_in_bounds c.loop-last.invariant)

pub overflow_add-result : goal.overflow_add-result
overflow_add-result c = let r = storing_room c.requires.ends_rise c.args.from c.args.out.now c.requires.ends_in_bounds c.loop-last.invariant in search rules

pub returns-clause-out_value : goal.returns-clause-out_value
returns-clause-out_value c = storing_end c.requires.ends_rise c.args.from c.args.out.now c.requires.ends_in_bounds c.loop-last.invariant (search rules)

pub returns-clause-value : goal.returns-clause-value
returns-clause-value c = storing_place c.requires.ends_rise c.args.from c.args.out.now c.requires.ends_in_bounds c.loop-last.invariant (search rules)
