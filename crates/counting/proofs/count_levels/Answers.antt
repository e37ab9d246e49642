-- `counting::count_levels` meets its contract: a turn stores the counts of a level and goes on to the next, and a table within the
-- limits has at most eleven. The measure is how many more there can be.
use Rattle.rows.specs.Numbered.{part}
use Rattle.std.proofs.Common.{◌≡◌, ◌∙◌, ap, ◌+◌, ◌*◌, ◌-◌, length, arith}
use Rattle.rows.specs.Laws.{length_part}
use Rattle.counting.proofs.Tallies.{own_is, own_four}
use Rattle.counting.specs.Levels.{next_end}
use Rattle.counting.proofs.Turns.{copied_sets, last_inside, room_here, next_inside, at_next, at_number, at_end_lem}
use Rattle.counting.proofs.count_levels.Goals as goal

pub slice_bounds-counts_of-end : goal.slice_bounds-counts_of-end
slice_bounds-counts_of-end c = last_inside c.requires.levels c.loop-first.invariant

pub counts_of-row-requires : goal.counts_of-row-requires
counts_of-row-requires c =
    omega (
      arith,
      length_part c.args.status.now c.loop-first.first (c.loop-first.last - c.loop-first.first)
          (omega (arith, c.loop-first.invariant.rising, last_inside c.requires.levels c.loop-first.invariant)),
      last_inside c.requires.levels c.loop-first.invariant,
      c.requires.levels.small,
    )

pub slice_bounds-copy_from_slice-end : goal.slice_bounds-copy_from_slice-end
slice_bounds-copy_from_slice-end c = room_here c.requires.levels c.requires.full_counts_in_bounds c.loop-first.invariant c.loop-first-test.true

pub level_size-requires : goal.level_size-requires
level_size-requires c =
    record {
      first_le_last = (c.loop-first.invariant.rising, last_inside c.requires.levels c.loop-first.invariant, c.requires.levels.small);
      status_value = c.requires.levels.statuses;
    }

pub overflow_add-above : goal.overflow_add-above
unfolding next_end
overflow_add-above c =
    omega (
      arith,
      c.requires.levels.small,
      c.level_size.ensures,
      next_inside c.requires.levels c.requires.full_counts_in_bounds
          c.loop-first.invariant
          c.loop-first-test.true,
    )

pub loop-first-preserved : goal.loop-first-preserved
unfolding next_end
loop-first-preserved c =
    let i = c.loop-first.invariant in
    let room = room_here c.requires.levels c.requires.full_counts_in_bounds i c.loop-first-test.true in
    let e : 4 * c.loop-first.level + 4 - 4 * c.loop-first.level ≡ length c.counts_of-row.result = omega (
      arith,
      ap length c.counts_of-row.ensures,
      own_four (part c.args.status.now c.loop-first.first
          (c.loop-first.last - c.loop-first.first)),
    ) in
    rw c.level_size.ensures
    (at_next c.requires.levels c.requires.full_counts_in_bounds i c.loop-first-test.true c.counts_of-row.result _
    (c.counts_of-row.ensures ∙ own_is c.loop-first.first c.loop-first.last c.args.status.now i.rising (last_inside c.requires.levels i))
    (rw c.copy_from_slice.ensures.after (copied_sets c.loop-first.counts c.counts_of-row.result (4 * c.loop-first.level)
    (4 * c.loop-first.level + 4 - 4 * c.loop-first.level) e (omega (arith, room)))))

pub returns : goal.returns
returns c =
    record {
      value = at_number c.loop-first.invariant c.loop-first-test.false;
      counts_value = at_end_lem c.loop-first.invariant c.loop-first-test.false;
    }
