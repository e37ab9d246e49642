-- `slots::number` meets its contract: a turn numbers the next level.
use Rattle.std.proofs.Common.{◌≡◌, ◌+◌, suc, arith, add-one, refl}
use Rattle.pairs.specs.Keys.{clear_new}
use Rattle.base.specs.Limits.{most_levels}
use Rattle.slots.proofs.Numbering.{going_start, going_more, all_levels}
use Rattle.slots.proofs.number.Goals as goal

pub loop-k-init : goal.loop-k-init
loop-k-init c = going_start c.args.rows.now c.args.firsts.now _ c.args.slots.now c.args.starts.now refl c.told-starts

pub number_level-requires : goal.number_level-requires
number_level-requires c =
    let z : c.loop-k.k + 1 ≡ suc c.loop-k.k = add-one c.loop-k.k in
    rw z (c.requires.up c.loop-k.k c.loop-k-test.true, c.requires.most (suc c.loop-k.k) (omega arith), c.loop-k.invariant.few)

pub loop-k-preserved : goal.loop-k-preserved
loop-k-preserved c =
    let z : c.loop-k.k + 1 ≡ suc c.loop-k.k = add-one c.loop-k.k in
    rw z (going_more c.args.rows.now c.args.firsts.now c.requires c.loop-k.k c.loop-k-test.true c.loop-k.table c.loop-k.slots c.loop-k.starts
    c.loop-k.invariant c.number_level.new.table c.number_level.new.slots (rw z at c.number_level.ensures))

pub returns : goal.returns
returns c =
    let k : c.loop-k.k ≡ most_levels = omega arith in
    all_levels c.args.rows.now c.args.firsts.now c.requires c.loop-k.table c.loop-k.slots c.loop-k.starts (rw k at c.loop-k.invariant)

pub invariant_of-table : goal.invariant_of-table
invariant_of-table c =
    record { sized = (refl, refl, refl, refl); in_order = (clear_new 4096 (omega arith)).empty _ _ _; up = omega arith }
