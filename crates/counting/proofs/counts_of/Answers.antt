-- `counting::counts_of` meets its contract: after a turn the three numbers count the statuses passed.
use Rattle.std.proofs.Common.{◌≡◌, ◌+◌, ◌∙◌, arith, eqb, length, ap}
use Rattle.std.proofs.Math.Seq.{take-length}
use Rattle.base.specs.Bools.{one_if}
use Rattle.mesh.specs.Cells.{redb}
use Rattle.mesh.specs.Counts.{greenb}
use Rattle.counting.specs.Levels.{own_counts}
use Rattle.counting.proofs.Tallies.{count_none, count_most, count_turn}
use Rattle.counting.proofs.counts_of.Goals as goal

pub loop-s-init : goal.loop-s-init
loop-s-init c = (count_none redb, count_none greenb, count_none (λ s. eqb s 0))

pub overflow_add-red : goal.overflow_add-red
unfolding one_if
overflow_add-red c =
    let t = count_turn redb c.args.own.now c.loop-s.s-index c.loop-s-test.true c.loop-s.invariant.0 (c.from-red.ensures) in
    omega (arith, t, count_most redb c.args.own.now (c.loop-s.s-index + 1), c.loop-s-test.true, c.requires)

pub overflow_add-green : goal.overflow_add-green
unfolding one_if
overflow_add-green c =
    let t = count_turn greenb c.args.own.now c.loop-s.s-index c.loop-s-test.true c.loop-s.invariant.1 (c.from-green.ensures ∙ ap one_if c.is_green.ensures) in
    omega (arith, t, count_most greenb c.args.own.now (c.loop-s.s-index + 1), c.loop-s-test.true, c.requires)

pub overflow_add-leaf : goal.overflow_add-leaf
unfolding one_if
overflow_add-leaf c =
    let t = count_turn (λ s. eqb s 0) c.args.own.now c.loop-s.s-index c.loop-s-test.true c.loop-s.invariant.2 (c.from-leaf.ensures) in
    omega (arith, t, count_most (λ s. eqb s 0) c.args.own.now (c.loop-s.s-index + 1), c.loop-s-test.true, c.requires)

pub loop-s-preserved : goal.loop-s-preserved
unfolding one_if
loop-s-preserved c = (
  count_turn redb c.args.own.now c.loop-s.s-index c.loop-s-test.true c.loop-s.invariant.0 c.from-red.ensures,
  count_turn greenb c.args.own.now c.loop-s.s-index c.loop-s-test.true c.loop-s.invariant.1
      (c.from-green.ensures ∙ ap one_if c.is_green.ensures),
  count_turn (λ s. eqb s 0) c.args.own.now c.loop-s.s-index c.loop-s-test.true c.loop-s.invariant.2 c.from-leaf.ensures,
)

pub returns : goal.returns
unfolding own_counts
returns c =
    let k : c.loop-s.s-index ≡ length c.args.own.now = omega (arith, c.loop-s.auto.s-index-end, c.loop-s-test.false) in
    let i = rw (k, take-length c.args.own.now) at c.loop-s.invariant in
    rw (i.0, i.1, i.2)
