-- `columns::inner_of` meets its contract: a turn puts the next lower bit in front.
use mathlib.Core.Path.{◌≡◌}
use Prim.Native.Nat.{◌-◌}
use native.Mathlib.Omega.{arith}
use Rattle.columns.proofs.Placing.{no_bits, small_bits, bit_turn, inner_none, inner_some}
use Rattle.columns.specs.Ten.{outerb}
use Rattle.ancestors.specs.Climb.{parent_in}
use Rattle.base.specs.Bools.{one_most}
use Rattle.columns.proofs.inner_of.Goals as goal

pub returns-then-rows-c-eq0 : goal.returns-then-rows-c-eq0
returns-then-rows-c-eq0 c =
    inner_none c.args.rows.now c.args.c c.if-rows-c-eq0.true

pub loop-e-init : goal.loop-e-init
loop-e-init c =
    no_bits c.args.rows.now (parent_in c.args.rows.now c.args.c) c.args.c

pub overflow_mul-bits : goal.overflow_mul-bits
overflow_mul-bits c =
    omega (arith, small_bits c.args.rows.now (parent_in c.args.rows.now c.args.c) c.args.c c.loop-e.bits c.loop-e.e (omega arith) c.loop-e.invariant)

pub overflow_add-bits : goal.overflow_add-bits
overflow_add-bits c =
    omega (
      arith,
      small_bits c.args.rows.now (parent_in c.args.rows.now c.args.c) c.args.c c.loop-e.bits c.loop-e.e (omega arith) c.loop-e.invariant,
      c.outer.ensures,
      one_most (outerb c.args.rows.now (parent_in c.args.rows.now c.args.c) c.args.c (c.loop-e.e - 1)),
    )

pub loop-e-preserved : goal.loop-e-preserved
loop-e-preserved c =
    bit_turn c.args.rows.now (parent_in c.args.rows.now c.args.c) c.args.c c.loop-e.bits c.loop-e.e c.outer.result
    c.loop-e-test.true (omega arith) c.loop-e.invariant c.outer.ensures

pub returns : goal.returns
returns c =
    let k : c.loop-e.e ≡ 0 = omega (arith, c.loop-e-test.false) in
    inner_some c.args.rows.now c.args.c c.if-rows-c-eq0.false c.loop-e.bits (rw k at c.loop-e.invariant)
