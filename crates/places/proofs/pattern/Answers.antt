use Rattle.std.proofs.Common.{arith, ◌-◌}
use Rattle.places.proofs.Bits.{bits_none, bits_turn, bits_end, few_turn}
use Rattle.store.proofs.Flags.{flag_few}
use Rattle.places.proofs.pattern.Goals as goal

pub loop-e-init : goal.loop-e-init
loop-e-init g c = (omega arith, λ f h. bits_none f)

pub loop-e-preserved : goal.loop-e-preserved
loop-e-preserved g c = (
  (few_turn c.loop-e.pattern c.loop-e.e _ (omega arith) (omega arith) c.loop-e.invariant.0 (flag_few _ _ c.from.ensures)).1,
  λ f h. bits_turn f _ c.loop-e.e _ _ (omega arith) (omega arith) (c.loop-e.invariant.1 f h) c.from.ensures
      (h (c.loop-e.e - 1) _ (omega arith) c.test.ensures),
)

pub returns-clause-pattern : goal.returns-clause-pattern
returns-clause-pattern g c = λ f h. bits_end f _ c.loop-e.e (omega arith) (c.loop-e.invariant.1 f h)
