use Rattle.turns.proofs.Starting.{others_is}
use native.Mathlib.Omega.{arith}
use Rattle.turns.proofs.others_of.Goals as goal

pub overflow_sub-result-2 : goal.overflow_sub-result-2
overflow_sub-result-2 c =
    omega (
      arith,
      (others_is _ _ _ c.requires c.bit_of-top.ensures.0
          c.bit_of-own.ensures.0).room,
    )

pub returns : goal.returns
returns c = (
  (others_is _ _ _ c.requires c.bit_of-top.ensures.0
      c.bit_of-own.ensures.0).is,
  (others_is _ _ _ c.requires c.bit_of-top.ensures.0
      c.bit_of-own.ensures.0).few,
)
