-- A pattern below 64 has a family.
use Rattle.std.proofs.Common.{◌<◌, ◌≡◌, IsOk, Ok, Err, Result, rules}
use Rattle.base.specs.declared.Refusal.{Refusal}
use Rattle.base.specs.Refuse.{answered}
use Rattle.base.specs.Answer.{Accepted}
use Rattle.cutting.specs.Answer.{cut_into, cut_of_accepted}
use Rattle.print_families.proofs.main.Goals as goal

accepted : {A : Type 0} (r : Result A Refusal) → answered r ≡ Accepted → IsOk r
accepted (Ok v) e = search rules
accepted (Err r) e = cc

pub unwrap-family-requires : goal.unwrap-family-requires
unfolding cut_into
unwrap-family-requires c =
    let h : c.loop-pattern.pattern-counter < 64 = search rules in
    accepted _ (rw (cut_of_accepted c.loop-pattern.pattern-counter h) at c.cut.ensures.answer)
