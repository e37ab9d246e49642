use Rattle.std.proofs.Common.{rules, ap, not, ne_eqb, sym, ◌∙◌, true≢false, tests}
use Rattle.turns.specs.Decide.{hit_of}
use Rattle.turns.proofs.Asking.{asked_by}
use Rattle.turns.proofs.Deciding.{busy_hit}
use Rattle.turns.proofs.is_busy.Goals.{then-store-d-ne0, else-store-d-ne0}
use Rattle.turns.proofs.is_busy.Goals as goal

pub returns-else-store-d-ne2 : goal.returns-else-store-d-ne2
returns-else-store-d-ne2 c =
    elim c.if-store-d-ne0.branch [
      | then-store-d-ne0 w ↦
          absurd (true≢false (sym (ap not (ne_eqb _ 0 w.if-store-d-ne0.true)) ∙ sym w.value-is ∙ c.if-store-d-ne2.false))
      | else-store-d-ne0 w ↦
          busy_hit c.args.store.now c.args.d _ w.if-store-d-ne0.false (search (rules, tests))
          (asked_by (hit_of c.args.store.now c.args.d) 0 6 _ _ c.any.ensures.ran (search rules) (λ x t q k. search rules))
    ]
