-- One place more holds its number.
use Rattle.std.proofs.Common.{refl, ap, ◌∙◌, arith, rules, ℕ}
use Rattle.trial.specs.Pattern.{fill_at}
use Rattle.trial.proofs.Tables.{tabbed_start, tabbed_more, fill_next}
use Rattle.trial.proofs.pattern.fill.Goals as goal

pub loop-place-init : goal.loop-place-init
unfolding fill_at
loop-place-init g c = (omega arith, refl, tabbed_start (λ (k : ℕ). g.T.Entry.made (fill_at k)) c.args.list.now)

pub loop-place-preserved : goal.loop-place-preserved
loop-place-preserved g c =
    let l = c.loop-place in (
      c.turn-x.ensures.1,
      c.turn-x.ensures.0 ∙ fill_next l.x l.place-index l.invariant.1,
      tabbed_more (λ (k : ℕ). g.T.Entry.made (fill_at k)) c.args.list.now l.invariant.2 c.make.result (search rules)
          (c.make.ensures ∙ ap g.T.Entry.made l.invariant.1),
    )
