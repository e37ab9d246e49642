-- `writing::fresh_of` meets its contract: where nothing is kept, there are leaves.
use Rattle.std.proofs.Common.{◌≡◌, ℕ, ◌+◌, ◌-◌, rules, tests, sym, ap, ◌∙◌, arith, eqb}
use Rattle.std.proofs.lemmas.Iterator.{YieldsList-from_slice}
use Rattle.std.proofs.lemmas.Iterator.Search.{all_from_yields_List}
use Rattle.rows.specs.Chains.{all_chain}
use Rattle.rows.specs.Numbered.{part}
use Rattle.writing.proofs.Fresh.{fresh_is, fresh_none}
use Rattle.writing.proofs.fresh_of.Goals as goal

pub returns-then-all : goal.returns-then-all
returns-then-all c =
    let n = c.size_of-count.result in
    let ks = part c.args.kept.now c.args.first n in
    let w : c.args.first + n - c.args.first ≡ n = omega arith in
    let e : c.iter.result.rest.now ≡ ks = c.iter.ensures.rest ∙ ap (λ (m : ℕ). part c.args.kept.now c.args.first m) w in
    let all = all_from_yields_List (λ k. eqb k 0) _ _ _ c.all.ensures.ran (YieldsList-from_slice ks e) (λ x b q k. search (rules, tests)) in
    fresh_none c.args.status c.args.kept.now c.args.first n c.size_of-count.ensures.0 (omega arith)
    (sym (all ∙ all_chain (λ k. eqb k 0) ks) ∙ c.if-all.true)

pub returns : goal.returns
returns c =
    c.fresh_with.ensures ∙ fresh_is c.args.status c.args.kept.now c.args.first c.held_pairs.result c.held_pairs.ensures
