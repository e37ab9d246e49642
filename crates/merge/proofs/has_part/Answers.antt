-- `merge::has_part` meets its contract: the chain's test is the definition's.
use Rattle.std.proofs.Common.{rules, tests, arith, ◌∙◌, ℕ, ◌+◌, ◌*◌, eqb, get_or}
use Rattle.std.proofs.lemmas.Iterator.{YieldsList-from_range}
use Rattle.std.proofs.lemmas.Iterator.Search.{any_from_yields_List}
use Rattle.store.specs.Fields.{full, PART}
use Rattle.merge.specs.Stores.{any_field}
use Rattle.merge.proofs.has_part.Goals as goal

pub returns : goal.returns
returns c =
    let b = c.args.stores.now in
    any_from_yields_List (λ j. eqb (get_or b (full * j + PART) 0) c.args.p) _ _ _ c.any.ensures.ran
    (YieldsList-from_range 0 c.args.parts c.args.parts (cc) (omega arith)) (λ x b q k. search (rules, tests))
    ∙ any_field b (λ (v : ℕ). eqb v c.args.p) PART (omega arith) c.args.parts
