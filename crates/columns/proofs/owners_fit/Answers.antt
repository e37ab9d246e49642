-- `columns::owners_fit` meets its contract: the tests are the definition's, one after the other.
use Rattle.std.proofs.Common.{◌≡◌, ne_eqb, Bool, true, false, rules, tests, arith, ◌∙◌, sym, ap, length}
use Rattle.base.specs.Lists.{allb}
use Rattle.std.proofs.lemmas.Iterator.{YieldsList-from_range}
use Rattle.std.proofs.lemmas.Iterator.Search.{all_from_yields_List}
use Rattle.rows.specs.Chains.{all_chain}
use Rattle.columns.proofs.Owning.{onceb, owners_many, owners_parts, owners_then, range_chain}
use Rattle.columns.proofs.owners_fit.Goals.{then-owners-status, else-owners-status}
use Rattle.columns.proofs.owners_fit.Goals as goal

apart : (b : Bool) → b ≡ true → b ≡ false → ⊥
apart b p q = let e : true ≡ false = sym p ∙ q in cc e

pub returns-then-are_parts : goal.returns-then-are_parts
returns-then-are_parts c =
    let f = onceb c.args.status.now c.args.kids.now c.args.owners.now c.args.parts in
    elim c.if-owners-status.branch [
      | then-owners-status w ↦
          all_from_yields_List f _ _ _ c.all.ensures.ran (YieldsList-from_range 0 (length c.args.owners.now) (length c.args.status.now) (cc)
          (omega (arith, w.if-owners-status.true))) (λ x b q k. search (rules, tests))
          ∙ all_chain f _ ∙ ap (allb f) (range_chain 0 (length c.args.status.now))
          ∙ sym (owners_then c.args.status.now c.args.kids.now c.args.owners.now c.args.parts w.if-owners-status.true
          (sym w.are_parts.ensures ∙ sym w.value-is ∙ c.if-are_parts.true))
      | else-owners-status w ↦ absurd (apart c.if-owners-status.value c.if-are_parts.true (w.value-is ∙ ne_eqb _ _ w.if-owners-status.false))
    ]

pub returns-else-are_parts : goal.returns-else-are_parts
returns-else-are_parts c =
    elim c.if-owners-status.branch [
      | then-owners-status w ↦
          c.if-are_parts.false ∙ sym (owners_parts c.args.status.now c.args.kids.now c.args.owners.now c.args.parts w.if-owners-status.true
          (sym w.are_parts.ensures ∙ sym w.value-is ∙ c.if-are_parts.false))
      | else-owners-status w ↦
          c.if-are_parts.false ∙ sym (owners_many c.args.status.now c.args.kids.now c.args.owners.now c.args.parts w.if-owners-status.false)
    ]
