-- `divide::split` meets its contract: it answers as the definition does at each return, and the stores are written at the last one.
use Rattle.std.proofs.Common.{◌≡◌, ℕ, true, false, leb, ◌&&◌, sym, ◌∙◌, arith, rules, Err, lit<, length, refl}
use Rattle.pairs.specs.Keys.{clear_new}
use Rattle.std.proofs.Math.ListN.{replicate, length-replicate}
use Rattle.std.proofs.lemmas.Grind.{common_steps}
use Rattle.base.specs.Limits.{most_parts}
use Rattle.base.specs.Refuse.{number_of}
use Rattle.divide.proofs.Answers.{split_short, split_table, split_parts, split_owners, split_yes, parts_few}
use Rattle.divide.proofs.Answers.{statuses_few, cells_few, coarse_small, kids_known, owned_is, divisible_known}
use Rattle.divide.proofs.split.Goals as goal

pub returns-then-stores : goal.returns-then-stores
returns-then-stores c =
    let s = split_short c.args.positions.now c.args.cells.now c.args.status.now c.args.parts c.args.owners.now c.args.stores.now c.if-stores.true in
    record { answer = s.0; stores_value = s.1 }

pub open-requires : goal.open-requires
open-requires c = (
  lit< tt,
  (λ h.
      let l : length {A = ℕ} (replicate 32768 0) ≡ 32768 = length-replicate {A = ℕ} 32768 0 in
      record { in_coarse = omega arith; in_rows = omega arith; in_mids = h }),
)

pub returns-in_err-sizes : goal.returns-in_err-sizes
returns-in_err-sizes c =
    let r : c.from_residual.result ≡ Err c.in_err-sizes.field-0.0 = search rules in
    let s = split_table c.args.positions.now c.args.cells.now c.args.status.now c.args.parts c.args.owners.now c.args.stores.now c.if-stores.false
    (number_of c.in_err-sizes.field-0.0) c.in_err-sizes.ensures.answer in
    rw r (record { answer = s.0; stores_value = s.1 })

pub returns-then-not-contains : goal.returns-then-not-contains
returns-then-not-contains c =
    let w : leb 1 c.args.parts && leb c.args.parts most_parts ≡ false = grind (arith, common_steps) in
    let s = split_parts c.args.positions.now c.args.cells.now c.args.status.now c.args.parts c.args.owners.now c.args.stores.now c.if-stores.false
    c.in_ok-sizes.ensures.answer w in
    record { answer = s.0; stores_value = s.1 }

pub first_children-requires : goal.first_children-requires
first_children-requires c =
    let f = c.in_ok-sizes.ensures.fits in
    record {
      status_value = statuses_few _ _ _ _ _ _ _ _ _ f;
      status_len_bound = (
        cells_few _ _ _ _ _ _ _ _ _ f,
        omega (arith, cells_few _ _ _ _ _ _ _ _ _ f),
        coarse_small _ _ _ _ _ _ _ _ _ f,
      );
    }

pub owners_fit-requires : goal.owners_fit-requires
owners_fit-requires c =
    let w : leb 1 c.args.parts && leb c.args.parts most_parts ≡ true = grind (arith, common_steps) in
    kids_known _ _ _ _ _ _ _ _ _ c.in_ok-sizes.ensures.fits c.first_children.new.kids _ c.first_children.ensures c.args.parts
    c.args.stores.now (parts_few c.args.parts w) c.if-stores.false

pub returns-then-not-owners_fit : goal.returns-then-not-owners_fit
returns-then-not-owners_fit c =
    let w : leb 1 c.args.parts && leb c.args.parts most_parts ≡ true = grind (arith, common_steps) in
    let s = split_owners c.args.positions.now c.args.cells.now c.args.status.now c.args.parts c.args.owners.now c.args.stores.now c.if-stores.false
    c.in_ok-sizes.ensures.answer w
    (sym (owned_is _ _ _ _ _ _ _ _ _ c.in_ok-sizes.ensures.fits c.first_children.new.kids _ c.first_children.ensures c.args.parts
    c.args.stores.now (parts_few c.args.parts w) c.if-stores.false c.args.owners.now) ∙ sym c.owners_fit.ensures ∙ c.if-not-owners_fit.true) in
    record { answer = s.0; stores_value = s.1 }

pub divide-requires : goal.divide-requires
divide-requires c =
    let w : leb 1 c.args.parts && leb c.args.parts most_parts ≡ true = grind (arith, common_steps) in
    divisible_known _ _ _ _ _ _ _ _ _ c.in_ok-sizes.ensures.fits c.first_children.new.kids _ c.first_children.ensures c.args.parts
    c.args.stores.now (parts_few c.args.parts w) c.if-stores.false c.args.owners.now
    (sym (owned_is _ _ _ _ _ _ _ _ _ c.in_ok-sizes.ensures.fits c.first_children.new.kids _ c.first_children.ensures c.args.parts
    c.args.stores.now (parts_few c.args.parts w) c.if-stores.false c.args.owners.now) ∙ sym c.owners_fit.ensures ∙ c.if-not-owners_fit.false)

pub returns : goal.returns
returns c =
    let w : leb 1 c.args.parts && leb c.args.parts most_parts ≡ true = grind (arith, common_steps) in
    let s = split_yes c.args.positions.now c.args.cells.now c.args.status.now c.args.parts c.args.owners.now c.args.stores.now c.if-stores.false
    c.in_ok-sizes.ensures.answer w
    (sym (owned_is _ _ _ _ _ _ _ _ _ c.in_ok-sizes.ensures.fits c.first_children.new.kids _ c.first_children.ensures c.args.parts
    c.args.stores.now (parts_few c.args.parts w) c.if-stores.false c.args.owners.now) ∙ sym c.owners_fit.ensures ∙ c.if-not-owners_fit.false)
    c.divide.new.stores c.divide.ensures in
    record { answer = s.0; stores_value = s.1 }

pub invariant_of-mids : goal.invariant_of-mids
invariant_of-mids c =
    record { sized = (refl, refl, refl, refl); in_order = (clear_new 4096 (omega arith)).empty _ _ _; up = omega arith }
