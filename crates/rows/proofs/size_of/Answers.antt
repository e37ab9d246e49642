-- `rows::size_of` meets its contract, case by case.
use Rattle.std.proofs.Common.{◌≡◌, rules, sym, ◌∙◌, arith}
use Rattle.rows.specs.Sizes.{size_leaf, size_red, size_green, green_few}
use Rattle.rows.proofs.size_of.Goals as goal

pub returns-in-0 : goal.returns-in-0
returns-in-0 c = search (rules, size_leaf)

pub returns-in-64 : goal.returns-in-64
returns-in-64 c = search (rules, size_red)

pub returns-in_default : goal.returns-in_default
returns-in_default c =
    let leaf : c.args.status ≡ 0 → ⊥ = search rules in
    let red : c.args.status ≡ 64 → ⊥ = search rules in (
      c.from.ensures ∙ c.count.ensures ∙ sym (size_green c.args.status leaf red c.requires),
      omega (arith, c.from.ensures, c.count.ensures, green_few c.args.status red c.requires),
    )
