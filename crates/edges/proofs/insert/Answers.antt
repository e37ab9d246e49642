-- An edge that is found is at its place, and one that is not goes behind the others.
use Rattle.std.proofs.Common.{rules}
use Rattle.edges.specs.Seek.{old, new}
use Rattle.edges.proofs.insert.Goals as goal

pub returns-in-Some : goal.returns-in-Some
returns-in-Some g c =
    old c.args.table.now (c.args.a, c.args.b) c.sorted_ends-low.ensures c.requires.edges c.in-Some.at c.in-Some.ensures

pub returns : goal.returns
returns g c =
    new c.args.table.now (c.args.a, c.args.b) c.sorted_ends-low.ensures c.requires.edges c.in_default.ensures
    (search rules) (search rules) c.add.new.self c.add.ensures.added c.add.ensures.one
