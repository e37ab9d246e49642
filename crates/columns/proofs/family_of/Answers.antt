-- `columns::family_of` meets its contract: the first child's owner, or the cell's own.
use mathlib.Core.Path.{◌≡◌}
use Prim.Native.Nat.{suc, ◌+◌}
use native.Mathlib.Numerals.{add-one}
use Rattle.columns.proofs.Owning.{family_here, family_own}
use Rattle.columns.proofs.family_of.Goals as goal

pub returns-then-first-last : goal.returns-then-first-last
returns-then-first-last c =
    let z : c.args.c + 1 ≡ suc c.args.c = add-one c.args.c in
    family_here c.args.kids.now c.args.owners.now c.args.c (rw z at c.if-first-last.true)

pub returns : goal.returns
returns c =
    let z : c.args.c + 1 ≡ suc c.args.c = add-one c.args.c in
    family_own c.args.kids.now c.args.owners.now c.args.c (rw z at c.if-first-last.false)
