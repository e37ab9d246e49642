-- `writing::Keeping::write_red` meets its contract: there is no old cell, or its family stays, or it is new.
use mathlib.Core.Path.{refl}
use native.Mathlib.Omega.{arith}
use Rattle.writing.proofs.Family.{status_few, done_out, done_kept, done_fresh, family_inside, eight_inside}
use Rattle.writing.proofs.Keeping.write_red.Goals as goal

pub returns-then-o-self : goal.returns-then-o-self
returns-then-o-self c =
    done_out c.args.self.now.keeps 64 c.args.o refl c.if-o-self.true c.write_new.ensures

pub write_kept-requires-clause-first_in_bounds : goal.write_kept-requires-clause-first_in_bounds
write_kept-requires-clause-first_in_bounds c =
    let h = eight_inside c.args.self.now.keeps 64 c.args.o c.if-o-self.false refl c.if-s-eq64.true in
    (omega (arith, h, c.args.self.now.keeps.in_kept), omega (arith, h, c.args.self.now.keeps.few))

pub returns-then-s-eq64 : goal.returns-then-s-eq64
returns-then-s-eq64 c =
    done_kept c.args.self.now.keeps 64 c.args.o c.if-o-self.false refl refl c.if-s-eq64.true c.write_kept.ensures

pub fresh_of-requires : goal.fresh_of-requires
fresh_of-requires c = (
  omega (
    arith,
    status_few c.args.self.now.keeps c.args.o c.if-o-self.false,
    c.if-s-eq64.false,
  ),
  omega (
    arith,
    family_inside c.args.self.now.keeps 64 c.args.o c.if-o-self.false refl,
    c.args.self.now.keeps.in_kept,
  ),
)

pub returns : goal.returns
returns c =
    done_fresh c.args.self.now.keeps 64 c.args.o c.if-o-self.false refl refl c.if-s-eq64.false c.fresh_of.ensures c.write_new-2.ensures
