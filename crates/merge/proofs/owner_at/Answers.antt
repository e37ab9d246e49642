-- `merge::owner_at` meets its contract: the stores that are left decide as all do.
use Rattle.std.proofs.Common.{refl, sym, ◌∙◌, arith, add-one, eq-eqb, ne_eqb}
use Rattle.merge.specs.Stores.{owning_start, owning_on, owning_stop, owning_out, owns_by}
use Rattle.merge.proofs.owner_at.Goals as goal

pub loop-j-init : goal.loop-j-init
loop-j-init c = owning_start c.args.stores.now c.args.parts c.args.i

pub returns-then-stores-from : goal.returns-then-stores-from
returns-then-stores-from c =
    owning_stop c.args.stores.now c.args.parts c.args.i c.loop-j.j c.loop-j.invariant c.loop-j-test.true
    (sym (owns_by c.args.stores.now c.loop-j.j c.args.i _ _ c.requires.2 refl refl) ∙ eq-eqb _ _ c.if-stores-from.true)

pub loop-j-preserved : goal.loop-j-preserved
loop-j-preserved c =
    rw (add-one c.loop-j.j) (owning_on c.args.stores.now c.args.parts c.args.i c.loop-j.j c.loop-j.invariant c.loop-j-test.true
    (sym (owns_by c.args.stores.now c.loop-j.j c.args.i _ _ c.requires.2 refl refl) ∙ ne_eqb _ _ c.if-stores-from.false))

pub returns : goal.returns
returns c = owning_out c.args.stores.now c.args.parts c.args.i c.loop-j.j c.loop-j.invariant (omega arith)
