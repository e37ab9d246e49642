use Rattle.std.proofs.Common.{arith, refl, ◌∙◌}
use Rattle.places.proofs.Knowing.{zeros_at, above_red, fresh_by_lem, kids_inside, cut_ok}
use Rattle.places.specs.Fresh.{fresh_none}
use Rattle.places.proofs.fresh_of.Goals as goal

pub returns-then-status-gt63 : goal.returns-then-status-gt63
returns-then-status-gt63 c = λ i h. zeros_at i h ∙ fresh_none _ _ (above_red _ (omega arith) c.requires.fact) i

pub unwrap-own-requires : goal.unwrap-own-requires
unwrap-own-requires c = cut_ok _ _ (omega arith) c.cut.ensures.answer

pub unwrap-red-requires : goal.unwrap-red-requires
unwrap-red-requires c = cut_ok _ _ (omega arith) c.cut-2.ensures.answer

pub fresh_all-requires : goal.fresh_all-requires
fresh_all-requires c = (
  omega arith,
  omega (arith, c.kid_count.ensures.1),
  λ g. omega (arith, kids_inside c.args.store.now c.args.c, c.kid_count.ensures.0, g),
)

pub returns : goal.returns
returns c =
    let own = rw c.unwrap-own.ensures at c.cut.ensures.family in
    let red = rw c.unwrap-red.ensures at c.cut-2.ensures.family in
    fresh_by_lem _ _ (omega arith) _ _ _ _ c.fresh_all.result refl c.kid_count.ensures.0 own.1 red.1 c.fresh_all.ensures
