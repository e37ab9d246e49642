-- The last entry of the bucket is the pair, or the chain ends behind it, or a search must tell.
use Rattle.std.proofs.Common.{rules, refl, ◌+◌, ◌%◌, get_or, ◌∙◌}
use native.Mathlib.Omega.{arith}
use Rattle.base.specs.Bools.{one_most}
use Rattle.probing.proofs.Units.{one_below}
use Rattle.probing.proofs.Looks.{start, look_inside, looked}
use Rattle.probing.specs.Probed.{from_one}
use Rattle.probing.proofs.probe_pair.Goals as goal

pub bucket_of-b-requires : goal.bucket_of-b-requires
bucket_of-b-requires g c =
    let t = c.args.table.now in omega (arith, t.sized, t.in_order.in_heads)

pub entry_or_first-e-requires : goal.entry_or_first-e-requires
entry_or_first-e-requires g c =
    let t = c.args.table.now in
    let h = get_or t.heads c.bucket_of-b.result 0 in (
      rw (c.from-there.ensures, from_one _) (one_most _),
      rw (c.from-there.ensures, from_one _) (one_below t.from ((h + 1) % 65536)),
      search rules,
    )

pub same_at-same-requires : goal.same_at-same-requires
same_at-same-requires g c =
    let t = c.args.table.now in
    omega (
      arith,
      look_inside t.in_order c.requires _ (search rules) (start t c.bucket_of-b.ensures) _ _ (c.from-there.ensures ∙ from_one _)
          c.entry_or_first-e.ensures,
      t.sized,
      t.in_order.in_xs,
    )

pub bounds-table-e : goal.bounds-table-e
bounds-table-e g c =
    let t = c.args.table.now in
    omega (
      arith,
      look_inside t.in_order c.requires _ (search rules) (start t c.bucket_of-b.ensures) _ _ (c.from-there.ensures ∙ from_one _)
          c.entry_or_first-e.ensures,
      t.sized,
      t.in_order.in_xs,
    )

pub verdict-requires : goal.verdict-requires
verdict-requires g c = (
  rw (c.from-there.ensures, from_one _) (one_most _),
  rw c.same_at-same.ensures (one_most _),
  rw (c.from-more.ensures, from_one _) (one_most _),
)

pub returns : goal.returns
returns g c =
    let t = c.args.table.now in
    looked t.in_order c.requires _ (search rules) (start t c.bucket_of-b.ensures) _ _ (c.from-there.ensures ∙ from_one _)
    c.entry_or_first-e.ensures _ _ _ _ c.same_at-same.ensures refl (search rules) (c.from-more.ensures ∙ from_one _) c.verdict.ensures
