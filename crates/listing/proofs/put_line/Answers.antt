-- `listing::put_line` meets its contract: its five fields are a line, and each takes at most six bytes.
use Rattle.std.proofs.Common.{arith, rules, ap, ◌∙◌, List, ◌∷◌, ℕ, get_or}
use Rattle.base.specs.Fours.{four_points}
use Rattle.listing.specs.Lines.{fields}
use Rattle.listing.specs.Put.{put_as, put_more}
use Rattle.listing.proofs.Fields.{field_room, five_fields}
use Rattle.listing.proofs.put_line.Goals as goal

pub put_field-q-requires : goal.put_field-q-requires
put_field-q-requires c =
    omega (arith, field_room _ 32 24 c.requires c.put_field-p.ensures)

pub put_field-s-requires : goal.put_field-s-requires
put_field-s-requires c =
    omega (
      arith,
      field_room _ 32 18
          (field_room _ 32 24 c.requires c.put_field-p.ensures)
          c.put_field-q.ensures,
    )

pub put_field-t-requires : goal.put_field-t-requires
put_field-t-requires c =
    omega (
      arith,
      field_room _ 32 12
          (field_room _ 32 18
          (field_room _ 32 24 c.requires
          c.put_field-p.ensures)
          c.put_field-q.ensures)
          c.put_field-s.ensures,
    )

pub put_field-requires : goal.put_field-requires
put_field-requires c =
    field_room _ 32 6
    (field_room _ 32 12
    (field_room _ 32 18
    (field_room _ 32 24 c.requires
    c.put_field-p.ensures) c.put_field-q.ensures)
    c.put_field-s.ensures) c.put_field-t.ensures

pub returns : goal.returns
returns c =
    let q = c.args.counts.now in
    put_as (five_fields c.args.level (get_or q 0 0) (get_or q 1 0) (get_or q 2 0) (get_or q 3 0) ∙ ap (λ (k : List ℕ). fields (c.args.level ∷ k)) (four_points q (search rules)))
    (put_more
    c.put_field-p.ensures
    (put_more
    c.put_field-q.ensures (put_more c.put_field-s.ensures
    (put_more c.put_field-t.ensures c.put_field.ensures))))
