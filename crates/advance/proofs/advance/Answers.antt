-- Each part asks for what the table that is held gives, and their answers are the step's.
use Rattle.std.proofs.Common.{◌≡◌, rules, Err}
use Rattle.advance.specs.Advanced.{held_statuses}
use Rattle.advance.proofs.Parts.{
  held_coarse,
  held_firsts,
  held_long,
  held_marked,
  advanced_full,
  advanced_high,
  held_keeps,
  written_answer,
  written_made,
}
use Rattle.advance.proofs.advance.Goals as goal

pub first_children-requires-clause-status_value : goal.first_children-requires-clause-status_value
first_children-requires-clause-status_value g c = (held_statuses _ _ _ _ c.requires.held).fit

pub first_children-requires-clause-status_len_bound : goal.first_children-requires-clause-status_len_bound
first_children-requires-clause-status_len_bound g c =
    ((held_statuses _ _ _ _ c.requires.held).few, search rules, held_coarse _ _ _ _ c.requires.held)

pub keep-requires : goal.keep-requires
keep-requires g c = (
  search rules,
  (
    held_marked _ _ _ _ c.requires.held _ _ c.first_children.ensures _ _ c.requires.marks_len (search rules),
    (c.requires.work_room.0, c.requires.empty),
  ),
)

pub returns-in_err-high-clause-answer : goal.returns-in_err-high-clause-answer
returns-in_err-high-clause-answer g c =
    let r : c.from_residual.result ≡ Err c.in_err-high.field-0.0 = search rules in
    rw r (advanced_full _ _ _ _ c.requires.held _ _ c.requires.red_room _ c.in_err-high.ensures)

pub returns-then-high-clause-answer : goal.returns-then-high-clause-answer
returns-then-high-clause-answer g c = advanced_high _ _ _ _ c.requires.held _ _ _ _ c.in_ok-high.ensures c.if-high.true

pub write_table-requires : goal.write_table-requires
write_table-requires g c =
    held_keeps _ _ _ _ c.requires.held _ _ _ _ c.in_ok-high.ensures c.if-high.false _ (held_firsts _ _ _ _ c.requires.held _ _ c.first_children.ensures)
    (held_long _ _ _ _ c.requires.held _ _ c.first_children.ensures)

pub returns-clause-answer : goal.returns-clause-answer
returns-clause-answer g c =
    written_answer _ _ _ _ c.requires.held _ _ _ _ c.in_ok-high.ensures c.if-high.false c.write_table.new.table c.write_table.result c.write_table.ensures

pub returns-clause-made : goal.returns-clause-made
returns-clause-made g c =
    written_made _ _ _ _ c.requires.held _ _ _ _ c.in_ok-high.ensures c.if-high.false c.write_table.new.table c.write_table.result c.write_table.ensures
