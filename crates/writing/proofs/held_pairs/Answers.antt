-- `writing::held_pairs` meets its contract: the invariant says that the edges of the children before are noted.
use Rattle.std.proofs.Common.{◌≡◌, arith}
use Rattle.cutting.specs.Answer.{cut_of}
use Rattle.rows.specs.Cuts.{cut_ok}
use Rattle.writing.proofs.Noting.{old_ends, held_start, held_next, held_all}
use Rattle.writing.proofs.held_pairs.Goals.{After-unwrap-family}
use Rattle.writing.proofs.held_pairs.Goals as goal

digits_are : (c : After-unwrap-family) → c.unwrap-family.result.digits ≡ (cut_of c.args.status).digits
digits_are c = (rw c.unwrap-family.ensures at c.cut.ensures.family).1

pub unwrap-family-requires : goal.unwrap-family-requires
unwrap-family-requires c = cut_ok c.args.status c.requires.0 c.cut.result c.cut.ensures.answer

pub loop-j-init : goal.loop-j-init
loop-j-init c = held_start c.args.status c.requires.0 c.args.kept.now c.args.first

pub note_child-requires : goal.note_child-requires
note_child-requires c =
    let f = (goal.at.note_child-requires c).After-unwrap-family in
    (omega arith, rw (digits_are f) (old_ends c.args.status c.requires.0 c.loop-j.j (omega arith)))

pub loop-j-preserved : goal.loop-j-preserved
loop-j-preserved c =
    let f = (goal.at.loop-j-preserved c).After-unwrap-family in
    held_next c.args.status c.requires.0 c.args.kept.now c.args.first c.loop-j.j c.loop-j.held _ _ c.loop-j.invariant (omega arith) (digits_are f)
    c.note_child.ensures

pub returns : goal.returns
returns c =
    held_all c.args.status c.requires.0 c.args.kept.now c.args.first c.loop-j.j c.loop-j.held c.loop-j.invariant (omega arith)
