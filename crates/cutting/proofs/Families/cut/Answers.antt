-- `cutting::cut_from` meets its contract: the digits between two starts are the row's, and the red family is the last row.
use mathlib.Core.Path.{◌≡◌, sym, ◌∙◌, ap}
use mathlib.Core.List.{flatten}
use native.Mathlib.Omega.{arith}
use Rattle.cutting.specs.Answer.{Cut, no_cut, cut_into, cut_of, cut_of_accepted, cut_of_refused}
use Rattle.cutting.specs.Rows.{family_rows, row}
use Rattle.cutting.proofs.Rows.{family_row}
use Rattle.cutting.proofs.Found.{Found, found, accepted}
use Rattle.cutting.proofs.Families.cut.Goals as goal

-- what an equation says of each part of an answer
given : {a b : Cut} → a ≡ b → record {
  answer : a.answer ≡ b.answer;
  family : (a.count ≡ b.count) × (a.digits ≡ b.digits);
}
given e = record { answer = ap (λ (f : Cut). f.answer) e; family = (ap (λ (f : Cut). f.count) e, ap (λ (f : Cut). f.digits) e) }

between : (c : goal.After-start) → Found c.args.pattern c.start-from.result c.start.result
between c =
    found c.args.pattern c.start-from.result c.start.result (omega arith) c.start-from.ensures c.start.ensures

pub returns-then-pattern-gt63 : goal.returns-then-pattern-gt63
unfolding no_cut
returns-then-pattern-gt63 c = record { answer = ap (λ (f : Cut). f.answer) (sym (cut_of_refused c.args.pattern c.if-pattern-gt63.true)); family = tt }

pub returns-then-pattern-eq63 : goal.returns-then-pattern-eq63
unfolding cut_into row family_rows flatten
returns-then-pattern-eq63 c =
    given (sym (ap cut_of c.if-pattern-eq63.true ∙ cut_of_accepted 63 (omega arith) ∙ ap cut_into (family_row 63 (omega arith))))

pub overflow_sub-count : goal.overflow_sub-count
overflow_sub-count c =
    (between c).up

pub overflow_cast-result : goal.overflow_cast-result
overflow_cast-result c =
    omega (arith, between c)

pub copied-requires : goal.copied-requires
copied-requires c =
    omega (arith, between c)

pub returns : goal.returns
returns c =
    given (accepted c.args.pattern c.start-from.result c.start.result
    (omega arith) c.start-from.ensures c.start.ensures c.copied.result c.copied.ensures)
