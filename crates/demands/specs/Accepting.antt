-- The steps of the starred cases are accepted (Rules 14.2 to 14.6), so the tables of `cases` are what these calls hand out.
--   corners_a, cells_a    mesh A
-- AcceptsStep ss ms       the step with the marks ms on the table ss over mesh A is accepted, whatever table is lent, if it is long
-- enough
--   StarredAccepted     all steps of the starred cases
-- Law: starred_accepted.
use Rattle.std.specs.Prelude.{◌≡◌, refl, ℕ, ◌≤◌, ℤ, pos, length, replicate}
use mathlib.Core.List.{List, [], ◌∷◌, ◌++◌, flatten}
use Rattle.std.proofs.Common.{le-leb}
use Rattle.base.specs.Fours.{fours}
use Rattle.base.specs.Limits.{most_cells}
use Rattle.base.specs.Refuse.{refuse}
use Rattle.base.specs.Answer.{Accepted}
use Rattle.cutting.specs.Rule.{family}
use Rattle.mesh.specs.Coarse.{coarse_corner_count}
use Rattle.mesh.specs.Answers.{new_table, marked_answer}
use Rattle.cases.specs.Starred.{step, level1, B, C, marks_of_c}
use Rattle.step.specs.Calls.{step_answer}

pub corners_a : List ℤ
corners_a =
    pos 0 ∷ pos 0 ∷ pos 0 ∷ pos 16 ∷ pos 0 ∷ pos 0 ∷ pos 0 ∷ pos 16 ∷ pos 0 ∷ pos 0 ∷ pos 0 ∷ pos 16 ∷ []

pub cells_a : List ℕ
cells_a = 0 ∷ 1 ∷ 2 ∷ 3 ∷ []

-- Rules 12.11, 14.2 to 14.6: a step over mesh A.
abbrev pub AcceptsStep : List ℕ → List ℕ → Type 0
AcceptsStep ss ms = (table : List ℕ) → most_cells ≤ length table → step_answer corners_a cells_a ss ms table ≡ Accepted

-- Rules 14.2 to 14.6: none of their steps is refused.
pub record StarredAccepted : Type 0 where
  pub tables : (ss ms : List ℕ) → new_table (coarse_corner_count corners_a) (fours cells_a) ss ms ≡ flatten (step ss ms)
  pub a_deleted : AcceptsStep (0 ∷ []) (2 ∷ [])
  pub a_refined : AcceptsStep (0 ∷ []) (1 ∷ [])
  pub b_refined : AcceptsStep B (0 ∷ 1 ∷ replicate 7 0)
  pub c_refined : AcceptsStep C (marks_of_c (replicate 8 0) (1 ∷ replicate 7 0))
  pub c_deleted : AcceptsStep C (marks_of_c (replicate 8 2) (replicate 8 0))
  pub c_kept : AcceptsStep C (marks_of_c (replicate 7 2 ++ (0 ∷ [])) (replicate 8 0))
  pub c_both : AcceptsStep C (marks_of_c (replicate 8 2) (1 ∷ replicate 7 0))

lent_enough : (ss ms : List ℕ) → marked_answer corners_a cells_a ss ms ≡ Accepted → AcceptsStep ss ms
unfolding step_answer refuse
lent_enough ss ms e table h = rw (le-leb most_cells (length table) h) e

-- computed: the mesh, the table, the marks and the limits
record Computed : Type 0 where
  a_deleted : marked_answer corners_a cells_a (0 ∷ []) (2 ∷ []) ≡ Accepted
  a_refined : marked_answer corners_a cells_a (0 ∷ []) (1 ∷ []) ≡ Accepted
  b_refined : marked_answer corners_a cells_a B (0 ∷ 1 ∷ replicate 7 0) ≡ Accepted
  c_refined : marked_answer corners_a cells_a C (marks_of_c (replicate 8 0) (1 ∷ replicate 7 0)) ≡ Accepted
  c_deleted : marked_answer corners_a cells_a C (marks_of_c (replicate 8 2) (replicate 8 0)) ≡ Accepted
  c_kept : marked_answer corners_a cells_a C (marks_of_c (replicate 7 2 ++ (0 ∷ [])) (replicate 8 0)) ≡ Accepted
  c_both : marked_answer corners_a cells_a C (marks_of_c (replicate 8 2) (1 ∷ replicate 7 0)) ≡ Accepted

computed : Computed
unfolding corners_a cells_a family level1 B C marks_of_c marked_answer flatten
computed =
    record {
      a_deleted = refl;
      a_refined = refl;
      b_refined = refl;
      c_refined = refl;
      c_deleted = refl;
      c_kept = refl;
      c_both = refl;
    }

tables_are : (ss ms : List ℕ) → new_table (coarse_corner_count corners_a) (fours cells_a) ss ms ≡ flatten (step ss ms)
unfolding corners_a cells_a step fours
tables_are ss ms = refl

pub starred_accepted : StarredAccepted
starred_accepted =
    record {
      tables = tables_are;
      a_deleted = lent_enough (0 ∷ []) (2 ∷ []) computed.a_deleted;
      a_refined = lent_enough (0 ∷ []) (1 ∷ []) computed.a_refined;
      b_refined = lent_enough B (0 ∷ 1 ∷ replicate 7 0) computed.b_refined;
      c_refined = lent_enough C (marks_of_c (replicate 8 0) (1 ∷ replicate 7 0)) computed.c_refined;
      c_deleted = lent_enough C (marks_of_c (replicate 8 2) (replicate 8 0)) computed.c_deleted;
      c_kept = lent_enough C (marks_of_c (replicate 7 2 ++ (0 ∷ [])) (replicate 8 0)) computed.c_kept;
      c_both = lent_enough C (marks_of_c (replicate 8 2) (1 ∷ replicate 7 0)) computed.c_both;
    }
