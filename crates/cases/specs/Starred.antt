-- The cases 14.1 to 14.6 of docs/METHOD.md, proved against the definitions by one statement.
--   child n      the four digits of the numeral n, as 0179 is written
--   step ss ms   the levels of the table that a step with the marks ms makes of the table ss over mesh A
--   B, C         the tables of rules 14.2 and 14.3
--   Starred      the table
use Rattle.std.specs.Prelude.{◌≡◌, refl, List, [], ◌∷◌, ◌++◌, map, ℕ, ◌/◌, ◌%◌, length, get_or, replicate}
use Rattle.cutting.specs.Rule.{family}
use Rattle.mesh.specs.Step.{step_table}

abbrev child : ℕ → List ℕ
child n = n / 1000 ∷ n / 100 % 10 ∷ n / 10 % 10 ∷ n % 10 ∷ []

-- Rule 14: mesh A has four corners and one cell.
unfoldable pub step : List ℕ → List ℕ → List (List ℕ)
unfolding step_table family
step ss ms = step_table 4 ((0 ∷ 1 ∷ 2 ∷ 3 ∷ []) ∷ []) ss ms

-- Rule 14.3: level 1 of C.
unfoldable pub level1 : List ℕ
level1 = 64 ∷ 11 ∷ 1 ∷ 0 ∷ 1 ∷ 0 ∷ 0 ∷ 0 ∷ []

-- Rule 14.2.
unfoldable pub B : List ℕ
B = 64 ∷ replicate 8 0

-- Rule 14.3.
unfoldable pub C : List ℕ
unfolding level1
C = 64 ∷ (level1 ++ replicate 16 0)

-- marks of C: those of the cells 9 to 16, and then 17 to 24
unfoldable pub marks_of_c : List ℕ → List ℕ → List ℕ
marks_of_c l m = replicate 9 0 ++ (l ++ m)

-- Rules 14.1 to 14.6, one field a case.
pub record Starred : Type 0 where
  pub pattern1 : family 1 ≡ map child (0179 ∷ 1479 ∷ [])
  pub pattern3 : family 3 ≡ map child (0129 ∷ 1249 ∷ 2479 ∷ [])
  pub pattern7 : family 7 ≡ map child (0123 ∷ 1234 ∷ 2347 ∷ 3479 ∷ [])
  pub pattern11 : family 11 ≡ map child (0129 ∷ 1259 ∷ 1459 ∷ 2579 ∷ [])
  pub pattern33 : family 33 ≡ map child (0178 ∷ 0189 ∷ 1478 ∷ 1489 ∷ [])
  pub pattern63 : family 63 ≡ map child (0123 ∷ 1236 ∷ 1256 ∷ 1456 ∷ 2368 ∷ 2568 ∷ 2578 ∷ 3689 ∷ [])
  -- Rule 14.2: A stays where marked 2, and becomes B where marked 1.
  pub a_deleted : step (0 ∷ []) (2 ∷ []) ≡ (0 ∷ []) ∷ []
  pub a_refined : step (0 ∷ []) (1 ∷ []) ≡ (64 ∷ []) ∷ replicate 8 0 ∷ []
  -- Rule 14.3: B with cell 1 marked becomes C.
  pub b_refined : step B (0 ∷ 1 ∷ replicate 7 0) ≡ (64 ∷ []) ∷ level1 ∷ replicate 16 0 ∷ []
  -- Rule 14.4: a mark on a green cell's child.
  pub c_refined : get_or (step C (marks_of_c (replicate 8 0) (1 ∷ replicate 7 0))) 1 [] ≡ 64 ∷ 64 ∷ 21 ∷ 4 ∷ 11 ∷ 2 ∷ 0 ∷ 1 ∷ []
  pub c_refined_above : length (get_or (step C (marks_of_c (replicate 8 0) (1 ∷ replicate 7 0))) 2 []) ≡ 30
  -- Rule 14.5: a whole family deleted, and all but one.
  pub c_deleted : step C (marks_of_c (replicate 8 2) (replicate 8 0)) ≡ (64 ∷ []) ∷ replicate 8 0 ∷ []
  pub c_kept : step C (marks_of_c (replicate 7 2 ++ (0 ∷ [])) (replicate 8 0)) ≡ (64 ∷ []) ∷ level1 ∷ replicate 16 0 ∷ []
  -- Rule 14.6: both at once.
  pub c_both : get_or (get_or (step C (marks_of_c (replicate 8 2) (1 ∷ replicate 7 0))) 1 []) 0 0 ≡ 56

pub starred : Starred
unfolding family step level1 B C marks_of_c
starred =
    record {
      pattern1 = refl;
      pattern3 = refl;
      pattern7 = refl;
      pattern11 = refl;
      pattern33 = refl;
      pattern63 = refl;
      a_deleted = refl;
      a_refined = refl;
      b_refined = refl;
      c_refined = refl;
      c_refined_above = refl;
      c_deleted = refl;
      c_kept = refl;
      c_both = refl;
    }
