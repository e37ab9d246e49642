-- The answers of the step.
-- Laws: step_short (a short table), marks_many (the marks are as many as the statuses), opened_held (a table that is opened is held).
use Rattle.std.specs.Prelude.{◌≡◌, refl, true, false, ◌&&◌, List, [], ◌∷◌, ℕ, suc, ◌<◌, T, ℤ, length}
use Rattle.std.proofs.Common.{ap}
use Rattle.std.proofs.lemmas.Bool.{lt-leb}
use Rattle.base.specs.Bools.{and_right, is_true, not_both}
use Rattle.base.specs.Limits.{most_cells}
use Rattle.base.specs.Refuse.{refuse}
use Rattle.base.specs.Answer.{Refused}
use Rattle.mesh.specs.Coarse.{coarse_corner_count}
use Rattle.mesh.specs.Answers.{markb, marksb}
use Rattle.opening.specs.Opened.{Fits}
use Rattle.step.specs.Calls.{step_answer}
use Rattle.advance.specs.Advanced.{Held}

pub step_short : (ps : List ℤ) (ts ss ms table : List ℕ) → length table < most_cells → step_answer ps ts ss ms table ≡ Refused 15
unfolding step_answer refuse
step_short ps ts ss ms table h = rw (lt-leb most_cells (length table) h)

pub marks_many : (ss ms : List ℕ) → marksb ss ms ≡ true → length ms ≡ length ss
unfolding marksb
marks_many [] [] t = refl
marks_many [] (m ∷ ms) t = not_both false t refl
marks_many (s ∷ ss) [] t = not_both false t refl
marks_many (s ∷ ss) (m ∷ ms) t =
    let u : T (markb s m && marksb ss ms) = rw t tt in
    ap suc (marks_many ss ms (is_true (marksb ss ms) (and_right (markb s m) (marksb ss ms) u)))

pub opened_held : (ps : List ℤ) (ts ss rows xs ys : List ℕ) (cells levels m : ℕ) → Fits ps ts ss rows xs ys cells levels m
    → Held (coarse_corner_count ps) ts rows ss
opened_held ps ts ss rows xs ys cells levels m f =
    record {
      accepted = f.mesh;
      sound = f.table;
      table = rw f.sound.counted f.sound.table;
    }
