-- Steps keep a table sound.
-- Laws: one_sound (an accepted step of a job), run_sound (steps in turn).
use Rattle.std.specs.Prelude.{◌≡◌, ◌&&◌, ℕ, T, length}
use mathlib.Core.List.{List, [], ◌∷◌}
use Rattle.base.specs.Answer.{Accepted}
use Rattle.mesh.specs.Coarse.{cellsb}
use Rattle.mesh.specs.Table.{soundb}
use Rattle.base.specs.Every.{All}
use Rattle.soundness.specs.Steady.{step_sound}
use Rattle.mesh.specs.Answers.{marksb, limits_answer}
use Rattle.replay.specs.Run.{spread, markingb, one_answer, one_table, run_answer, run_table}
use Rattle.base.specs.Refuse.{passed, both}
use Rattle.replay.specs.Accepted.{limits_within}

module _ (n : ℕ) (qs : List (List ℕ)) (four : All (λ q. length q ≡ 4) qs) (cells : T (cellsb n qs)) where
  one_sound : (t : List ℕ) (m : List (ℕ × ℕ)) → T (soundb n qs t) → one_answer n qs t m ≡ Accepted → T (soundb n qs (one_table n qs t m))
  unfolding one_answer
  one_sound t m s e =
      let ms = spread (length t) m in
      let (_, l) = passed 7 (markingb (length t) m && marksb t ms) (limits_answer n qs t ms) e in
      let (a, b) = limits_within n qs t ms l in
      step_sound n qs t ms four cells s a b

  pub run_sound : (t : List ℕ) (ms : List (List (ℕ × ℕ))) → T (soundb n qs t) → run_answer n qs t ms ≡ Accepted
      → T (soundb n qs (run_table n qs t ms))
  unfolding run_answer run_table
  run_sound t [] s e = s
  run_sound t (m ∷ ms) s e =
      let (a, b) = both (one_answer n qs t m) (run_answer n qs (one_table n qs t m) ms) e in
      run_sound (one_table n qs t m) ms (one_sound t m s a) b
