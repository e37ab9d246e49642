-- What replaying an archive comes to.
-- Assumes nothing.
use mathlib.Core.Path.{◌≡◌, refl, sym, ◌∙◌, ap}
use mathlib.Core.Bool.{true, false, ◌&&◌, and-false}
use mathlib.Core.List.{List, [], ◌∷◌, ◌++◌, flatten}
use Prim.Native.Nat.{ℕ, suc, ◌+◌, ◌*◌, ◌/◌, ◌%◌, ◌≤◌, ◌<◌}
use native.Mathlib.Omega.{arith}
use lib.Dec.{eqb, leb}
use lib.IntN.{ℤ}
use lib.ListN.{length, take, drop, length-map}
use lib.Seq.{take_at}
use borrow.Author.Tests.{lt-leb}
use Rattle.base.specs.Limits.{full_coarse, full_positions, most_marks}
use Rattle.base.specs.Refuse.{refuse, and_then}
use Rattle.base.specs.Answer.{Refused}
use Rattle.mesh.specs.Coarse.{countsb}
use Rattle.mesh.specs.Laws.{answer_1}
use Rattle.archive.specs.Job.{Job}
use Rattle.archive.specs.Form.{formb, job_of}
use Rattle.archive.specs.Tables.{Counts, marked_of, marks_of, ends_after, ends_of, cell_of, mark_of}
use Rattle.archive.specs.Bytes.{Octets}
use Rattle.archive.specs.Measure.{measure}
use Rattle.archive.specs.Written.{written_read}
use Rattle.archive.specs.Loaded.{LoadRoom, Loaded}
use Rattle.replay.specs.Run.{job_answer, tables_answer}
use Rattle.replay.specs.Going as going
use Rattle.replay.specs.Flat.{tables_answer_lem, tables_table}
use Rattle.jobs.specs.Calls.{archive_answer, Reopened}
use Rattle.base.specs.Fours.{length-fours}

module _ (bs : List ℕ) where
  abbrev j : Job
  j = job_of bs

  pub unformed : formb bs ≡ false → Refused 17 ≡ archive_answer bs
  unfolding archive_answer refuse
  unformed f = rw f

  module _ (f : formb bs ≡ true) (v t m g : ℕ) (counts : Counts j v t m g) where
    pub in_form : archive_answer bs ≡ job_answer j
    unfolding archive_answer refuse
    in_form = rw f

    uncounted : countsb j.positions j.cells ≡ false → Refused 1 ≡ archive_answer bs
    unfolding job_answer and_then
    uncounted n = sym (in_form ∙ rw (← answer_1 j.positions j.cells n))

    pub reopened_corners : 512 < v → Refused 1 ≡ archive_answer bs
    unfolding countsb
    reopened_corners h =
        let p = j.positions in
        let q = j.cells in
        uncounted (rw (
          lt-leb (length p / 3) 512 (omega (arith, counts.corners_are)),
          and-false (leb 4 (length p / 3)),
          and-false
              (eqb (length p % 3) 0 && eqb (length q % 4) 0),
        ))

    pub reopened_cells : 256 < t → Refused 1 ≡ archive_answer bs
    unfolding countsb
    reopened_cells h =
        let p = j.positions in
        let q = j.cells in
        uncounted (rw (
          lt-leb (length q / 4) 256 (omega (arith, counts.cells_are)),
          and-false (leb 1 (length q / 4)),
          and-false
              (leb 4 (length p / 3) && leb (length p / 3) 512),
          and-false (eqb (length p % 3) 0 && eqb (length q % 4) 0),
        ))

    -- the tables are long enough
    module _ (o : Octets bs) where
      few_bytes : 13 * v + 9 * t + 4 * m + g + 1 ≤ 65536
      few_bytes = omega (arith, measure counts, (written_read bs o (rw f tt)).1.few)

      pub job_room : v ≤ 512 → t ≤ 256 → (ps : List ℤ) (ts cs ms es : List ℕ) → full_positions ≤ length ps → full_coarse ≤ length ts
          → most_marks ≤ length cs
          → most_marks ≤ length ms
          → 65536 ≤ length es → LoadRoom j ps ts cs ms es
      job_room hv ht ps ts cs ms es lp lt lc lm le =
          record {
            positions_fit = omega (arith, counts.corners_are);
            cells_fit = omega (arith, counts.cells_are);
            marked_fit = omega (arith, counts.marks_are, few_bytes);
            marks_fit = omega (arith, counts.marks_are, few_bytes);
            ends_fit = omega (arith, counts.steps_are, few_bytes);
          }

      pub job_marks : m ≤ most_marks
      job_marks = omega (arith, few_bytes)

      pub job_steps : g ≤ 65536
      job_steps = omega (arith, few_bytes)

    -- the front of a table
    front : {A : Type 0} (x l l₀ : List A) (k : ℕ) → l ≡ x ++ drop (length x) l₀ → length x ≡ k → take k l ≡ x
    front x l l₀ k e n = rw e (take_at x (drop (length x) l₀) k n)

    length-ends : (p : ℕ) (s : List (List (ℕ × ℕ))) → length (ends_after p s) ≡ length s
    unfolding ends_after
    length-ends p [] = refl
    length-ends p (x ∷ s) = ap suc (length-ends (p + length x) s)

    module _ (ps₀ : List ℤ) (ts₀ cs₀ ks₀ es₀ : List ℕ) (ps : List ℤ) (ts cs ks es : List ℕ)
        (l : Loaded j ps₀ ts₀ cs₀ ks₀ es₀ ps ts cs ks es) where
      loaded_positions : (k : ℕ) → 3 * v ≡ k → take k ps ≡ j.positions
      loaded_positions k e = front j.positions ps ps₀ k l.positions (counts.corners_are ∙ e)

      loaded_cells : (k : ℕ) → 4 * t ≡ k → take k ts ≡ j.cells
      loaded_cells k e = front j.cells ts ts₀ k l.cells (counts.cells_are ∙ e)

      loaded_marked : take m cs ≡ marked_of j.steps
      unfolding marked_of
      loaded_marked = front (marked_of j.steps) cs cs₀ m l.marked (length-map (flatten j.steps) cell_of ∙ counts.marks_are)

      loaded_marks : take m ks ≡ marks_of j.steps
      unfolding marks_of
      loaded_marks = front (marks_of j.steps) ks ks₀ m l.marks (length-map (flatten j.steps) mark_of ∙ counts.marks_are)

      loaded_ends : take g es ≡ ends_of j.steps
      unfolding ends_of
      loaded_ends = front (ends_of j.steps) es es₀ g l.ends (length-ends 0 j.steps ∙ counts.steps_are)

      module _ (v' t' : ℕ) (ev : 3 * v ≡ v') (et : 4 * t ≡ t') where
        pub reopened_answer : tables_answer (take v' ps) (take t' ts) (take m cs) (take m ks) (take g es) ≡ archive_answer bs
        reopened_answer = rw (loaded_positions v' ev, loaded_cells t' et, loaded_marked, loaded_marks, loaded_ends) (tables_answer_lem j ∙ sym in_form)

        pub reopened : (table : List ℕ) (c h : ℕ) → going.Replayed (take v' ps) (take t' ts) (take m cs) (take m ks) (take g es) table c h
            → Reopened bs table t c h
        reopened table c h r =
            let w : going.Replayed j.positions j.cells (marked_of j.steps) (marks_of j.steps) (ends_of j.steps) table c h =
            rw (loaded_positions v' ev, loaded_cells t' et, loaded_marked, loaded_marks, loaded_ends) at r in
            record {
              coarse_are = length-fours j.cells ∙ omega (arith, counts.cells_are);
              counted = rw (tables_table j) at w.counted;
              few = w.few;
              table_is = rw (tables_table j) at w.table_is;
              sound = rw (tables_table j) at w.sound;
              high = rw (tables_table j) at w.high;
            }
