-- An archive in the form is the archive of its job.
--   least_from k ms   the least cell that may follow ms, where k is the least without them
--   rises_snoc       marks rise with one more that may follow
--   Behind ms bs r   the steps of r can be written, and with the end are the marks ms and the bytes bs
--   steps_written    so it is with the steps that are read
--   written_read     the job of an archive in the form can be written, and its archive is that archive
use Rattle.std.specs.Prelude.{◌≡◌, refl, Bool, true, false, ◌&&◌, ℕ, zero, suc, ◌*◌, ◌≤◌, T, eqb, leb, length, get_or, drop}
use Rattle.std.proofs.Common.{sym, ◌∙◌, arith, eqb-true}
use Rattle.std.proofs.Math.Path.{ap}
use mathlib.Core.List.{List, [], ◌∷◌, ◌++◌, append_assoc, append-nil, flat_map}
use Rattle.std.proofs.Math.Dec.{leb→le}
use Rattle.base.specs.Bools.{is_true, and_left, and_right}
use Rattle.base.specs.Every.{All}
use Rattle.archive.specs.Job.{corner_bytes, cell_bytes, mark_bytes, job_bytes}
use Rattle.archive.specs.Form.{letter, u16_at, startsb, Steps, steps_in, markedb, emptyb, behind_corners, behind_cells, formb, job_of}
use Rattle.archive.specs.Records.{records_in, starts_long, corners_many, corners_behind, cells_many, cells_behind}
use Rattle.archive.specs.Tables.{Mark}
use Rattle.archive.specs.Scan.{least_of, mark_recordb, marked_least, mark_in, no_fuel, steps_mark, steps_step, steps_end}
use Rattle.archive.specs.Measure.{steps_bytes}
use Rattle.archive.specs.Bytes.{Octets, octets_drop}
use Rattle.archive.specs.Writable.{Rises, TwoBytes, Writable}
use Rattle.archive.specs.Reading.{tail_bytes, tail_is}
use Rattle.archive.specs.Writing.{starts_letter, head_is, two_below, mark_written, corners_written, cells_written}

unfoldable least_from : ℕ → List Mark → ℕ
least_from k [] = k
least_from k (m ∷ ms) = least_from (suc m.0) ms

least_from_lem : (k : ℕ) (m : Mark) (ms : List Mark) → least_from k (m ∷ ms) ≡ least_of (m ∷ ms)
unfolding least_of least_from
least_from_lem k m [] = refl
least_from_lem k m (n ∷ ms) = least_from_lem (suc m.0) n ms

least_first : (ms : List Mark) → least_from 0 ms ≡ least_of ms
unfolding least_of least_from
least_first [] = refl
least_first (m ∷ ms) = least_from_lem 0 m ms

rises_snoc : (k : ℕ) (ms : List Mark) (m : Mark) → Rises k ms → least_from k ms ≤ m.0 → TwoBytes m.0 → 1 ≤ m.1 → m.1 ≤ 2
    → Rises k (ms ++ (m ∷ []))
unfolding Rises least_from
rises_snoc k [] m r a b c d = (a, b, c, d, tt)
rises_snoc k (n ∷ ms) m r a b c d = (r.0, r.1, r.2, r.3, rises_snoc (suc n.0) ms m r.4 a b c d)

-- what the test of a mark says
record Passed (least : ℕ) (bs : List ℕ) : Type 0 where
  starts : startsb 77 4 bs ≡ true
  low : 1 ≤ get_or bs 3 0
  high : get_or bs 3 0 ≤ 2
  follows : least ≤ u16_at bs 1

passed : (least : ℕ) (bs : List ℕ) → T (mark_recordb least bs) → Passed least bs
unfolding mark_recordb
passed least bs t =
    let s = startsb 77 4 bs in
    let a = leb 1 (get_or bs 3 0) in
    let b = leb (get_or bs 3 0) 2 in
    let c = leb least (u16_at bs 1) in
    let u : T ((a && b) && c) = and_right s ((a && b) && c) t in
    let v : T (a && b) = and_left (a && b) c u in
    record {
      starts = is_true s (and_left s ((a && b) && c) t);
      low = leb→le 1 (get_or bs 3 0) (and_left a b v);
      high = leb→le (get_or bs 3 0) 2 (and_right a b v);
      follows = leb→le least (u16_at bs 1) (and_right (a && b) c u);
    }

marks_snoc : (ms : List Mark) (m : Mark) (l : List ℕ) → flat_map mark_bytes (ms ++ (m ∷ [])) ++ l ≡ flat_map mark_bytes ms ++ (mark_bytes m ++ l)
unfolding flat_map
marks_snoc [] m l = rw (append-nil (mark_bytes m))
marks_snoc (n ∷ ms) m l =
    append_assoc (mark_bytes n) (flat_map mark_bytes (ms ++ (m ∷ []))) l
    ∙ ap (λ (t : List ℕ). mark_bytes n ++ t) (marks_snoc ms m l)
    ∙ sym (append_assoc (mark_bytes n) (flat_map mark_bytes ms) (mark_bytes m ++ l))

record Behind (ms : List Mark) (bs : List ℕ) (r : Steps) : Type 0 where
  written : steps_bytes r.steps ≡ flat_map mark_bytes ms ++ bs
  rising : All (Rises 0) r.steps

-- E alone
only_end : (ms : List Mark) (bs : List ℕ) → T (startsb 69 1 bs && (emptyb ms && eqb (length bs) 1))
    → steps_bytes [] ≡ flat_map mark_bytes ms ++ bs
unfolding emptyb flat_map steps_bytes
only_end (m ∷ ms) bs t = absurd (and_right (startsb 69 1 bs) false t)
only_end [] bs t =
    let n : length bs ≡ 1 = eqb-true (length bs) 1 (is_true (eqb (length bs) 1) (and_right (startsb 69 1 bs) (eqb (length bs) 1) t)) in
    let l : letter bs ≡ 69 = starts_letter 69 1 bs (is_true (startsb 69 1 bs) (and_left (startsb 69 1 bs) (eqb (length bs) 1) t)) in
    alone bs n l
  where
    alone : (bs : List ℕ) → length bs ≡ 1 → letter bs ≡ 69 → 69 ∷ [] ≡ bs
    alone [] n l = absurd (omega arith)
    alone (b ∷ []) n l = ap (λ (x : ℕ). x ∷ []) (sym l)
    alone (b ∷ c ∷ bs) n l = absurd (omega arith)

module _ (f : ℕ) (ms : List Mark) (bs : List ℕ) where
  abbrev marked : List Mark
  marked = ms ++ (mark_in bs ∷ [])

  mark_read : Octets bs → Rises 0 ms → markedb ms bs ≡ true
      → (Rises 0 marked → T (steps_in f marked (drop 4 bs)).ok → Behind marked (drop 4 bs) (steps_in f marked (drop 4 bs)))
      → T (steps_in (suc f) ms bs).ok → Behind ms bs (steps_in (suc f) ms bs)
  mark_read o r d i t =
      let p : Passed (least_of ms) bs = passed (least_of ms) bs (rw (sym (marked_least ms bs) ∙ d) tt) in
      let u : Rises 0 marked =
      rises_snoc 0 ms (mark_in bs) r (rw (least_first ms) p.follows) (two_below o 1) p.low p.high in
      let b : Behind marked (drop 4 bs) (steps_in f marked (drop 4 bs)) = i u (rw (steps_mark f ms bs d) at t) in
      rw (steps_mark f ms bs d)
      (record {
        written =
            b.written
            ∙ marks_snoc ms (mark_in bs) (drop 4 bs)
            ∙ ap (λ (l : List ℕ). flat_map mark_bytes ms ++ l) (mark_written o p.starts);
        rising = b.rising;
      })

  step_read : Rises 0 ms → markedb ms bs ≡ false → startsb 71 1 bs ≡ true
      → (T (steps_in f [] (drop 1 bs)).ok → Behind [] (drop 1 bs) (steps_in f [] (drop 1 bs)))
      → T (steps_in (suc f) ms bs).ok → Behind ms bs (steps_in (suc f) ms bs)
  unfolding tail_bytes flat_map
  step_read r d e i t =
      let b : Behind [] (drop 1 bs) (steps_in f [] (drop 1 bs)) = i (rw (steps_step f ms bs d e) at t) in
      rw (steps_step f ms bs d e)
      (record {
        written =
            tail_is ms (steps_in f [] (drop 1 bs)).steps
            ∙ ap (λ (l : List ℕ). flat_map mark_bytes ms ++ (71 ∷ l)) b.written
            ∙ ap (λ (l : List ℕ). flat_map mark_bytes ms ++ l) (head_is 71 bs (starts_long 71 1 bs e) (starts_letter 71 1 bs e));
        rising = (r, b.rising);
      })

  end_read : markedb ms bs ≡ false → startsb 71 1 bs ≡ false → T (steps_in (suc f) ms bs).ok → Behind ms bs (steps_in (suc f) ms bs)
  end_read d e t =
      rw (steps_end f ms bs d e) (record { written = only_end ms bs (rw (steps_end f ms bs d e) at t); rising = tt })

none : Rises 0 []
unfolding Rises
none = tt

steps_written : (f : ℕ) (ms : List Mark) (bs : List ℕ) → Octets bs → Rises 0 ms → T (steps_in f ms bs).ok
    → Behind ms bs (steps_in f ms bs)
steps_written zero ms bs o r t = absurd (no_fuel ms bs t)
steps_written (suc f) ms bs o r t =
    go (markedb ms bs) refl (startsb 71 1 bs) refl (steps_written f (ms ++ (mark_in bs ∷ [])) (drop 4 bs) (octets_drop o 4))
    (steps_written f [] (drop 1 bs) (octets_drop o 1) none)
  where
    go : (a : Bool) → markedb ms bs ≡ a → (b : Bool) → startsb 71 1 bs ≡ b
        → (Rises 0 (marked f ms bs) → T (steps_in f (marked f ms bs) (drop 4 bs)).ok
        → Behind (marked f ms bs) (drop 4 bs) (steps_in f (marked f ms bs) (drop 4 bs)))
        → (T (steps_in f [] (drop 1 bs)).ok → Behind [] (drop 1 bs) (steps_in f [] (drop 1 bs)))
        → Behind ms bs (steps_in (suc f) ms bs)
    go true d b e i j = mark_read f ms bs o r d i t
    go false d true e i j = step_read f ms bs r d e j t
    go false d false e i j = end_read f ms bs d e t

module _ (bs : List ℕ) (o : Octets bs) (t : T (formb bs)) where
  octets_corners : Octets (behind_corners bs)
  unfolding behind_corners
  octets_corners = rw (corners_behind (length bs) bs) (octets_drop o (13 * records_in 86 13 (length bs) bs))

  octets_cells : Octets (behind_cells bs)
  unfolding behind_cells
  octets_cells = rw (cells_behind (length bs) (behind_corners bs))
      (octets_drop octets_corners (9 * records_in 84 9 (length bs) (behind_corners bs)))

  steps_in_lem : Behind [] (behind_cells bs) (steps_in (length bs) [] (behind_cells bs))
  unfolding formb
  steps_in_lem =
      steps_written (length bs) [] (behind_cells bs) octets_cells none
      (and_right (leb (length bs) 65536) (steps_in (length bs) [] (behind_cells bs)).ok t)

  few_bytes : length bs ≤ 65536
  unfolding formb
  few_bytes = leb→le (length bs) 65536 (and_left (leb (length bs) 65536) (steps_in (length bs) [] (behind_cells bs)).ok t)

  bytes_written : job_bytes (job_of bs) ≡ bs
  unfolding job_bytes job_of behind_corners behind_cells steps_bytes flat_map
  bytes_written =
      ap (λ (l : List ℕ). corner_bytes (job_of bs).positions ++ (cell_bytes (job_of bs).cells ++ l)) steps_in_lem.written
      ∙ ap (λ (l : List ℕ). corner_bytes (job_of bs).positions ++ l) (cells_written (length bs) (behind_corners bs) octets_corners).written
      ∙ (corners_written (length bs) bs o).written

  pub written_read : (job_bytes (job_of bs) ≡ bs) × Writable (job_of bs)
  unfolding job_of
  written_read = (
    bytes_written,
    record {
      threes = omega (arith, corners_many (length bs) bs);
      words = (corners_written (length bs) bs o).words;
      fours = omega (arith, cells_many (length bs) (behind_corners bs));
      numbers = (cells_written (length bs) (behind_corners bs) octets_corners).numbers;
      rising = steps_in_lem.rising;
      few = rw bytes_written few_bytes;
    },
  )
