-- What is written is read back.
--   tail_bytes ns s        the marks ns, the end of their step, the steps s and the end
--   corners_read, cells_read, steps_read   the parts
--   read_written          an archive that was written is in the form, and holds the job that was written
use Rattle.std.specs.Prelude.{◌≡◌, refl, true, false, length}
use Rattle.std.proofs.Common.{◌∙◌, arith, ne_eqb, eq-eqb, le-leb}
use Rattle.std.proofs.Math.Path.{ap}
use mathlib.Core.List.{List, [], ◌∷◌, ◌++◌, append_assoc, append-nil, flat_map}
use Prim.Native.Nat.{ℕ, zero, suc, ◌+◌, ◌%◌, ◌≤◌, ◌<◌}
use Rattle.std.proofs.Math.IntN.{ℤ}
use Rattle.archive.specs.Job.{Job, bytes, word, corner_bytes, cell_bytes, mark_bytes, step_bytes, job_bytes}
use Rattle.archive.specs.Form.{whole, signed, letter, startsb, corner_records, cell_records, steps_in, markedb, behind_corners}
use Rattle.archive.specs.Form.{behind_cells, formb, job_of}
use Rattle.archive.specs.Tables.{Mark}
use Rattle.archive.specs.Scan.{least_of, least_snoc, mark_recordb, marked_least, mark_in, steps_mark, steps_step}
use Rattle.archive.specs.Measure.{steps_bytes, corner-length, cell-length, job-length}
use Rattle.archive.specs.Bytes.{Word, two_back, four_back, word_below, word_back}
use Rattle.archive.specs.Writable.{Rises, TwoBytes, Writable}
use Rattle.base.specs.Every.{All}

-- no record with another letter starts
pub no_start : (l k : ℕ) (bs : List ℕ) → (letter bs ≡ l → ⊥) → startsb l k bs ≡ false
unfolding startsb
no_start l k bs h = rw (ne_eqb (letter bs) l h)

start : (l k : ℕ) (bs : List ℕ) → letter bs ≡ l → k ≤ length bs → startsb l k bs ≡ true
unfolding startsb
start l k bs e h = rw (eq-eqb (letter bs) l e, le-leb k (length bs) h)

back : (z : ℤ) (l : List ℕ) → Word z → signed (whole 4 (bytes 4 (word z) ++ l)) ≡ z
back z l h = rw (four_back (word z) l (word_below z h)) (word_back z h)

corners_stop : (f : ℕ) (bs : List ℕ) → (letter bs ≡ 86 → ⊥) → corner_records f bs ≡ ([], bs)
unfolding corner_records
corners_stop zero bs h = refl
corners_stop (suc f) bs h = rw (no_start 86 13 bs h, corner_records)

cells_stop : (f : ℕ) (bs : List ℕ) → (letter bs ≡ 84 → ⊥) → cell_records f bs ≡ ([], bs)
unfolding cell_records
cells_stop zero bs h = refl
cells_stop (suc f) bs h = rw (no_start 84 9 bs h, cell_records)

-- a record V in front
corner_first : (f : ℕ) (x y z : ℤ) (l : List ℕ) → Word x → Word y → Word z
    → corner_records (suc f) (86 ∷ (bytes 4 (word x) ++ (bytes 4 (word y) ++ (bytes 4 (word z) ++ l))))
    ≡ (x ∷ y ∷ z ∷ (corner_records f l).0, (corner_records f l).1)
unfolding corner_records bytes
corner_first f x y z l a b c =
    let bs : List ℕ = 86 ∷ (bytes 4 (word x) ++ (bytes 4 (word y) ++ (bytes 4 (word z) ++ l))) in
    let t : startsb 86 13 bs ≡ true = start 86 13 bs refl (omega arith) in
    rw (t, corner_records, back x (bytes 4 (word y) ++ (bytes 4 (word z) ++ l)) a, back y (bytes 4 (word z) ++ l) b, back z l c)

corners_read : (f : ℕ) (ps : List ℤ) (l : List ℕ) → length ps % 3 ≡ 0 → All Word ps → (letter l ≡ 86 → ⊥) → length ps ≤ f
    → corner_records f (corner_bytes ps ++ l) ≡ (ps, l)
unfolding corner_bytes
corners_read f [] l m w n h = corners_stop f l n
corners_read f (x ∷ []) l m w n h = absurd (omega arith)
corners_read f (x ∷ y ∷ []) l m w n h = absurd (omega arith)
corners_read zero (x ∷ y ∷ z ∷ ps) l m w n h = absurd (omega arith)
corners_read (suc f) (x ∷ y ∷ z ∷ ps) l m w n h =
    let i : corner_records f (corner_bytes ps ++ l) ≡ (ps, l) = corners_read f ps l (omega arith) w.1.1.1 n (omega arith) in
    simp append_assoc (corner_first f x y z (corner_bytes ps ++ l) w.0 w.1.0 w.1.1.0 ∙ rw i)

-- a record T in front
cell_first : (f a b c d : ℕ) (l : List ℕ) → TwoBytes a → TwoBytes b → TwoBytes c → TwoBytes d
    → cell_records (suc f) (84 ∷ (bytes 2 a ++ (bytes 2 b ++ (bytes 2 c ++ (bytes 2 d ++ l)))))
    ≡ (a ∷ b ∷ c ∷ d ∷ (cell_records f l).0, (cell_records f l).1)
unfolding cell_records bytes
cell_first f a b c d l p q r s =
    let bs : List ℕ = 84 ∷ (bytes 2 a ++ (bytes 2 b ++ (bytes 2 c ++ (bytes 2 d ++ l)))) in
    let t : startsb 84 9 bs ≡ true = start 84 9 bs refl (omega arith) in
    rw (
      t,
      cell_records,
      two_back a (bytes 2 b ++ (bytes 2 c ++ (bytes 2 d ++ l))) p,
      two_back b (bytes 2 c ++ (bytes 2 d ++ l)) q,
      two_back
          c (bytes 2 d ++ l) r,
      two_back d l s,
    )

cells_read : (f : ℕ) (ts : List ℕ) (l : List ℕ) → length ts % 4 ≡ 0 → All TwoBytes ts → (letter l ≡ 84 → ⊥) → length ts ≤ f
    → cell_records f (cell_bytes ts ++ l) ≡ (ts, l)
unfolding cell_bytes
cells_read f [] l m w n h = cells_stop f l n
cells_read f (a ∷ []) l m w n h = absurd (omega arith)
cells_read f (a ∷ b ∷ []) l m w n h = absurd (omega arith)
cells_read f (a ∷ b ∷ c ∷ []) l m w n h = absurd (omega arith)
cells_read zero (a ∷ b ∷ c ∷ d ∷ ts) l m w n h = absurd (omega arith)
cells_read (suc f) (a ∷ b ∷ c ∷ d ∷ ts) l m w n h =
    let i : cell_records f (cell_bytes ts ++ l) ≡ (ts, l) = cells_read f ts l (omega arith) w.1.1.1.1 n (omega arith) in
    simp append_assoc (cell_first f a b c d (cell_bytes ts ++ l) w.0 w.1.0 w.1.1.0 w.1.1.1.0 ∙ rw i)

mark_passes : (least c k : ℕ) (l : List ℕ) → least ≤ c → TwoBytes c → 1 ≤ k → k ≤ 2 → mark_recordb least (77 ∷ (bytes 2 c ++ (k ∷ l))) ≡ true
unfolding mark_recordb startsb bytes
mark_passes least c k l a b h i =
    rw (le-leb 4 (suc (suc (suc (suc (length l))))) (omega arith), le-leb 1 k h, le-leb k 2 i, two_back c (k ∷ l) b, le-leb least c a)

-- a record M in front, on a cell that may follow
mark_first : (f : ℕ) (ms : List Mark) (m : Mark) (l : List ℕ) → least_of ms ≤ m.0 → TwoBytes m.0 → 1 ≤ m.1 → m.1 ≤ 2
    → steps_in (suc f) ms (mark_bytes m ++ l) ≡ steps_in f (ms ++ (m ∷ [])) l
unfolding mark_bytes bytes
mark_first f ms m l a b c d =
    let bs : List ℕ = 77 ∷ (bytes 2 m.0 ++ (m.1 ∷ l)) in
    let w : whole 2 (bytes 2 m.0 ++ (m.1 ∷ l)) ≡ m.0 = two_back m.0 (m.1 ∷ l) b in
    let t : mark_recordb (least_of ms) bs ≡ true = mark_passes (least_of ms) m.0 m.1 l a b c d in
    let e : mark_in bs ≡ m = ap (λ (c : ℕ). (c, m.1)) w in
    steps_mark f ms bs (marked_least ms bs ∙ t) ∙ ap (λ (n : Mark). steps_in f (ms ++ (n ∷ [])) l) e

unfoldable pub tail_bytes : List Mark → List (List Mark) → List ℕ
unfolding steps_bytes mark_bytes flat_map
tail_bytes ns s = flat_map mark_bytes ns ++ (71 ∷ steps_bytes s)

pub tail_is : (ns : List Mark) (s : List (List Mark)) → steps_bytes (ns ∷ s) ≡ tail_bytes ns s
unfolding steps_bytes tail_bytes step_bytes flat_map
tail_is ns s = simp append_assoc

last_read : (f : ℕ) → 1 ≤ f → steps_in f [] (69 ∷ []) ≡ record { ok = true; steps = [] }
unfolding steps_in
last_read zero h = absurd (omega arith)
last_read (suc f) h = refl

-- a record G in front
step_first : (f : ℕ) (ms : List Mark) (l : List ℕ)
    → steps_in (suc f) ms (71 ∷ l) ≡ record { ok = (steps_in f [] l).ok; steps = ms ∷ (steps_in f [] l).steps }
unfolding markedb startsb
step_first f ms l = steps_step f ms (71 ∷ l) refl (start 71 1 (71 ∷ l) refl (omega arith))

tail_mark : (n : Mark) (ns : List Mark) (s : List (List Mark)) → tail_bytes (n ∷ ns) s ≡ mark_bytes n ++ tail_bytes ns s
unfolding tail_bytes flat_map
tail_mark n ns s = append_assoc (mark_bytes n) (flat_map mark_bytes ns) (71 ∷ steps_bytes s)

mark_longer : (n : Mark) (l : List ℕ) → length (mark_bytes n ++ l) ≡ 4 + length l
unfolding mark_bytes bytes
mark_longer n l = omega arith

least_next : (ms : List Mark) (n : Mark) (ns : List Mark) → Rises (suc n.0) ns → Rises (least_of (ms ++ (n ∷ []))) ns
least_next ms n ns r = rw (least_snoc ms n) r

steps_read : (f : ℕ) (ms ns : List Mark) (s : List (List Mark)) → Rises (least_of ms) ns → All (Rises 0) s → length (tail_bytes ns s) ≤ f
    → steps_in f ms (tail_bytes ns s) ≡ record { ok = true; steps = (ms ++ ns) ∷ s }
unfolding tail_bytes steps_bytes flat_map Rises least_of
steps_read zero ms [] s r e h = absurd (omega arith)
steps_read zero ms (n ∷ ns) s r e h = absurd (omega (arith, ap length (tail_mark n ns s), mark_longer n (tail_bytes ns s)))
steps_read (suc f) ms (n ∷ ns) s r e h =
    let i : steps_in f (ms ++ (n ∷ [])) (tail_bytes ns s) ≡ record { ok = true; steps = ((ms ++ (n ∷ [])) ++ ns) ∷ s } =
    steps_read f (ms ++ (n ∷ [])) ns s (least_next ms n ns r.4) e
    (omega (arith, ap length (tail_mark n ns s), mark_longer n (tail_bytes ns s))) in
    ap (steps_in (suc f) ms) (tail_mark n ns s)
    ∙ mark_first f ms n (tail_bytes ns s) r.0 r.1 r.2 r.3
    ∙ i
    ∙ rw (append_assoc ms (n ∷ []) ns)
steps_read (suc f) ms [] [] r e h = step_first f ms (69 ∷ []) ∙ rw (last_read f (omega arith), append-nil ms)
steps_read (suc f) ms [] (ns ∷ s) r e h =
    let i : steps_in f [] (tail_bytes ns s) ≡ record { ok = true; steps = ns ∷ s } = steps_read f [] ns s e.0 e.1
    (omega (arith, ap length (tail_is ns s))) in
    step_first f ms (steps_bytes (ns ∷ s)) ∙ rw (tail_is ns s, i, append-nil ms)

steps_all : (f : ℕ) (s : List (List Mark)) → All (Rises 0) s → length (steps_bytes s) ≤ f
    → steps_in f [] (steps_bytes s) ≡ record { ok = true; steps = s }
unfolding steps_bytes flat_map least_of
steps_all f [] e h = last_read f (omega arith)
steps_all f (ns ∷ s) e h =
    ap (steps_in f []) (tail_is ns s) ∙ steps_read f [] ns s e.0 e.1 (omega (arith, ap length (tail_is ns s)))

-- the letters of what follows the corners and the cells
letter_steps : (s : List (List Mark)) → letter (steps_bytes s) < 84
unfolding steps_bytes flat_map step_bytes mark_bytes
letter_steps [] = omega arith
letter_steps ([] ∷ s) = omega arith
letter_steps ((m ∷ ms) ∷ s) = omega arith

letter_cells : (ts : List ℕ) (s : List (List Mark)) → letter (cell_bytes ts ++ steps_bytes s) < 86
unfolding cell_bytes
letter_cells [] s = omega (arith, letter_steps s)
letter_cells (a ∷ []) s = omega (arith, letter_steps s)
letter_cells (a ∷ b ∷ []) s = omega (arith, letter_steps s)
letter_cells (a ∷ b ∷ c ∷ []) s = omega (arith, letter_steps s)
letter_cells (a ∷ b ∷ c ∷ d ∷ ts) s = omega arith

module _ {j : Job} (w : Writable j) where
  corners_back : corner_records (length (job_bytes j)) (job_bytes j) ≡ (j.positions, cell_bytes j.cells ++ steps_bytes j.steps)
  unfolding job_bytes steps_bytes
  corners_back =
      corners_read (length (job_bytes j)) j.positions (cell_bytes j.cells ++ steps_bytes j.steps) w.threes w.words
      (λ e. omega (arith, letter_cells j.cells j.steps))
      (omega (arith, corner-length j.positions w.threes, job-length j))

  cells_back : cell_records (length (job_bytes j)) (behind_corners (job_bytes j)) ≡ (j.cells, steps_bytes j.steps)
  unfolding behind_corners
  cells_back =
      let e : behind_corners (job_bytes j) ≡ cell_bytes j.cells ++ steps_bytes j.steps = ap (λ (p : List ℤ × List ℕ). p.1)
      corners_back in
      rw e
      (cells_read (length (job_bytes j)) j.cells (steps_bytes j.steps) w.fours w.numbers
      (λ e. omega (arith, letter_steps j.steps))
      (omega (arith, cell-length j.cells w.fours, job-length j)))

  steps_back : steps_in (length (job_bytes j)) [] (behind_cells (job_bytes j)) ≡ record { ok = true; steps = j.steps }
  unfolding behind_cells
  steps_back =
      let e : behind_cells (job_bytes j) ≡ steps_bytes j.steps = ap (λ (p : List ℕ × List ℕ). p.1) cells_back in
      rw e (steps_all (length (job_bytes j)) j.steps w.rising (omega (arith, job-length j)))

  pub read_written : (formb (job_bytes j) ≡ true) × (job_of (job_bytes j) ≡ j)
  unfolding formb job_of
  read_written = (
    rw (le-leb (length (job_bytes j)) 65536 w.few, steps_back),
    rw (corners_back, cells_back, steps_back),
  )
