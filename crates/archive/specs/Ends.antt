-- Ends of steps in flat tables, and the bytes that the archive of such tables has.
--   Climbs p n es     the ends es do not fall, from p on, and none is above n
--   climbs_of, climbs_rising, climbs_within   the same place by place
--   pairs_long        at least n pairs where both lists have n elements
--   last_from p es     the last end; p where there is none
--   length_pairs      as many pairs as the lists have elements, where they have as many
--   cells_back, marks_back, flat_back, ends_back   the tables of the steps of flat tables are those
--   job_back          the job of a job's own tables is that job
--   stored_measure    13 bytes a corner, 9 a cell, 4 a mark up to the last end, one an end, and the end of all
use Rattle.std.specs.Prelude.{◌≡◌, refl, ℕ, zero, suc, ◌+◌, ◌*◌, ◌-◌, ◌/◌, ◌≤◌, ◌<◌, ℤ, length, get_or, take, drop}
use Rattle.std.proofs.Common.{sym, ◌∙◌, ap, arith, length-append, length-drop, take-append-drop, drop_of_length-le, drop-drop, length-take-le}
use mathlib.Core.List.{List, [], ◌∷◌, ◌++◌, map, flatten}
use Rattle.archive.specs.Job.{Job, job_bytes}
use Rattle.archive.specs.Tables.{Mark, cell_of, mark_of, marked_of, marks_of, ends_after, ends_of, pairs, steps_from, steps_of, steps_back}
use Rattle.archive.specs.Measure.{corner-length, cell-length, steps-length, job-length}
use Rattle.archive.specs.Stored.{job_from, EndsRise, Storable}

-- Rule 12.14: the ends do not fall.
unfoldable pub Climbs : ℕ → ℕ → List ℕ → Type 0
Climbs p n [] = Unit {0}
Climbs p n (e ∷ es) = (p ≤ e) × (e ≤ n) × Climbs e n es

climbs_of : (p n : ℕ) (es : List ℕ) → (0 < length es → p ≤ get_or es 0 0)
    → ((k : ℕ) → k + 1 < length es → get_or es k 0 ≤ get_or es (k + 1) 0)
    → ((k : ℕ) → k < length es → get_or es k 0 ≤ n) → Climbs p n es
unfolding Climbs
climbs_of p n [] a b c = tt
climbs_of p n (e ∷ es) a b c = (
  a (omega arith),
  c 0 (omega arith),
  climbs_of e n es (λ h. b 0 (omega arith))
      (λ k h. let q : suc k + 1 ≡ suc (k + 1) = omega arith in rw q at (b (suc k) (omega arith)))
      (λ k h. c (suc k) (omega arith)),
)

climbs_first : (p n : ℕ) (es : List ℕ) → Climbs p n es → 0 < length es → p ≤ get_or es 0 0
unfolding Climbs
climbs_first p n [] c h = absurd (omega arith)
climbs_first p n (e ∷ es) c h = c.0

pub climbs_rising : (p n : ℕ) (es : List ℕ) → Climbs p n es → (k : ℕ) → k + 1 < length es → get_or es k 0 ≤ get_or es (k + 1) 0
unfolding Climbs
climbs_rising p n [] c k h = absurd (omega arith)
climbs_rising p n (e ∷ es) c zero h = climbs_first e n es c.2 (omega arith)
climbs_rising p n (e ∷ es) c (suc k) h = let q : suc k + 1 ≡ suc (k + 1) = omega arith in rw q (climbs_rising e n es c.2 k (omega arith))

pub climbs_within : (p n : ℕ) (es : List ℕ) → Climbs p n es → (k : ℕ) → k < length es → get_or es k 0 ≤ n
unfolding Climbs
climbs_within p n [] c k h = absurd (omega arith)
climbs_within p n (e ∷ es) c zero h = c.1
climbs_within p n (e ∷ es) c (suc k) h = climbs_within e n es c.2 k (omega arith)

unfoldable pub last_from : ℕ → List ℕ → ℕ
last_from p [] = p
last_from p (e ∷ es) = last_from e es

steps_many : (p : ℕ) (ms : List Mark) (es : List ℕ) → length (steps_from p ms es) ≡ length es
unfolding steps_from
steps_many p ms [] = refl
steps_many p ms (e ∷ es) = ap suc (steps_many e ms es)

marks_many : (p : ℕ) (ms : List Mark) (es : List ℕ) → Climbs p (length ms) es → p + length (flatten (steps_from p ms es)) ≡ last_from p es
unfolding steps_from flatten Climbs last_from
marks_many p ms [] c = omega arith
marks_many p ms (e ∷ es) c =
    omega (
      arith,
      c.0,
      c.1,
      length-append (take (e - p) (drop p ms)) (flatten (steps_from e ms es)),
      length-take-le (e - p) (drop p ms) (omega (arith, c.0, c.1, length-drop p ms)),
      marks_many e ms es c.2,
    )

pub pairs_long : (n : ℕ) (cs ks : List ℕ) → n ≤ length cs → n ≤ length ks → n ≤ length (pairs cs ks)
unfolding pairs
pairs_long zero cs ks a b = omega arith
pairs_long (suc n) [] ks a b = absurd (omega arith)
pairs_long (suc n) (c ∷ cs) [] a b = absurd (omega arith)
pairs_long (suc n) (c ∷ cs) (k ∷ ks) a b = omega (arith, pairs_long n cs ks (omega arith) (omega arith))

pub length_pairs : (cs ms : List ℕ) → length cs ≡ length ms → length (pairs cs ms) ≡ length cs
unfolding pairs
length_pairs [] ms e = refl
length_pairs (c ∷ cs) [] e = absurd (omega arith)
length_pairs (c ∷ cs) (m ∷ ms) e = omega (arith, length_pairs cs ms (omega arith))

-- the tables of the steps that are given by tables
pub cells_back : (cs ms : List ℕ) → length cs ≡ length ms → map cell_of (pairs cs ms) ≡ cs
unfolding pairs
cells_back [] ms e = refl
cells_back (c ∷ cs) [] e = absurd (omega arith)
cells_back (c ∷ cs) (m ∷ ms) e = ap (λ (l : List ℕ). c ∷ l) (cells_back cs ms (omega arith))

pub marks_back : (cs ms : List ℕ) → length cs ≡ length ms → map mark_of (pairs cs ms) ≡ ms
unfolding pairs
marks_back [] [] e = refl
marks_back [] (m ∷ ms) e = absurd (omega arith)
marks_back (c ∷ cs) [] e = absurd (omega arith)
marks_back (c ∷ cs) (m ∷ ms) e = ap (λ (l : List ℕ). m ∷ l) (marks_back cs ms (omega arith))

pub flat_back : (p : ℕ) (ms : List Mark) (es : List ℕ) → Climbs p (length ms) es → last_from p es ≡ length ms
    → flatten (steps_from p ms es) ≡ drop p ms
unfolding Climbs last_from steps_from flatten
flat_back p ms [] c l = sym (drop_of_length-le ms {i = p} (omega arith))
flat_back p ms (e ∷ es) c l =
    let k : p + (e - p) ≡ e = omega (arith, c.0) in
    let d : drop (e - p) (drop p ms) ≡ drop e ms = drop-drop (e - p) p ms ∙ ap (λ (i : ℕ). drop i ms) k in
    ap (λ (x : List Mark). take (e - p) (drop p ms) ++ x) (flat_back e ms es c.2 l ∙ sym d) ∙ take-append-drop (e - p) (drop p ms)

pub ends_back : (p : ℕ) (ms : List Mark) (es : List ℕ) → Climbs p (length ms) es → ends_after p (steps_from p ms es) ≡ es
unfolding Climbs steps_from ends_after
ends_back p ms [] c = refl
ends_back p ms (e ∷ es) c =
    let k : p + length (take (e - p) (drop p ms)) ≡ e =
    omega (arith, c.0, c.1, length-take-le (e - p) (drop p ms) (omega (arith, c.0, c.1, length-drop p ms))) in
    rw k (ap (λ (l : List ℕ). e ∷ l) (ends_back e ms es c.2))

pub job_back : (j : Job) → job_from j.positions j.cells (marked_of j.steps) (marks_of j.steps) (ends_of j.steps) ≡ j
job_back j = rw (steps_back j.steps)

pub stored_measure : {ps : List ℤ} {ts cs ks es : List ℕ} → Storable ps ts cs ks es
    → length (job_bytes (job_from ps ts cs ks es)) ≡ 13 * (length ps / 3) + 9 * (length ts / 4) + 4 * last_from 0 es + length es + 1
unfolding steps_of
stored_measure {ps} {ts} {cs} {ks} {es} s =
    let r : EndsRise cs ks es = s.ends in
    let c : Climbs 0 (length (pairs cs ks)) es =
    climbs_of 0 (length (pairs cs ks)) es (λ h. omega arith) r.rising
    (λ k h. pairs_long (get_or es k 0) cs ks (r.in_marked k h) (r.in_marks k h)) in
    omega (
      arith,
      job-length (job_from ps ts cs ks es),
      corner-length ps s.threes,
      cell-length ts s.fours,
      s.threes,
      s.fours,
      steps-length (steps_from 0 (pairs cs ks) es),
      steps_many 0 (pairs cs ks) es,
      marks_many 0 (pairs cs ks) es c,
    )
