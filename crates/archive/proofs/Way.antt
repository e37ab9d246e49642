-- Going through flat tables of marks and ends, step by step.
--   way_bytes done since   the records of the steps done and of the marks since
--   rest_from since m ms es   the steps to come, where the first of them has the marks since already and m marks are passed
--   Way ms es from at m s    where the way has come, and at is the place behind its records
--   way_start, way_mark, way_step, way_end   its turns
--   way_room              the records so far and one byte more are within the whole
-- Assumes nothing.
use mathlib.Core.Path.{◌≡◌, refl, sym, ◌∙◌, ap}
use mathlib.Core.Bool.{Bool, true, false}
use mathlib.Core.List.{List, [], ◌∷◌, ◌++◌, append_assoc, append-nil, flat_map, flatten}
use Prim.Native.Nat.{ℕ, suc, ◌+◌, ◌*◌, ◌-◌, ◌≤◌, ◌<◌}
use native.Mathlib.Omega.{arith}
use lib.Dec.{ltb}
use borrow.Author.Tests.{ltb-true, ltb-false}
use lib.ListN.{length, get_or, take, drop, length-append, drop_of_length-le}
use lib.Seq.{drop-cons}
use Rattle.archive.specs.Job.{bytes, mark_bytes, step_bytes}
use Rattle.archive.specs.Tables.{Mark, steps_from}
use Rattle.archive.specs.Measure.{steps_bytes, marks-length, steps-length}
use Rattle.archive.proofs.Loading.{flatten_append}
use Rattle.base.specs.Append.{flat_snoc}

unfoldable pub way_bytes : List (List Mark) → List Mark → List ℕ
unfolding flat_map step_bytes mark_bytes
way_bytes done since = flat_map step_bytes done ++ flat_map mark_bytes since

pub way_bytes_mark : (done : List (List Mark)) (since : List Mark) (x : Mark) → way_bytes done (since ++ (x ∷ [])) ≡ way_bytes done since
    ++ mark_bytes x
unfolding way_bytes
way_bytes_mark done since x =
    ap (λ (t : List ℕ). flat_map step_bytes done ++ t) (flat_snoc mark_bytes since x)
    ∙ sym (append_assoc (flat_map step_bytes done) (flat_map mark_bytes since) (mark_bytes x))

pub way_bytes_step : (done : List (List Mark)) (since : List Mark) → way_bytes (done ++ (since ∷ [])) [] ≡ way_bytes done since ++ (71 ∷ [])
unfolding way_bytes step_bytes flat_map
way_bytes_step done since =
    append-nil (flat_map step_bytes (done ++ (since ∷ [])))
    ∙ flat_snoc step_bytes done since
    ∙ sym (append_assoc (flat_map step_bytes done) (flat_map mark_bytes since) (71 ∷ []))

pub way_bytes_end : (done : List (List Mark)) → way_bytes done [] ++ (69 ∷ []) ≡ steps_bytes done
unfolding way_bytes steps_bytes flat_map
way_bytes_end done = rw (append-nil (flat_map step_bytes done))

done-length : (done : List (List Mark)) → length (steps_bytes done) ≡ length (flat_map step_bytes done) + 1
unfolding steps_bytes
done-length done = length-append (flat_map step_bytes done) (69 ∷ [])

way-length : (done : List (List Mark)) (since : List Mark) → length (way_bytes done since) ≡ 4 * length (flatten done) + length done + 4
    * length since
unfolding way_bytes
way-length done since =
    omega (arith, length-append (flat_map step_bytes done) (flat_map mark_bytes since), marks-length since, steps-length done, done-length done)

pub mark-length : (x : Mark) → length (mark_bytes x) ≡ 4
unfolding mark_bytes bytes
mark-length x = refl

unfoldable pub rest_from : List Mark → ℕ → List Mark → List ℕ → List (List Mark)
rest_from since m ms [] = []
rest_from since m ms (e ∷ es) = (since ++ take (e - m) (drop m ms)) ∷ steps_from e ms es

pub rest_none : (m : ℕ) (ms : List Mark) (es : List ℕ) → steps_from m ms es ≡ rest_from [] m ms es
unfolding steps_from rest_from
rest_none m ms [] = refl
rest_none m ms (e ∷ es) = refl

abbrev pub none : Mark
none = (0, 0)

rest_mark : (since : List Mark) (m : ℕ) (ms : List Mark) (e : ℕ) (es : List ℕ) → m < e → e ≤ length ms
    → rest_from since m ms (e ∷ es) ≡ rest_from (since ++ (get_or ms m none ∷ [])) (m + 1) ms (e ∷ es)
unfolding rest_from
rest_mark since m ms e es g h =
    let a : e - m ≡ suc (e - (m + 1)) = omega arith in
    let b : m + 1 ≡ suc m = omega arith in
    rw (a, drop-cons ms m none (omega arith), b, append_assoc since (get_or ms m none ∷ []) (take (e - suc m) (drop (suc m) ms)))

rest_step : (since : List Mark) (m : ℕ) (ms : List Mark) (e : ℕ) (es : List ℕ) → e ≡ m
    → rest_from since m ms (e ∷ es) ≡ since ∷ rest_from []
    m ms es
unfolding rest_from
rest_step since m ms e es q =
    let a : m - m ≡ 0 = omega arith in
    rw (q, a, append-nil since, rest_none m ms es)

first : (since : List Mark) (m : ℕ) (ms : List Mark) (e : ℕ) (es : List ℕ) → length since ≤ length (flatten (rest_from since m ms (e ∷ es)))
unfolding rest_from flatten
first since m ms e es =
    omega (
      arith,
      length-append (since ++ take (e - m) (drop m ms)) (flatten (steps_from e ms es)),
      length-append since
          (take (e - m) (drop m ms)),
    )

pub record Way (ms : List Mark) (es : List ℕ) (from at m s : ℕ) : Type 0 where
  pub done : List (List Mark)
  pub since : List Mark
  pub whole : steps_from 0 ms es ≡ done ++ rest_from since m ms (drop s es)
  pub place : from + length (way_bytes done since) ≡ at
  pub low : s < length es → m ≤ get_or es s 0
  pub clear : length es ≤ s → since ≡ []
  pub near : s ≤ length es

unfoldable pub way_start : (ms : List Mark) (es : List ℕ) (from : ℕ) → Way ms es from from 0 0
unfolding way_bytes flat_map
way_start ms es from =
    record {
      done = [];
      since = [];
      whole = rest_none 0 ms es;
      place = omega arith;
      low = λ h. omega arith;
      clear = λ h. refl;
      near = omega arith;
    }

module _ {ms : List Mark} {es : List ℕ} {from at m s : ℕ} (w : Way ms es from at m s) where
  pub turn_mark : s < length es → m < get_or es s 0 → get_or es s 0 ≤ length ms
      → rest_from w.since m ms (drop s es) ≡ rest_from (w.since ++ (get_or ms m none ∷ [])) (m + 1) ms (drop s es)
  turn_mark h g k = rw (drop-cons es s 0 h) (rest_mark w.since m ms (get_or es s 0) (drop (suc s) es) g k)

  unfoldable pub way_mark : s < length es → m < get_or es s 0 → get_or es s 0 ≤ length ms → Way ms es from (at + 4) (m + 1) s
  way_mark h g k =
      record {
        done = w.done;
        since = w.since ++ (get_or ms m none ∷ []);
        whole = w.whole ∙ ap (λ (r : List (List Mark)). w.done ++ r) (turn_mark h g k);
        place =
            omega (
              arith,
              w.place,
              ap (λ (l : List ℕ). length l) (way_bytes_mark w.done w.since (get_or ms m none)),
              length-append (way_bytes w.done w.since) (mark_bytes (get_or ms m none)),
              mark-length (get_or ms m none),
            );
        low = λ i. omega arith;
        clear = λ i. absurd (omega arith);
        near = w.near;
      }

  pub turn_step : s < length es → get_or es s 0 ≤ m → rest_from w.since m ms (drop s es) ≡ w.since ∷ rest_from [] m ms (drop (s + 1) es)
  turn_step h g =
      let n : s + 1 ≡ suc s = omega arith in
      rw (n, drop-cons es s 0 h) (rest_step w.since m ms (get_or es s 0) (drop (suc s) es) (omega (arith, w.low h)))

  unfoldable pub way_step : s < length es → get_or es s 0 ≤ m → (s + 1 < length es → get_or es s 0 ≤ get_or es (s + 1) 0)
      → Way ms es from (at + 1) m (s + 1)
  way_step h g r =
      record {
        done = w.done ++ (w.since ∷ []);
        since = [];
        whole =
            w.whole
            ∙ ap (λ (r : List (List Mark)). w.done ++ r) (turn_step h g)
            ∙ sym (append_assoc w.done (w.since ∷ []) (rest_from [] m ms (drop (s + 1) es)));
        place =
            omega (
              arith,
              w.place,
              ap (λ (l : List ℕ). length l) (way_bytes_step w.done w.since),
              length-append (way_bytes w.done w.since) (71 ∷ []),
            );
        low = λ i. omega (arith, r i, w.low h);
        clear = λ i. refl;
        near = omega arith;
      }

  pub way_end : length es ≤ s → (steps_from 0 ms es ≡ w.done) × (w.since ≡ [])
  unfolding rest_from
  way_end h = (w.whole ∙ rw (drop_of_length-le es h) (append-nil w.done), w.clear h)

  coming : length w.since ≤ length (flatten (rest_from w.since m ms (drop s es)))
  coming = go (ltb s (length es)) refl
    where
      go : (b : Bool) → ltb s (length es) ≡ b → length w.since ≤ length (flatten (rest_from w.since m ms (drop s es)))
      go true e = rw (drop-cons es s 0 (ltb-true s (length es) e)) (first w.since m ms (get_or es s 0) (drop (suc s) es))
      go false e = omega (arith, ap (λ (l : List Mark). length l) (w.clear (ltb-false s (length es) e)))

  pub way_room : at + 1 ≤ from + length (steps_bytes (steps_from 0 ms es))
  way_room =
      omega (
        arith,
        w.place,
        way-length w.done w.since,
        steps-length (steps_from 0 ms es),
        ap (λ (r : List (List Mark)). length (flatten r)) w.whole,
        ap (λ (r : List (List Mark)). length r) w.whole,
        flatten_append w.done (rest_from w.since m ms (drop s es)),
        length-append w.done (rest_from w.since m ms (drop s es)),
        coming,
      )
