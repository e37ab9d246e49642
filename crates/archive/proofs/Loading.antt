-- Loading the marks and steps of an archive in the form.
--   ok_inside       bytes that end well are not out
--   mark_next, step_next   the letter tells which record stands there
--   since_fits      marks that wait for their step's end are among those of the steps to come
--   marks_room, steps_room   the marks and steps so far are among all
--   on_all          at the end, all steps are done
-- Assumes nothing.
use mathlib.Core.Path.{◌≡◌, refl, sym, ◌∙◌}
use mathlib.Core.Bool.{Bool, true, false, ◌&&◌}
use mathlib.Core.List.{List, [], ◌∷◌, ◌++◌, append-nil, flatten}
use Prim.Native.Nat.{ℕ, zero, suc, ◌+◌, ◌-◌, ◌≤◌, ◌<◌}
use native.Mathlib.Omega.{arith}
use lib.Dec.{T, eqb, leb, ltb}
use lib.ListN.{length, get_or, drop, length-drop, length-append}
use lib.Seq.{get_or-drop}
use borrow.Author.Tests.{ltb-true, ltb-false}
use Rattle.base.specs.Bools.{is_true, and_left, and_right}
use Rattle.archive.specs.Form.{letter, startsb, steps_in, Steps, markedb, emptyb, u16_at}
use Rattle.archive.specs.Tables.{Mark}
use Rattle.archive.specs.Scan.{mark_recordb, endb, mark_in, ScanAt, behind, no_fuel, steps_mark, steps_step, steps_end, stop}
use Rattle.archive.specs.Scan.{same_mark, end_least, least_none, on_out}
use Rattle.archive.specs.Reading.{no_start}
use Rattle.archive.specs.Writing.{starts_letter}
use Rattle.archive.specs.Loaded.{steps_at}

mark_letter : (least : ℕ) (bs : List ℕ) → mark_recordb least bs ≡ true → letter bs ≡ 77
unfolding mark_recordb
mark_letter least bs t =
    starts_letter 77 4 bs
    (is_true (startsb 77 4 bs) (and_left (startsb 77 4 bs) ((leb 1 (get_or bs 3 0) && leb (get_or bs 3 0) 2) && leb least (u16_at bs 1))
    (rw t tt)))

end_letter : (least : ℕ) (bs : List ℕ) → T (endb least bs) → letter bs ≡ 69
unfolding endb
end_letter least bs t =
    starts_letter 69 1 bs (is_true (startsb 69 1 bs) (and_left (startsb 69 1 bs) (eqb least 0 && eqb (length bs) 1) t))

front : (bs : List ℕ) (at : ℕ) → letter (drop at bs) ≡ get_or bs at 0
front bs at = get_or-drop at bs 0 0 ∙ (let e : at + 0 ≡ at = omega arith in rw e)

-- a test is false where its opposite cannot be
untrue : (b : Bool) → (b ≡ true → ⊥) → b ≡ false
untrue true h = absurd (h refl)
untrue false h = refl

true_else : (b : Bool) → (b ≡ false → ⊥) → b ≡ true
true_else true h = refl
true_else false h = absurd (h refl)

module _ {bs : List ℕ} {from at least marks steps : ℕ} (o : ScanAt bs from at least marks steps) (k : T (steps_at bs from).ok) where
  ends : mark_recordb least (drop at bs) ≡ false → startsb 71 1 (drop at bs) ≡ false
      → steps_at bs from ≡ record { ok = endb least (drop at bs); steps = o.done }
  ends t u =
      o.rest
      ∙ rw (
        stop (length bs - (marks + steps)) o.since (drop at bs) (λ h. omega (arith, o.way, length-drop at bs))
            (same_mark o ∙ t) u,
        o.least_is,
        append-nil o.done,
      )

  ended : mark_recordb least (drop at bs) ≡ false → startsb 71 1 (drop at bs) ≡ false → T (endb least (drop at bs))
  ended t u = rw (ends t u) at k

  pub mark_next : get_or bs at 0 ≡ 77 → mark_recordb least (drop at bs) ≡ true
  mark_next e =
      true_else (mark_recordb least (drop at bs))
      (λ t. omega (
        arith,
        front bs at,
        end_letter least (drop at bs)
            (ended t (no_start 71 1 (drop at bs) (λ g. omega (arith, front bs at)))),
      ))

  not_mark : (get_or bs at 0 ≡ 77 → ⊥) → mark_recordb least (drop at bs) ≡ false
  not_mark h = untrue (mark_recordb least (drop at bs)) (λ t. h (sym (front bs at) ∙ mark_letter least (drop at bs) t))

  pub step_next : (get_or bs at 0 ≡ 69 → ⊥) → (get_or bs at 0 ≡ 77 → ⊥)
      → (mark_recordb least (drop at bs) ≡ false) × (startsb 71 1 (drop at bs) ≡ true)
  step_next h g = (
    not_mark g,
    true_else (startsb 71 1 (drop at bs)) (λ t. h (sym (front bs at) ∙ end_letter least (drop at bs) (ended (not_mark g) t))),
  )

  pub ok_inside : at < length bs
  ok_inside = go (ltb at (length bs)) refl
    where
      go : (b : Bool) → ltb at (length bs) ≡ b → at < length bs
      go true e = ltb-true at (length bs) e
      go false e = absurd (rw (← (on_out o (ltb-false at (length bs) e)).ok_is) at k)

  pub on_all : get_or bs at 0 ≡ 69 → (o.since ≡ []) × ((steps_at bs from).steps ≡ o.done)
  on_all e =
      let t : mark_recordb least (drop at bs) ≡ false = not_mark (λ g. omega arith) in
      let u : startsb 71 1 (drop at bs) ≡ false = no_start 71 1 (drop at bs) (λ g. omega (arith, front bs at)) in
      (least_none o.since (o.least_is ∙ end_least least (drop at bs) (ended t u)), rw (ends t u))

pub flatten_append : (s t : List (List Mark)) → length (flatten (s ++ t)) ≡ length (flatten s) + length (flatten t)
unfolding flatten
flatten_append [] t = omega arith
flatten_append (a ∷ s) t = omega (arith, length-append a (flatten (s ++ t)), length-append a (flatten s), flatten_append s t)

abbrev marks_in : Steps → ℕ
marks_in r = length (flatten r.steps)

module _ (f : ℕ) (ms : List Mark) (bs : List ℕ) where
  since_step : (r : Steps) → length ms ≤ marks_in (behind (ms ∷ []) r)
  unfolding flatten
  since_step r = omega (arith, length-append ms (flatten r.steps))

  since_end : T (startsb 69 1 bs && (emptyb ms && eqb (length bs) 1)) → length ms ≤ 0
  unfolding emptyb
  since_end t = go ms (and_left (emptyb ms) (eqb (length bs) 1) (and_right (startsb 69 1 bs) (emptyb ms && eqb (length bs) 1) t))
    where
      go : (ms : List Mark) → T (emptyb ms) → length ms ≤ 0
      go [] t = omega arith
      go (m ∷ ms) t = absurd t

since_fits : (f : ℕ) (ms : List Mark) (bs : List ℕ) → T (steps_in f ms bs).ok → length ms ≤ marks_in (steps_in f ms bs)
since_fits zero ms bs t = absurd (no_fuel ms bs t)
since_fits (suc f) ms bs t = go (markedb ms bs) refl (startsb 71 1 bs) refl (since_fits f (ms ++ (mark_in bs ∷ [])) (drop 4 bs))
  where
    go : (a : Bool) → markedb ms bs ≡ a → (b : Bool) → startsb 71 1 bs ≡ b
        → (T (steps_in f (ms ++ (mark_in bs ∷ [])) (drop 4 bs)).ok
        → length (ms ++ (mark_in bs ∷ [])) ≤ marks_in (steps_in f (ms ++ (mark_in bs ∷ [])) (drop 4 bs)))
        → length ms ≤ marks_in (steps_in (suc f) ms bs)
    go true d b e i =
        rw (steps_mark f ms bs d) (omega (arith, i (rw (steps_mark f ms bs d) at t), length-append ms (mark_in bs ∷ [])))
    go false d true e i = rw (steps_step f ms bs d e) (since_step f ms bs (steps_in f [] (drop 1 bs)))
    go false d false e i = omega (arith, since_end f ms bs (rw (steps_end f ms bs d e) at t))

module _ {bs : List ℕ} {from at least marks steps : ℕ} (o : ScanAt bs from at least marks steps) (k : T (steps_at bs from).ok) where
  abbrev left : Steps
  left = steps_in (length bs - (marks + steps)) o.since (drop at bs)

  pub marks_room : marks ≤ length (flatten (steps_at bs from).steps)
  marks_room =
      let n : length o.since ≤ marks_in left = since_fits (length bs - (marks + steps)) o.since (drop at bs) (rw o.rest at k) in
      rw o.rest (omega (arith, flatten_append o.done left.steps, o.marks_are))

  pub steps_room : steps ≤ length (steps_at bs from).steps
  steps_room = rw o.rest (omega (arith, length-append o.done left.steps, o.steps_are))
