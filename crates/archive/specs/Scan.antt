-- Going through the marks and steps of an archive.
--   least_of ms          the least cell that may follow the marks ms
--   mark_recordb least bs      a mark stands at the front, on the cell least or a later one
--   endb least bs       the bytes are E alone, and no mark stands since the last step
--   behind ss r         the steps ss, and then those of r
--   no_fuel, steps_mark, steps_step, steps_end, stop   what steps_in finds at a mark, at a step and where neither stands
--   ScanAt bs from at least marks steps   where the scan from the place from has come
--   on_start, on_mark, on_step, on_end, on_out   its turns
--   Scanned bs from ok marks steps    what the scan finds
use Rattle.std.specs.Prelude.{◌≡◌, refl, Bool, true, ◌&&◌, ℕ, zero, suc, ◌+◌, ◌*◌, ◌-◌, ◌≤◌, ◌<◌, T, eqb, leb, get_or}
use Rattle.std.proofs.Common.{sym, ◌∙◌, ap, arith, eqb-true, le-leb, ne_eqb}
use Rattle.std.proofs.Math.Bool.{false}
use mathlib.Core.List.{List, [], ◌∷◌, ◌++◌, append_assoc, append-nil, flatten}
use Rattle.std.proofs.Math.ListN.{length, drop, length-drop, length-append, drop_of_length-le}
use Rattle.std.proofs.Math.Seq.{drop-drop}
use Rattle.base.specs.Bools.{is_true, and_left, and_right}
use Rattle.archive.specs.Form.{whole, u16_at, startsb, markedb, followsb, emptyb, Steps, steps_in}
use Rattle.archive.specs.Records.{starts_long}
use Rattle.archive.specs.Tables.{Mark}

-- Rule 10.4: the least cell that may follow the marks.
unfoldable pub least_of : List Mark → ℕ
least_of [] = 0
least_of (m ∷ []) = suc m.0
least_of (m ∷ n ∷ ms) = least_of (n ∷ ms)

-- Rules 10.2, 10.4: a record M with an ascending cell stands at the front.
unfoldable pub mark_recordb : ℕ → List ℕ → Bool
mark_recordb least bs = startsb 77 4 bs && ((leb 1 (get_or bs 3 0) && leb (get_or bs 3 0) 2) && leb least (u16_at bs 1))

-- Rules 10.3, 10.4: E alone is left, and no mark is.
unfoldable pub endb : ℕ → List ℕ → Bool
endb least bs = startsb 69 1 bs && (eqb least 0 && eqb (length bs) 1)

follows_least : (ms : List Mark) (c : ℕ) → followsb ms c ≡ leb (least_of ms) c
unfolding followsb least_of
follows_least [] c = sym (le-leb 0 c (omega arith))
follows_least (m ∷ []) c = refl
follows_least (m ∷ n ∷ ms) c = follows_least (n ∷ ms) c

least_above : (m : Mark) (ms : List Mark) → 0 < least_of (m ∷ ms)
unfolding least_of
least_above m [] = omega arith
least_above m (n ∷ ms) = least_above n ms

empty_least : (ms : List Mark) → emptyb ms ≡ eqb (least_of ms) 0
unfolding emptyb least_of
empty_least [] = refl
empty_least (m ∷ ms) = sym (ne_eqb (least_of (m ∷ ms)) 0 (λ e. omega (arith, least_above m ms)))

pub least_snoc : (ms : List Mark) (m : Mark) → least_of (ms ++ (m ∷ [])) ≡ suc m.0
unfolding least_of
least_snoc [] m = refl
least_snoc (a ∷ []) m = refl
least_snoc (a ∷ b ∷ ms) m = least_snoc (b ∷ ms) m

pub least_none : (ms : List Mark) → least_of ms ≡ 0 → ms ≡ []
least_none [] e = refl
least_none (m ∷ ms) e = absurd (omega (arith, least_above m ms))

pub marked_least : (ms : List Mark) (bs : List ℕ) → markedb ms bs ≡ mark_recordb (least_of ms) bs
unfolding markedb mark_recordb
marked_least ms bs = rw (follows_least ms (u16_at bs 1))

pub mark_long : (least : ℕ) (bs : List ℕ) → mark_recordb least bs ≡ true → 4 ≤ length bs
unfolding mark_recordb
mark_long least bs t =
    starts_long 77 4 bs (is_true (startsb 77 4 bs)
    (and_left (startsb 77 4 bs) ((leb 1 (get_or bs 3 0) && leb (get_or bs 3 0) 2) && leb least (u16_at bs 1)) (rw t tt)))

-- the steps ss stand before those of r
abbrev pub behind : List (List Mark) → Steps → Steps
behind ss r = record { ok = r.ok; steps = ss ++ r.steps }

-- Rule 10.2: the cell and the mark of a record M.
abbrev pub mark_in : List ℕ → Mark
mark_in bs = (u16_at bs 1, get_or bs 3 0)

pub no_fuel : (ms : List Mark) (bs : List ℕ) → T (steps_in zero ms bs).ok → ⊥
unfolding steps_in
no_fuel ms bs t = t

module _ (f : ℕ) (ms : List Mark) (bs : List ℕ) where
  pub steps_mark : markedb ms bs ≡ true → steps_in (suc f) ms bs ≡ steps_in f (ms ++ (mark_in bs ∷ [])) (drop 4 bs)
  unfolding steps_in
  steps_mark t = rw (t, steps_in)

  pub steps_step : markedb ms bs ≡ false → startsb 71 1 bs ≡ true → steps_in (suc f) ms bs ≡ behind (ms ∷ []) (steps_in f [] (drop 1 bs))
  unfolding steps_in
  steps_step t u = rw (t, u, steps_in)

  pub steps_end : markedb ms bs ≡ false → startsb 71 1 bs ≡ false
      → steps_in (suc f) ms bs ≡ record { ok = startsb 69 1 bs && (emptyb ms && eqb (length bs) 1); steps = [] }
  unfolding steps_in
  steps_end t u = rw (t, u, steps_in)

pub flatten_snoc : (s : List (List Mark)) (ms : List Mark) → length (flatten (s ++ (ms ∷ []))) ≡ length (flatten s) + length ms
unfolding flatten
flatten_snoc [] ms = rw (append-nil ms) (omega arith)
flatten_snoc (a ∷ s) ms = omega (arith, length-append a (flatten (s ++ (ms ∷ []))), length-append a (flatten s), flatten_snoc s ms)

pub record ScanAt (bs : List ℕ) (from at least marks steps : ℕ) : Type 0 where
  pub since : List Mark
  pub done : List (List Mark)
  pub near : at ≤ length bs
  pub way : from + (4 * marks + steps) ≡ at
  pub least_is : least_of since ≡ least
  pub marks_are : length (flatten done) + length since ≡ marks
  pub steps_are : length done ≡ steps
  pub rest : steps_in (length bs) [] (drop from bs) ≡ behind done (steps_in (length bs - (marks + steps)) since (drop at bs))

unfoldable pub on_start : (bs : List ℕ) (from : ℕ) → from ≤ length bs → ScanAt bs from from 0 0 0
unfolding least_of flatten
on_start bs from h =
    record {
      since = [];
      done = [];
      near = h;
      way = omega arith;
      least_is = refl;
      marks_are = refl;
      steps_are = refl;
      rest = let w : length bs - (0 + 0) ≡ length bs = omega arith in rw w;
    }

pub behind_behind : (a b : List (List Mark)) (r : Steps) → behind a (behind b r) ≡ behind (a ++ b) r
behind_behind a b r = rw (append_assoc a b r.steps)

module _ {bs : List ℕ} {from at least marks steps : ℕ} (o : ScanAt bs from at least marks steps) where
  pub same_mark : markedb o.since (drop at bs) ≡ mark_recordb least (drop at bs)
  same_mark = marked_least o.since (drop at bs) ∙ rw o.least_is

  -- so much of the fuel is left
  pub fuel_left : at < length bs → (k : ℕ) → k ≡ suc (marks + steps) → length bs - (marks + steps) ≡ suc (length bs - k)
  fuel_left h k e = omega (arith, o.way)

  unfoldable pub on_mark : mark_recordb least (drop at bs) ≡ true → (n : ℕ) → n ≡ whole 2 (drop (at + 1) bs)
      → ScanAt bs from (at + 4) (n + 1) (marks + 1) steps
  on_mark t c e =
      let l : 4 ≤ length (drop at bs) = mark_long least (drop at bs) t in
      let n : at + 4 ≤ length bs = omega (arith, length-drop at bs) in
      record {
        since = o.since ++ (mark_in (drop at bs) ∷ []);
        done = o.done;
        near = n;
        way = omega (arith, o.way);
        least_is = least_snoc o.since (mark_in (drop at bs)) ∙ rw (drop-drop 1 at bs, e) (omega arith);
        marks_are = omega (arith, o.marks_are, length-append o.since (mark_in (drop at bs) ∷ []));
        steps_are = o.steps_are;
        rest =
            o.rest
            ∙ rw (
              fuel_left (omega arith) (marks + 1 + steps) (omega arith),
              steps_mark (length bs - (marks + 1 + steps)) o.since (drop at bs) (same_mark ∙ t),
              drop-drop 4 at bs,
            );
      }

  unfoldable pub on_step : mark_recordb least (drop at bs) ≡ false → startsb 71 1 (drop at bs) ≡ true
      → ScanAt bs from (at + 1) 0 marks (steps + 1)
  unfolding least_of
  on_step t u =
      let l : 1 ≤ length (drop at bs) = starts_long 71 1 (drop at bs) u in
      let n : at + 1 ≤ length bs = omega (arith, length-drop at bs) in
      record {
        since = [];
        done = o.done ++ (o.since ∷ []);
        near = n;
        way = omega (arith, o.way);
        least_is = refl;
        marks_are = omega (arith, o.marks_are, flatten_snoc o.done o.since);
        steps_are = omega (arith, o.steps_are, length-append o.done (o.since ∷ []));
        rest =
            o.rest
            ∙ rw (
              fuel_left (omega arith) (marks + (steps + 1)) (omega arith),
              steps_step (length bs - (marks + (steps + 1))) o.since (drop at bs) (same_mark ∙ t) u,
              drop-drop 1 at bs,
            )
            (behind_behind o.done (o.since ∷ []) _);
      }

-- where neither a mark nor a step stands, the steps end, well or not
pub stop : (f : ℕ) (ms : List Mark) (bs : List ℕ) → (0 < length bs → 0 < f) → markedb ms bs ≡ false → startsb 71 1 bs ≡ false
    → steps_in f ms bs ≡ record { ok = endb (least_of ms) bs; steps = [] }
unfolding steps_in endb startsb
stop zero ms [] h t u = refl
stop zero ms (b ∷ bs) h t u = absurd (omega (arith, h (omega arith)))
stop (suc f) ms bs h t u = steps_end f ms bs t u ∙ rw (empty_least ms)

pub record Scanned (bs : List ℕ) (from : ℕ) (ok : Bool) (marks steps : ℕ) : Type 0 where
  pub ok_is : ok ≡ (steps_in (length bs) [] (drop from bs)).ok
  pub marks_are : T ok → length (flatten (steps_in (length bs) [] (drop from bs)).steps) ≡ marks
  pub steps_are : T ok → length (steps_in (length bs) [] (drop from bs)).steps ≡ steps

pub end_least : (least : ℕ) (bs : List ℕ) → T (endb least bs) → least ≡ 0
unfolding endb
end_least least bs t =
    eqb-true least 0
    (is_true (eqb least 0)
    (and_left (eqb least 0) (eqb (length bs) 1) (and_right (startsb 69 1 bs) (eqb least 0 && eqb (length bs) 1) t)))

module _ {bs : List ℕ} {from at least marks steps : ℕ} (o : ScanAt bs from at least marks steps) where
  pub on_end : mark_recordb least (drop at bs) ≡ false → startsb 71 1 (drop at bs) ≡ false → (ok : Bool) → ok ≡ endb least (drop at bs)
      → Scanned bs from ok marks steps
  on_end t u ok q =
      let e : steps_in (length bs) [] (drop from bs) ≡ record { ok = endb least (drop at bs); steps = o.done } =
      o.rest
      ∙ rw (
        stop (length bs - (marks + steps)) o.since (drop at bs) (λ h. omega (arith, o.way, length-drop at bs))
            (same_mark o ∙ t) u,
        o.least_is,
        append-nil o.done,
      ) in
      record {
        ok_is = rw e q;
        marks_are = λ k.
            let n : o.since ≡ [] = least_none o.since (o.least_is ∙ end_least least (drop at bs) (rw q at k)) in
            rw e (omega (arith, o.marks_are, ap length n));
        steps_are = λ k. rw e o.steps_are;
      }

  pub on_out : length bs ≤ at → Scanned bs from false marks steps
  unfolding mark_recordb startsb endb
  on_out h =
      let n : drop at bs ≡ [] = drop_of_length-le bs h in
      on_end (rw n) (rw n) false (rw n)
