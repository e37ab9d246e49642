-- The bytes while the steps of flat tables are stored.
--   Storing cs ks es from l t at m s   the bytes t, which were l, hold the records so far
--   storing_start, storing_mark, storing_step, storing_end   its turns
-- Assumes nothing.
use mathlib.Core.Path.{◌≡◌, refl, sym, ◌∙◌, ap}
use mathlib.Core.List.{List, [], ◌∷◌, ◌++◌, flat_map}
use Prim.Native.Nat.{ℕ, zero, suc, ◌+◌, ◌≤◌, ◌<◌}
use native.Mathlib.Omega.{arith}
use lib.ListN.{length, get_or, set, length-append}
use lib.Seq.{sets}
use Rattle.archive.specs.Job.{mark_bytes}
use Rattle.archive.specs.Tables.{Mark, pairs, steps_of}
use Rattle.archive.specs.Measure.{steps_bytes}
use Rattle.archive.specs.Stored.{EndsRise}
use Rattle.archive.specs.Ends.{pairs_long}
use Rattle.archive.proofs.Stores.{then_sets, sets_length}
use Rattle.archive.proofs.Way.{way_bytes, none, Way, way_start, way_mark, way_step, way_end, way_room, way_bytes_mark}
use Rattle.archive.proofs.Way.{way_bytes_step, way_bytes_end}

pairs_at_lem : (m : ℕ) (cs ks : List ℕ) → m < length cs → m < length ks → get_or (pairs cs ks) m none ≡ (get_or cs m 0, get_or ks m 0)
unfolding pairs
pairs_at_lem m [] ks a b = absurd (omega arith)
pairs_at_lem m (c ∷ cs) [] a b = absurd (omega arith)
pairs_at_lem zero (c ∷ cs) (k ∷ ks) a b = refl
pairs_at_lem (suc m) (c ∷ cs) (k ∷ ks) a b = pairs_at_lem m cs ks (omega arith) (omega arith)

pub record Storing (cs ks es : List ℕ) (from : ℕ) (l t : List ℕ) (at m s : ℕ) : Type 0 where
  pub way : Way (pairs cs ks) es from at m s
  pub table : t ≡ sets l from (way_bytes way.done way.since)

module _ {cs ks es : List ℕ} (r : EndsRise cs ks es) (from : ℕ) (l : List ℕ)
    (fits : from + length (steps_bytes (steps_of cs ks es)) ≤ length l) where
  pub storing_start : Storing cs ks es from l l from 0 0
  unfolding way_start way_bytes flat_map
  storing_start = record { way = way_start (pairs cs ks) es from; table = refl }

  module _ {t : List ℕ} {at m s : ℕ} (p : Storing cs ks es from l t at m s) where
    pub storing_length : length t ≡ length l
    storing_length = sets_length l from (way_bytes p.way.done p.way.since) p.table

    pub storing_room : at + 1 ≤ length l
    unfolding steps_of
    storing_room = omega (arith, way_room p.way, fits)

    module _ (h : s < length es) (g : m < get_or es s 0) where
      long : get_or es s 0 ≤ length (pairs cs ks)
      long = pairs_long (get_or es s 0) cs ks (r.in_marked s h) (r.in_marks s h)

      pub mark_there : (m < length cs) × (m < length ks)
      mark_there = (omega (arith, r.in_marked s h), omega (arith, r.in_marks s h))

      pub mark_room : at + 5 ≤ length l
      unfolding steps_of
      mark_room = omega (arith, way_room (way_mark p.way h g long), fits)

      pub storing_mark : {u : List ℕ} → u ≡ sets t at (mark_bytes (get_or cs m 0, get_or ks m 0)) → Storing cs ks es from l u (at + 4) (m + 1) s
      unfolding way_mark
      storing_mark e =
          let q : get_or (pairs cs ks) m none ≡ (get_or cs m 0, get_or ks m 0) = pairs_at_lem m cs ks mark_there.0 mark_there.1 in
          record {
            way = way_mark p.way h g long;
            table =
                e
                ∙ then_sets l from (way_bytes p.way.done p.way.since) (mark_bytes (get_or cs m 0, get_or ks m 0)) p.table
                (sym p.way.place)
                ∙ ap (λ (v : List ℕ). sets l from v)
                (ap (λ (x : Mark). way_bytes p.way.done p.way.since ++ mark_bytes x) (sym q)
                ∙ sym (way_bytes_mark p.way.done p.way.since (get_or (pairs cs ks) m none)));
          }

    module _ (h : s < length es) (g : get_or es s 0 ≤ m) where
      pub storing_step : Storing cs ks es from l (set t at 71) (at + 1) m (s + 1)
      unfolding way_step
      storing_step =
          record {
            way = way_step p.way h g (r.rising s);
            table =
                then_sets l from (way_bytes p.way.done p.way.since) (71 ∷ []) p.table (sym p.way.place)
                ∙ ap (λ (v : List ℕ). sets l from v) (sym (way_bytes_step p.way.done p.way.since));
          }

    module _ (h : length es ≤ s) where
      finished : way_bytes p.way.done p.way.since ++ (69 ∷ []) ≡ steps_bytes (steps_of cs ks es)
      unfolding steps_of
      finished =
          let f = way_end p.way h in
          rw (f.1, f.0) (way_bytes_end p.way.done)

      pub storing_end : set t at 69 ≡ sets l from (steps_bytes (steps_of cs ks es))
      storing_end =
          then_sets l from (way_bytes p.way.done p.way.since) (69 ∷ []) p.table (sym p.way.place)
          ∙ ap (λ (v : List ℕ). sets l from v) finished

      pub storing_place : at + 1 ≡ from + length (steps_bytes (steps_of cs ks es))
      storing_place =
          omega (
            arith,
            p.way.place,
            ap (λ (v : List ℕ). length v) finished,
            length-append (way_bytes p.way.done p.way.since) (69 ∷ []),
          )
