-- The loop over the levels: before each turn the levels passed stand in the table, and those left are the rest of the whole.
-- Assumes nothing.
use mathlib.Core.Path.{◌≡◌, refl, sym, ◌∙◌, ap}
use mathlib.Core.Logic.{⊎_elim}
use mathlib.Core.List.{List, ◌++◌, append_assoc, append-nil}
use Prim.Native.Nat.{ℕ, zero, suc, ◌+◌, ◌*◌, ◌-◌, ◌≤◌, ◌<◌}
use native.Mathlib.Nat.{eq-or-lt_of_le}
use native.Mathlib.Omega.{arith}
use lib.ListN.{length, take, drop, length-append, take-append-drop}
use lib.Seq.{sets, sets-eq, length-sets, length-take-le, take_at, drop_at, drop-drop}
use borrow.Rule.Slice.PartMut.{put_mid}
use Rattle.base.specs.Limits.{full_counts}
use Rattle.counting.specs.Levels.{Levels, next_end, counts_at, level_counts, level_number, level_end, counts_more, counts_none}
use Rattle.counting.specs.Levels.{number_more, number_none, end_more, end_none, next_after}

-- no level ends before it starts
first_below : (f first last : ℕ) (ss : List ℕ) → first ≤ last → first ≤ level_end f first last ss
unfolding level_end
first_below zero first last ss h = omega arith
first_below (suc f) first last ss h =
    ⊎_elim (λ (e : first ≡ last). rw (end_none (suc f) first last ss (omega arith)) (omega arith))
    (λ (l : first < last). rw (end_more f first last ss l)
    (omega (arith, first_below f last (next_end first last ss) ss (next_after first last ss))))
    (eq-or-lt_of_le h)

last_below : (f first last : ℕ) (ss : List ℕ) → first ≤ last → last ≤ level_end (suc f) first last ss
last_below f first last ss h =
    ⊎_elim (λ (e : first ≡ last). rw (end_none (suc f) first last ss (omega arith)) (omega arith))
    (λ (l : first < last). rw (end_more f first last ss l) (first_below f last (next_end first last ss) ss (next_after first last ss)))
    (eq-or-lt_of_le h)

length-counts : (first last : ℕ) (ss : List ℕ) → length (counts_at first last ss) ≡ 4
unfolding counts_at
length-counts first last ss = refl

-- four numbers copied to a place
pub copied_sets : (l vs : List ℕ) (n k : ℕ) → k ≡ length vs → n + k ≤ length l → put_mid n k l vs ≡ sets l n vs
copied_sets l vs n k e h =
    sym (sets-eq vs l n (rw (← e) h) ∙ rw (← e, append_assoc (take n l) vs (drop (n + k) l), ← drop-drop k n l))

-- four numbers stored at n
module _ (l vs : List ℕ) (n : ℕ) (e : length vs ≡ 4) (h : n + 4 ≤ length l) where
  stored : sets l n vs ≡ (take n l ++ vs) ++ drop (n + 4) l
  stored =
      let w : n + length vs ≤ length l = rw e h in
      sets-eq vs l n w ∙ rw e

  front_size : length (take n l ++ vs) ≡ n + 4
  front_size = length-append (take n l) vs ∙ rw (length-take-le n l (omega arith), e)

  stored_front : take (n + 4) (sets l n vs) ≡ take n l ++ vs
  stored_front = ap (take (n + 4)) stored ∙ take_at (take n l ++ vs) (drop (n + 4) l) (n + 4) front_size

  stored_behind : drop (n + 4) (sets l n vs) ≡ drop (n + 4) l
  stored_behind = ap (drop (n + 4)) stored ∙ drop_at (take n l ++ vs) (drop (n + 4) l) (n + 4) front_size

-- before the level `level`, with the cells from first to last
pub record At (ss : List ℕ) (coarse : ℕ) (before : List ℕ) (level first last : ℕ) (counts : List ℕ) : Type 0 where
  pub rising : first ≤ last
  pub number : level + level_number (12 - level) first last ss ≡ level_number 12 0 coarse ss
  pub ends : level_end (12 - level) first last ss ≡ level_end 12 0 coarse ss
  pub size : length counts ≡ length before
  pub front : take (4 * level) counts ++ level_counts (12 - level) first last ss ≡ level_counts 12 0 coarse ss
  pub behind : drop (4 * level) counts ≡ drop (4 * level) before

pub at_first : (ss : List ℕ) (coarse : ℕ) (before : List ℕ) → At ss coarse before 0 0 coarse before
at_first ss coarse before = record { rising = omega arith; number = omega arith; ends = refl; size = refl; front = refl; behind = refl }

module _ {ss : List ℕ} {coarse : ℕ} {before : List ℕ} (g : Levels ss coarse) where
  module _ {level first last : ℕ} {counts : List ℕ} (a : At ss coarse before level first last counts) where
    pub few_levels : level ≤ 11
    few_levels = omega (arith, a.number, g.few)

    pub last_inside : last ≤ length ss
    last_inside =
        let k : 12 - level ≡ suc (11 - level) = omega (arith, few_levels) in
        let w : level_end (suc (11 - level)) first last ss ≡ length ss = rw k at a.ends ∙ g.whole in
        omega (arith, last_below (11 - level) first last ss a.rising, w)

  module _ (room : full_counts ≤ length before) {level first last : ℕ} {counts : List ℕ} (a : At ss coarse before level first last counts)
      (h : first < last) where
    fuel : 12 - level ≡ suc (12 - (level + 1))
    fuel = omega (arith, few_levels a)

    number_left : level_number (12 - level) first last ss ≡ suc (level_number (12 - (level + 1)) last (next_end first last ss) ss)
    number_left = rw fuel (number_more (12 - (level + 1)) first last ss h)

    pub room_here : 4 * level + 4 ≤ length counts
    room_here = omega (arith, a.size, a.number, number_left, g.few)

    pub at_next : (t after : List ℕ) → t ≡ counts_at first last ss → after ≡ sets counts (4 * level) t
        → At ss coarse before (level + 1) last (next_end first last ss) after
    at_next t after p q =
        let m : 4 * (level + 1) ≡ 4 * level + 4 = omega arith in
        let e : level_end (12 - level) first last ss ≡ level_end (12 - (level + 1)) last (next_end first last ss) ss =
        rw fuel (end_more (12 - (level + 1)) first last ss h) in
        let c : level_counts (12 - level) first last ss ≡ counts_at first last ss ++ level_counts (12 - (level + 1)) last
        (next_end first last ss) ss =
        rw fuel (counts_more (12 - (level + 1)) first last ss h) in
        let four : length t ≡ 4 = ap length p ∙ length-counts first last ss in
        record {
          rising = next_after first last ss;
          number = omega (arith, a.number, number_left);
          ends = sym e ∙ a.ends;
          size = ap length q ∙ length-sets counts (4 * level) t ∙ a.size;
          front =
              rw (q, m, stored_front counts t (4 * level) four room_here, append_assoc, p)
              (ap (λ (l : List ℕ). take (4 * level) counts ++ l) (sym c) ∙ a.front);
          behind = rw (q, m, stored_behind counts t (4 * level) four room_here) (later (4 * level) a.behind);
        }
      where
        later : (k : ℕ) → drop k counts ≡ drop k before → drop (k + 4) counts ≡ drop (k + 4) before
        later k e = sym (drop-drop 4 k counts) ∙ ap (drop 4) e ∙ drop-drop 4 k before

    pub next_inside : next_end first last ss ≤ length ss
    next_inside =
        let t = counts_at first last ss in
        last_inside (at_next t (sets counts (4 * level) t) refl refl)

-- where no level is left
module _ {ss : List ℕ} {coarse : ℕ} {before : List ℕ} {level first last : ℕ} {counts : List ℕ}
    (a : At ss coarse before level first last counts) (h : last ≤ first) where
  pub at_number : level ≡ level_number 12 0 coarse ss
  at_number = omega (arith, a.number, number_none (12 - level) first last ss h)

  pub at_end_lem : counts ≡ level_counts 12 0 coarse ss ++ drop (4 * level) before
  at_end_lem =
      let w : take (4 * level) counts ≡ level_counts 12 0 coarse ss =
      sym (rw (counts_none (12 - level) first last ss h) (append-nil (take (4 * level) counts))) ∙ a.front in
      sym (take-append-drop (4 * level) counts) ∙ rw (w, a.behind)
