-- The steps of a job in turn.
--   Turn ..   the steps before g are done, and the rest comes to what the whole comes to
-- Assumes nothing.
use mathlib.Core.Path.{◌≡◌, refl, sym, ◌∙◌, ap}
use mathlib.Core.Bool.{Bool, true, false, ◌&&◌, and-false}
use mathlib.Core.List.{List, [], ◌∷◌}
use Prim.Native.Nat.{ℕ, zero, suc, ◌+◌, ◌≤◌, ◌<◌}
use native.Mathlib.Omega.{arith}
use lib.Dec.{leb}
use lib.ListN.{length, get_or, take, drop, drop_of_length-le}
use lib.Seq.{drop-cons}
use borrow.Author.Tests.{le-leb, lt-leb, eq-eqb, ne_eqb}
use Rattle.base.specs.Fours.{fours}
use Rattle.base.specs.Refuse.{refuse, and_then}
use Rattle.base.specs.Answer.{Answer, Accepted, Refused}
use Rattle.mesh.specs.Table.{levels_of}
use Rattle.archive.specs.Tables.{pairs, steps_from}
use Rattle.replay.specs.Run.{one_answer, one_table, run_table, flat_answer}
use Rattle.replay.specs.Going.{ReplayGoing, Came, marks_part, next_answer}

-- marks of a part
no_pairs : (cs : List ℕ) → pairs cs [] ≡ []
unfolding pairs
no_pairs [] = refl
no_pairs (c ∷ cs) = refl

pairs-drop : (p : ℕ) (cs ms : List ℕ) → pairs (drop p cs) (drop p ms) ≡ drop p (pairs cs ms)
unfolding pairs
pairs-drop zero cs ms = refl
pairs-drop (suc p) [] ms = refl
pairs-drop (suc p) (c ∷ cs) [] = no_pairs (drop p cs)
pairs-drop (suc p) (c ∷ cs) (m ∷ ms) = pairs-drop p cs ms

pairs-take : (j : ℕ) (cs ms : List ℕ) → pairs (take j cs) (take j ms) ≡ take j (pairs cs ms)
unfolding pairs
pairs-take zero cs ms = refl
pairs-take (suc j) [] ms = refl
pairs-take (suc j) (c ∷ cs) [] = refl
pairs-take (suc j) (c ∷ cs) (m ∷ ms) = ap (λ (t : List (ℕ × ℕ)). (c, m) ∷ t) (pairs-take j cs ms)

pub pairs_part : (j p : ℕ) (cs ms : List ℕ) → pairs (take j (drop p cs)) (take j (drop p ms)) ≡ take j (drop p (pairs cs ms))
pairs_part j p cs ms = pairs-take j (drop p cs) (drop p ms) ∙ ap (take j) (pairs-drop p cs ms)

-- the next step
module _ (n : ℕ) (qs : List (List ℕ)) (old : List ℕ) (p e : ℕ) (ms : List (ℕ × ℕ)) where
  pub next_back : e < p → next_answer n qs old p e ms ≡ Refused 7
  unfolding next_answer refuse
  next_back h = rw (lt-leb p e h)

  pub next_behind : length ms < e → next_answer n qs old p e ms ≡ Refused 7
  unfolding next_answer refuse
  next_behind h = rw (lt-leb e (length ms) h, and-false (leb p e))

  pub next_moved : p ≤ e → e ≤ length ms → (m : List (ℕ × ℕ)) → m ≡ marks_part p e ms → next_answer n qs old p e ms ≡ one_answer n qs old m
  unfolding next_answer refuse
  next_moved h g m q = rw (le-leb p e h, le-leb e (length ms) g, ← q)

refuse_then : (b : Bool) (x y : Answer) → refuse 7 b (and_then x y) ≡ and_then (refuse 7 b x) y
unfolding refuse and_then
refuse_then true x y = refl
refuse_then false x y = refl

-- the loop
pub record Turn (n : ℕ) (mesh old : List ℕ) (ms : List (ℕ × ℕ)) (es rows table : List ℕ) (cells levels p g : ℕ) : Type 0 where
  pub passed : g ≤ length es
  pub answer : flat_answer n (fours mesh) (take cells table) p ms (drop g es) ≡ flat_answer n (fours mesh) old 0 ms es
  pub table_is : run_table n (fours mesh) (take cells table) (steps_from p ms (drop g es)) ≡ run_table n (fours mesh) old (steps_from 0 ms es)
  pub going : ReplayGoing n mesh rows table cells
  pub high : length (levels_of n (fours mesh) (take cells table)) ≡ levels

module _ (n : ℕ) (mesh : List ℕ) (ms : List (ℕ × ℕ)) (es : List ℕ) where
  abbrev qs : List (List ℕ)
  qs = fours mesh

  pub turn_start : (rows table : List ℕ) (cells levels : ℕ) → ReplayGoing n mesh rows table cells
      → length (levels_of n qs (take cells table)) ≡ levels
      → Turn n mesh (take cells table) ms es rows table cells levels 0 0
  turn_start rows table cells levels h l = record { passed = omega arith; answer = refl; table_is = refl; going = h; high = l }

  module _ (old rows table : List ℕ) (cells levels p g : ℕ) (t : Turn n mesh old ms es rows table cells levels p g) where
    abbrev now : List ℕ
    now = take cells table

    -- one step more
    module _ (h : g < length es) where
      abbrev e : ℕ
      e = get_or es g 0

      ends : drop g es ≡ e ∷ drop (g + 1) es
      ends = let m : g + 1 ≡ suc g = omega arith in rw m (drop-cons es g 0 h)

      one_more : flat_answer n qs now p ms (drop g es) ≡ and_then (next_answer n qs now p e ms)
          (flat_answer n qs (one_table n qs now (marks_part p e ms)) e ms (drop (g + 1) es))
      unfolding flat_answer next_answer
      one_more =
          ap (flat_answer n qs now p ms) ends
          ∙ refuse_then (leb p e && leb e (length ms)) (one_answer n qs now (marks_part p e ms))
          (flat_answer n qs (one_table n qs now (marks_part p e ms)) e ms (drop (g + 1) es))

      pub turn_refused : (k : ℕ) → Refused k ≡ next_answer n qs now p e ms → Refused k ≡ flat_answer n qs old 0 ms es
      unfolding and_then
      turn_refused k a = sym (sym t.answer ∙ one_more ∙ rw (← a))

      pub turn_next : (rows' table' : List ℕ) (c l : ℕ) → Accepted ≡ next_answer n qs now p e ms
          → Came n mesh rows' table' c l (one_table n qs now (marks_part p e ms)) → Turn n mesh old ms es rows' table' c l e (g + 1)
      unfolding and_then steps_from run_table
      turn_next rows' table' c l a x =
          let s = x.table_is in
          record {
            passed = omega arith;
            answer = sym (sym t.answer ∙ one_more ∙ rw (← a, s));
            table_is = sym (sym t.table_is ∙ rw (ends, s));
            going = x.going;
            high = x.high;
          }

    -- the last one is done
    module _ (h : length es ≤ g) where
      none : drop g es ≡ []
      none = drop_of_length-le es h

      pub turn_left : (p ≡ length ms → ⊥) → Refused 7 ≡ flat_answer n qs old 0 ms es
      unfolding flat_answer refuse
      turn_left z = sym (sym t.answer ∙ rw (none, ne_eqb p (length ms) z))

      pub turn_end : p ≡ length ms → (Accepted ≡ flat_answer n qs old 0 ms es) × Came n mesh rows table cells levels (run_table n qs old (steps_from 0 ms es))
      unfolding flat_answer refuse steps_from run_table
      turn_end z = (
        sym (sym t.answer ∙ rw (none, eq-eqb p (length ms) z)),
        record { table_is = sym (sym t.table_is ∙ rw none); going = t.going; high = t.high },
      )
