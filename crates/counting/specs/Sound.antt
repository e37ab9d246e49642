-- A sound table has what the counting call requires: its levels are closed, so that each status is one that the rule gives, and
-- they end where the table does.
-- Assumes nothing.
use Rattle.std.specs.Prelude.{◌≡◌, refl, Bool, true, false, ◌&&◌, ℕ, zero, suc, ◌+◌, ◌≤◌, T, eqb, leb, length, take, drop}
use Rattle.std.proofs.Common.{sym, ◌∙◌, ap, subst, arith, eqb→eq, leb→le, length-append, length-drop, take-append-drop, le-leb}
use mathlib.Core.List.{List, [], ◌∷◌, ◌++◌, flat_map}
use Rattle.base.specs.Limits.{most_cells, most_levels}
use Rattle.base.specs.Lists.{allb, sameb}
use Rattle.base.specs.Bools.{and_left, and_right}
use Rattle.mesh.specs.Cells.{Cell, redb, pattern, status_of, red_edges, closed_from}
use Rattle.mesh.specs.Weights.{Point, coarse_cells}
use Rattle.mesh.specs.Table.{Level, next, levels, levels_of, cells_of, closedb, apartb, soundb}
use Rattle.mesh.specs.Laws.{pattern_small}
use Rattle.counting.specs.Levels.{Levels}
use Rattle.counting.specs.Whole.{number_right, end_right}

-- a status that the rule gives is at most 64
pattern_few : (es : List (Point × Point)) (c : Cell Point) → pattern [] sameb es c ≤ 63
pattern_few es c = omega (arith, pattern_small [] sameb es c)

status_few : (es : List (Point × Point)) (r : Bool) (c : Cell Point) → status_of [] sameb es r c ≤ 64
unfolding status_of
status_few es r c = go c.regular refl r refl
  where
    go : (b : Bool) → c.regular ≡ b → (d : Bool) → r ≡ d → status_of [] sameb es r c ≤ 64
    go true p true q = rw (p, q, status_of) (omega arith)
    go true p false q = rw (p, q, status_of) (omega (arith, pattern_few es c))
    go false p d q = rw (p, status_of) (omega arith)

abbrev fit : List ℕ → Bool
fit ss = allb (λ s. leb s 64) ss

closed_fit : (es : List (Point × Point)) (cs : List (Cell Point)) (ss : List ℕ) → T (closed_from [] sameb es cs ss)
    → (fit ss ≡ true) × (length ss ≡ length cs)
unfolding closed_from allb
closed_fit es [] [] t = (refl, refl)
closed_fit es [] (s ∷ ss) t = absurd t
closed_fit es (c ∷ cs) [] t = absurd t
closed_fit es (c ∷ cs) (s ∷ ss) t =
    let right = status_of [] sameb es (redb s) c in
    let e : s ≡ right = eqb→eq s right (and_left (eqb s right) (closed_from [] sameb es cs ss) t) in
    let few : s ≤ 64 = rw e (status_few es (redb s) c) in
    let i = closed_fit es cs ss (and_right (eqb s right) (closed_from [] sameb es cs ss) t) in
    (rw (le-leb s 64 few) i.0, ap suc i.1)

fit_empty : (ss : List ℕ) → 0 ≡ length ss → fit ss ≡ true
unfolding allb
fit_empty [] e = refl
fit_empty (s ∷ ss) e = absurd (omega arith)

fit_append : (ss ts : List ℕ) → fit ss ≡ true → fit ts ≡ true → fit (ss ++ ts) ≡ true
unfolding allb
fit_append [] ts p q = q
fit_append (s ∷ ss) ts p q = go (leb s 64) p (λ r. fit_append ss ts r q)
  where
    go : (b : Bool) → (b && fit ss) ≡ true → (fit ss ≡ true → fit (ss ++ ts) ≡ true) → (b && fit (ss ++ ts)) ≡ true
    go true r f = f r
    go false r f = r

-- the statuses of closed levels that are the whole table
levels_fit : (f k : ℕ) (cs : List (Cell Point)) (ss : List ℕ) → T (allb closedb (levels f k cs ss))
    → length (cells_of (levels f k cs ss)) ≡ length ss → fit ss ≡ true
unfolding levels cells_of closedb flat_map allb
levels_fit zero k cs ss t e = fit_empty ss e
levels_fit (suc f) k [] ss t e = fit_empty ss e
levels_fit (suc f) k (c ∷ cs) ss t e =
    let m = length (c ∷ cs) in
    let front = take m ss in
    let up = levels f (k + m) (next k (c ∷ cs) front) (drop m ss) in
    let l : Level = record { first = k; cells = c ∷ cs; statuses = front } in
    let o = closed_fit (red_edges [] (c ∷ cs) front) (c ∷ cs) front (and_left (closedb l) (allb closedb up) t) in
    let w : length ((c ∷ cs) ++ cells_of up) ≡ m + length (cells_of up) = length-append (c ∷ cs) (cells_of up) in
    let v : length (cells_of up) ≡ length (drop m ss) = omega (arith, e, w, length-drop m ss) in
    subst (λ (l : List ℕ). fit l ≡ true) (take-append-drop m ss)
    (fit_append front (drop m ss) o.0
    (levels_fit f (k + m) (next k (c ∷ cs) front) (drop m ss) (and_right (closedb l) (allb closedb up) t) v))

-- what soundness is made of
parts : (a b c d e : Bool) → T ((a && (b && c)) && (d && e)) → T a × T b × T c × T d
parts a b c d e t = search (and_left, and_right)

pub sound_counted : (n : ℕ) (qs : List (List ℕ)) (ss : List ℕ) → soundb n qs ss ≡ true → Levels ss (length qs)
unfolding soundb levels_of
sound_counted n qs ss t =
    let ls = levels_of n qs ss in
    let cs = cells_of ls in
    let m = length cs in
    let (a, b, c, d) = parts (eqb (length ss) m) (leb (length ls) most_levels) (leb m most_cells) (allb closedb ls) (apartb cs ss)
    (rw t tt) in
    let e : length ss ≡ m = eqb→eq (length ss) m a in
    let few : length ls ≤ most_levels = leb→le (length ls) most_levels b in
    let small : m ≤ most_cells = leb→le m most_cells c in
    record {
      statuses = levels_fit 12 0 (coarse_cells n qs) ss d (sym e);
      small = omega arith;
      few = omega (arith, number_right n qs ss);
      whole = sym (end_right n qs ss) ∙ sym e;
    }
