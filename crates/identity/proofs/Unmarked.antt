-- A step without marks on a sound table gives the same table; so for the step by old numbers (unmarked_by).
use Rattle.std.specs.Prelude.{◌≡◌, Bool, true, false, ◌&&◌, ℕ, zero, suc, ◌+◌, ◌≤◌, ◌<◌, T, eqb, get_or, drop}
use Rattle.std.proofs.Math.Path.{refl, ap}
use Rattle.std.proofs.Common.{sym, ◌∙◌, arith, ext_get_or}
use mathlib.Core.List.{List, [], ◌∷◌, ◌++◌, map, map-append, flat_map, append_assoc, flatten}
use Rattle.std.proofs.Math.Dec.{leb, eqb→eq, leb→le}
use Rattle.std.proofs.Math.ListN.{length, take}
use Rattle.std.proofs.Math.Seq.{take-length}
use Rattle.base.specs.Limits.{most_cells, most_levels}
use Rattle.base.specs.Lists.{allb, sameb}
use Rattle.base.specs.Bools.{and_left, and_right}
use Rattle.mesh.specs.Cells.{Cell, redb, edges, red_edges, closed_from}
use Rattle.mesh.specs.Weights.{Point, coarse_from, coarse_cells}
use Rattle.mesh.specs.Table.{Level, next, levels, levels_of, cells_of, closedb, apartb, soundb, sizes}
use Rattle.rows.specs.Many.{closed_many}
use Rattle.lattice.specs.Levels.{sound_levels}
use Rattle.lineage.specs.Olds.{flag_of, flag_table, up_to, step_by}
use Rattle.lineage.specs.Paths.{length_upto, upto_at}
use Rattle.lineage.specs.Step.{step_by_lem}
use Rattle.mesh.specs.Step.{step_table}
use Rattle.mesh.specs.Laws.{length-coarse}
use Rattle.identity.specs.Again.{or_none, own_olds, flags_in, status_lists, grow_own, length-own_olds}
use Rattle.identity.specs.Flags.{Unmarked, red_levels, Within}
use Rattle.identity.proofs.Flags.{flags_own}
use Rattle.identity.specs.Unmarked.{statuses_all}

-- the coarse cells have their own numbers
coarse_own : (n i : ℕ) (qs : List (List ℕ)) (k j : ℕ) → j < length qs → get_or (own_olds k (coarse_from n i qs)) j 0 ≡ k + j
unfolding coarse_from own_olds or_none
coarse_own n i [] k j h = absurd (omega arith)
coarse_own n i (q ∷ qs) k zero h = omega arith
coarse_own n i (q ∷ qs) k (suc j) h = coarse_own n (suc i) qs (suc k) j (omega arith) ∙ omega arith

start_own : (n : ℕ) (qs : List (List ℕ)) → up_to (length qs) ≡ own_olds 0 (coarse_cells n qs)
unfolding coarse_cells
start_own n qs =
    ext_get_or 0 (up_to (length qs)) (own_olds 0 (coarse_cells n qs))
    (length_upto (length qs) ∙ sym (length-own_olds 0 (coarse_cells n qs) ∙ length-coarse n qs))
    (λ j h.
    let l : j < length qs = omega (arith, length_upto (length qs)) in
    let b : get_or (own_olds 0 (coarse_cells n qs)) j 0 ≡ 0 + j = coarse_own n 0 qs 0 j l in
    omega (arith, upto_at (length qs) j l))

-- the red edges of all levels are those of the table
red_append : (cs ds : List (Cell Point)) (ss ts : List ℕ) → length cs ≡ length ss → red_edges [] (cs ++ ds) (ss ++ ts) ≡ red_edges [] cs ss
    ++ red_edges [] ds ts
unfolding red_edges
red_append [] ds [] ts e = refl
red_append [] ds (s ∷ ss) ts e = absurd (omega arith)
red_append (c ∷ cs) ds [] ts e = absurd (omega arith)
red_append (c ∷ cs) ds (s ∷ ss) ts e = go (redb s) refl (red_append cs ds ss ts (omega arith))
  where
    go : (b : Bool) → redb s ≡ b → red_edges [] (cs ++ ds) (ss ++ ts) ≡ red_edges [] cs ss ++ red_edges [] ds ts
        → red_edges [] (c ∷ (cs ++ ds)) (s ∷ (ss ++ ts)) ≡ red_edges [] (c ∷ cs) (s ∷ ss) ++ red_edges [] ds ts
    go true e i = rw (e, red_edges) (ap (λ (l : List (Point × Point)). edges [] c ++ l) i
        ∙ sym (append_assoc (edges [] c) (red_edges [] cs ss) (red_edges [] ds ts)))
    go false e i = rw (e, red_edges) i

reds_all : (h k : ℕ) (cs : List (Cell Point)) (rest : List ℕ) → T (allb closedb (levels h k cs rest))
    → red_levels (levels h k cs rest) ≡ red_edges [] (cells_of (levels h k cs rest)) (flatten (status_lists (levels h k cs rest)))
unfolding levels allb closedb cells_of flat_map flatten red_edges
reds_all zero k cs rest u = refl
reds_all (suc h) k [] rest u = refl
reds_all (suc h) k (c ∷ cs) rest u =
    let cs' = c ∷ cs in
    let ts = take (length cs') rest in
    let l : Level = record { first = k; cells = cs'; statuses = ts } in
    let ls : List Level = levels h (k + length cs') (next k cs' ts) (drop (length cs') rest) in
    let v : T (closed_from [] sameb (red_edges [] cs' ts) cs' ts) = and_left (closedb l) (allb closedb ls) u in
    let i : red_levels ls ≡ red_edges [] (cells_of ls) (flatten (status_lists ls)) = reds_all h (k + length cs') (next k cs' ts)
    (drop (length cs') rest) (and_right (closedb l) (allb closedb ls) u) in
    ap (λ (x : List (Point × Point)). red_edges [] cs' ts ++ x) i
    ∙ sym (red_append cs' (cells_of ls) ts (flatten (status_lists ls)) (sym (closed_many (red_edges [] cs' ts) cs' ts v)))

flags_concat : (ls : List Level) → flatten (map (λ (l : Level). flags_in l.statuses) ls) ≡ flags_in (flatten (status_lists ls))
unfolding flat_map flatten
flags_concat [] = refl
flags_concat (l ∷ ls) =
    ap (λ (x : List ℕ). flags_in l.statuses ++ x) (flags_concat ls)
    ∙ sym (map-append (λ s. flag_of (redb s)) l.statuses (flatten (status_lists ls)))

module _ (n : ℕ) (qs : List (List ℕ)) (ss ms : List ℕ) (sound : T (soundb n qs ss)) (none : Unmarked ms) where
  ls : List Level
  ls = levels_of n qs ss

  cs : List (Cell Point)
  cs = cells_of ls

  counted : length ss ≡ length cs
  unfolding soundb ls cs
  counted =
      eqb→eq (length ss) (length cs) (and_left (eqb (length ss) (length cs)) (leb (length ls) most_levels && leb (length cs) most_cells)
      (and_left (eqb (length ss) (length cs) && (leb (length ls) most_levels && leb (length cs) most_cells))
      (allb closedb ls && apartb cs ss) sound))

  few : length cs ≤ most_cells
  unfolding soundb ls cs
  few =
      leb→le (length cs) most_cells (and_right (leb (length ls) most_levels) (leb (length cs) most_cells)
      (and_right (eqb (length ss) (length cs)) (leb (length ls) most_levels && leb (length cs) most_cells)
      (and_left (eqb (length ss) (length cs) && (leb (length ls) most_levels && leb (length cs) most_cells))
      (allb closedb ls && apartb cs ss) sound)))

  apart : T (apartb cs ss)
  unfolding soundb ls cs
  apart =
      and_right (allb closedb ls) (apartb cs ss) (and_right (eqb (length ss) (length cs)
      && (leb (length ls) most_levels && leb (length cs) most_cells))
      (allb closedb ls && apartb cs ss) sound)

  closed : T (allb closedb ls)
  unfolding ls
  closed = (sound_levels n qs ss sound).1

  table_is : flatten (status_lists ls) ≡ ss
  unfolding ls cs levels_of
  table_is =
      statuses_all 12 0 (coarse_cells n qs) ss closed ∙ ap (λ (x : ℕ). take x ss) (sym counted) ∙ take-length ss

  flags_are : flag_table n qs ss ms ≡ flags_in ss
  unfolding flag_table ls cs levels_of apartb
  flags_are =
      let low : length ls ≤ most_levels = (sound_levels n qs ss sound).0 in
      let reds : Within (red_levels ls) (red_edges [] cs ss) = λ e t. rw (reds_all 12 0 (coarse_cells n qs) ss closed, table_is) at t in
      ap flatten (flags_own ms none cs (red_edges [] cs ss) apart 12 0 (coarse_cells n qs) ss [] refl refl (omega arith) closed reds)
      ∙ flags_concat ls ∙ ap flags_in table_is

  unmarked_by : flatten (step_by n qs ss ms) ≡ ss
  unfolding step_by ls levels_of sizes
  unmarked_by =
      let small : length ss ≤ 65535 = omega (arith, counted, few) in
      let m : length qs + sizes [] ≡ 0 + length (coarse_cells n qs) = omega (arith, length-coarse n qs) in
      rw (flags_are, start_own n qs) (ap flatten (grow_own (length qs) ss small 12 0 [] ss (coarse_cells n qs) refl refl m closed)
      ∙ table_is)

  -- Rule 7.10: without marks the table stays
  pub unmarked : flatten (step_table n qs ss ms) ≡ ss
  unmarked = ap flatten (step_by_lem n qs ss ms sound) ∙ unmarked_by
