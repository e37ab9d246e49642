-- A level above 10 arises where a cell of level 10 will be red, and nowhere else.
-- Laws: any_true_at and none_at (a test on a list), flags_at_lem (the flags of a level), nothing_above and some_above (the level above one
-- without, and with, a cell that will be red), grow_some (no level is empty), step_height (the levels of the step's table), deep
-- (the theorem).
use Rattle.std.specs.Prelude.{◌≡◌, ◌≢◌, ◌⊎◌, ◌||◌, not, T, leb, drop}
use Rattle.std.proofs.Math.Path.{refl, ap}
use Rattle.std.proofs.Common.{sym, ◌∙◌, inl, inr, le-leb}
use Rattle.std.proofs.Math.Bool.{Bool, true, false}
use mathlib.Core.List.{List, [], ◌∷◌}
use Prim.Native.Nat.{ℕ, zero, suc, ◌+◌, ◌≤◌, ◌<◌}
use Rattle.std.proofs.Math.Decide.{dec_lt}
use native.Mathlib.Omega.{arith}
use Rattle.std.proofs.Math.ListN.{length, get_or, length-map, get_or-eq_default}
use Rattle.std.proofs.lemmas.Bool.{lt-leb}
use Rattle.base.specs.Lists.{anyb}
use Rattle.base.specs.Bools.{either, not_both}
use Rattle.cutting.specs.Rule.{family}
use Rattle.mesh.specs.Cells.{Cell, redb, pattern_of}
use Rattle.mesh.specs.Weights.{Point, coarse_cells}
use Rattle.mesh.specs.Table.{Level, next, levels_of, soundb}
use Rattle.mesh.specs.Step.{Row, rows, rows_from, rows_up, edges_up, new_redb, new_reds, step_table}
use Rattle.base.specs.Every.{get_d_map}
use Rattle.families.specs.Kuhn.{family_red}
use Rattle.lattice.specs.Levels.{no_level}
use Rattle.numbering.specs.Leaves.{leaf_next}
use Rattle.lineage.specs.Olds.{flag_of, flags_of, flags, flag_table, up_to, olds_next, statuses_by, step_by}
use Rattle.lineage.specs.Born.{born_below}
use Rattle.lineage.specs.Same.{Old, both_more}
use Rattle.lineage.specs.Levels.{grow_levels, new_levels, grow_statuses}
use Rattle.lineage.specs.Flags.{no_row, new_red_at, flag_red, flag_none, length-rows, rows_at}
use Rattle.lineage.specs.Step.{Dark, no_reds, step_by_lem}
use Rattle.lineage.specs.Met.{old_at, old_above, new_at, new_next, flagged, traced, new_known}
use Rattle.lineage.specs.Stays.{Stays, stays}

-- a test on a list
module _ {A : Type 0} (d : A) (f : A → Bool) where
  any_true_at : (l : List A) → anyb f l ≡ true → (t : ℕ) × (t < length l) × (f (get_or l t d) ≡ true)
  unfolding anyb
  any_true_at [] e = not_both false e refl
  any_true_at (x ∷ l) e = go (f x) refl e (any_true_at l)
    where
      go : (b : Bool) → f x ≡ b → (b || anyb f l) ≡ true → (anyb f l ≡ true → (t : ℕ) × (t < length l) × (f (get_or l t d) ≡ true))
          → (t : ℕ) × (t < length (x ∷ l)) × (f (get_or (x ∷ l) t d) ≡ true)
      go true q e i = (0, omega arith, q)
      go false q e i = let (t, h, p) = i e in (suc t, omega arith, p)

  none_at : (l : List A) → anyb f l ≡ false → (t : ℕ) → t < length l → f (get_or l t d) ≡ false
  unfolding anyb
  none_at [] e t h = absurd (omega arith)
  none_at (x ∷ l) e t h = go (f x) refl e (none_at l) t h
    where
      go : (b : Bool) → f x ≡ b → (b || anyb f l) ≡ false → (anyb f l ≡ false → (t : ℕ) → t < length l → f (get_or l t d) ≡ false)
          → (t : ℕ) → t < length (x ∷ l) → f (get_or (x ∷ l) t d) ≡ false
      go true q e i t h = not_both true refl e
      go false q e i zero h = q
      go false q e i (suc t) h = i e t (omega arith)

-- the flags of a level
flags_none : (ms : List ℕ) → flags_of [] ms (rows no_level ms) ≡ []
unfolding flags_of rows rows_from
flags_none ms = refl

flags_at_lem : (ls : List Level) (ms : List ℕ) (j : ℕ) → get_or (flags ls ms) j [] ≡ flags_of (drop (suc j) ls) ms
    (rows (get_or ls j no_level) ms)
unfolding flags
flags_at_lem [] ms j = sym (flags_none ms)
flags_at_lem (l ∷ ls) ms zero = refl
flags_at_lem (l ∷ ls) ms (suc j) = flags_at_lem ls ms j

-- a red cell has children
pub red_some : 0 < length (family (pattern_of 64))
unfolding pattern_of
red_some = rw family_red (omega arith)

module _ (n : ℕ) (qs : List (List ℕ)) (ss ms : List ℕ) (s : T (soundb n qs ss)) (j : ℕ) where
  abbrev here : List ℕ
  here = get_or (flags (levels_of n qs ss) ms) j []

  flags_many : length here ≡ length (old_at n qs ss j).cells
  unfolding flags_of
  flags_many =
      ap length (flags_at_lem (levels_of n qs ss) ms j) ∙ length-map (rows (old_at n qs ss j) ms) _
      ∙ length-rows (old_at n qs ss j) ms (flagged n qs ss ms s j).known

  flags_red : (t : ℕ) → t < length (old_at n qs ss j).cells → redb (get_or here t 0) ≡ new_red_at ms (old_above n qs ss j) (old_at n qs ss j) t
  unfolding flags_of
  flags_red t h =
      let known = (flagged n qs ss ms s j).known in
      let f : Row → Bool = new_redb (rows_up (old_above n qs ss j) ms) (edges_up (new_reds (old_above n qs ss j) ms)) in
      ap redb
      (ap (λ (x : List ℕ). get_or x t 0) (flags_at_lem (levels_of n qs ss) ms j)
      ∙ get_d_map (λ r. flag_of (f r)) (rows (old_at n qs ss j) ms) t no_row 0 (rw (length-rows (old_at n qs ss j) ms known) h)
      ∙ ap (λ (r : Row). flag_of (f r)) (rows_at (old_at n qs ss j) ms known t h))
      ∙ flag_red (new_red_at ms (old_above n qs ss j) (old_at n qs ss j) t)

  -- no flag: nothing above
  dark : anyb redb here ≡ false → (c : Cell Point) (o : ℕ) → Old (old_at n qs ss j) c o → Dark (flag_table n qs ss ms) c o
  dark e c o (inl (t, p, r, is)) =
      ap redb (ap (λ (x : ℕ). get_or (flag_table n qs ss ms) x 0) p ∙ (flagged n qs ss ms s j).flag t is.below)
      ∙ flag_red (new_red_at ms (old_above n qs ss j) (old_at n qs ss j) t) ∙ sym (flags_red t is.below)
      ∙ none_at 0 redb here e t (rw flags_many is.below)
  dark e c o (inr (p, f)) = ap redb (ap (λ (x : ℕ). get_or (flag_table n qs ss ms) x 0) p
      ∙ flag_none (flag_table n qs ss ms) (flagged n qs ss ms s j).small)

  nothing_above : suc j < 12 → anyb redb here ≡ false → (new_at n qs ss ms (suc j)).cells ≡ []
  nothing_above g e =
      let x = traced n qs ss ms s j in
      let l' = new_at n qs ss ms j in
      let fs = flag_table n qs ss ms in
      new_next n qs ss ms j g ∙ ap (next l'.first l'.cells) x.statuses
      ∙ leaf_next l'.first l'.cells (statuses_by fs l'.cells x.os)
      (no_reds fs l'.cells x.os (both_more (Old (old_at n qs ss j)) (Dark fs) (dark e) l'.cells x.os x.olds))

  -- a flag: a red cell, and its children
  some_above : suc j < 12 → anyb redb here ≡ true → 0 < length (new_at n qs ss ms (suc j)).cells
  some_above g e =
      let (t, h, p) = any_true_at 0 redb here e in
      let h' : t < length (old_at n qs ss j).cells = rw flags_many at h in
      let w : Stays n qs ss ms j t = stays n qs ss ms s j t (omega arith) h' (sym (flags_red t h') ∙ p) in
      let l' = new_at n qs ss ms j in
      let nz : get_or l'.statuses w.i 0 ≢ 0 = (λ z. omega (arith, w.status, z)) in
      let fam : 0 < length (family (pattern_of (get_or l'.statuses w.i 0))) = rw w.status red_some in
      omega (
        arith,
        ap length (new_next n qs ss ms j g),
        born_below l'.first l'.cells l'.statuses w.i 0 w.below (omega (arith, new_known n qs ss ms s j, w.below)) nz fam,
      )

-- the levels of the step's table
pub grow_some : (m : ℕ) (ss fs : List ℕ) (h k : ℕ) (cs : List (Cell Point)) (os : List ℕ) (j : ℕ)
    → j < length (grow_levels m ss fs h k cs os)
    → 0 < length (get_or (grow_levels m ss fs h k cs os) j no_level).cells
unfolding grow_levels
grow_some m ss fs zero k cs os j h = absurd (omega arith)
grow_some m ss fs (suc i) k [] os j h = absurd (omega arith)
grow_some m ss fs (suc i) k (c ∷ cs) os zero h = omega arith
grow_some m ss fs (suc i) k (c ∷ cs) os (suc j) h =
    let ts = statuses_by fs (c ∷ cs) os in
    grow_some m ss fs i (k + length (c ∷ cs)) (next k (c ∷ cs) ts) (olds_next m ss ts os) j (omega arith)

module _ (n : ℕ) (qs : List (List ℕ)) (ss ms : List ℕ) where
  step-length : length (step_by n qs ss ms) ≡ length (new_levels n qs ss ms)
  unfolding step_by
  step-length =
      ap length (sym (grow_statuses (length qs) ss (flag_table n qs ss ms) 12 0 (coarse_cells n qs) (up_to (length qs))))
      ∙ length-map (new_levels n qs ss ms) (λ l. l.statuses)

  module _ (s : T (soundb n qs ss)) where
    step_height : length (step_table n qs ss ms) ≡ length (new_levels n qs ss ms)
    step_height = ap length (step_by_lem n qs ss ms s) ∙ step-length

    pub deep : leb (length (step_table n qs ss ms)) 11 ≡ not (anyb redb (get_or (flags (levels_of n qs ss) ms) 10 []))
    deep = go (either (anyb redb (get_or (flags (levels_of n qs ss) ms) 10 [])))
      where
        go : (anyb redb (get_or (flags (levels_of n qs ss) ms) 10 []) ≡ true) ⊎ (anyb redb (get_or (flags (levels_of n qs ss) ms) 10 []) ≡ false)
            → leb (length (step_table n qs ss ms)) 11 ≡ not (anyb redb (get_or (flags (levels_of n qs ss) ms) 10 []))
        go (inl e) =
            let some : 0 < length (new_at n qs ss ms 11).cells = some_above n qs ss ms s 10 (omega arith) e in
            let high : 11 < length (new_levels n qs ss ms) = elim (dec_lt 11 (length (new_levels n qs ss ms))) [
              | yes u ↦ u
              | no u ↦
                  let few : length (new_levels n qs ss ms) ≤ 11 = omega arith in
                  absurd (omega (arith, ap (λ (l : Level). length l.cells) (get_or-eq_default (new_levels n qs ss ms) no_level few)))
            ] in
            rw e (lt-leb (length (step_table n qs ss ms)) 11 (omega (arith, step_height)))
        go (inr e) =
            let none : (new_at n qs ss ms 11).cells ≡ [] = nothing_above n qs ss ms s 10 (omega arith) e in
            let low : length (new_levels n qs ss ms) ≤ 11 = elim (dec_lt 11 (length (new_levels n qs ss ms))) [
              | yes u ↦
                  absurd (omega (
                    arith,
                    ap length none,
                    grow_some (length qs) ss (flag_table n qs ss ms) 12 0 (coarse_cells n qs)
                        (up_to (length qs)) 11 u,
                  ))
              | no u ↦ omega arith
            ] in
            rw e (le-leb (length (step_table n qs ss ms)) 11 (omega (arith, step_height)))
