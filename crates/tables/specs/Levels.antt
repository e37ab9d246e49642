-- A table's levels one after the other, as a program meets them.
-- Assumes nothing.
use Rattle.std.specs.Prelude.{◌≡◌, Bool, ◌&&◌, leb, take, drop}
use Rattle.std.proofs.Math.Path.{refl, sym, ap}
use Rattle.std.proofs.Common.{◌∙◌, ap₂}
use Rattle.std.proofs.Math.Bool.{true, false, and-false}
use mathlib.Core.List.{List, [], ◌∷◌, ◌++◌, flat_map, append_assoc, append-nil}
use Prim.Native.Nat.{ℕ, zero, suc, ◌+◌, ◌-◌, ◌≤◌, ◌<◌}
use native.Mathlib.Omega.{arith}
use Rattle.std.proofs.Math.Dec.{eqb}
use Rattle.std.proofs.Math.ListN.{length, length-append}
use Rattle.std.proofs.Math.Seq.{drop-drop}
use borrow.Author.Tests.{eq-eqb, ne_eqb, eqb-true, eqb-false, le-leb, lt-leb}
use Rattle.base.specs.Limits.{most_cells, most_levels}
use Rattle.base.specs.Lists.{allb, sameb}
use Rattle.mesh.specs.Cells.{Cell, closed_from, red_edges}
use Rattle.mesh.specs.Weights.{Point, coarse_cells}
use Rattle.mesh.specs.Table.{Level, next, levels, levels_of, cells_of, closedb, apartb, soundb, sizes}
use Rattle.rows.specs.Numbered.{part}
use Rattle.rows.specs.Many.{length-next}
use Rattle.rows.specs.Laws.{length_part}

-- a level, and the levels above it
module _ (k : ℕ) (cs : List (Cell Point)) (ss : List ℕ) where
  abbrev own : List ℕ
  own = take (length cs) ss

  abbrev level : Level
  level = record { first = k; cells = cs; statuses = own }

  abbrev above : ℕ → List Level
  above m = levels m (k + length cs) (next k cs own) (drop (length cs) ss)

levels_step : (m k : ℕ) (cs : List (Cell Point)) (ss : List ℕ) → 0 < length cs → levels (suc m) k cs ss ≡ level k cs ss ∷ above k cs ss
    m
unfolding levels
levels_step m k [] ss h = absurd (omega arith)
levels_step m k (c ∷ cs) ss h = refl

levels_none : (m k : ℕ) (cs : List (Cell Point)) (ss : List ℕ) → length cs ≡ 0 → levels m k cs ss ≡ []
unfolding levels
levels_none zero k cs ss h = refl
levels_none (suc m) k [] ss h = refl
levels_none (suc m) k (c ∷ cs) ss h = absurd (omega arith)

cells_append : (ls ms : List Level) → cells_of (ls ++ ms) ≡ cells_of ls ++ cells_of ms
unfolding cells_of flat_map
cells_append [] ms = refl
cells_append (l ∷ ls) ms = rw (cells_append ls ms) (sym (append_assoc l.cells (cells_of ls) (cells_of ms)))

cells_one : (l : Level) (ms : List Level) → cells_of (l ∷ ms) ≡ l.cells ++ cells_of ms
unfolding cells_of flat_map
cells_one l ms = refl

allb_both : {A : Type 0} (f : A → Bool) (l m : List A) → allb f (l ++ m) ≡ (allb f l && allb f m)
unfolding allb
allb_both f [] m = refl
allb_both f (x ∷ l) m = go (f x) (allb_both f l m)
  where
    go : (b : Bool) → allb f (l ++ m) ≡ (allb f l && allb f m) → (b && allb f (l ++ m)) ≡ ((b && allb f l) && allb f m)
    go true i = i
    go false i = refl

-- The ways a table fails.
module _ (n : ℕ) (qs : List (List ℕ)) (ss : List ℕ) where
  abbrev ls : List Level
  ls = levels_of n qs ss

  abbrev cs : List (Cell Point)
  cs = cells_of (levels_of n qs ss)

  whole : soundb n qs ss ≡ ((eqb (length ss) (length cs) && (leb (length ls) most_levels && leb (length cs) most_cells))
      && (allb closedb ls && apartb cs ss))
  unfolding soundb
  whole = refl

  unsound_closed : allb closedb ls ≡ false → soundb n qs ss ≡ false
  unsound_closed e = whole ∙ rw e (and-false (eqb (length ss) (length cs) && (leb (length ls) most_levels && leb (length cs) most_cells)))

  unsound_count : (length ss ≡ length cs → ⊥) → soundb n qs ss ≡ false
  unsound_count h = whole ∙ rw (ne_eqb (length ss) (length cs) h)

  unsound_height : most_levels < length ls → soundb n qs ss ≡ false
  unsound_height h = whole ∙ rw (lt-leb (length ls) most_levels h) (go (eqb (length ss) (length cs)))
    where
      go : (b : Bool) → ((b && false) && (allb closedb ls && apartb cs ss)) ≡ false
      go true = refl
      go false = refl

  sound_apart : length ss ≡ length cs → length ls ≤ most_levels → length cs ≤ most_cells → allb closedb ls ≡ true
      → soundb n qs ss ≡ apartb cs ss
  sound_apart a b c d = whole ∙ rw (eq-eqb (length ss) (length cs) a, le-leb (length ls) most_levels b, le-leb (length cs) most_cells c, d)

-- How far a program has come: the levels below j are closed, and the cells of level j begin at `first`.
pub record Reached (n : ℕ) (qs : List (List ℕ)) (ss : List ℕ) (j first : ℕ) (cells : List (Cell Point)) : Type 0 where
  pub done : List Level
  pub rest : levels_of n qs ss ≡ done ++ levels (12 - j) first cells (drop first ss)
  pub closed : allb closedb done ≡ true
  pub many : length done ≡ j
  pub counted : length (cells_of done) ≡ first

unfoldable pub reached_start : (n : ℕ) (qs : List (List ℕ)) (ss : List ℕ) → Reached n qs ss 0 0 (coarse_cells n qs)
unfolding levels_of cells_of flat_map allb
reached_start n qs ss = record { done = []; rest = refl; closed = refl; many = refl; counted = refl }

module _ (n : ℕ) (qs : List (List ℕ)) (ss : List ℕ) (j first : ℕ) (cells : List (Cell Point)) (r : Reached n qs ss j first cells)
    (low : j ≤ 10) (some : 0 < length cells) where
  abbrev statuses : List ℕ
  statuses = part ss first (length cells)

  here : Level
  here = record { first = first; cells = cells; statuses = statuses }

  up : List Level
  up = levels (11 - j) (first + length cells) (next first cells statuses) (drop (first + length cells) ss)

  split : levels_of n qs ss ≡ r.done ++ (here ∷ up)
  unfolding here up
  split =
      let e : 12 - j ≡ suc (11 - j) = omega arith in
      let w : levels (12 - j) first cells (drop first ss) ≡ here ∷ up = rw (e, ← drop-drop (length cells) first ss)
      (levels_step (11 - j) first cells (drop first ss) some) in
      r.rest ∙ ap (λ (l : List Level). r.done ++ l) w

  all_closed : allb closedb (levels_of n qs ss) ≡ (closedb here && allb closedb up)
  unfolding allb
  all_closed = ap (allb closedb) split ∙ allb_both closedb r.done (here ∷ up) ∙ rw r.closed

  -- a level that is not closed
  pub reached_open : closed_from [] sameb (red_edges [] cells statuses) cells statuses ≡ false → soundb n qs ss ≡ false
  unfolding here closedb
  reached_open e = unsound_closed n qs ss (all_closed ∙ rw e)

  cells_are : cells_of (levels_of n qs ss) ≡ cells_of r.done ++ (cells ++ cells_of up)
  unfolding here
  cells_are = ap cells_of split ∙ cells_append r.done (here ∷ up) ∙ ap (λ (l : List (Cell Point)). cells_of r.done ++ l)
      (cells_one here up)

  length-cells : length (cells_of (levels_of n qs ss)) ≡ first + (length cells + length (cells_of up))
  length-cells =
      ap length cells_are ∙ length-append (cells_of r.done) (cells ++ cells_of up)
      ∙ ap₂ ◌+◌ r.counted (length-append cells (cells_of up))

  -- a level with fewer statuses than cells
  pub reached_short : length ss < first + length cells → soundb n qs ss ≡ false
  reached_short h = unsound_count n qs ss (λ e. omega (arith, length-cells))

  -- cells one level up that the table has no status for
  pub reached_more : length ss < first + length cells + sizes statuses → first + length cells ≤ length ss → soundb n qs ss ≡ false
  unfolding up
  reached_more h g =
      let k : length cells ≡ length statuses = sym (length_part ss first (length cells) g) in
      let w : length (next first cells statuses) ≡ sizes statuses = length-next first cells statuses k in
      let m : 11 - j ≡ suc (10 - j) = omega arith in
      let v : levels (11 - j) (first + length cells) (next first cells statuses) (drop (first + length cells) ss)
      ≡ level (first + length cells) (next first cells statuses) (drop (first + length cells) ss) ∷ above (first + length cells)
      (next first cells statuses) (drop (first + length cells) ss) (10 - j) =
      rw m (levels_step (10 - j) (first + length cells) (next first cells statuses) (drop (first + length cells) ss) (omega arith)) in
      let u : length (cells_of up) ≡ length (next first cells statuses) + length
      (cells_of (above (first + length cells) (next first cells statuses) (drop (first + length cells) ss) (10 - j))) =
      ap (λ (l : List Level). length (cells_of l)) v
      ∙ ap length (cells_one (level (first + length cells) (next first cells statuses) (drop (first + length cells) ss))
      (above (first + length cells) (next first cells statuses) (drop (first + length cells) ss) (10 - j)))
      ∙ length-append (next first cells statuses)
      (cells_of (above (first + length cells) (next first cells statuses) (drop (first + length cells) ss) (10 - j))) in
      unsound_count n qs ss (λ e. omega (arith, length-cells))

  -- a twelfth level
  pub reached_high : j ≡ 10 → 0 < sizes statuses → first + length cells ≤ length ss → soundb n qs ss ≡ false
  unfolding up
  reached_high e h g =
      let k : length cells ≡ length statuses = sym (length_part ss first (length cells) g) in
      let w : length (next first cells statuses) ≡ sizes statuses = length-next first cells statuses k in
      let m : 11 - j ≡ suc 0 = omega arith in
      let v : length up ≡ suc (length (above (first + length cells) (next first cells statuses) (drop (first + length cells) ss) 0)) =
      rw m (ap length (levels_step 0 (first + length cells) (next first cells statuses) (drop (first + length cells) ss) (omega arith))) in
      unsound_height n qs ss (omega (arith, ap length split ∙ length-append r.done (here ∷ up), r.many))

  -- the next level
  pub record NextLevel (last : ℕ) : Type 0 where
    pub reached : Reached n qs ss (suc j) last (next first cells statuses)
    pub before : cells_of reached.done ≡ cells_of r.done ++ cells

  pub reached_next : (last : ℕ) → last ≡ first + length cells → closed_from [] sameb (red_edges [] cells statuses) cells statuses ≡ true
      → NextLevel last
  unfolding here up closedb allb cells_of
  reached_next last f e =
      let m : 12 - suc j ≡ 11 - j = omega arith in
      let b : cells_of (r.done ++ (here ∷ [])) ≡ cells_of r.done ++ cells =
      cells_append r.done (here ∷ []) ∙ ap (λ (l : List (Cell Point)). cells_of r.done ++ l) (cells_one here [] ∙ append-nil cells) in
      record {
        reached =
            record {
              done = r.done ++ (here ∷ []);
              rest = split ∙ rw (f, m) (sym (append_assoc r.done (here ∷ []) up));
              closed = allb_both closedb r.done (here ∷ []) ∙ rw (r.closed, e);
              many = length-append r.done (here ∷ []) ∙ omega (arith, r.many);
              counted = ap length b ∙ length-append (cells_of r.done) cells ∙ omega (arith, r.counted, f);
            };
        before = b;
      }

  -- the highest level
  pub record Ended : Type 0 where
    pub sound : soundb n qs ss ≡ (eqb (length ss) (first + length cells) && apartb (cells_of r.done ++ cells) ss)
    pub cells_all : cells_of (levels_of n qs ss) ≡ cells_of r.done ++ cells
    pub high : length (levels_of n qs ss) ≡ suc j

  pub reached_end : closed_from [] sameb (red_edges [] cells statuses) cells statuses ≡ true → sizes statuses ≡ 0
      → first + length cells ≤ length ss → length ss ≤ most_cells → Ended
  unfolding here up closedb allb cells_of flat_map
  reached_end e z g s =
      let k : length cells ≡ length statuses = sym (length_part ss first (length cells) g) in
      let w : length (next first cells statuses) ≡ 0 = length-next first cells statuses k ∙ z in
      let v : up ≡ [] = levels_none (11 - j) (first + length cells) (next first cells statuses) (drop (first + length cells) ss) w in
      let c : cells_of (levels_of n qs ss) ≡ cells_of r.done ++ cells = cells_are
      ∙ rw v (ap (λ (l : List (Cell Point)). cells_of r.done ++ l) (append-nil cells)) in
      let h : length (levels_of n qs ss) ≡ suc j = ap length split ∙ rw v (length-append r.done (here ∷ []) ∙ omega (arith, r.many)) in
      let t : allb closedb (levels_of n qs ss) ≡ true = all_closed ∙ rw (e, v) in
      let l : length (cells_of (levels_of n qs ss)) ≡ first + length cells = ap length c ∙ length-append (cells_of r.done) cells
      ∙ omega (arith, r.counted) in
      record { sound = go (eqb (length ss) (first + length cells)) refl c h t l; cells_all = c; high = h }
    where
      go : (b : Bool) → eqb (length ss) (first + length cells) ≡ b → cells_of (levels_of n qs ss) ≡ cells_of r.done ++ cells
          → length (levels_of n qs ss) ≡ suc j
          → allb closedb (levels_of n qs ss) ≡ true → length (cells_of (levels_of n qs ss)) ≡ first + length cells
          → soundb n qs ss ≡ (b && apartb (cells_of r.done ++ cells) ss)
      go true q c h t l =
          let p : length ss ≡ first + length cells = eqb-true (length ss) (first + length cells) q in
          sound_apart n qs ss (omega arith) (omega arith) (omega arith) t ∙ rw c
      go false q c h t l = unsound_count n qs ss (λ x. eqb-false (length ss) (first + length cells) q (omega arith))
