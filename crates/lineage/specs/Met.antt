-- The cells of the step's table and those of the old one, by level and place.
--   old_at j, old_above j, new_at j   the old level j, the old levels above it, and the new level j
--   Matched ms ls l c s    c with new status s is the cell t of the old level l, and is red where that will be red; ls are the old
--                          levels above l
--   Fostered l l' c        c is a child of a red cell of the new level l', which is the cell t of the old level l that was not red
-- Laws: old_next and new_next (neighbouring levels), old_coarse and new_coarse (the coarse level), new_below (at most twelve levels),
-- flagged, old_up and traced (each level), new_known and new_follows (the statuses of a new level), met (each regular cell), met_coarse
-- (a coarse cell is met), fostered (a regular cell that is not met).
use Rattle.std.specs.Prelude.{◌≡◌, ◌≢◌, ◌⊎◌, true, false, ℕ, suc, ◌+◌, ◌≤◌, ◌<◌, T, length, get_or, take, drop}
use Rattle.std.proofs.Common.{sym, ◌∙◌, ap, inl, inr, arith, eqb-true}
use Rattle.std.proofs.Math.Path.{subst}
use mathlib.Core.List.{List, [], ◌∷◌, ◌++◌, flatten}
use Rattle.std.proofs.Math.Decide.{dec_lt}
use Rattle.std.proofs.Math.ListN.{get_or-eq_default}
use Rattle.base.specs.Bools.{is_true, not_both}
use Rattle.cutting.specs.Rule.{family}
use Rattle.mesh.specs.Cells.{Cell, redb, pattern_of, no_cell}
use Rattle.mesh.specs.Weights.{Point, coarse_cells}
use Rattle.mesh.specs.Table.{Level, next, levels_of, soundb, sizes}
use Rattle.mesh.specs.Laws.{length-coarse}
use Rattle.lattice.specs.Levels.{no_level}
use Rattle.numbering.specs.Refined.{Follows, Refined}
use Rattle.lineage.specs.Olds.{flag_table, up_to, step_by}
use Rattle.lineage.specs.Born.{child_of, Born, born, born_below, born_at}
use Rattle.lineage.specs.Paths.{path_at, coarse_at}
use Rattle.lineage.specs.Same.{Is, Fresh, Old, Up, both_at}
use Rattle.lineage.specs.Levels.{new_levels, length-statuses, new_levels_lem, levels_next, cells_first}
use Rattle.lineage.specs.Flags.{new_red_at, FlaggedLevel, flag_red, flag_none}
use Rattle.lineage.specs.Rest.{rest_start}
use Rattle.lineage.specs.Traced.{Traced, red_status, flagged_at, up_at, traced_at, length-grow}
use Rattle.lineage.specs.Step.{olds_many, olds_start, refined_statuses}

pub record Matched (ms : List ℕ) (ls : List Level) (l : Level) (c : Cell Point) (s : ℕ) : Type 0 where
  pub t : ℕ
  pub is : Is l t c
  pub red : redb s ≡ new_red_at ms ls l t

pub record Fostered (l l' : Level) (c : Cell Point) : Type 0 where
  pub born : Born l'.first l'.cells l'.statuses c
  pub parent_red : get_or l'.statuses born.p 0 ≡ 64
  pub t : ℕ
  pub is : Is l t (get_or l'.cells born.p no_cell)
  pub was : get_or l.statuses t 0 ≢ 64

abbrev pub old_at : ℕ → List (List ℕ) → List ℕ → ℕ → Level
old_at n qs ss j = get_or (levels_of n qs ss) j no_level

abbrev pub old_above : ℕ → List (List ℕ) → List ℕ → ℕ → List Level
old_above n qs ss j = drop (suc j) (levels_of n qs ss)

abbrev pub new_at : ℕ → List (List ℕ) → List ℕ → List ℕ → ℕ → Level
new_at n qs ss ms j = get_or (new_levels n qs ss ms) j no_level

module _ (n : ℕ) (qs : List (List ℕ)) (ss ms : List ℕ) where
  -- neighbouring levels
  pub old_next : (j : ℕ) → suc j < 12 → (old_at n qs ss (suc j)).cells ≡ next (old_at n qs ss j).first (old_at n qs ss j).cells
      (old_at n qs ss j).statuses
  unfolding levels_of
  old_next j h = levels_next 12 0 (coarse_cells n qs) ss j h

  pub new_next : (j : ℕ) → suc j < 12
      → (new_at n qs ss ms (suc j)).cells ≡ next (new_at n qs ss ms j).first (new_at n qs ss ms j).cells (new_at n qs ss ms j).statuses
  unfolding levels_of
  new_next j h =
      subst (λ (ls : List Level). (get_or ls (suc j) no_level).cells ≡ next (get_or ls j no_level).first (get_or ls j no_level).cells
      (get_or ls j no_level).statuses)
      (new_levels_lem n qs ss ms) (levels_next 12 0 (coarse_cells n qs) (flatten (step_by n qs ss ms)) j h)

  pub old_coarse : (old_at n qs ss 0).cells ≡ coarse_cells n qs
  unfolding levels_of
  old_coarse = cells_first 11 0 (coarse_cells n qs) ss

  pub new_coarse : (new_at n qs ss ms 0).cells ≡ coarse_cells n qs
  unfolding levels_of
  new_coarse =
      subst (λ (ls : List Level). (get_or ls 0 no_level).cells ≡ coarse_cells n qs) (new_levels_lem n qs ss ms)
      (cells_first 11 0 (coarse_cells n qs) (flatten (step_by n qs ss ms)))

  new_below : (j i : ℕ) → i < length (new_at n qs ss ms j).cells → j < 12
  new_below j i h =
      elim (dec_lt j 12) [
        | yes u ↦ u
        | no u ↦
            let few : length (new_levels n qs ss ms) ≤ j =
            omega (arith, length-grow (length qs) ss (flag_table n qs ss ms) 12 0 (coarse_cells n qs) (up_to (length qs))) in
            let e : new_at n qs ss ms j ≡ no_level = get_or-eq_default (new_levels n qs ss ms) no_level few in
            absurd (omega (arith, ap (λ (l : Level). length l.cells) e))
      ]

module _ (n : ℕ) (qs : List (List ℕ)) (ss ms : List ℕ) (t : T (soundb n qs ss)) where
  pub flagged : (j : ℕ) → FlaggedLevel (flag_table n qs ss ms) ms (old_above n qs ss j) (old_at n qs ss j)
  unfolding levels_of
  flagged = flagged_at (length qs) ss (flag_table n qs ss ms) ms 12 0 (coarse_cells n qs) ss (rest_start n qs ss ms t)

  pub old_up : (j : ℕ) → 0 < length (old_at n qs ss (suc j)).cells → Up (length qs) ss (old_at n qs ss j) (old_at n qs ss (suc j))
  unfolding levels_of
  old_up = up_at (length qs) ss (flag_table n qs ss ms) ms 12 0 (coarse_cells n qs) ss (rest_start n qs ss ms t)

  pub traced : (j : ℕ) → Traced (flag_table n qs ss ms) (old_at n qs ss j) (new_at n qs ss ms j)
  unfolding levels_of
  traced =
      traced_at (length qs) ss (flag_table n qs ss ms) ms 12 0 (coarse_cells n qs) ss (rest_start n qs ss ms t) 0 (coarse_cells n qs)
      (up_to (length qs))
      (olds_many n qs ss) (olds_start n qs ss)

  -- the statuses of a new level
  pub new_known : (j : ℕ) → length (new_at n qs ss ms j).statuses ≡ length (new_at n qs ss ms j).cells
  new_known j =
      let x = traced j in
      ap length x.statuses ∙ length-statuses (flag_table n qs ss ms) (new_at n qs ss ms j).cells x.os x.many

  pub new_follows : (j i : ℕ) → i < length (new_at n qs ss ms j).cells → Follows (get_or (new_at n qs ss ms j).cells i no_cell)
      (get_or (new_at n qs ss ms j).statuses i 0)
  new_follows j i h =
      let x = traced j in
      both_at Follows (new_at n qs ss ms j).cells (new_at n qs ss ms j).statuses (new_known j)
      (subst (λ (ts : List ℕ). Refined (new_at n qs ss ms j).cells ts) (sym x.statuses)
      (refined_statuses (flag_table n qs ss ms) (new_at n qs ss ms j).cells x.os)) i h

  -- each regular cell
  pub met : (j i : ℕ) → i < length (new_at n qs ss ms j).cells → T (get_or (new_at n qs ss ms j).cells i no_cell).regular
      → Matched ms (old_above n qs ss j) (old_at n qs ss j) (get_or (new_at n qs ss ms j).cells i no_cell)
      (get_or (new_at n qs ss ms j).statuses i 0)
      ⊎ ((redb (get_or (new_at n qs ss ms j).statuses i 0) ≡ false) × Fresh (old_at n qs ss j) (get_or (new_at n qs ss ms j).cells i no_cell))
  met j i h r = go (both_at (Old (old_at n qs ss j)) (new_at n qs ss ms j).cells os x.many x.olds i h)
    where
      fs : List ℕ
      fs = flag_table n qs ss ms

      x : Traced fs (old_at n qs ss j) (new_at n qs ss ms j)
      x = traced j

      os : List ℕ
      os = x.os

      y : FlaggedLevel fs ms (old_above n qs ss j) (old_at n qs ss j)
      y = flagged j

      red : redb (get_or (new_at n qs ss ms j).statuses i 0) ≡ redb (get_or fs (get_or os i 0) 0)
      red = ap (λ (ts : List ℕ). redb (get_or ts i 0)) x.statuses ∙ red_status fs (new_at n qs ss ms j).cells os x.many i h r

      go : Old (old_at n qs ss j) (get_or (new_at n qs ss ms j).cells i no_cell) (get_or os i 0)
          → Matched ms (old_above n qs ss j) (old_at n qs ss j) (get_or (new_at n qs ss ms j).cells i no_cell)
          (get_or (new_at n qs ss ms j).statuses i 0)
          ⊎ ((redb (get_or (new_at n qs ss ms j).statuses i 0) ≡ false) × Fresh (old_at n qs ss j) (get_or (new_at n qs ss ms j).cells i no_cell))
      go (inl (t, e, q, is)) =
          inl (record {
            t = t;
            is = is;
            red = red ∙ ap redb (ap (λ (o : ℕ). get_or fs o 0) e ∙ y.flag t is.below)
                ∙ flag_red (new_red_at ms (old_above n qs ss j) (old_at n qs ss j) t);
          })
      go (inr (e, f)) = inr (red ∙ ap redb (ap (λ (o : ℕ). get_or fs o 0) e ∙ flag_none fs y.small), f r)

  pub met_coarse : (i : ℕ) → i < length (new_at n qs ss ms 0).cells → Fresh (old_at n qs ss 0) (get_or (new_at n qs ss ms 0).cells i no_cell)
      → ⊥
  met_coarse i h f =
      let e : (old_at n qs ss 0).cells ≡ (new_at n qs ss ms 0).cells = old_coarse n qs ss ms ∙ sym (new_coarse n qs ss ms) in
      let c : length (new_at n qs ss ms 0).cells ≡ length qs = ap length (new_coarse n qs ss ms) ∙ length-coarse n qs in
      let r : (get_or (old_at n qs ss 0).cells i no_cell).regular ≡ true =
      ap (λ (cs : List (Cell Point)). (get_or cs i no_cell).regular) (old_coarse n qs ss ms)
      ∙ ap (λ (c : Cell Point). c.regular) (coarse_at n qs i (omega (arith, c))) in
      f i (rw e h) (rw r tt) (ap (λ (cs : List (Cell Point)). path_at cs i) e)

  module _ (j i : ℕ) (h : i < length (new_at n qs ss ms (suc j)).cells) (r : T (get_or (new_at n qs ss ms (suc j)).cells i no_cell).regular)
    where
      abbrev c : Cell Point
      c = get_or (new_at n qs ss ms (suc j)).cells i no_cell

      abbrev l : Level
      l = old_at n qs ss j

      abbrev l' : Level
      l' = new_at n qs ss ms j

      parent : Born l'.first l'.cells l'.statuses c
      parent =
          let e = new_next n qs ss ms j (new_below n qs ss ms (suc j) i h) in
          subst (λ (cs : List (Cell Point)). Born l'.first l'.cells l'.statuses (get_or cs i no_cell)) (sym e)
          (born l'.first l'.cells l'.statuses i (rw e at h)).0

      abbrev p : ℕ
      p = parent.p

      parent_is_red : get_or l'.statuses p 0 ≡ 64
      parent_is_red = eqb-true (get_or l'.statuses p 0) 64 (sym (ap (λ (c : Cell Point). c.regular) parent.is)
          ∙ is_true c.regular r)

      parent_regular : T (get_or l'.cells p no_cell).regular
      parent_regular = (new_follows j p parent.below).regular (λ z. omega (arith, parent_is_red))

      was_not_red : Fresh (old_at n qs ss (suc j)) c → (t : ℕ) → Is l t (get_or l'.cells p no_cell) → get_or l.statuses t 0 ≢ 64
      was_not_red f t is e =
          let s64 : get_or l'.statuses p 0 ≡ get_or l.statuses t 0 = parent_is_red ∙ sym e in
          let known : t < length l.statuses = omega (arith, (flagged j).known, is.below) in
          let nz : get_or l.statuses t 0 ≢ 0 = (λ z. omega (arith, e, z)) in
          let fam : parent.i < length (family (pattern_of (get_or l.statuses t 0))) = rw s64 at parent.child in
          let q = old_next n qs ss ms j (new_below n qs ss ms (suc j) i h) in
          let at : get_or (old_at n qs ss (suc j)).cells (sizes (take t l.statuses) + parent.i) no_cell
          ≡ child_of (l.first + t) (get_or l.cells t no_cell) (get_or l.statuses t 0) parent.i =
          ap (λ (cs : List (Cell Point)). get_or cs (sizes (take t l.statuses) + parent.i) no_cell) q
          ∙ born_at l.first l.cells l.statuses t parent.i is.below known nz fam in
          f (sizes (take t l.statuses) + parent.i)
          (rw q (born_below l.first l.cells l.statuses t parent.i is.below known nz fam))
          (rw (ap (λ (c : Cell Point). c.regular) at ∙ ap redb e) tt)
          (ap (λ (c : Cell Point). c.path) at ∙ ap (λ (x : List ℕ). x ++ (parent.i ∷ [])) is.path
          ∙ sym (ap (λ (c : Cell Point). c.path) parent.is))

      pub fostered : Fresh (old_at n qs ss (suc j)) c → Fostered l l' c
      fostered f = go (met j p parent.below parent_regular)
        where
          go : Matched ms (old_above n qs ss j) l (get_or l'.cells p no_cell) (get_or l'.statuses p 0)
              ⊎ ((redb (get_or l'.statuses p 0) ≡ false) × Fresh l (get_or l'.cells p no_cell)) → Fostered l l' c
          go (inl w) = record { born = parent; parent_red = parent_is_red; t = w.t; is = w.is; was = was_not_red f w.t w.is }
          go (inr w) = not_both (redb (get_or l'.statuses p 0)) (ap redb parent_is_red) w.0
