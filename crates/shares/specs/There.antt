-- Which old cells are there after the step.
--   Met k i        the new cell i of level k has the path of an old cell, regular as it is
--   There k t      the old cell t of level k is there: its place in the new level
--   RedParent k t  the red parent of the regular old cell t of level k + 1
-- Laws: matched_at (a new cell with the path of an old one), coarse_there, child_there, refined_there (coarse cells, children of cells that
-- stay red, refined cells are there), refined_stays (the parent of a refined cell stays red), old_kid (children by their numbers).
use Rattle.std.specs.Prelude.{◌≡◌, ◌≢◌, ◌⊎◌, Bool, true, false, ◌&&◌, List, [], ◌∷◌, ◌++◌, ℕ, zero, suc, ◌+◌, ◌<◌, T, eqb, length, get_or}
use Rattle.std.proofs.Common.{sym, ◌∙◌, ap, subst, inl, inr, arith, eqb-true, ne_eqb}
use Rattle.base.specs.Bools.{is_true}
use Rattle.cutting.specs.Rule.{family}
use Rattle.mesh.specs.Cells.{Cell, redb, pattern_of, no_cell}
use Rattle.mesh.specs.Weights.{Point}
use Rattle.mesh.specs.Table.{Level, soundb}
use Rattle.mesh.specs.Step.{Row, rows_up}
use Rattle.lineage.specs.Born.{Born}
use Rattle.lineage.specs.Paths.{path_at}
use Rattle.lineage.specs.Same.{Fresh, row_in}
use Rattle.lineage.specs.Flags.{no_row, new_red_at, length-rows, rows_at}
use Rattle.lineage.specs.Met.{Matched, old_above, new_at, new_next, new_coarse, old_coarse, flagged, met, new_known}
use Rattle.lineage.specs.Stays.{Stays, stays, red_stays, not_deleted, up_rows}
use Rattle.soundness.specs.Family.{ChildAt, born_of, family_child}
use Rattle.soundness.specs.Sound.{Sound, sound_from, lv, level_next, level_there}
use Rattle.base.specs.Member.{Member}
use Rattle.parts.specs.Owners.{children_of}
use Rattle.splitting.specs.Numbers.{at_level, kid_in}
use Rattle.succession.specs.After.{new_edges}

abbrev pub Met : ℕ → List (List ℕ) → List ℕ → List ℕ → ℕ → ℕ → Type 0
Met n qs ss ms k i =
    Matched ms (old_above n qs ss k) (lv n qs ss k) (get_or (new_at n qs ss ms k).cells i no_cell) (get_or (new_at n qs ss ms k).statuses i 0)

module _ (n : ℕ) (qs : List (List ℕ)) (ss ms : List ℕ) (s : Sound n qs ss) where
  abbrev sound : T (soundb n qs ss)
  sound = sound_from n qs ss s

  abbrev new : ℕ → Level
  new k = new_at n qs ss ms k

  abbrev old : ℕ → Level
  old k = lv n qs ss k

  pub matched_at : (k i t : ℕ) → i < length (new k).cells → T (get_or (new k).cells i no_cell).regular
      → t < length (old k).cells → T (get_or (old k).cells t no_cell).regular
      → path_at (new k).cells i ≡ path_at (old k).cells t → (w : Met n qs ss ms k i) × (w.t ≡ t)
  matched_at k i t h r ht rt e = go (met n qs ss ms sound k i h r)
    where
      go : Met n qs ss ms k i ⊎ ((redb (get_or (new k).statuses i 0) ≡ false) × Fresh (old k) (get_or (new k).cells i no_cell))
          → (w : Met n qs ss ms k i) × (w.t ≡ t)
      go (inl w) = (w, (flagged n qs ss ms sound k).paths w.t t w.is.below ht (w.is.path ∙ e))
      go (inr (a, b)) = absurd (b t ht rt (sym e))

  pub record There (k t : ℕ) : Type 0 where
    pub i : ℕ
    pub below : i < length (new k).cells
    pub regular : T (get_or (new k).cells i no_cell).regular
    pub met_by : Met n qs ss ms k i
    pub place_is : met_by.t ≡ t

  pub coarse_there : (t : ℕ) → t < length (old 0).cells → T (get_or (old 0).cells t no_cell).regular → There 0 t
  coarse_there t h r =
      let q : (new 0).cells ≡ (old 0).cells = new_coarse n qs ss ms ∙ sym (old_coarse n qs ss ms) in
      let g : t < length (new 0).cells = rw q h in
      let r' : T (get_or (new 0).cells t no_cell).regular = rw q r in
      let (w, e) = matched_at 0 t t g r' h r (ap (λ (cs : List (Cell Point)). path_at cs t) q) in
      record { i = t; below = g; regular = r'; met_by = w; place_is = e }

  pub record RedParent (k t : ℕ) : Type 0 where
    pub born : Born (old k).first (old k).cells (old k).statuses (get_or (old (suc k)).cells t no_cell)
    pub red : get_or (old k).statuses born.p 0 ≡ 64

  pub red_parent : (k t : ℕ) → t < length (old (suc k)).cells → T (get_or (old (suc k)).cells t no_cell).regular → RedParent k t
  red_parent k t h r =
      let top = level_there n qs ss (suc k) t h in
      let b = born_of (old k) (old (suc k)) (level_next n qs ss k (omega (arith, s.high))) t h in
      let q : redb (get_or (old k).statuses b.p 0) ≡ _ =
      sym (ap (λ (c : Cell Point). c.regular) b.is) ∙ is_true (get_or (old (suc k)).cells t no_cell).regular r in
      record { born = b; red = eqb-true (get_or (old k).statuses b.p 0) 64 q }

  pub child_there : (k t : ℕ) (h : t < length (old (suc k)).cells) (r : T (get_or (old (suc k)).cells t no_cell).regular)
      (b : RedParent k t)
      → new_red_at ms (old_above n qs ss k) (old k) b.born.p ≡ true → There (suc k) t
  child_there k t h r b red =
      let top = level_there n qs ss (suc k) t h in
      let z : Stays n qs ss ms k b.born.p = stays n qs ss ms sound k b.born.p (omega (arith, s.high)) b.born.below red in
      let known : z.i < length (new k).statuses = omega (arith, new_known n qs ss ms sound k, z.below) in
      let nz : get_or (new k).statuses z.i 0 ≢ 0 = (λ y. omega (arith, z.status, y)) in
      let fam : b.born.i < length (family (pattern_of (get_or (new k).statuses z.i 0))) =
      subst (λ (x : ℕ). b.born.i < length (family (pattern_of x))) (b.red ∙ sym z.status) b.born.child in
      let w : ChildAt (new k) (new (suc k)) z.i b.born.i =
      family_child (new k) (new (suc k)) (new_next n qs ss ms k (omega (arith, s.high))) z.i b.born.i z.below known nz fam in
      let reg : T (get_or (new (suc k)).cells w.u no_cell).regular =
      rw (ap (λ (c : Cell Point). c.regular) w.is ∙ ap redb z.status) tt in
      let path : path_at (new (suc k)).cells w.u ≡ path_at (old (suc k)).cells t =
      ap (λ (c : Cell Point). c.path) w.is ∙ ap (λ (l : List ℕ). l ++ (b.born.i ∷ [])) z.path
      ∙ sym (ap (λ (c : Cell Point). c.path) b.born.is) in
      let (m, e) = matched_at (suc k) w.u t w.below reg h r path in
      record { i = w.u; below = w.below; regular = reg; met_by = m; place_is = e }

  -- a cell with a refined child stays red
  refined_stays : (k t : ℕ) (h : t < length (old (suc k)).cells) → get_or (old (suc k)).statuses t 0 ≢ 0 → (b : RedParent k t)
      → new_red_at ms (old_above n qs ss k) (old k) b.born.p ≡ true
  refined_stays k t h z b =
      let u = old (suc k) in
      let known = (flagged n qs ss ms sound (suc k)).known in
      let up = rows_up (old_above n qs ss k) ms in
      let at : get_or up t no_row ≡ row_in u ms t = ap (λ (rs : List Row). get_or rs t no_row) (up_rows n qs ss ms k) ∙ rows_at u ms known t h in
      let many : length up ≡ length u.cells = ap length (up_rows n qs ss ms k) ∙ length-rows u ms known in
      red_stays (rows_up (old_above n qs ss k) ms) (new_edges n qs ss ms (suc k)) (row_in (old k) ms b.born.p) (ap redb b.red)
      (not_deleted (rows_up (old_above n qs ss k) ms) (new_edges n qs ss ms (suc k)) ((old k).first + b.born.p) t (omega (arith, many))
      (ap (λ (r : Row). r.cell.parent) at ∙ ap (λ (c : Cell Point). c.parent) b.born.is)
      (ap (λ (r : Row). eqb r.status 0 && eqb r.mark 2) at
      ∙ ap (λ (x : Bool). x && eqb (get_or ms (u.first + t) 0) 2) (ne_eqb (get_or u.statuses t 0) 0 z)))

  pub refined_regular : (k t : ℕ) → t < length (old k).cells → get_or (old k).statuses t 0 ≢ 0 → T (get_or (old k).cells t no_cell).regular
  refined_regular k t h z = ((flagged n qs ss ms sound k).follows t h).regular z

  pub refined_there : (k t : ℕ) → t < length (old k).cells → get_or (old k).statuses t 0 ≢ 0 → There k t
  refined_there zero t h z = coarse_there t h (refined_regular 0 t h z)
  refined_there (suc k) t h z =
      let r = refined_regular (suc k) t h z in
      let b = red_parent k t h r in
      child_there k t h r b (refined_stays k t h z b)

  pub old_kid : (k t : ℕ) → t < length (old (suc k)).cells
      → (b : Born (old k).first (old k).cells (old k).statuses (get_or (old (suc k)).cells t no_cell))
      → Member ((old (suc k)).first + t) (children_of n qs ss ((old k).first + b.p))
  old_kid k t h b =
      let a = at_level n qs ss s (suc k) t h in
      kid_in n qs ss s (suc k) ((old k).first + b.p) ((old (suc k)).first + t) a.here
      (ap (λ (c : Cell Point). c.parent) (a.cell_is ∙ b.is))
