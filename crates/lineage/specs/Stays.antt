-- A cell that will be red is met in the step's table.
--   Red n qs ss ms j t     the old cell t of level j will be red
--   Stays n qs ss ms j t   the old cell t of level j is a cell of the new level j, and red there
-- Laws: new_red_kept (a new red cell is no leaf marked 2), red_stays and not_deleted (a red cell with a child that is not a leaf marked 2
-- stays red), up_rows (the rows one level up), parent and parent_stays (the parent of a new red cell is one), stays (the theorem).
use Rattle.std.specs.Prelude.{◌≡◌, refl, ◌≢◌, ◌⊎◌, Bool, true, false, ◌&&◌, List, [], ◌∷◌, ◌++◌, ℕ, zero, suc, ◌+◌, ◌<◌, T, eqb, length, get_or, take}
use Rattle.std.proofs.Common.{sym, ◌∙◌, ap, inl, inr, arith, get_or-drop, eqb-true, eq-eqb, ne_eqb}
use Rattle.base.specs.Bools.{is_true, and_right}
use Rattle.base.specs.Each.{allb_failing}
use Rattle.cutting.specs.Rule.{family}
use Rattle.mesh.specs.Cells.{Cell, redb, pattern_of, no_cell}
use Rattle.mesh.specs.Weights.{Point}
use Rattle.mesh.specs.Table.{Level, levels_of, soundb, sizes}
use Rattle.mesh.specs.Step.{Row, rows, rows_from, kids, deletedb, new_redb, rows_up, edges_up, new_reds, red_afterb}
use Rattle.lattice.specs.Levels.{no_level}
use Rattle.lineage.specs.Born.{child_of, Born, born, born_below, born_at}
use Rattle.lineage.specs.Paths.{path_at}
use Rattle.lineage.specs.Same.{Fresh, row_in}
use Rattle.lineage.specs.Flags.{no_row, new_red_at, length-rows, rows_at, new_red_regular}
use Rattle.lineage.specs.Met.{old_at, old_above, new_at, Matched, old_next, new_next, old_coarse, new_coarse, flagged, new_known, met}

-- a chosen element that fails a test
-- a new red cell is refined already, or marked 1
new_red_kept : (up : List Row) (es : List (Point × Point)) (r : Row) → new_redb up es r ≡ true
    → (eqb r.status 0 && eqb r.mark 2) ≡ false
unfolding red_afterb
new_red_kept up es r n = go (eqb r.status 0) refl
  where
    go : (z : Bool) → eqb r.status 0 ≡ z → (z && eqb r.mark 2) ≡ false
    go true q =
        let z : r.status ≡ 0 = eqb-true r.status 0 q in
        let e : redb r.status ≡ false = ne_eqb r.status 64 (λ x. omega arith) in
        let m : (r.cell.regular && eqb r.mark 1) ≡ true = rw (e, q, red_afterb) at n in
        let o : r.mark ≡ 1 = eqb-true r.mark 1 (is_true (eqb r.mark 1) (and_right r.cell.regular (eqb r.mark 1) (rw m tt))) in
        ne_eqb r.mark 2 (λ x. omega arith)
    go false q = refl

-- so the family of its parent is not deleted
pub red_stays : (up : List Row) (es : List (Point × Point)) (r : Row) → redb r.status ≡ true → deletedb (kids up r.number) es ≡ false
    → new_redb up es r ≡ true
unfolding red_afterb
red_stays up es r e d = rw (e, red_afterb) (rw d)

pub not_deleted : (up : List Row) (es : List (Point × Point)) (k t : ℕ) → t < length up → (get_or up t no_row).cell.parent ≡ k
    → (eqb (get_or up t no_row).status 0 && eqb (get_or up t no_row).mark 2) ≡ false → deletedb (kids up k) es ≡ false
unfolding deletedb kids
not_deleted up es k t h p q =
    allb_failing (λ r. eqb r.cell.parent k) _ no_row up t h (eq-eqb (get_or up t no_row).cell.parent k p) (rw q)

-- the rows one level up
rows_none : (ms : List ℕ) → rows no_level ms ≡ []
unfolding rows rows_from
rows_none ms = refl

rows_up_lem : (ls : List Level) (ms : List ℕ) → rows_up ls ms ≡ rows (get_or ls 0 no_level) ms
unfolding rows_up
rows_up_lem [] ms = sym (rows_none ms)
rows_up_lem (l ∷ ls) ms = refl

module _ (n : ℕ) (qs : List (List ℕ)) (ss ms : List ℕ) where
  -- Rule 7.7: a cell that will be red is there and is red.
  pub record Stays (j t : ℕ) : Type 0 where
    pub i : ℕ
    pub below : i < length (new_at n qs ss ms j).cells
    pub path : path_at (new_at n qs ss ms j).cells i ≡ path_at (old_at n qs ss j).cells t
    pub status : get_or (new_at n qs ss ms j).statuses i 0 ≡ 64

  -- the old cell t of level j will be red
  abbrev Red : ℕ → ℕ → Type 0
  Red j t = new_red_at ms (old_above n qs ss j) (old_at n qs ss j) t ≡ true

  pub up_rows : (j : ℕ) → rows_up (old_above n qs ss j) ms ≡ rows (old_at n qs ss (suc j)) ms
  up_rows j =
      rows_up_lem (old_above n qs ss j) ms
      ∙ ap (λ (l : Level). rows l ms) (get_or-drop (suc j) (levels_of n qs ss) 0 no_level ∙ ap (λ (x : ℕ). get_or (levels_of n qs ss) x no_level)
      (omega arith))

module _ (n : ℕ) (qs : List (List ℕ)) (ss ms : List ℕ) (s : T (soundb n qs ss)) where
  red_regular : (j t : ℕ) → t < length (old_at n qs ss j).cells → Red n qs ss ms j t → T (get_or (old_at n qs ss j).cells t no_cell).regular
  red_regular j t h e =
      new_red_regular (rows_up (old_above n qs ss j) ms) (edges_up (new_reds (old_above n qs ss j) ms)) (row_in (old_at n qs ss j) ms t)
      ((flagged n qs ss ms s j).follows t h) e

  -- a cell with the path of a new red cell is that cell
  stays_from : (j t : ℕ) → t < length (old_at n qs ss j).cells → Red n qs ss ms j t → (i : ℕ) → i < length (new_at n qs ss ms j).cells
      → T (get_or (new_at n qs ss ms j).cells i no_cell).regular → path_at (new_at n qs ss ms j).cells i ≡ path_at (old_at n qs ss j).cells t
      → Stays n qs ss ms j t
  stays_from j t h e i g r p = go (met n qs ss ms s j i g r)
    where
      go : Matched ms (old_above n qs ss j) (old_at n qs ss j) (get_or (new_at n qs ss ms j).cells i no_cell)
          (get_or (new_at n qs ss ms j).statuses i 0)
          ⊎ ((redb (get_or (new_at n qs ss ms j).statuses i 0) ≡ false) × Fresh (old_at n qs ss j) (get_or (new_at n qs ss ms j).cells i no_cell))
          → Stays n qs ss ms j t
      go (inl w) =
          let x : w.t ≡ t = (flagged n qs ss ms s j).paths w.t t w.is.below h (w.is.path ∙ p) in
          let y : redb (get_or (new_at n qs ss ms j).statuses i 0) ≡ true = w.red ∙ ap (new_red_at ms (old_above n qs ss j) (old_at n qs ss j)) x
          ∙ e in
          record { i = i; below = g; path = p; status = eqb-true (get_or (new_at n qs ss ms j).statuses i 0) 64 y }
      go (inr w) = absurd (w.1 t h (red_regular j t h e) (sym p))

  stays_coarse : (t : ℕ) → t < length (old_at n qs ss 0).cells → Red n qs ss ms 0 t → Stays n qs ss ms 0 t
  stays_coarse t h e =
      let q : (new_at n qs ss ms 0).cells ≡ (old_at n qs ss 0).cells = new_coarse n qs ss ms ∙ sym (old_coarse n qs ss ms) in
      stays_from 0 t h e t (rw q h) (rw q (red_regular 0 t h e)) (ap (λ (cs : List (Cell Point)). path_at cs t) q)

  -- the parent of a new red cell
  module _ (j t : ℕ) (g : suc j < 12) (h : t < length (old_at n qs ss (suc j)).cells) (e : Red n qs ss ms (suc j) t) where
    abbrev l : Level
    l = old_at n qs ss j

    abbrev u : Level
    u = old_at n qs ss (suc j)

    parent : Born l.first l.cells l.statuses (get_or u.cells t no_cell)
    parent =
        let q = old_next n qs ss ms j g in
        rw q (born l.first l.cells l.statuses t (rw q at h)).0

    parent_red : get_or l.statuses parent.p 0 ≡ 64
    parent_red =
        eqb-true (get_or l.statuses parent.p 0) 64
        (sym (ap (λ (c : Cell Point). c.regular) parent.is) ∙ is_true (get_or u.cells t no_cell).regular (red_regular (suc j) t h e))

    parent_stays : Red n qs ss ms j parent.p
    parent_stays =
        let known : length u.statuses ≡ length u.cells = (flagged n qs ss ms s (suc j)).known in
        let at : get_or (rows_up (old_above n qs ss j) ms) t no_row ≡ row_in u ms t = ap (λ (rs : List Row). get_or rs t no_row)
        (up_rows n qs ss ms j) ∙ rows_at u ms known t h in
        let many : length (rows_up (old_above n qs ss j) ms) ≡ length u.cells = ap length (up_rows n qs ss ms j)
        ∙ length-rows u ms known in
        red_stays (rows_up (old_above n qs ss j) ms) (edges_up (new_reds (old_above n qs ss j) ms)) (row_in l ms parent.p) (ap redb parent_red)
        (not_deleted (rows_up (old_above n qs ss j) ms) (edges_up (new_reds (old_above n qs ss j) ms)) (l.first + parent.p) t
        (omega (arith, many))
        (ap (λ (r : Row). r.cell.parent) at ∙ ap (λ (c : Cell Point). c.parent) parent.is)
        (ap (λ (r : Row). eqb r.status 0 && eqb r.mark 2) at
        ∙ new_red_kept (rows_up (old_above n qs ss (suc j)) ms) (edges_up (new_reds (old_above n qs ss (suc j)) ms)) (row_in u ms t) e))

    stays_child : Stays n qs ss ms j parent.p → Stays n qs ss ms (suc j) t
    stays_child w =
        let l' = new_at n qs ss ms j in
        let known : w.i < length l'.statuses = omega (arith, new_known n qs ss ms s j, w.below) in
        let nz : get_or l'.statuses w.i 0 ≢ 0 = (λ z. omega (arith, w.status, z)) in
        let fam : parent.i < length (family (pattern_of (get_or l'.statuses w.i 0))) = rw (w.status, ← parent_red) parent.child in
        let place : ℕ = sizes (take w.i l'.statuses) + parent.i in
        let q = new_next n qs ss ms j g in
        let at : get_or (new_at n qs ss ms (suc j)).cells place no_cell ≡ child_of (l'.first + w.i) (get_or l'.cells w.i no_cell)
        (get_or l'.statuses w.i 0) parent.i =
        ap (λ (cs : List (Cell Point)). get_or cs place no_cell) q ∙ born_at l'.first l'.cells l'.statuses w.i parent.i
        w.below known nz fam in
        stays_from (suc j) t h e place (rw q (born_below l'.first l'.cells l'.statuses w.i parent.i w.below known nz fam))
        (rw (ap (λ (c : Cell Point). c.regular) at ∙ ap redb w.status) tt)
        (ap (λ (c : Cell Point). c.path) at ∙ ap (λ (x : List ℕ). x ++ (parent.i ∷ [])) w.path
        ∙ sym (ap (λ (c : Cell Point). c.path) parent.is))

  pub stays : (j t : ℕ) → j < 12 → t < length (old_at n qs ss j).cells → Red n qs ss ms j t → Stays n qs ss ms j t
  stays zero t g h e = stays_coarse t h e
  stays (suc j) t g h e = stays_child j t g h e
      (stays j (parent j t g h e).p (omega arith) (parent j t g h e).below (parent_stays j t g h e))
