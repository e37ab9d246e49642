-- A new cell is among the new red cells where its old cell has a flag.
--   new_red_at ms ls l t    the cell t of the old level l will be red, where ls are the old levels above l
--   red_rows ms ls l       the rows of the cells of l that will be red
--   FlaggedLevel fs ms ls l    the flags fs of the old table say which cells of l will be red
-- Laws: rows_at and length-rows (the rows of a level), any_chosen and none_chosen (a test on chosen elements), new_red_regular (a new
-- red cell is regular), flag_red and flag_none (a flag), among_old (the new red cells of a level by old numbers), among_none (where
-- there are none).
use Rattle.std.specs.Prelude.{◌≡◌, ◌⊎◌, Bool, ◌&&◌, T, eqb, length}
use Rattle.std.proofs.Math.Path.{refl, sym}
use Rattle.std.proofs.Common.{◌∙◌, ap, inl, inr, arith, eqb-true}
use Rattle.std.proofs.Math.Bool.{true, false, or-true}
use mathlib.Core.List.{List, [], ◌∷◌}
use Prim.Native.Nat.{ℕ, zero, suc, ◌+◌, ◌≤◌, ◌<◌}
use Rattle.std.proofs.Math.ListN.{get_or, get_or-eq_default}
use Rattle.std.proofs.lemmas.Bool.{eqb-false}
use Rattle.base.specs.Limits.{most_cells}
use Rattle.base.specs.Lists.{anyb, filterb, sameb}
use Rattle.base.specs.Bools.{is_true, and_left, either, not_both}
use Rattle.base.specs.Places.{sameb_self, same_list}
use Rattle.mesh.specs.Cells.{Cell, none, redb, no_cell}
use Rattle.mesh.specs.Weights.{Point}
use Rattle.mesh.specs.Table.{Level}
use Rattle.mesh.specs.Step.{Row, rows_from, rows, rows_up, edges_up, new_redb, new_reds, amongb, red_afterb}
use Rattle.numbering.specs.Refined.{Follows}
use Rattle.lineage.specs.Olds.{flag_of}
use Rattle.lineage.specs.Paths.{Paths}
use Rattle.lineage.specs.Same.{Is, Fresh, Old, row_in}

-- Rules 7.3 to 7.6, of an old cell by its place.
abbrev pub new_red_at : List ℕ → List Level → Level → ℕ → Bool
new_red_at ms ls l t = new_redb (rows_up ls ms) (edges_up (new_reds ls ms)) (row_in l ms t)

abbrev pub red_rows : List ℕ → List Level → Level → List Row
red_rows ms ls l = filterb (new_redb (rows_up ls ms) (edges_up (new_reds ls ms))) (rows l ms)

pub record FlaggedLevel (fs ms : List ℕ) (ls : List Level) (l : Level) : Type 0 where
  pub known : length l.statuses ≡ length l.cells
  pub paths : Paths l.cells
  pub follows : (t : ℕ) → t < length l.cells → Follows (get_or l.cells t no_cell) (get_or l.statuses t 0)
  pub flag : (t : ℕ) → t < length l.cells → get_or fs (l.first + t) 0 ≡ flag_of (new_red_at ms ls l t)
  pub small : length fs ≤ most_cells

-- the rows of a level
abbrev pub no_row : Row
no_row = record { number = 0; cell = no_cell; status = 0; mark = 0 }

pub rows_from_lem : (k : ℕ) (cs : List (Cell Point)) (ss ms : List ℕ) → length ss ≡ length cs → (t : ℕ) → t < length cs
    → get_or (rows_from k cs ss ms) t no_row ≡ record {
      number = k + t;
      cell = get_or cs t no_cell;
      status = get_or ss t 0;
      mark = get_or ms (k + t) 0;
    }
unfolding rows_from
rows_from_lem k [] ss ms e t h = absurd (omega arith)
rows_from_lem k (c ∷ cs) [] ms e t h = absurd (omega arith)
rows_from_lem k (c ∷ cs) (s ∷ ss) ms e zero h =
    ap {A = ℕ} {B = Row} (λ x. record { number = x; cell = c; status = s; mark = get_or ms x 0 }) (omega arith)
rows_from_lem k (c ∷ cs) (s ∷ ss) ms e (suc t) h =
    rows_from_lem (suc k) cs ss ms (omega arith) t (omega arith)
    ∙ ap {A = ℕ} {B = Row} (λ x. record { number = x; cell = get_or cs t no_cell; status = get_or ss t 0; mark = get_or ms x 0 }) (omega arith)

pub length-rows_from : (k : ℕ) (cs : List (Cell Point)) (ss ms : List ℕ) → length ss ≡ length cs → length (rows_from k cs ss ms) ≡ length cs
unfolding rows_from
length-rows_from k [] ss ms e = refl
length-rows_from k (c ∷ cs) [] ms e = absurd (omega arith)
length-rows_from k (c ∷ cs) (s ∷ ss) ms e = ap suc (length-rows_from (suc k) cs ss ms (omega arith))

module _ (l : Level) (ms : List ℕ) (e : length l.statuses ≡ length l.cells) where
  pub length-rows : length (rows l ms) ≡ length l.cells
  unfolding rows
  length-rows = length-rows_from l.first l.cells l.statuses ms e

  pub rows_at : (t : ℕ) → t < length l.cells → get_or (rows l ms) t no_row ≡ row_in l ms t
  unfolding rows
  rows_at = rows_from_lem l.first l.cells l.statuses ms e

-- a chosen element that passes a test
module _ {A : Type 0} (d : A) (f g : A → Bool) where
  pub any_chosen : (l : List A) (t : ℕ) → t < length l → f (get_or l t d) ≡ true → g (get_or l t d) ≡ true → anyb g (filterb f l) ≡ true
  unfolding anyb filterb
  any_chosen [] t h p q = absurd (omega arith)
  any_chosen (x ∷ l) zero h p q = rw (p, filterb) (rw q)
  any_chosen (x ∷ l) (suc t) h p q = go (f x) refl (any_chosen l t (omega arith) p q)
    where
      go : (b : Bool) → f x ≡ b → anyb g (filterb f l) ≡ true → anyb g (filterb f (x ∷ l)) ≡ true
      go true e i = rw (e, filterb) (rw i (or-true (g x)))
      go false e i = rw (e, filterb) i

  none_chosen : (l : List A) → ((t : ℕ) → t < length l → f (get_or l t d) ≡ true → g (get_or l t d) ≡ true → ⊥)
      → anyb g (filterb f l) ≡ false
  unfolding anyb filterb
  none_chosen [] u = refl
  none_chosen (x ∷ l) u = go (f x) refl (g x) refl (none_chosen l (λ t h. u (suc t) (omega arith)))
    where
      go : (b : Bool) → f x ≡ b → (c : Bool) → g x ≡ c → anyb g (filterb f l) ≡ false → anyb g (filterb f (x ∷ l)) ≡ false
      go true e true q i = absurd (u 0 (omega arith) e q)
      go true e false q i = rw (e, filterb) (rw q i)
      go false e c q i = rw (e, filterb) i

-- a new red cell is regular
pub new_red_regular : (up : List Row) (es : List (Point × Point)) (r : Row) → Follows r.cell r.status → new_redb up es r ≡ true
    → T r.cell.regular
unfolding red_afterb
new_red_regular up es r w n = go (redb r.status) refl (eqb r.status 0) refl
  where
    go : (b : Bool) → redb r.status ≡ b → (z : Bool) → eqb r.status 0 ≡ z → T r.cell.regular
    go true e z q = w.regular (λ x. omega (arith, eqb-true r.status 64 e))
    go false e true q =
        let m : (r.cell.regular && eqb r.mark 1) ≡ true = rw (e, q, red_afterb) at n in
        and_left r.cell.regular (eqb r.mark 1) (rw m tt)
    go false e false q = w.regular (eqb-false r.status 0 q)

pub flag_red : (b : Bool) → redb (flag_of b) ≡ b
unfolding flag_of
flag_red true = refl
flag_red false = refl

pub flag_none : (fs : List ℕ) → length fs ≤ most_cells → get_or fs none 0 ≡ 0
flag_none fs h = get_or-eq_default fs 0 {n = none} (omega arith)

-- by old numbers
module _ (fs ms : List ℕ) (ls : List Level) (l : Level) (w : FlaggedLevel fs ms ls l) (c : Cell Point) where
  abbrev f : Row → Bool
  f = new_redb (rows_up ls ms) (edges_up (new_reds ls ms))

  abbrev g : Row → Bool
  g r = sameb r.cell.path c.path

  row : (t : ℕ) → t < length (rows l ms) → get_or (rows l ms) t no_row ≡ row_in l ms t
  row t h = rows_at l ms w.known t (omega (arith, length-rows l ms w.known))

  any_matched : (t : ℕ) → Is l t c → anyb g (red_rows ms ls l) ≡ new_red_at ms ls l t
  any_matched t is = go (either (new_red_at ms ls l t))
    where
      go : (new_red_at ms ls l t ≡ true) ⊎ (new_red_at ms ls l t ≡ false) → anyb g (red_rows ms ls l) ≡ new_red_at ms ls l t
      go (inl e) =
          let x = rows_at l ms w.known t is.below in
          any_chosen no_row f g (rows l ms) t (omega (arith, is.below, length-rows l ms w.known)) (ap f x ∙ e)
          (ap g x ∙ rw is.path (sameb_self c.path)) ∙ sym e
      go (inr e) =
          none_chosen no_row f g (rows l ms) (λ u h p q.
          let x = row u h in
          let y : u ≡ t = w.paths u t (omega (arith, length-rows l ms w.known)) is.below
          (same_list.sound (get_or l.cells u no_cell).path c.path (sym (ap g x) ∙ q) ∙ sym is.path) in
          let z : new_red_at ms ls l t ≡ true = ap (new_red_at ms ls l) (sym y) ∙ sym (ap f x) ∙ p in
          not_both (new_red_at ms ls l t) z e) ∙ sym e

  any_fresh : Fresh l c → anyb g (red_rows ms ls l) ≡ false
  any_fresh v =
      none_chosen no_row f g (rows l ms) (λ u h p q.
      let x = row u h in
      let i : u < length l.cells = omega (arith, length-rows l ms w.known) in
      v u i (new_red_regular (rows_up ls ms) (edges_up (new_reds ls ms)) (row_in l ms u) (w.follows u i) (sym (ap f x) ∙ p))
      (same_list.sound (get_or l.cells u no_cell).path c.path (sym (ap g x) ∙ q)))

  pub among_old : (o : ℕ) → Old l c o → amongb (red_rows ms ls l) c ≡ redb (get_or fs o 0)
  unfolding amongb
  among_old o (inl (t, e, r, is)) =
      rw (is_true c.regular r) (any_matched t is)
      ∙ sym (ap redb (ap (λ (x : ℕ). get_or fs x 0) e ∙ w.flag t is.below) ∙ flag_red (new_red_at ms ls l t))
  among_old o (inr (e, v)) = go (either c.regular)
    where
      dark : redb (get_or fs o 0) ≡ false
      dark = rw (e, flag_none fs w.small) refl

      go : (c.regular ≡ true) ⊎ (c.regular ≡ false) → amongb (red_rows ms ls l) c ≡ redb (get_or fs o 0)
      go (inl r) = rw r (any_fresh (v (rw r tt))) ∙ sym dark
      go (inr r) = rw r refl ∙ sym dark

-- no new red cells
pub among_none : (c : Cell Point) → amongb [] c ≡ false
unfolding amongb anyb
among_none c = go c.regular
  where
    go : (b : Bool) → (b && false) ≡ false
    go true = refl
    go false = refl
