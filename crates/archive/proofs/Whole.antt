-- The form of the whole, from its parts.
--   Found bs v t       v and t are the numbers of corners and cells that the bytes have in front
--   found_corners, found_cells   what stands behind them
--   found_fits         they lie in the bytes
--   too_long           more than 65,536 bytes are not in the form
--   examined           the counts and the scan's answer are what is promised
-- Assumes nothing.
use mathlib.Core.Path.{◌≡◌, refl, sym, ◌∙◌, ap}
use mathlib.Core.Bool.{Bool, true, false, and-false}
use mathlib.Core.List.{List, []}
use Prim.Native.Nat.{ℕ, zero, suc, ◌+◌, ◌*◌, ◌-◌, ◌≤◌, ◌<◌}
use native.Mathlib.Omega.{arith}
use lib.Dec.{eqb}
use lib.ListN.{length, get_or, take, drop, length-drop}
use lib.Seq.{drop-drop, take_all}
use borrow.Author.Tests.{le-leb, lt-leb}
use Rattle.archive.specs.Form.{startsb, cell_records, steps_in, behind_corners, behind_cells, formb, job_of}
use Rattle.archive.specs.Records.{records_in, records_none, records_more, starts_long, records_fit, corners_many, corners_behind, cells_many, cells_behind}
use Rattle.archive.specs.Scan.{Scanned}
use Rattle.archive.specs.Examined.{CountsOf}

-- as many as there are bytes are fuel enough
empty_none : (l k : ℕ) (bs : List ℕ) → 0 < k → length bs ≤ 0 → startsb l k bs ≡ false
unfolding startsb
empty_none l k bs p h = rw (lt-leb k (length bs) (omega arith), and-false (eqb (get_or bs 0 0) l))

records_fuel : (l k : ℕ) → 0 < k → (f g : ℕ) (bs : List ℕ) → length bs ≤ f → length bs ≤ g → records_in l k f bs ≡ records_in l k g bs
unfolding records_in
records_fuel l k p zero zero bs a b = refl
records_fuel l k p zero (suc g) bs a b = sym (records_none l k bs (suc g) (empty_none l k bs p a))
records_fuel l k p (suc f) zero bs a b = records_none l k bs (suc f) (empty_none l k bs p b)
records_fuel l k p (suc f) (suc g) bs a b = go (startsb l k bs) refl (λ h. records_fuel l k p f g (drop k bs) (omega (arith, length-drop k bs)) (omega (arith, length-drop k bs)))
  where
    go : (t : Bool) → startsb l k bs ≡ t → (k ≤ length bs → records_in l k f (drop k bs) ≡ records_in l k g (drop k bs))
        → records_in l k (suc f) bs ≡ records_in l k (suc g) bs
    go false t less = records_none l k bs (suc f) t ∙ sym (records_none l k bs (suc g) t)
    go true t less = records_more l k bs f t ∙ ap suc (less (starts_long l k bs t)) ∙ sym (records_more l k bs g t)

pub record Found (bs : List ℕ) (v t : ℕ) : Type 0 where
  pub corners : v ≡ records_in 86 13 (length bs) bs
  pub cells : t ≡ records_in 84 9 (length bs) (drop (13 * v) bs)

pub corners_fit : (bs : List ℕ) (v : ℕ) → v ≡ records_in 86 13 (length bs) bs → 13 * v ≤ length bs
corners_fit bs v e = rw e (records_fit 86 13 (length bs) bs)

-- the bytes from a place to the end
pub rest_is : (bs : List ℕ) (i : ℕ) → take (length bs - i) (drop i bs) ≡ drop i bs
rest_is bs i = take_all (length bs - i) (drop i bs) (omega (arith, length-drop i bs))

-- the cells counted behind the corners
pub found_of : {bs rest : List ℕ} {v t : ℕ} → v ≡ records_in 86 13 (length bs) bs → rest ≡ drop (13 * v) bs
    → t ≡ records_in 84 9 (length rest) rest → Found bs v t
found_of {bs} {rest} {v} {t} a e b =
    record { corners = a; cells = rw e at b ∙ records_fuel 84 9 (omega arith) (length (drop (13 * v) bs)) (length bs) (drop (13 * v) bs) (omega arith) (omega (arith, length-drop (13 * v) bs)) }

module _ {bs : List ℕ} {v t : ℕ} (f : Found bs v t) where
  pub found_fits : 13 * v + 9 * t ≤ length bs
  found_fits =
      let c : 9 * t ≤ length (drop (13 * v) bs) = rw f.cells (records_fit 84 9 (length bs) (drop (13 * v) bs)) in
      omega (arith, corners_fit bs v f.corners, length-drop (13 * v) bs)

  pub found_corners : behind_corners bs ≡ drop (13 * v) bs
  unfolding behind_corners
  found_corners = corners_behind (length bs) bs ∙ rw (← f.corners)

  pub found_cells : behind_cells bs ≡ drop (13 * v + 9 * t) bs
  unfolding behind_cells
  found_cells =
      ap (λ (b : List ℕ). (cell_records (length bs) b).1) found_corners
      ∙ cells_behind (length bs) (drop (13 * v) bs)
      ∙ rw (← f.cells) (drop-drop (9 * t) (13 * v) bs)

  pub form_is : length bs ≤ 65536 → formb bs ≡ (steps_in (length bs) [] (drop (13 * v + 9 * t) bs)).ok
  unfolding formb
  form_is h = rw (le-leb (length bs) 65536 h, found_cells)

  pub form_found : length bs ≤ 65536 → (ok : Bool) (m g : ℕ) → Scanned bs (13 * v + 9 * t) ok m g → ok ≡ formb bs
  form_found h ok m g s = s.ok_is ∙ sym (form_is h)

  pub examined : length bs ≤ 65536 → (m g : ℕ) → Scanned bs (13 * v + 9 * t) true m g
      → CountsOf bs (record { corners = v; cells = t; marks = m; steps = g })
  unfolding job_of
  examined h m g s =
      record {
        corners_are = corners_many (length bs) bs ∙ rw (← f.corners);
        cells_are = rw found_corners (cells_many (length bs) (drop (13 * v) bs) ∙ rw (← f.cells));
        marks_are = rw found_cells (s.marks_are tt);
        steps_are = rw found_cells (s.steps_are tt);
      }

pub too_long : (bs : List ℕ) → 65536 < length bs → formb bs ≡ false
unfolding formb
too_long bs h = rw (lt-leb (length bs) 65536 h)

-- a scan that finds no end has counted nothing
pub scanned_none : {bs : List ℕ} {from m g : ℕ} → Scanned bs from false m g → Scanned bs from false 0 0
scanned_none s = record { ok_is = s.ok_is; marks_are = λ t. absurd t; steps_are = λ t. absurd t }
