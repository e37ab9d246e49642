-- A list with a part written over.
--   written l i vs   l with vs from the place i on
-- Laws: written_none, written_more (two parts, one behind the other), what stands before and behind (take-written,
-- get_d_written), and the cells before (cell_kept).
use Rattle.std.specs.Prelude.{◌≡◌, ℕ, ◌+◌, ◌*◌, ◌≤◌, ◌<◌, get_or}
use Rattle.std.proofs.Math.Path.{sym, ap}
use Rattle.std.proofs.Common.{◌∙◌, add-zero, add_assoc, arith, take-append-drop, take_at, drop_at, get_or-take}
use mathlib.Core.List.{List, [], ◌++◌, append_assoc}
use Rattle.std.proofs.Math.ListN.{length, take, drop, length-append, length-drop, get_or-append}
use Rattle.std.proofs.Math.Seq.{length-take-le, drop-drop}
use Rattle.rows.specs.Numbered.{cell_at}

unfoldable pub written : List ℕ → ℕ → List ℕ → List ℕ
written l i vs = take i l ++ (vs ++ drop (i + length vs) l)

pub written_none : (l : List ℕ) (i : ℕ) → written l i [] ≡ l
unfolding written
written_none l i = rw add-zero (take-append-drop i l)

module _ (l : List ℕ) (i : ℕ) (vs : List ℕ) (h : i + length vs ≤ length l) where
  front : length (take i l ++ vs) ≡ i + length vs
  front = length-append (take i l) vs ∙ rw (length-take-le i l (omega arith))

  pub take-written : take (i + length vs) (written l i vs) ≡ take i l ++ vs
  unfolding written
  take-written = rw (← append_assoc (take i l) vs (drop (i + length vs) l))
      (take_at (take i l ++ vs) (drop (i + length vs) l) (i + length vs) front)

  drop-written : drop (i + length vs) (written l i vs) ≡ drop (i + length vs) l
  unfolding written
  drop-written = rw (← append_assoc (take i l) vs (drop (i + length vs) l))
      (drop_at (take i l ++ vs) (drop (i + length vs) l) (i + length vs) front)

  pub length-written : length (written l i vs) ≡ length l
  unfolding written
  length-written =
      length-append (take i l) (vs ++ drop (i + length vs) l)
      ∙ rw (length-append vs (drop (i + length vs) l), length-take-le i l (omega arith), length-drop (i + length vs) l) (omega arith)

  pub written_more : (ws : List ℕ) → written (written l i vs) (i + length vs) ws ≡ written l i (vs ++ ws)
  unfolding written
  written_more ws =
      let e : drop (i + length vs + length ws) (written l i vs) ≡ drop (i + length (vs ++ ws)) l =
      sym (drop-drop (length ws) (i + length vs) (written l i vs)) ∙ ap (drop (length ws)) drop-written
      ∙ drop-drop (length ws) (i + length vs) l
      ∙ rw (length-append vs ws, add_assoc) in
      ap (λ (r : List ℕ). r ++ (ws ++ drop (i + length vs + length ws) (written l i vs))) take-written
      ∙ ap (λ (r : List ℕ). (take i l ++ vs) ++ (ws ++ r)) e
      ∙ append_assoc (take i l) vs (ws ++ drop (i + length (vs ++ ws)) l)
      ∙ ap (λ (r : List ℕ). take i l ++ r) (sym (append_assoc vs ws (drop (i + length (vs ++ ws)) l)))

-- what stands before
pub get_d_written : (l : List ℕ) (i : ℕ) (vs : List ℕ) → i ≤ length l → (j d : ℕ) → j < i → get_or (written l i vs) j d ≡ get_or l j d
unfolding written
get_d_written l i vs h j d k =
    get_or-append (take i l) (vs ++ drop (i + length vs) l) d j (rw (length-take-le i l h) k) ∙ get_or-take i l j d k

module _ (t : List ℕ) (at : ℕ) (vs : List ℕ) (h : 8 * at ≤ length t) where
  pub cell_kept : (k : ℕ) → k < at → cell_at (written t (8 * at) vs) k ≡ cell_at t k
  unfolding cell_at
  cell_kept k l =
      rw (
        get_d_written t (8 * at) vs h (8 * k + 1) 0 (omega arith),
        get_d_written t (8 * at) vs h (8 * k + 3) 0 (omega arith),
        get_d_written t (8 * at) vs h (8 * k + 4) 0 (omega arith),
        get_d_written t (8 * at) vs h (8 * k + 5) 0 (omega arith),
        get_d_written t (8 * at) vs h (8 * k + 6) 0 (omega arith),
        get_d_written t (8 * at) vs h (8 * k + 7) 0 (omega arith),
      )
