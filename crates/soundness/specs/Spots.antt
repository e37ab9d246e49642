-- The cells of a table by level and place, and by number.
--   Spot ls k rs j p   where the cell p of level j stands among all cells of the levels ls, which are numbered from k on and
--                      whose statuses are rs
--   SpotOf ls k rs i   the level and place of the i-th of these cells
-- Laws: spot (each cell has its number), spot_of (each number is a cell's).
use Rattle.std.specs.Prelude.{◌≡◌, length, get_or, take, drop}
use Rattle.std.proofs.Common.{sym, ◌∙◌, get_or-take, get_or-drop}
use mathlib.Core.List.{List, [], ◌∷◌, flat_map}
use Prim.Native.Nat.{ℕ, zero, suc, ◌+◌, ◌-◌, ◌<◌}
use Rattle.std.proofs.Math.Decide.{dec_lt}
use native.Mathlib.Omega.{arith}
use Rattle.std.proofs.Math.ListN.{length-append, get_or-append}
use Rattle.std.proofs.Math.Seq.{get_or-append-add}
use Rattle.mesh.specs.Cells.{Cell, no_cell}
use Rattle.mesh.specs.Weights.{Point}
use Rattle.mesh.specs.Table.{Level, levels, next, cells_of}
use Rattle.lattice.specs.Levels.{no_level}

pub record Spot (ls : List Level) (k : ℕ) (rs : List ℕ) (j p : ℕ) : Type 0 where
  -- how many cells stand on the levels below
  pub o : ℕ
  pub first : (get_or ls j no_level).first ≡ k + o
  pub inside : o + p < length (cells_of ls)
  pub cell : get_or (cells_of ls) (o + p) no_cell ≡ get_or (get_or ls j no_level).cells p no_cell
  pub status : get_or rs (o + p) 0 ≡ get_or (get_or ls j no_level).statuses p 0

module _ (k : ℕ) (cs : List (Cell Point)) (rs : List ℕ) (up : List Level) where
  abbrev low : Level
  low = record { first = k; cells = cs; statuses = take (length cs) rs }

  length-cells : length (cells_of (low ∷ up)) ≡ length cs + length (cells_of up)
  unfolding cells_of flat_map
  length-cells = length-append cs (cells_of up)

  first_cells : (p : ℕ) → p < length cs → get_or (cells_of (low ∷ up)) p no_cell ≡ get_or cs p no_cell
  unfolding cells_of flat_map
  first_cells p h = get_or-append cs (cells_of up) no_cell p h

  other_cells : (i : ℕ) → get_or (cells_of (low ∷ up)) (length cs + i) no_cell ≡ get_or (cells_of up) i no_cell
  unfolding cells_of flat_map
  other_cells i = get_or-append-add cs (cells_of up) i no_cell

  spot_low : (p : ℕ) → p < length cs → Spot (low ∷ up) k rs 0 p
  spot_low p h =
      let e : 0 + p ≡ p = omega arith in
      record {
        o = 0;
        first = omega arith;
        inside = omega (arith, length-cells);
        cell = rw e (first_cells p h);
        status = rw e (sym (get_or-take (length cs) rs p 0 h));
      }

  spot_up : (j p : ℕ) → Spot up (k + length cs) (drop (length cs) rs) j p → Spot (low ∷ up) k rs (suc j) p
  spot_up j p s =
      let e : length cs + s.o + p ≡ length cs + (s.o + p) = omega arith in
      record {
        o = length cs + s.o;
        first = omega (arith, s.first);
        inside = omega (arith, length-cells, s.inside);
        cell = rw (e, other_cells (s.o + p)) s.cell;
        status = rw e (sym (get_or-drop (length cs) rs (s.o + p) 0) ∙ s.status);
      }

pub spot : (h k : ℕ) (cs : List (Cell Point)) (rs : List ℕ) (j p : ℕ) → p < length (get_or (levels h k cs rs) j no_level).cells
    → Spot (levels h k cs rs) k rs j p
unfolding levels
spot zero k cs rs j p l = absurd (omega arith)
spot (suc h) k [] rs j p l = absurd (omega arith)
spot (suc h) k (c ∷ cs) rs zero p l =
    spot_low k (c ∷ cs) rs (levels h (k + length (c ∷ cs)) (next k (c ∷ cs) (take (length (c ∷ cs)) rs)) (drop (length (c ∷ cs)) rs)) p l
spot (suc h) k (c ∷ cs) rs (suc j) p l =
    spot_up k (c ∷ cs) rs (levels h (k + length (c ∷ cs)) (next k (c ∷ cs) (take (length (c ∷ cs)) rs)) (drop (length (c ∷ cs)) rs)) j p
    (spot h (k + length (c ∷ cs)) (next k (c ∷ cs) (take (length (c ∷ cs)) rs)) (drop (length (c ∷ cs)) rs) j p l)

-- the cell with a number
pub record SpotOf (ls : List Level) (k : ℕ) (rs : List ℕ) (i : ℕ) : Type 0 where
  pub j : ℕ
  pub high : j < length ls
  pub p : ℕ
  pub below : p < length (get_or ls j no_level).cells
  pub at : Spot ls k rs j p
  pub number : at.o + p ≡ i

module _ (k : ℕ) (cs : List (Cell Point)) (rs : List ℕ) (up : List Level) where
  of_low : (i : ℕ) → i < length cs → SpotOf (low k cs rs up ∷ up) k rs i
  unfolding spot_low
  of_low i h = record { j = 0; high = omega arith; p = i; below = h; at = spot_low k cs rs up i h; number = omega arith }

  of_up : (i : ℕ) → SpotOf up (k + length cs) (drop (length cs) rs) i → SpotOf (low k cs rs up ∷ up) k rs (length cs + i)
  unfolding spot_up
  of_up i w =
      record {
        j = suc w.j;
        high = omega (arith, w.high);
        p = w.p;
        below = w.below;
        at = spot_up k cs rs up w.j w.p w.at;
        number = omega (arith, w.number);
      }

  of_either : (i : ℕ) → i < length (cells_of (low k cs rs up ∷ up))
      → ((i : ℕ) → i < length (cells_of up) → SpotOf up (k + length cs) (drop (length cs) rs) i)
      → SpotOf (low k cs rs up ∷ up) k rs i
  of_either i h f =
      elim (dec_lt i (length cs)) [
        | yes g ↦ of_low i g
        | no g ↦
            let e : length cs + (i - length cs) ≡ i = omega arith in
            rw e at (of_up (i - length cs) (f (i - length cs) (omega (arith, length-cells k cs rs up))))
      ]

pub spot_of : (h k : ℕ) (cs : List (Cell Point)) (rs : List ℕ) (i : ℕ) → i < length (cells_of (levels h k cs rs))
    → SpotOf (levels h k cs rs) k rs i
unfolding levels cells_of flat_map
spot_of zero k cs rs i l = absurd (omega arith)
spot_of (suc h) k [] rs i l = absurd (omega arith)
spot_of (suc h) k (c ∷ cs) rs i l =
    of_either k (c ∷ cs) rs (levels h (k + length (c ∷ cs)) (next k (c ∷ cs) (take (length (c ∷ cs)) rs)) (drop (length (c ∷ cs)) rs)) i l
    (spot_of h (k + length (c ∷ cs)) (next k (c ∷ cs) (take (length (c ∷ cs)) rs)) (drop (length (c ∷ cs)) rs))
