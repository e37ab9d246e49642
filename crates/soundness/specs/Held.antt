-- The edges of red cells, and the statuses of a closed level, by the places of the cells.
--   RedHas cs ss e   a red cell of cs, with statuses ss, has the edge e
-- Laws: red_which, red_at_lem (the edges of red cells), closed_at, closed-length (the statuses of a closed level), red_regular (its red
-- cells are regular), regular_at (a regular cell of a level).
use Rattle.std.specs.Prelude.{◌≡◌, Bool, eqb, length, get_or}
use Rattle.std.proofs.Math.Path.{refl}
use Rattle.std.proofs.Common.{⊎_elim, arith, eqb→eq, eqb-true}
use Rattle.std.proofs.Math.Bool.{true, false}
use mathlib.Core.List.{List, [], ◌∷◌, ◌++◌}
use Prim.Native.Nat.{ℕ, zero, suc, ◌<◌}
use Rattle.std.proofs.Math.Dec.{T}
use Rattle.base.specs.Lists.{sameb, anyb}
use Rattle.base.specs.Bools.{and_left, and_right}
use Rattle.mesh.specs.Cells.{Cell, redb, edges, heldb, red_edges, status_of, closed_from, no_cell}
use Rattle.mesh.specs.Weights.{Point}
use Rattle.mesh.specs.Table.{Level, closedb}
use Rattle.rows.specs.Many.{closed_many}
use Rattle.base.specs.Every.{All, all_at}
use Rattle.lattice.specs.Regular.{Regular}
use Rattle.lattice.specs.Levels.{IfRegular}
use Rattle.carriers.specs.Joins.{Edge, held_first, held_second, held_either}
use Rattle.carriers.specs.Refined.{StatusIn, status_regular}

-- Rule 6.2: a red cell has the edge.
pub record RedHas (cs : List (Cell Point)) (ss : List ℕ) (e : Edge) : Type 0 where
  pub i : ℕ
  pub below : i < length cs
  pub known : i < length ss
  pub red : get_or ss i 0 ≡ 64
  pub has : T (heldb sameb (edges [] (get_or cs i no_cell)) e)

module _ (e : Edge) where
  pub red_which : (cs : List (Cell Point)) (ss : List ℕ) → T (heldb sameb (red_edges [] cs ss) e) → RedHas cs ss e
  unfolding red_edges heldb anyb
  red_which [] ss t = absurd t
  red_which (c ∷ cs) [] t = absurd t
  red_which (c ∷ cs) (s ∷ ss) t = go (redb s) refl (red_which cs ss)
    where
      later : RedHas cs ss e → RedHas (c ∷ cs) (s ∷ ss) e
      later w = record { i = suc w.i; below = omega (arith, w.below); known = omega (arith, w.known); red = w.red; has = w.has }

      go : (b : Bool) → redb s ≡ b → (T (heldb sameb (red_edges [] cs ss) e) → RedHas cs ss e) → RedHas (c ∷ cs) (s ∷ ss) e
      go true q f =
          let u : T (heldb sameb (edges [] c ++ red_edges [] cs ss) e) = rw (q, red_edges) at t in
          ⊎_elim (λ (v : T (heldb sameb (edges [] c) e)). record
          { i = 0; below = omega arith; known = omega arith; red = eqb-true s 64 q; has = v })
          (λ (v : T (heldb sameb (red_edges [] cs ss) e)). later (f v)) (held_either e (edges [] c) (red_edges [] cs ss) u)
      go false q f = let u : T (heldb sameb (red_edges [] cs ss) e) = rw (q, red_edges) at t in later (f u)

  red_more : (c : Cell Point) (cs : List (Cell Point)) (s : ℕ) (ss : List ℕ) → T (heldb sameb (red_edges [] cs ss) e)
      → T (heldb sameb (red_edges [] (c ∷ cs) (s ∷ ss)) e)
  unfolding red_edges
  red_more c cs s ss t = go (redb s) refl
    where
      go : (b : Bool) → redb s ≡ b → T (heldb sameb (red_edges [] (c ∷ cs) (s ∷ ss)) e)
      go true q = rw (q, red_edges) (held_second e (edges [] c) (red_edges [] cs ss) t)
      go false q = rw (q, red_edges) t

  red_here : (c : Cell Point) (cs : List (Cell Point)) (s : ℕ) (ss : List ℕ) → s ≡ 64 → T (heldb sameb (edges [] c) e)
      → T (heldb sameb (red_edges [] (c ∷ cs) (s ∷ ss)) e)
  unfolding red_edges
  red_here c cs s ss q t = rw q (held_first e (edges [] c) (red_edges [] cs ss) t)

  red_place : (cs : List (Cell Point)) (ss : List ℕ) (i : ℕ) → i < length cs → i < length ss → get_or ss i 0 ≡ 64
      → T (heldb sameb (edges [] (get_or cs i no_cell)) e)
      → T (heldb sameb (red_edges [] cs ss) e)
  red_place [] ss i h g q t = absurd (omega arith)
  red_place (c ∷ cs) [] i h g q t = absurd (omega arith)
  red_place (c ∷ cs) (s ∷ ss) zero h g q t = red_here c cs s ss q t
  red_place (c ∷ cs) (s ∷ ss) (suc i) h g q t = red_more c cs s ss (red_place cs ss i (omega arith) (omega arith) q t)

  pub red_at_lem : (cs : List (Cell Point)) (ss : List ℕ) → RedHas cs ss e → T (heldb sameb (red_edges [] cs ss) e)
  red_at_lem cs ss w = red_place cs ss w.i w.below w.known w.red w.has

-- a closed level
closed_place : (es : List Edge) (cs : List (Cell Point)) (ss : List ℕ) → T (closed_from [] sameb es cs ss) → (i : ℕ) → i < length cs
    → (i < length ss) × StatusIn es (get_or cs i no_cell) (get_or ss i 0)
unfolding closed_from
closed_place es [] ss t i h = absurd (omega arith)
closed_place es (c ∷ cs) [] t i h = absurd t
closed_place es (c ∷ cs) (s ∷ ss) t zero h = (
  omega arith,
  eqb→eq s (status_of [] sameb es (redb s) c)
      (and_left (eqb s (status_of [] sameb es (redb s) c)) (closed_from [] sameb es cs ss) t),
)
closed_place es (c ∷ cs) (s ∷ ss) t (suc i) h =
    let (a, b) = closed_place es cs ss (and_right (eqb s (status_of [] sameb es (redb s) c)) (closed_from [] sameb es cs ss) t) i
    (omega arith) in
    (omega arith, b)

module _ (l : Level) (t : T (closedb l)) where
  pub closed_at : (i : ℕ) → i < length l.cells → (i < length l.statuses) × StatusIn (red_edges [] l.cells l.statuses)
      (get_or l.cells i no_cell) (get_or l.statuses i 0)
  unfolding closedb
  closed_at i h = closed_place (red_edges [] l.cells l.statuses) l.cells l.statuses t i h

  pub closed-length : length l.statuses ≡ length l.cells
  unfolding closedb
  closed-length = closed_many (red_edges [] l.cells l.statuses) l.cells l.statuses t

  -- red cells are regular
  pub red_regular : (i : ℕ) → i < length l.cells → get_or l.statuses i 0 ≡ 64 → T (get_or l.cells i no_cell).regular
  red_regular i h q =
      status_regular (red_edges [] l.cells l.statuses) (get_or l.cells i no_cell) (get_or l.statuses i 0) (closed_at i h).1
      (λ z. omega (arith, z, q))

pub regular_at : (n k : ℕ) (l : Level) → All (IfRegular n k) l.cells → (i : ℕ) → i < length l.cells
    → T (get_or l.cells i no_cell).regular → Regular n k (get_or l.cells i no_cell)
regular_at n k l a i h r = all_at (IfRegular n k) no_cell l.cells a i h r
