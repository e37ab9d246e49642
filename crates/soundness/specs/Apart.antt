-- The third condition of soundness, cell by cell and edge by edge.
-- Laws: apart_at (what it says of a cell that is not regular), apart_from (how to show it).
use Rattle.std.specs.Prelude.{◌≡◌, ◌⊎◌, Bool, ◌||◌, ℕ, ◌<◌, length}
use Rattle.std.proofs.Math.Path.{refl}
use Rattle.std.proofs.Math.Logic.{inl, inr, ⊎_elim}
use Rattle.std.proofs.Math.Bool.{true, false, not}
use mathlib.Core.List.{List, []}
use Rattle.std.proofs.Common.{arith}
use Rattle.std.proofs.Math.Dec.{T}
use Rattle.std.proofs.Math.ListN.{get_or}
use Rattle.base.specs.Lists.{allb, allb_at, sameb}
use Rattle.base.specs.Bools.{is_false, or_either}
use Rattle.mesh.specs.Cells.{Cell, edge, edges, heldb, red_edges, no_cell}
use Rattle.mesh.specs.Weights.{Point}
use Rattle.mesh.specs.Table.{apartb}
use Rattle.base.specs.Every.{all_each}
use Rattle.carriers.specs.Lists.{edge_at_lem, edge_count}

module _ (cs : List (Cell Point)) (ss : List ℕ) where
  -- Rule 6.4: a child's green cell.
  abbrev pub parent_of : Cell Point → Cell Point
  parent_of c = get_or cs c.parent c

  abbrev edge_apart : Cell Point → Point × Point → Bool
  edge_apart c e = heldb sameb (edges [] (parent_of c)) e || not (heldb sameb (red_edges [] cs ss) e)

  abbrev cell_apart : Cell Point → Bool
  cell_apart c = c.regular || allb (edge_apart c) (edges [] c)

  pub apart_at : T (apartb cs ss) → (i : ℕ) → i < length cs → (get_or cs i no_cell).regular ≡ false → (y : ℕ) → y < 6
      → T (heldb sameb (edges [] (parent_of (get_or cs i no_cell))) (edge [] (get_or cs i no_cell) y))
      ⊎ (heldb sameb (red_edges [] cs ss) (edge [] (get_or cs i no_cell) y) ≡ false)
  unfolding apartb
  apart_at t i h r y hy =
      let c = get_or cs i no_cell in
      let u : T (cell_apart c) = allb_at cell_apart no_cell cs t i h in
      let v : T (allb (edge_apart c) (edges [] c)) = rw r at u in
      let w : T (edge_apart c (get_or (edges [] c) y ([], []))) = allb_at (edge_apart c) ([], []) (edges [] c) v y
      (omega (arith, edge_count [] c)) in
      let z : T (edge_apart c (edge [] c y)) = rw (edge_at_lem [] c y hy) at w in
      ⊎_elim (λ (a : T (heldb sameb (edges [] (parent_of c)) (edge [] c y))). inl a)
      (λ (a : T (not (heldb sameb (red_edges [] cs ss) (edge [] c y)))). inr (is_false (heldb sameb (red_edges [] cs ss) (edge [] c y)) a))
      (or_either (heldb sameb (edges [] (parent_of c)) (edge [] c y)) (not (heldb sameb (red_edges [] cs ss) (edge [] c y))) z)

  pub apart_from : ((i : ℕ) → i < length cs → (get_or cs i no_cell).regular ≡ false → (y : ℕ) → y < 6
      → heldb sameb (edges [] (parent_of (get_or cs i no_cell))) (edge [] (get_or cs i no_cell) y) ≡ false
      → T (heldb sameb (red_edges [] cs ss) (edge [] (get_or cs i no_cell) y)) → ⊥)
      → T (apartb cs ss)
  unfolding apartb
  apart_from f = all_each cell_apart no_cell cs (λ i h. cell i h (get_or cs i no_cell).regular refl)
    where
      one : (c : Cell Point) (e : Point × Point) (a b : Bool) → heldb sameb (edges [] (parent_of c)) e ≡ a
          → heldb sameb (red_edges [] cs ss) e ≡ b → (a ≡ false → T b → ⊥) → T (a || not b)
      one c e true b p q g = tt
      one c e false true p q g = g refl tt
      one c e false false p q g = tt

      cell : (i : ℕ) → i < length cs → (b : Bool) → (get_or cs i no_cell).regular ≡ b → T (cell_apart (get_or cs i no_cell))
      cell i h true p = rw p tt
      cell i h false p =
          let c = get_or cs i no_cell in
          rw p (all_each (edge_apart c) ([], []) (edges [] c) (λ y hy.
          let hy' : y < 6 = omega (arith, edge_count [] c) in
          rw (edge_at_lem [] c y hy') (one c (edge [] c y) (heldb sameb (edges [] (parent_of c)) (edge [] c y))
          (heldb sameb (red_edges [] cs ss) (edge [] c y)) refl refl (f i h p y hy'))))
