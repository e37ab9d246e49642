-- The six edges of a cell by their numbers.
-- Laws: edge_at_lem, edge_count (the edges of a cell), held_which, held_at (an edge that a cell has).
use Rattle.std.specs.Prelude.{◌≡◌, Bool, ℕ, ◌<◌, T, length}
use Rattle.std.proofs.Math.Path.{refl}
use Rattle.std.proofs.Common.{arith}
use Rattle.std.proofs.Math.ListN.{get_or}
use Rattle.mesh.specs.Cells.{Cell, edge, edges, joinsb, heldb}
use Rattle.base.specs.Every.{below_at, any_place, any_at}

-- an edge of a cell, by its number
module _ {A : Type 0} (o : A) (c : Cell A) where
  pub edge_at_lem : (y : ℕ) → y < 6 → get_or (edges o c) y (o, o) ≡ edge o c y
  unfolding edges edge
  edge_at_lem = below_at (λ y. get_or (edges o c) y (o, o) ≡ edge o c y) 6 ((((((tt, refl), refl), refl), refl), refl), refl)

  pub edge_count : length (edges o c) ≡ 6
  unfolding edges
  edge_count = refl

  module _ (same : A → A → Bool) (e : A × A) where
    pub held_which : T (heldb same (edges o c) e) → (y : ℕ) × (y < 6) × T (joinsb same e (edge o c y))
    unfolding heldb
    held_which t =
        let (y, h, u) = any_place (joinsb same e) (o, o) (edges o c) t in
        let g : y < 6 = omega (arith, edge_count) in
        (y, g, rw (edge_at_lem y g) at u)

    pub held_at : (y : ℕ) → y < 6 → T (joinsb same e (edge o c y)) → T (heldb same (edges o c) e)
    unfolding heldb
    held_at y h t = any_at (joinsb same e) (o, o) (edges o c) y (omega (arith, edge_count)) (rw (edge_at_lem y h) t)
