-- The third condition over rows is rule 6.4 over weights.
-- Assumes nothing.
use Rattle.std.specs.Prelude.{◌≡◌, Bool, ◌||◌, ℕ, zero, suc, ◌+◌, ◌*◌, ◌<◌, length, take}
use Rattle.std.proofs.Math.Path.{refl, ap, ap₂, fun_ext}
use Rattle.std.proofs.Common.{sym, ◌∙◌, arith}
use Rattle.std.proofs.Math.Bool.{true, false, ◌&&◌, not}
use mathlib.Core.List.{List, [], ◌∷◌, map, flat_map}
use Rattle.std.proofs.Math.Dec.{eqb}
use Rattle.std.proofs.Math.ListN.{get_or}
use Rattle.base.specs.Lists.{allb}
use Rattle.base.specs.Places.{hasb}
use Rattle.mesh.specs.Cells.{Cell, edges, edge, heldb, red_edges, Four, no_cell}
use Rattle.mesh.specs.Layout.{row_of}
use Rattle.edges.specs.Pairs.{Pair, sorted, isb}
use Rattle.rows.specs.Numbered.{cell_at}
use Rattle.base.specs.Every.{All}
use Rattle.numbering.specs.Renamed.{apart_of}
use Rattle.closure.specs.Listed.{listed_apart}
use Rattle.closure.specs.Closed.{Lists, held_listed}
use Rattle.separation.specs.Parents.{Parents, apart_all}
use Rattle.tables.specs.Here.{Child}
use Rattle.tables.specs.Cells.{strip, cell_at_lem, cells_at_lem}
use Rattle.base.specs.Each.{default_free}

module _ (t : List ℕ) (zs : List (Cell ℕ)) (f : All Four zs) (e : take (8 * length zs) t ≡ flat_map row_of zs) (ss : List ℕ) (es : List Pair)
    (m : Lists es (red_edges 0 zs ss)) where
  -- the condition at one cell
  one : (c : Cell ℕ) → Child (length zs) c
      → listed_apart es t (strip c) ≡
      (c.regular || allb (λ e. heldb eqb (edges 0 (get_or zs c.parent c)) e || not (heldb eqb (red_edges 0 zs ss) e)) (edges 0 c))
  unfolding listed_apart edges edge
  one c h = go c.regular refl
    where
      go : (b : Bool) → c.regular ≡ b
          → (b || allb (λ e. heldb eqb (edges 0 (cell_at t c.parent)) e || not (hasb isb es (sorted e))) (edges 0 c))
          ≡ (b || allb (λ e. heldb eqb (edges 0 (get_or zs c.parent c)) e || not (heldb eqb (red_edges 0 zs ss) e)) (edges 0 c))
      go true q = refl
      go false q =
          let w : cell_at t c.parent ≡ strip (get_or zs c.parent c) = cell_at_lem t zs f e c.parent (h q)
          ∙ ap strip (default_free zs c.parent no_cell c (h q)) in
          ap (λ (g : Pair → Bool). allb g (edges 0 c))
          (fun_ext (λ (d : Pair). ap₂ (λ (x y : Bool). x || not y) (ap (λ (z : Cell ℕ). heldb eqb (edges 0 z) d) w)
          (held_listed es (red_edges 0 zs ss) m d)))

  each : (cs : List (Cell ℕ)) → All (Child (length zs)) cs
      → allb (listed_apart es t) (map strip cs) ≡ allb
      (λ c. c.regular || allb (λ e. heldb eqb (edges 0 (get_or zs c.parent c)) e || not (heldb eqb (red_edges 0 zs ss) e)) (edges 0 c))
      cs
  unfolding allb
  each [] h = refl
  each (c ∷ cs) h = ap₂ ◌&&◌ (one c h.0) (each cs h.1)

  pub apart_rows : All (Child (length zs)) zs → apart_all es t (length zs) ≡ apart_of 0 eqb zs ss
  unfolding apart_all apart_of
  apart_rows h = ap (allb (listed_apart es t)) (cells_at_lem t [] zs f e) ∙ each zs h

  child_at : (cs : List (Cell ℕ)) → All (Child (length zs)) cs → (k : ℕ) → k < length cs → Child (length zs) (get_or cs k no_cell)
  child_at [] h k l = absurd (omega arith)
  child_at (c ∷ cs) h zero l = h.0
  child_at (c ∷ cs) h (suc k) l = child_at cs h.1 k (omega arith)

  pub parents_rows : All (Child (length zs)) zs → Parents t (length zs)
  unfolding cell_at
  parents_rows h =
      record {
        below = λ k l r.
            let w = cell_at_lem t zs f e k l in
            let p : get_or t (8 * k + 1) 0 ≡ (get_or zs k no_cell).parent = ap (λ (c : Cell ℕ). c.parent) w in
            let g = child_at zs h k l (sym (ap (λ (c : Cell ℕ). c.regular) w) ∙ r) in
            omega arith;
      }
