-- The corners of a table: what holds of the coarse ones and of the midpoints of split edges holds of them all.
-- Laws: corners_each.
use Rattle.std.specs.Prelude.{◌≡◌, Bool, T, length, get_or}
use Rattle.std.proofs.Math.Path.{refl}
use Rattle.std.proofs.Math.Bool.{true, false}
use mathlib.Core.List.{List, [], ◌∷◌, ◌++◌, map}
use Prim.Native.Nat.{ℕ, zero, suc, ◌<◌, min, max}
use Rattle.std.proofs.Common.{arith}
use Rattle.base.specs.Lists.{filterb, sameb}
use Rattle.base.specs.Places.{hasb}
use Rattle.cutting.specs.Rule.{split}
use Rattle.mesh.specs.Cells.{Cell, edge, pattern_of, no_cell}
use Rattle.mesh.specs.Weights.{Point, coarse, mid}
use Rattle.mesh.specs.Layout.{Corner, weights_of, number_in, coarse_corners_to, coarse_corners, edge_numbers, split_edges, add_corner, add_corners}
use Rattle.mesh.specs.Layout.{corners_from, corners_of}
use Rattle.base.specs.Every.{All}
use Rattle.carriers.specs.Joins.{Edge}

module _ (P : Point → Type 0) where
  weights_snoc : (ks : List Corner) (k : Corner) → All P (weights_of ks) → P k.weights → All P (weights_of (ks ++ (k ∷ [])))
  weights_snoc [] k a p = (p, tt)
  weights_snoc (x ∷ ks) k a p = (a.0, weights_snoc ks k a.1 p)

  coarse_each : (n m : ℕ) → ((i : ℕ) → i < m → P (coarse n i)) → All P (weights_of (coarse_corners_to n m))
  unfolding coarse_corners_to
  coarse_each n zero f = tt
  coarse_each n (suc m) f =
      weights_snoc (coarse_corners_to n m) (record { weights = coarse n m; low = m; high = m }) (coarse_each n m (λ i h. f i (omega arith)))
      (f m (omega arith))

  add_each : (ks : List Corner) (e : Edge) → All P (weights_of ks) → P (mid e.0 e.1) → All P (weights_of (add_corner ks e))
  unfolding add_corner
  add_each ks e a p = go (hasb sameb (weights_of ks) (mid e.0 e.1)) refl
    where
      go : (b : Bool) → hasb sameb (weights_of ks) (mid e.0 e.1) ≡ b → All P (weights_of (add_corner ks e))
      go true q = rw (q, add_corner) a
      go false q = rw (q, add_corner)
          (weights_snoc ks (record {
            weights = mid e.0 e.1;
            low = min (number_in ks e.0) (number_in ks e.1);
            high = max
                (number_in ks e.0) (number_in ks e.1);
          }) a p)

  adds_each : (ks : List Corner) (es : List Edge) → All P (weights_of ks) → All (λ e. P (mid e.0 e.1)) es
      → All P (weights_of (add_corners ks es))
  unfolding add_corners
  adds_each ks [] a p = a
  adds_each ks (e ∷ es) a p = adds_each (add_corner ks e) es (add_each ks e a p.0) p.1

filter_each : (Q : Edge → Type 0) (t : ℕ → Bool) (f : ℕ → Edge) (l : List ℕ) → All (λ y. T (t y) → Q (f y)) l → All Q (map f (filterb t l))
unfolding filterb
filter_each Q t f [] a = tt
filter_each Q t f (y ∷ l) a = go (t y) refl (filter_each Q t f l a.1)
  where
    go : (b : Bool) → t y ≡ b → All Q (map f (filterb t l)) → All Q (map f (filterb t (y ∷ l)))
    go true q i = rw (q, filterb) (a.0 (rw q tt), i)
    go false q i = rw (q, filterb) i

module _ (P : Point → Type 0) where
  split_each : (c : Cell Point) (s : ℕ) → ((y : ℕ) → y < 6 → T (split (pattern_of s) y) → P (mid (edge [] c y).0 (edge [] c y).1))
      → All (λ e. P (mid e.0 e.1)) (split_edges [] c s)
  unfolding split_edges
  split_each c s f =
      filter_each (λ e. P (mid e.0 e.1)) (split (pattern_of s)) (edge [] c) edge_numbers
      (f 0 (omega arith), (f 1 (omega arith), (f 2 (omega arith), (f 3 (omega arith), (f 4 (omega arith), (f 5 (omega arith), tt))))))

  from_each : (ks : List Corner) (cs : List (Cell Point)) (ss : List ℕ) → All P (weights_of ks)
      → ((i : ℕ) → i < length cs → i < length ss → (y : ℕ) → y < 6 → T (split (pattern_of (get_or ss i 0)) y)
      → P (mid (edge [] (get_or cs i no_cell) y).0 (edge [] (get_or cs i no_cell) y).1))
      → All P (weights_of (corners_from ks cs ss))
  unfolding corners_from
  from_each ks [] ss a f = a
  from_each ks (c ∷ cs) [] a f = a
  from_each ks (c ∷ cs) (s ∷ ss) a f =
      from_each (add_corners ks (split_edges [] c s)) cs ss
      (adds_each P ks (split_edges [] c s) a (split_each c s (f 0 (omega arith) (omega arith))))
      (λ i h g. f (suc i) (omega arith) (omega arith))

  pub corners_each : (n : ℕ) (cs : List (Cell Point)) (ss : List ℕ) → ((i : ℕ) → i < n → P (coarse n i))
      → ((i : ℕ) → i < length cs → i < length ss → (y : ℕ) → y < 6 → T (split (pattern_of (get_or ss i 0)) y)
      → P (mid (edge [] (get_or cs i no_cell) y).0 (edge [] (get_or cs i no_cell) y).1))
      → All P (weights_of (corners_of n cs ss))
  unfolding corners_of coarse_corners
  corners_each n cs ss f g = from_each (coarse_corners n) cs ss (coarse_each P n n f) g
