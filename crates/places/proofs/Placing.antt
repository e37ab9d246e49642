-- New children written, as the code writes them.
use mathlib.Core.Path.{◌≡◌, refl, ◌∙◌, ap}
use mathlib.Core.List.{List}
use Prim.Native.Nat.{ℕ, zero, suc, ◌+◌, ◌<◌}
use native.Mathlib.Omega.{arith}
use Rattle.mesh.specs.Table.{size_of}
use Rattle.store.specs.declared.Place.{Place}
use Rattle.store.specs.Places.{child_place}
use Rattle.turns.specs.Loops.{each_from}
use Rattle.places.specs.Put.{put_master, put_leaves, put_child}

module _ (x : List ℕ) (p : Place) (s : ℕ) where
  pub child_is : (f : ℕ → ℕ) (i : ℕ) (y : List ℕ) → s ≡ f i → y ≡ put_leaves (child_place p i) (size_of s) (put_master x (child_place p i) s)
      → y ≡ put_child p f x i
  unfolding put_child
  child_is f i y e g = g ∙ ap (λ (t : ℕ). put_leaves (child_place p i) (size_of t) (put_master x (child_place p i) t)) e

each_same : (f g : List ℕ → ℕ → List ℕ) (n k : ℕ) (x : List ℕ) → ((y : List ℕ) (j : ℕ) → j < k + n → f y j ≡ g y j)
    → each_from f n k x ≡ each_from g n k x
unfolding each_from
each_same f g zero k x h = refl
each_same f g (suc n) k x h =
    ap (each_from f n (suc k)) (h x k (omega arith)) ∙ each_same f g n (suc k) (g x k) (λ y j l. h y j (omega arith))

pub children_is : (p q : Place) (f g : ℕ → ℕ) (x y : List ℕ) → q ≡ p → ((i : ℕ) → i < 8 → f i ≡ g i) → y ≡ each_from (put_child q f) 8 0 x
    → y ≡ each_from (put_child p g) 8 0 x
unfolding put_child
children_is p q f g x y d h e =
    e ∙ ap (λ (r : Place). each_from (put_child r f) 8 0 x) d
    ∙ each_same (put_child p f) (put_child p g) 8 0 x
    (λ z j l. ap (λ (s : ℕ). put_leaves (child_place p j) (size_of s) (put_master z (child_place p j) s)) (h j (omega (arith, l))))
