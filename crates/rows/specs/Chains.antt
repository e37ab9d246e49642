-- The tests of lists as chains of iterators have them: all_chain, any_chain.
use Rattle.std.specs.Prelude.{◌≡◌, refl, Bool, List, [], ◌∷◌, ◌&&◌, ◌||◌}
use Rattle.std.specs.List.{list_all, list_any}
use Rattle.std.proofs.Common.{ap}
use Rattle.base.specs.Lists.{allb, anyb}

module _ {A : Type 0} (f : A → Bool) where
  pub all_chain : (l : List A) → list_all f l ≡ allb f l
  unfolding allb
  all_chain [] = refl
  all_chain (x ∷ l) = ap (λ b. f x && b) (all_chain l)

  pub any_chain : (l : List A) → list_any f l ≡ anyb f l
  unfolding anyb
  any_chain [] = refl
  any_chain (x ∷ l) = ap (λ b. f x || b) (any_chain l)
