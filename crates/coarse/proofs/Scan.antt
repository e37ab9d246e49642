-- The library's `all` is the definitions' test of every element; a flat list in arrays of four is its fours.
-- Assumes nothing.
use Rattle.std.specs.Prelude.{◌≡◌, refl, Bool, ◌&&◌, List, [], ◌∷◌, ◌/◌, ℕ, suc, length}
use Rattle.std.specs.List.{list_all}
use Rattle.std.specs.Simd.{first_chunks}
use Rattle.std.proofs.Common.{ap, arith}
use Rattle.base.specs.Lists.{allb}
use Rattle.base.specs.Fours.{fours}

pub all_is : {A : Type 0} (f : A → Bool) (l : List A) → list_all f l ≡ allb f l
unfolding allb
all_is f [] = refl
all_is f (x ∷ l) = ap (λ (b : Bool). f x && b) (all_is f l)

pub chunks_are_fours : (ts : List ℕ) → first_chunks 4 (length ts / 4) ts ≡ fours ts
unfolding fours
chunks_are_fours [] = refl
chunks_are_fours (a ∷ []) = refl
chunks_are_fours (a ∷ b ∷ []) = refl
chunks_are_fours (a ∷ b ∷ c ∷ []) = refl
chunks_are_fours (a ∷ b ∷ c ∷ d ∷ ts) =
    let e : length (a ∷ b ∷ c ∷ d ∷ ts) / 4 ≡ suc (length ts / 4) = omega arith in
    rw e (ap (λ (l : List (List ℕ)). (a ∷ b ∷ c ∷ d ∷ []) ∷ l) (chunks_are_fours ts))
