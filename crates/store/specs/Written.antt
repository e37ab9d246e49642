-- Numbers written into a table, one after another.
--   WroteAt at v j x y     y is x with v 0 at the place at 0, and so on up to v (j - 1) at the place at (j - 1)
-- Laws: wrote_nothing, wrote_next.
use Rattle.std.specs.Prelude.{◌≡◌, refl, List, ℕ, suc, ◌<◌, length, get_or, set}
use Rattle.std.proofs.Common.{◌∙◌, ⊎_elim, eq-or-lt_of_le, arith, length-set, get_or-set_same, get_or-set_other}

pub record WroteAt (at v : ℕ → ℕ) (j : ℕ) (x y : List ℕ) : Type 0 where
  pub size : length y ≡ length x
  pub here : (i : ℕ) → i < j → get_or y (at i) 0 ≡ v i
  pub other : (k : ℕ) → ((i : ℕ) → i < j → k ≡ at i → ⊥) → get_or y k 0 ≡ get_or x k 0

module _ (at v : ℕ → ℕ) (x : List ℕ) where
  pub wrote_nothing : WroteAt at v 0 x x
  wrote_nothing = record { size = refl; here = λ i h. absurd (omega arith); other = λ k n. refl }

  pub wrote_next : (j : ℕ) (y : List ℕ) → at j < length x → ((i : ℕ) → i < j → at i ≡ at j → ⊥) → WroteAt at v j x y
      → WroteAt at v (suc j) x (set y (at j) (v j))
  wrote_next j y room apart w =
      record {
        size = length-set y (at j) (v j) ∙ w.size;
        here = λ i h.
            ⊎_elim (λ (e : i ≡ j). rw e (get_or-set_same y (at j) (v j) 0 (omega (arith, w.size))))
            (λ (e : i < j). get_or-set_other y (at j) (at i) (v j) 0 (apart i e) ∙ w.here i e)
            (eq-or-lt_of_le (omega arith));
        other = λ k n.
            get_or-set_other y (at j) k (v j) 0 (n j (omega arith)) ∙ w.other k (λ i h. n i (omega arith));
      }
