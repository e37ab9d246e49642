-- Where no entry has a corner, no edge that is listed has it.
-- Law: none_meets.
-- Assumes nothing.
use mathlib.Core.Path.{◌≡◌, ◌∙◌}
use mathlib.Core.Logic.{◌⊎◌, inl, inr, ⊎_elim}
use mathlib.Core.Bool.{false}
use Prim.Native.Nat.{ℕ, ◌-◌, ◌<◌, min, max}
use native.Mathlib.Decide.{ℕ_discrete, dec_lt}
use native.Mathlib.Omega.{arith}
use Rattle.base.specs.Places.{hasb}
use Rattle.spots.specs.Spots.{Without}
use Rattle.pairs.specs.Keys.{seek, seek_found}
use Rattle.edges.specs.Pairs.{sorted, isb}
use Rattle.pairs.specs.declared.PairTable.{PairTable}
use Rattle.edges.specs.Table.{entries}
use Rattle.edges.specs.Seek.{missing}
use Rattle.probing.specs.Probed.{Unmet}

-- each end of an edge is one of its pair
end_first : (a b : ℕ) → (min a b ≡ a) ⊎ (max a b ≡ a)
end_first a b = go (dec_lt a b)
  where
    go : Dec (a < b) → (min a b ≡ a) ⊎ (max a b ≡ a)
    go (yes l) = inl (omega arith)
    go (no l) = inr (omega (arith, l))

end_second : (a b : ℕ) → (min a b ≡ b) ⊎ (max a b ≡ b)
end_second a b = go (dec_lt a b)
  where
    go : Dec (a < b) → (min a b ≡ b) ⊎ (max a b ≡ b)
    go (yes l) = inr (omega arith)
    go (no l) = inl (omega (arith, l))

-- what `may_meet` answers: a search for an edge with a corner that no entry has finds nothing
module _ {N H : ℕ} (t : PairTable N H) (a : ℕ) (w : Without t.xs t.ys t.from t.n a) where
  no_entry_lem : (x y : ℕ) → (x ≡ a) ⊎ (y ≡ a) → hasb isb (entries t) (x, y) ≡ false
  no_entry_lem x y o =
      missing t.xs t.ys t.from x y (t.n - t.from) (omega (arith, t.up, t.in_order.small)) (go (ℕ_discrete _ 65535))
    where
      go : Dec (seek t.xs t.ys x y t.from (t.n - t.from) ≡ 65535) → seek t.xs t.ys x y t.from (t.n - t.from) ≡ 65535
      go (yes q) = q
      go (no q) =
          let f = seek_found t.xs t.ys x y t.from (t.n - t.from) q in
          let l : seek t.xs t.ys x y t.from (t.n - t.from) < t.n = omega (arith, f.below, t.up) in
          absurd (⊎_elim (λ p. w.first _ f.above l (f.x_is ∙ p)) (λ p. w.second _ f.above l (f.y_is ∙ p)) o)

  pub none_meets : Unmet (entries t) a
  unfolding sorted
  none_meets =
      record {
        first = λ b. no_entry_lem (min a b) (max a b) (end_first a b);
        second = λ b. no_entry_lem (min b a) (max b a) (end_second b a);
      }
