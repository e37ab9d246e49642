-- Tables that are filled from the front.
--   put              one more element behind those that stand in front
--   Filled xs t₀ t k   the first k elements of xs stand in front in t, which was t₀
--   filled_start, filled_more, filled-length, filled_all
-- Assumes nothing.
use mathlib.Core.Path.{◌≡◌, refl, ◌∙◌}
use mathlib.Core.List.{List, [], ◌∷◌, ◌++◌, append_assoc}
use Prim.Native.Nat.{ℕ, suc, ◌+◌, ◌≤◌, ◌<◌}
use native.Mathlib.Numerals.{add-one}
use native.Mathlib.Omega.{arith}
use lib.ListN.{length, get_or, take, drop, set, length-append, length-drop}
use lib.Seq.{take-suc, drop-cons, set_at, take_all, length-take-le}
use Rattle.archive.specs.Loaded.{in_front}

pub put : {A : Type 0} (d : A) (l t : List A) (m : ℕ) (a : A) → length l ≡ m → m < length t
    → set (l ++ drop m t) m a ≡ (l ++ (a ∷ [])) ++ drop (m + 1) t
put d l t m a e h =
    rw (add-one m, append_assoc l (a ∷ []) (drop (suc m) t), drop-cons t m d h) (set_at l (get_or t m d) (drop (suc m) t) a m e)

pub record Filled {A : Type 0} (xs t₀ t : List A) (k : ℕ) : Type 0 where
  pub within : k ≤ length xs
  pub fits : length xs ≤ length t₀
  pub table : t ≡ take k xs ++ drop k t₀

module _ {A : Type 0} (xs t₀ : List A) where
  pub filled_start : length xs ≤ length t₀ → Filled xs t₀ t₀ 0
  filled_start h = record { within = omega arith; fits = h; table = refl }

  module _ {t : List A} {k : ℕ} (f : Filled xs t₀ t k) where
    pub filled-length : length t ≡ length t₀
    filled-length =
        rw f.table
        (omega (arith, length-append (take k xs) (drop k t₀), length-take-le k xs f.within, length-drop k t₀, f.within, f.fits))

    pub filled_more : (d v : A) → k < length xs → v ≡ get_or xs k d → Filled xs t₀ (set t k v) (k + 1)
    filled_more d v h e =
        record {
          within = omega arith;
          fits = f.fits;
          table =
              rw (
                f.table,
                e,
                put d (take k xs) t₀ k (get_or xs k d) (length-take-le k xs f.within) (omega (arith, f.fits)),
                add-one k,
                take-suc xs k d h,
              );
        }

    pub filled_all : length xs ≤ k → t ≡ in_front xs t₀
    filled_all h = let e : k ≡ length xs = omega (arith, f.within) in f.table ∙ rw (e, take_all (length xs) xs (omega arith))
