-- Counting a pair: its own count grows by one, and no other pair's changes, since another pair has another entry.
-- Assumes nothing.
use Rattle.std.proofs.Common.{◌≡◌, sym, ◌∙◌, arith}
use mathlib.Core.List.{List}
use Prim.Native.Nat.{ℕ, ◌+◌, ◌-◌, ◌≤◌, ◌<◌}
use lib.ListN.{length, get_or, set}
use lib.Seq.{get_or-set_same, get_or-set_other}
use Rattle.pairs.specs.Keys.{seek, Found, seek_found, seek_same, seek_other}
use Rattle.coarse.specs.Tally.{times}

module _ (xs ys counts : List ℕ) (from n x y : ℕ) (up : from ≤ n) (small : n ≤ 65535) where
  -- the entry of another pair is another
  apart : (v w e : ℕ) → get_or xs e 0 ≡ x → get_or ys e 0 ≡ y → e < n → (x ≡ v → y ≡ w → ⊥) → seek xs ys v w from (n - from) ≡ e → ⊥
  apart v w e p q h ne t =
      let f : Found xs ys v w from (n - from) e = rw t at (seek_found xs ys v w from (n - from) (λ z. omega arith)) in
      ne (sym p ∙ f.x_is) (sym q ∙ f.y_is)

  -- the entry n is none of the first n
  not_last : (v w : ℕ) → n < 65535 → seek xs ys v w from (n - from) ≡ n → ⊥
  not_last v w s t =
      let f : Found xs ys v w from (n - from) n = rw t at (seek_found xs ys v w from (n - from) (λ z. omega arith)) in
      omega (arith, f.below)

  -- a new entry, with the count 1
  module _ (in_xs : n < length xs) (in_ys : n < length ys) where
    pub new_same : n < length counts → times (set xs n x) (set ys n y) (set counts n 1) from (n + 1) x y ≡ 1
    unfolding times
    new_same h = rw (seek_same xs ys n in_xs in_ys x y from up) (get_or-set_same counts n 1 0 h)

    pub new_others : n < 65535 → (v w : ℕ) → (x ≡ v → y ≡ w → ⊥)
        → times (set xs n x) (set ys n y) (set counts n 1) from (n + 1) v w ≡ times xs ys counts from n v w
    unfolding times
    new_others s v w ne =
        rw (seek_other xs ys n in_xs in_ys v w from up x y ne)
        (get_or-set_other counts n (seek xs ys v w from (n - from)) 1 0 (not_last v w s))

  -- an entry that is there, with another count
  module _ (e k : ℕ) (found_at : e ≡ seek xs ys x y from (n - from)) (inside : e < n) where
    pub old_same : e < length counts → times xs ys (set counts e k) from n x y ≡ k
    unfolding times
    old_same h = rw (← found_at) (get_or-set_same counts e k 0 h)

    found : Found xs ys x y from (n - from) e
    found = rw (← found_at) at (seek_found xs ys x y from (n - from) (λ z. omega arith))

    pub old_others : (v w : ℕ) → (x ≡ v → y ≡ w → ⊥) → times xs ys (set counts e k) from n v w ≡ times xs ys counts from n v w
    unfolding times
    old_others v w ne =
        get_or-set_other counts e (seek xs ys v w from (n - from)) k 0 (apart v w e found.x_is found.y_is inside ne)
