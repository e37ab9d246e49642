-- An entry for the parts that pass a test: its bits are the receivers, in rising order.
-- Law: matches_all.
use Rattle.std.specs.Prelude.{◌≡◌, Bool, List, [], ◌++◌, map}
use Rattle.std.proofs.Math.Path.{refl, subst}
use Rattle.std.proofs.Common.{◌∙◌}
use Rattle.std.proofs.Math.Bool.{true, false}
use Prim.Native.Nat.{ℕ, zero, suc, ◌+◌, ◌-◌, ◌≤◌, Fin}
use native.Mathlib.Omega.{arith}
use Rattle.base.specs.Limits.{most_parts}
use Rattle.base.specs.Lists.{filterb}
use Rattle.exchange.specs.Finite.{parts}
use Rattle.rounds.specs.Task.{Task}
use Rattle.rounds.specs.Rounds.{Body}
use Rattle.rounds.specs.Order.{to_all}
use Rattle.rounds.specs.Upward.{ups, up_from, up_here, up_more, up_whole}
use Rattle.store.specs.Fields.{field, PART}
use Rattle.store.specs.declared.Spot.{Spot}
use Rattle.store.specs.Fetch.{code_at, value_at, bitb, spot_at}
use Rattle.standing.specs.Walk.{bits_from}
use Rattle.standing.specs.Packed.{bodyb, entry_code, entry_value}
use Rattle.standing.specs.Posting.{Matches}

module _ (P : ℕ) (J : Task (Fin P)) (p : Fin P) (y : List ℕ) (own : field y PART ≡ suc p.0) (j : ℕ) (b : Body)
    (c : code_at y j ≡ entry_code b) (v : value_at y j ≡ entry_value b) (f : bodyb b ≡ true)
    (m : ℕ) (t : Fin P → Bool) (bits : (q : Fin P) → bitb m q.0 ≡ t q) (none : (i : ℕ) → P ≤ i
    → bitb m i ≡ false) (l : List (Fin P × Body)) (w : List Spot) (rest : Matches P J p y own l w) where
  beyond : (n i : ℕ) → P ≤ i → bits_from n m i ≡ []
  unfolding bits_from
  beyond zero i h = refl
  beyond (suc n) i h = rw (none i h, bits_from) (beyond n (suc i) (omega arith))

  from : (n i k : ℕ) (h : i + n ≤ P) → i + n ≡ P
      → Matches P J p y own (map (λ q. (q, b)) (filterb t (up_from P n i h)) ++ l) (map (spot_at j) (bits_from (n + k) m i) ++ w)
  unfolding up_from filterb bits_from Matches
  from zero i k h e = let z : 0 + k ≡ k = omega arith in rw (z, beyond k i (omega arith)) rest
  from (suc n) i k h e =
      let z : suc n + k ≡ suc (n + k) = omega arith in
      rw z (go (t (i, up_here P n i h)) refl (from n (suc i) k (up_more P n i h) (omega arith)))
    where
      go : (a : Bool) → t (i, up_here P n i h) ≡ a
          → Matches P J p y own (map (λ q. (q, b)) (filterb t (up_from P n (suc i) (up_more P n i h)))
          ++ l) (map (spot_at j) (bits_from (n + k) m (suc i)) ++ w)
          → Matches P J p y own (map (λ q. (q, b)) (filterb t (up_from P (suc n) i h)) ++ l) (map (spot_at j) (bits_from (suc (n + k)) m i)
          ++ w)
      go true a r =
          let d : bitb m i ≡ true = bits (i, up_here P n i h) ∙ a in
          rw (a, d, filterb, bits_from) (refl, c, v, f, r)
      go false a r =
          let d : bitb m i ≡ false = bits (i, up_here P n i h) ∙ a in
          rw (a, d, filterb, bits_from) r

  pub matches_all : P ≤ most_parts → Matches P J p y own (to_all (parts P) J (ups P) t b ++ l) (map (spot_at j) (bits_from 16 m 0) ++ w)
  unfolding to_all
  matches_all h =
      let z : P + (16 - P) ≡ 16 = omega arith in
      subst (λ (n : ℕ). Matches P J p y own (map (λ q. (q, b)) (filterb t (ups P)) ++ l) (map (spot_at j) (bits_from n m 0) ++ w)) z
      (from P 0 (16 - P) (up_whole P) (omega arith))
