-- What two entries of the starts say of the row between them, and the answer that is made of it.
-- Assumes nothing.
use mathlib.Core.Path.{◌≡◌}
use mathlib.Core.List.{List, ◌++◌}
use Prim.Native.Nat.{ℕ, suc, ◌+◌, ◌*◌, ◌-◌, ◌/◌, ◌≤◌, ◌<◌}
use native.Mathlib.Numerals.{add-one}
use native.Mathlib.Omega.{arith}
use lib.ListN.{length, take, drop, replicate}
use Rattle.base.specs.Answer.{Accepted}
use Rattle.cutting.specs.Answer.{Cut}
use Rattle.cutting.specs.Rule.{family}
use Rattle.cutting.specs.Answer.{digits_below, cut_into, cut_of, cut_of_accepted}
use Rattle.cutting.proofs.Table.{row_at}

pub record Found (p from to : ℕ) : Type 0 where
  pub up : from ≤ to
  pub inside : to ≤ 1172
  pub size : to - from ≡ 4 * length (family p)
  pub few : length (family p) ≤ 8

module _ (p from to : ℕ) (h : p < 64) (e : from ≡ length (digits_below p)) (g : to ≡ length (digits_below (p + 1))) where
  pub found : Found p from to
  found =
      let r = row_at p h in
      let k : to ≡ length (digits_below (suc p)) = rw add-one at g in
      record { up = omega arith; inside = omega arith; size = omega arith; few = r.few }

  pub accepted : (l : List ℕ) → l ≡ take (to - from) (drop from (digits_below 64)) ++ replicate (32 - (to - from)) 0
      → ◌≡◌ {A = Cut} (record { answer = Accepted; count = (to - from) / 4; digits = l }) (cut_of p)
  unfolding cut_into
  accepted l d =
      let r = row_at p h in
      let s : to - from ≡ 4 * length (family p) = found.size in
      let c : (to - from) / 4 ≡ length (family p) = omega arith in
      rw (cut_of_accepted p h, c, d, s, e, r.digits, r.fours)
