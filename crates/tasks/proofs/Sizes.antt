-- Laws: slots_gap (the slots of a level are in a row), split_small (the task is small).
use Rattle.std.specs.Prelude.{◌≡◌, ℕ, suc, ◌-◌, length}
use Rattle.std.proofs.Common.{sym, ap}
use mathlib.Core.List.{List}
use native.Mathlib.Omega.{arith}
use Rattle.base.specs.Range.{range, length-range}
use Rattle.soundness.specs.Sound.{Sound}
use Rattle.exchange.specs.Finite.{parts}
use Rattle.rounds.specs.Bound.{SmallTask}
use Rattle.splitting.specs.Small.{small_task}
use Rattle.merging.specs.Run.{nth_part}
use Rattle.split.specs.Columns.{keys_at, slots_below, slot_of}
use Rattle.tasks.specs.Edges.{slots_on, slots_follow}
use Rattle.tasks.specs.Holders.{split_task}
use Rattle.tasks.specs.Sizes.{keys_few}

module _ (n : ℕ) (qs : List (List ℕ)) (ss : List ℕ) where
  pub slots_gap : (k : ℕ) → slots_on n qs ss k ≡ range (slots_below n qs ss k) (slots_below n qs ss (suc k) - slots_below n qs ss k)
  slots_gap k =
      let z : slots_below n qs ss (suc k) - slots_below n qs ss k ≡ length (keys_at n qs ss k) = omega (arith, slots_follow n qs ss k) in
      ap (range (slots_below n qs ss k)) (sym z)

  module _ (s : Sound n qs ss) where
    pub split_small : (Q : ℕ) (os : List ℕ) → SmallTask (parts (suc Q)) (split_task Q n qs ss os) (length ss)
    split_small Q os =
        small_task n qs ss s (parts (suc Q)) (slot_of n qs ss) (slots_on n qs ss)
        (λ k. omega (arith, keys_few n qs ss k, length-range (slots_below n qs ss k) (length (keys_at n qs ss k)))) os (nth_part Q)
