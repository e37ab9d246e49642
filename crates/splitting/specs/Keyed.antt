-- Slots (edges, rule 5.4) by the places of keys: a level's edges have keys, which stand in a list of the level, and levels follow one
-- another. So a program numbers the edges of a table by first appearance.
--   keyed_slot c e, keyed_slots k    the slot of the edge e of the cell c; those of level k
-- Law: keyed_slots_lem (they are slots; proofs/Keyed).
use Rattle.std.specs.Prelude.{Bool}
use mathlib.Core.List.{List}
use Prim.Native.Nat.{ℕ, ◌+◌, pred}
use Rattle.std.proofs.Math.ListN.{length}
use Rattle.base.specs.Places.{place_in}
use Rattle.base.specs.Range.{range}
use Rattle.parts.specs.Owners.{nth_cell}

module _ (n : ℕ) (qs : List (List ℕ)) (ss : List ℕ) {A : Type 0} (same : A → A → Bool) (keys : ℕ → List A) (base : ℕ → ℕ)
    (key : ℕ → ℕ → A) where
  unfoldable pub keyed_slot : ℕ → ℕ → ℕ
  unfolding nth_cell place_in
  keyed_slot c e = let k = pred (length (nth_cell n qs ss c).path) in base k + place_in same (keys k) (key c e)

  unfoldable pub keyed_slots : ℕ → List ℕ
  unfolding range
  keyed_slots k = range (base k) (length (keys k))
