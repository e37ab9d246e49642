-- Law: slots_split (the slots of the levels, slots_on, are slots).
use Rattle.std.specs.Prelude.{◌≡◌, ℕ, length}
use mathlib.Core.List.{List}
use Rattle.std.proofs.Math.Dec.{T}
use Rattle.base.specs.Every.{All}
use Rattle.mesh.specs.Coarse.{cellsb}
use Rattle.mesh.specs.Table.{soundb}
use Rattle.splitting.specs.Split.{Slots}
use Rattle.splitting.specs.Keyed.{keyed_slot, keyed_slots}
use Rattle.split.specs.Columns.{slot_of}
use Rattle.tasks.specs.Edges.{slots_on, keyed}

module _ (n : ℕ) (qs : List (List ℕ)) (ss : List ℕ) where
  module _ (four : All (λ q. length q ≡ 4) qs) (accepted : T (cellsb n qs)) (sound : T (soundb n qs ss)) where
    pub slots_split : Slots n qs ss (slot_of n qs ss) (slots_on n qs ss)
    unfolding slot_of keyed_slot keyed_slots
    slots_split = keyed n qs ss four accepted sound
