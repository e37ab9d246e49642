-- What a part makes is its share of the step's table: the masters and ghosts that the owners' rule gives it there.
--   Named P part number    parts by their numbers from 1 to P
--   table_in X, owners_in X  the step's table as one row, and its owners
-- Laws (proofs/Share): share_held, held_share (a part's entries are those of its number).
use Rattle.std.specs.Prelude.{◌≡◌, ℕ, ◌≤◌}
use mathlib.Core.List.{List, flatten}
use Rattle.lineage.specs.Olds.{step_by}
use Rattle.exchange.specs.Finite.{Finite}
use Rattle.parts.specs.Owners.{owners_after}
use Rattle.shares.specs.Settled.{Settled}

pub record Named {Part : Type 0} (P : ℕ) (part : ℕ → Part) (number : Part → ℕ) : Type 0 where
  pub back : (p : Part) → part (number p) ≡ p
  pub forth : (o : ℕ) → 1 ≤ o → o ≤ P → number (part o) ≡ o

module _ {Part : Type 0} {F : Finite Part} (X : Settled F) where
  abbrev pub table_in : List ℕ
  table_in = flatten (step_by X.n X.qs X.ss X.ms)

  abbrev pub owners_in : List ℕ
  owners_in = owners_after X.n X.qs X.ss X.os table_in
