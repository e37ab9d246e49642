-- A split table after the rounds of all levels, in which each part knows of the new red cells among its own.
--   Settled F       what is given: mesh, table, marks, owners, slots, what the parts know
--   task_in X         its job; entries_in X p the entries that the part p makes
--   old_level_in X k, new_level_in X k    the levels of the old table, and of the step's
--   num_in X k t     the number of the cell t of the old level k
--   own_in X k i, fam_in X k i    the part that owns the new cell i of level k, and the one that owns its family
use Rattle.std.specs.Prelude.{List, ℕ, suc, ◌+◌, pred, length, get_or}
use Rattle.mesh.specs.Table.{Level, levels_of}
use Rattle.base.specs.Every.{All}
use Rattle.lattice.specs.Levels.{IfRegular}
use Rattle.lineage.specs.Met.{new_at}
use Rattle.soundness.specs.Sound.{Sound, lv}
use Rattle.exchange.specs.Finite.{Finite}
use Rattle.rounds.specs.Task.{Task}
use Rattle.rounds.specs.Rounds.{State}
use Rattle.rounds.specs.Enough.{Known}
use Rattle.parts.specs.Held.{Entry}
use Rattle.splitting.specs.Split.{Slots, Owners, task_of}
use Rattle.shares.specs.Grow.{entries}
use Rattle.shares.specs.Owned.{own_at, fam_at}

pub record Settled {Part : Type 0} (F : Finite Part) : Type 0 where
  pub n : ℕ  -- corners
  pub qs : List (List ℕ)  -- coarse cells
  pub ss : List ℕ  -- the table
  pub ms : List ℕ  -- marks
  pub os : List ℕ  -- owners
  pub part : ℕ → Part  -- the part with a number
  pub slot : ℕ → ℕ → ℕ
  pub slots : ℕ → List ℕ
  pub state : Part → State  -- what the parts know
  pub sound : Sound n qs ss
  pub regular : (i : ℕ) → All (IfRegular n i) (lv n qs ss i).cells
  pub numbered : Slots n qs ss slot slots
  pub owned : Owners n qs ss os
  pub known : (p : Part) → Known F (task_of n qs ss slot slots os part) (λ c. get_or ms c 0) (suc (pred (length (levels_of n qs ss)))) p
      (state p)

module _ {Part : Type 0} {F : Finite Part} (X : Settled F) where
  abbrev pub task_in : Task Part
  task_in = task_of X.n X.qs X.ss X.slot X.slots X.os X.part

  abbrev pub entries_in : Part → List Entry
  entries_in p = entries F task_in p (X.state p)

  abbrev pub old_level_in : ℕ → Level
  old_level_in k = lv X.n X.qs X.ss k

  abbrev pub new_level_in : ℕ → Level
  new_level_in k = new_at X.n X.qs X.ss X.ms k

  abbrev pub num_in : ℕ → ℕ → ℕ
  num_in k t = (old_level_in k).first + t

  abbrev pub own_in : ℕ → ℕ → Part
  own_in k i = X.part (own_at X.n X.qs X.ss X.ms X.os k i)

  abbrev pub fam_in : ℕ → ℕ → Part
  fam_in k i = X.part (fam_at X.n X.qs X.ss X.ms X.os k i)
