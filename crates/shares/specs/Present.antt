-- Each master and ghost that the owners' rule and the step's table make is among a part's entries.
--   new_entry k i b    the entry of the new cell i of level k; b where it is a ghost
-- Laws: ghosts_in (the theorem for ghosts), kept_new, old_path, owner_met, family_met (status, path, owner and family's owner of a new cell
-- that was there), child_green, irregular_leaf (statuses of new children); and in proofs/Present masters_in_lem (the theorem for masters),
-- stays_there (a cell that stays is there), foster_status.
use Rattle.std.specs.Prelude.{◌≡◌, ◌≢◌, ◌⊎◌, Bool, ◌&&◌}
use Rattle.std.proofs.Math.Path.{refl, sym, ap, ap₂, subst}
use Rattle.std.proofs.Common.{◌∙◌, inl, inr, ⊎_elim, arith}
use Rattle.std.proofs.Math.Bool.{true, false, not}
use mathlib.Core.List.Memᴰ
use mathlib.Core.List.{List, Memᴰ}
use Prim.Native.Nat.{ℕ, suc, ◌<◌}
use Rattle.std.proofs.Math.Decide.{ℕ_discrete}
use Rattle.std.proofs.Math.Nat.{suc-pred-eq_of_pos}
use Rattle.std.proofs.Math.Dec.{T, eqb}
use Rattle.std.proofs.Math.ListN.{length, get_or}
use borrow.Author.Tests.{ne_eqb}
use Rattle.base.specs.Bools.{is_true, not_both, or_first, or_second}
use Rattle.base.specs.Range.{range, range_member}
use Rattle.mesh.specs.Cells.{Cell, redb, no_cell}
use Rattle.mesh.specs.Weights.{Point}
use Rattle.mesh.specs.Table.{Level, levels_of, soundb}
use Rattle.lineage.specs.Paths.{path_at}
use Rattle.lineage.specs.Same.{Fresh}
use Rattle.lineage.specs.Met.{new_at, met, new_follows}
use Rattle.soundness.specs.Sound.{Sound, sound_from, level_there}
use Rattle.exchange.specs.Finite.{Finite}
use Rattle.rounds.specs.Task.{Task}
use Rattle.rounds.specs.Rounds.{State, is_part, mine}
use Rattle.rounds.specs.Among.{is_same, is_eq}
use Rattle.parts.specs.Held.{Entry}
use Rattle.splitting.specs.Numbers.{at_level}
use Rattle.splitting.specs.Split.{Slots, Owners, fits}
use Rattle.base.specs.Distinct.{in_flat}
use Rattle.shares.specs.Grow.{status_new, master_entry, ghost_entry, child_status}
use Rattle.shares.specs.Grow.{fresh_entries, entries, entry_by, cell_entries, level_entries}
use Rattle.shares.specs.Fresh.{kept_status}
use Rattle.shares.specs.There.{Met}
use Rattle.shares.specs.Owned.{matched_owner, matched_family, fresh_family}
use Rattle.shares.specs.Settled.{Settled, task_in, entries_in, old_level_in, new_level_in, num_in, own_in, fam_in}

abbrev pub new_entry : ℕ → List (List ℕ) → List ℕ → List ℕ → ℕ → ℕ → Bool → Entry
new_entry n qs ss ms k i b =
    record { path = path_at (new_at n qs ss ms k).cells i; status = get_or (new_at n qs ss ms k).statuses i 0; ghost = b }

module _ {Part : Type 0} {F : Finite Part} (X : Settled F) (p : Part) where
  abbrev n : ℕ
  n = X.n

  abbrev qs : List (List ℕ)
  qs = X.qs

  abbrev ss : List ℕ
  ss = X.ss

  abbrev ms : List ℕ
  ms = X.ms

  abbrev os : List ℕ
  os = X.os

  abbrev part : ℕ → Part
  part = X.part

  abbrev slot : ℕ → ℕ → ℕ
  slot = X.slot

  abbrev slots : ℕ → List ℕ
  slots = X.slots

  abbrev s : Sound n qs ss
  s = X.sound

  abbrev sl : Slots n qs ss slot slots
  sl = X.numbered

  abbrev own : Owners n qs ss os
  own = X.owned

  abbrev J : Task Part
  J = task_in X

  abbrev st : State
  st = X.state p

  abbrev sound : T (soundb n qs ss)
  sound = sound_from n qs ss s

  abbrev new : ℕ → Level
  new = new_level_in X

  abbrev new_cell : ℕ → ℕ → Cell Point
  new_cell k i = get_or (new k).cells i no_cell

  abbrev new_status : ℕ → ℕ → ℕ
  new_status k i = get_or (new k).statuses i 0

  abbrev old : ℕ → Level
  old = old_level_in X

  -- the new cell was not there
  abbrev Afresh : ℕ → ℕ → Type 0
  Afresh k i = (redb (new_status k i) ≡ false) × Fresh (old k) (new_cell k i)

  abbrev num : ℕ → ℕ → ℕ
  num = num_in X

  abbrev owner : ℕ → Part
  owner = J.owner

  abbrev st_now : ℕ → ℕ → ℕ
  st_now k t = status_new J st (num k t)

  abbrev st_was : ℕ → ℕ → ℕ
  st_was k t = get_or ss (num k t) 0

  abbrev path_of : ℕ → ℕ → List ℕ
  path_of k t = J.path (num k t)

  pub mine_owner : (c : ℕ) → owner c ≡ p → T (mine F J p c)
  mine_owner c e = or_first (is_part F (owner c) p) (is_part F (J.family c) p) (rw (is_same F (owner c) p e) tt)

  pub mine_family : (c : ℕ) → J.family c ≡ p → T (mine F J p c)
  mine_family c e = or_second (is_part F (owner c) p) (is_part F (J.family c) p) (rw (is_same F (J.family c) p e) tt)

  -- entries of one old cell
  pub entry_at : (k t : ℕ) → t < length (old k).cells → (e : Entry) → Memᴰ e (cell_entries F J p st k (num k t))
      → Memᴰ e (entries_in X p)
  unfolding entries
  entry_at k t h e m =
      let top = level_there n qs ss k t h in
      let z : suc J.top ≡ length (levels_of n qs ss) = suc-pred-eq_of_pos (omega arith) in
      in_flat (level_entries F J p st) (range 0 (suc J.top)) k e (range_member 0 (suc J.top) k (omega arith) (omega arith))
      (in_flat (cell_entries F J p st k) (J.cells k) (num k t) e (at_level n qs ss s k t h).here m)

  in_ghost : (c : ℕ) → owner c ≢ p → J.family c ≡ p → status_new J st c ≢ 0 → Memᴰ (entry_by (J.path c) (status_new J st c) true)
      (ghost_entry F J p st c)
  unfolding ghost_entry
  in_ghost c o f z =
      let a : is_part F (owner c) p ≡ false = not_is (owner c) o in
      let e : (not (is_part F (owner c) p) && (is_part F (J.family c) p && not (eqb (status_new J st c) 0))) ≡ true =
      ap₂ (λ (x y : Bool). not x && y) a (ap₂ (λ (x y : Bool). x && not y) (is_same F (J.family c) p f) (ne_eqb (status_new J st c) 0 z)) in
      rw (e, ghost_entry) (Memᴰ.head refl)
    where
      not_is : (q : Part) → q ≢ p → is_part F q p ≡ false
      not_is q d = go (is_part F q p) refl
        where
          go : (b : Bool) → is_part F q p ≡ b → b ≡ false
          go true e = absurd (d (is_eq F q p (rw e tt)))
          go false e = refl

  pub child_green : (c i : ℕ) → status_new J st c ≢ 64 → child_status F J p st c i ≡ 0
  unfolding child_status
  child_green c i e = rw (ne_eqb (status_new J st c) 64 e, child_status)

  -- what the part knows of a new cell that was there
  pub kept_new : (k i : ℕ) → k < 12 → i < length (new k).cells → T (new_cell k i).regular → (w : Met n qs ss ms k i)
      → T (mine F J p (num k w.t)) → new_status k i ≡ st_now k w.t
  kept_new k i h g r w o = kept_status X p k i h g r w o

  pub old_path : (k i : ℕ) (w : Met n qs ss ms k i) → path_of k w.t ≡ path_at (new k).cells i
  old_path k i w = ap (λ (c : Cell Point). c.path) (at_level n qs ss s k w.t w.is.below).cell_is ∙ w.is.path

  pub owner_met : (k i : ℕ) → k < 12 → i < length (new k).cells → T (new_cell k i).regular → (w : Met n qs ss ms k i)
      → own_in X k i ≡ owner (num k w.t)
  owner_met k i h g r w = ap part (matched_owner n qs ss ms s os own k i h g r w)

  pub family_met : (k i : ℕ) → k < 12 → i < length (new k).cells → T (new_cell k i).regular → (w : Met n qs ss ms k i)
      → fam_in X k i ≡ J.family (num k w.t)
  family_met k i h g r w = ap part (matched_family n qs ss ms s os own k i h g r w)

  -- a cell whose family is here is refined, or a master
  pub here_either : (k t : ℕ) → t < length (old k).cells → J.family (num k t) ≡ p → (st_was k t ≢ 0) ⊎ (owner (num k t) ≡ p)
  here_either k t h f =
      elim (ℕ_discrete (st_was k t) 0) [
        | no z ↦ inl z
        | yes z ↦ inr (sym ((fits n qs ss s slot slots sl os own part).leaf_family k (num k t) (at_level n qs ss s k t h).here z) ∙ f)
      ]

  ghost_there : (k i : ℕ) → k < 12 → i < length (new k).cells → T (new_cell k i).regular → Met n qs ss ms k i → new_status k i ≢ 0
      → fam_in X k i ≡ p → own_in X k i ≢ p
      → Memᴰ (new_entry n qs ss ms k i true) (entries_in X p)
  ghost_there k i h g r w z f o =
      let c = num k w.t in
      let fc : J.family c ≡ p = sym (family_met k i h g r w) ∙ f in
      let ks = kept_new k i h g r w (mine_family c fc) in
      let e : new_entry n qs ss ms k i true ≡ entry_by (J.path c) (status_new J st c) true =
      ap₂ (λ (l : List ℕ) (x : ℕ). entry_by l x true) (sym (old_path k i w)) ks in
      subst (λ (x : Entry). Memᴰ x (entries_in X p)) (sym e)
      (entry_at k w.t w.is.below (entry_by (J.path c) (status_new J st c) true)
      (Memᴰ.append_right (master_entry F J p st k c)
      (Memᴰ.append_left (fresh_entries F J p st k c) (in_ghost c (λ q. o (owner_met k i h g r w ∙ q)) fc (λ q. z (ks ∙ q))))))

  -- a anew_child of a green cell
  module _ (k i : ℕ) (h : suc k < 12) (g : i < length (new (suc k)).cells) (r : (new_cell (suc k) i).regular ≡ false)
      (o : own_in X (suc k) i ≡ p) where
    pub irregular_leaf : new_status (suc k) i ≡ 0
    irregular_leaf =
        elim (ℕ_discrete (new_status (suc k) i) 0) [
          | yes e ↦ e
          | no z ↦ not_both (new_cell (suc k) i).regular
              (is_true (new_cell (suc k) i).regular ((new_follows n qs ss ms sound (suc k) i g).regular z)) r
        ]

  -- each ghost is there
  pub ghosts_in : (k i : ℕ) → k < 12 → i < length (new k).cells → new_status k i ≢ 0 → fam_in X k i ≡ p → own_in X k i ≢ p
      → Memᴰ (new_entry n qs ss ms k i true) (entries_in X p)
  ghosts_in k i h g z f o =
      let r = (new_follows n qs ss ms sound k i g).regular z in
      ⊎_elim (λ (w : Met n qs ss ms k i). ghost_there k i h g r w z f o)
      (λ (w : Afresh k i). absurd (o (sym (ap part (fresh_family n qs ss ms s os own k i g w.1)) ∙ f)))
      (met n qs ss ms sound k i g r)
