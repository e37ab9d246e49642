-- A part's entries are the masters and ghosts that the owners' rule and the step's table make, and nothing else.
--   Means X p e       the new cell that the entry e is of, and that p is its owner, or else its family's
--   Anew X p k t      the old cell t of level k has a family here after the step that is not its old one
-- Law: entries_are (the theorem; proofs/Entries).
use Rattle.std.specs.Prelude.{◌≡◌, ◌≢◌, ◌⊎◌, Bool, length, get_or}
use Rattle.std.proofs.Math.Path.{sym, ap, subst}
use Rattle.std.proofs.Common.{◌∙◌, arith}
use Rattle.std.proofs.Math.Logic.{⊎_elim}
use Rattle.std.proofs.Math.Bool.{true, false}
use mathlib.Core.List.{List, [], ◌∷◌, ◌++◌}
use Prim.Native.Nat.{ℕ, suc, ◌<◌}
use Rattle.std.proofs.Math.Dec.{T}
use Rattle.cutting.specs.Rule.{family}
use Rattle.mesh.specs.Cells.{Cell, redb, pattern_of, no_cell}
use Rattle.mesh.specs.Weights.{Point}
use Rattle.mesh.specs.Table.{Level, soundb, size_of}
use Rattle.rows.specs.Many.{size_refined}
use Rattle.lineage.specs.Paths.{path_at, snoc_inj}
use Rattle.lineage.specs.Same.{Fresh}
use Rattle.lineage.specs.Met.{new_next, flagged, met, new_known}
use Rattle.soundness.specs.Family.{ChildAt, family_child}
use Rattle.soundness.specs.Sound.{Sound, sound_from, level_there}
use Rattle.exchange.specs.Finite.{Finite}
use Rattle.rounds.specs.Task.{Task}
use Rattle.rounds.specs.Rounds.{State}
use Rattle.parts.specs.Held.{Entry}
use Rattle.splitting.specs.Numbers.{at_level}
use Rattle.shares.specs.Grow.{status_new}
use Rattle.shares.specs.There.{Met, There, red_parent}
use Rattle.shares.specs.Settled.{Settled, task_in, old_level_in, new_level_in, num_in, own_in, fam_in}
use Rattle.shares.specs.Present.{old_path}

module _ {Part : Type 0} {F : Finite Part} (X : Settled F) (p : Part) where
  abbrev n : ℕ
  n = X.n

  abbrev qs : List (List ℕ)
  qs = X.qs

  abbrev ss : List ℕ
  ss = X.ss

  abbrev ms : List ℕ
  ms = X.ms

  abbrev s : Sound n qs ss
  s = X.sound

  abbrev J : Task Part
  J = task_in X

  abbrev st : State
  st = X.state p

  abbrev sound : T (soundb n qs ss)
  sound = sound_from n qs ss s

  abbrev new : ℕ → Level
  new = new_level_in X

  abbrev new_cell : ℕ → ℕ → Cell Point
  new_cell k i = get_or (new k).cells i no_cell

  abbrev new_status : ℕ → ℕ → ℕ
  new_status k i = get_or (new k).statuses i 0

  abbrev old : ℕ → Level
  old = old_level_in X

  -- the new cell was not there
  abbrev Afresh : ℕ → ℕ → Type 0
  Afresh k i = (redb (new_status k i) ≡ false) × Fresh (old k) (new_cell k i)

  abbrev num : ℕ → ℕ → ℕ
  num = num_in X

  abbrev st_now : ℕ → ℕ → ℕ
  st_now k t = status_new J st (num k t)

  abbrev st_was : ℕ → ℕ → ℕ
  st_was k t = get_or ss (num k t) 0

  abbrev path_of : ℕ → ℕ → List ℕ
  path_of k t = J.path (num k t)

  -- nothing else is
  pub record Means (e : Entry) : Type 0 where
    pub k : ℕ
    pub i : ℕ
    pub high : k < 12
    pub below : i < length (new k).cells
    pub path : e.path ≡ path_at (new k).cells i
    pub status : e.status ≡ new_status k i
    pub kind : ((e.ghost ≡ false) × (own_in X k i ≡ p)) ⊎ ((e.ghost ≡ true) × (new_status k i ≢ 0) × (fam_in X k i ≡ p) × (own_in X k i ≢ p))

  pub old_low : (k t : ℕ) → t < length (old k).cells → k < 11
  old_low k t h = omega (arith, level_there n qs ss k t h, s.high)

  -- a cell with a family that is not its old one
  pub record Anew (k t : ℕ) : Type 0 where
    pub fc : J.family (num k t) ≡ p
    pub there : There n qs ss ms s k t
    pub is_new : new_status k there.i ≡ st_now k t
    pub some : st_now k t ≢ 0
    pub other : st_was k t ≡ 64 → st_now k t ≡ 64 → ⊥

  module _ (k t : ℕ) (h : t < length (old k).cells) (a : Anew k t) (i : ℕ) (hi : i < size_of (st_now k t)) where
    abbrev q : ℕ
    q = a.there.i

    pub low : k < 11
    low = old_low k t h

    refined : new_status k q ≢ 0
    refined e = a.some (sym a.is_new ∙ e)

    pub anew_child : ChildAt (new k) (new (suc k)) q i
    anew_child =
        family_child (new k) (new (suc k)) (new_next n qs ss ms k (omega (arith, low))) q i a.there.below
        (omega (arith, new_known n qs ss ms sound k, a.there.below)) refined
        (subst (λ (x : ℕ). i < length (family (pattern_of x))) (sym a.is_new)
        (subst (λ (x : ℕ). i < x) (size_refined (st_now k t) a.some) hi))

    abbrev u : ℕ
    u = anew_child.u

    pub anew_path : path_of k t ++ (i ∷ []) ≡ path_at (new (suc k)).cells u
    anew_path =
        let z : num k a.there.met_by.t ≡ num k t = ap (λ (x : ℕ). num k x) a.there.place_is in
        ap (λ (l : List ℕ). l ++ (i ∷ [])) (ap J.path (sym z) ∙ old_path X p k q a.there.met_by)
        ∙ sym (ap (λ (c : Cell Point). c.path) anew_child.is)

    pub anew_regular : (new_cell (suc k) u).regular ≡ redb (st_now k t)
    anew_regular = ap (λ (c : Cell Point). c.regular) anew_child.is ∙ ap redb a.is_new

    module _ (s64 : st_now k t ≡ 64) where
      pub reg : T (new_cell (suc k) u).regular
      reg = subst (λ (x : Bool). T x) (sym (anew_regular ∙ ap redb s64)) tt

      pub anew_fresh : Afresh (suc k) u
      anew_fresh = ⊎_elim (λ (w : Met n qs ss ms (suc k) u). absurd (clash w)) (λ (w : Afresh (suc k) u). w)
          (met n qs ss ms sound (suc k) u anew_child.below reg)
        where
          clash : Met n qs ss ms (suc k) u → ⊥
          clash w =
              let b' = red_parent n qs ss ms s k w.t w.is.below w.is.regular in
              let e : path_at (old k).cells b'.born.p ++ (b'.born.i ∷ []) ≡ path_of k t ++ (i ∷ []) =
              sym (ap (λ (c : Cell Point). c.path) b'.born.is) ∙ w.is.path ∙ sym anew_path in
              let same = (snoc_inj (path_at (old k).cells b'.born.p) (path_of k t) b'.born.i i e).0 in
              let x : b'.born.p ≡ t = (flagged n qs ss ms sound k).paths b'.born.p t b'.born.below h
              (same ∙ ap (λ (c : Cell Point). c.path) (at_level n qs ss s k t h).cell_is) in
              a.other ((at_level n qs ss s k t h).status_is ∙ ap (λ (x : ℕ). get_or (old k).statuses x 0) (sym x) ∙ b'.red) s64
