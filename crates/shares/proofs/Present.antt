-- Each master that the owners' rule and the step's table make is among a part's entries (masters_in_lem); what stays, and new children's statuses.
use Rattle.std.specs.Prelude.{◌≡◌, ◌≢◌, ◌⊎◌, Bool, ◌&&◌, ◌||◌}
use Rattle.std.proofs.Math.Path.{refl, sym, ap, ap₂, subst}
use Rattle.std.proofs.Common.{◌∙◌, inl, inr, ⊎_elim, arith}
use Rattle.std.proofs.Math.Bool.{true, false, not}
use mathlib.Core.List.Memᴰ
use mathlib.Core.List.{List, [], ◌∷◌, ◌++◌, Memᴰ}
use Prim.Native.Nat.{ℕ, zero, suc, ◌<◌}
use Rattle.std.proofs.Math.Decide.{ℕ_discrete}
use Rattle.std.proofs.Math.Dec.{T, eqb, eqb→eq}
use Rattle.std.proofs.Math.ListN.{length, get_or}
use borrow.Author.Tests.{eq-eqb, eqb-true, ne_eqb}
use Rattle.base.specs.Bools.{is_true, and_left, and_right, not_both, either, and_both, or_first, or_second}
use Rattle.base.specs.Range.{range, range_member}
use Rattle.cutting.specs.Rule.{family}
use Rattle.mesh.specs.Cells.{Cell, redb, pattern_of, no_cell}
use Rattle.mesh.specs.Weights.{Point}
use Rattle.mesh.specs.Table.{Level, soundb, size_of}
use Rattle.rows.specs.Many.{size_refined}
use Rattle.lineage.specs.Born.{Born}
use Rattle.lineage.specs.Paths.{path_at, snoc_inj}
use Rattle.lineage.specs.Same.{Fresh}
use Rattle.lineage.specs.Flags.{new_red_at}
use Rattle.lineage.specs.Met.{Fostered, old_above, new_coarse, old_coarse, flagged, met, fostered, met_coarse, new_follows}
use Rattle.soundness.specs.Family.{born_of}
use Rattle.soundness.specs.Sound.{Sound, sound_from, level_next, level_there}
use Rattle.soundness.specs.Whole.{coarse_level}
use Rattle.exchange.specs.Finite.{Finite}
use Rattle.rounds.specs.Task.{Task}
use Rattle.rounds.specs.Rounds.{State, is_part, mine}
use Rattle.rounds.specs.Among.{is_same}
use Rattle.parts.specs.Held.{Entry}
use Rattle.splitting.specs.Numbers.{at_level, row_of_cell}
use Rattle.succession.specs.After.{new_red_row}
use Rattle.splitting.specs.Split.{Slots, Owners, fits}
use Rattle.base.specs.Distinct.{in_flat, in_map}
use Rattle.shares.specs.Grow.{status_new, fresh_status, coarseb, staysb, master_entry, ghost_entry, anewb, child_status, child_entries}
use Rattle.shares.specs.Grow.{fresh_entries, entry_by}
use Rattle.shares.specs.Fresh.{known_red, fresh_status_lem}
use Rattle.shares.specs.There.{Met, There, coarse_there, red_parent, child_there, refined_there, matched_at, old_kid}
use Rattle.shares.specs.Owned.{child_owner, fresh_family, fostered_met, fostered_owner, new_born}
use Rattle.shares.specs.Settled.{Settled, task_in, entries_in, old_level_in, new_level_in, num_in, own_in, fam_in}
use Rattle.shares.specs.Present.{new_entry, mine_owner, mine_family, entry_at, child_green, kept_new, old_path, owner_met, family_met, here_either, irregular_leaf}

module _ {Part : Type 0} {F : Finite Part} (X : Settled F) (p : Part) where
  abbrev n : ℕ
  n = X.n

  abbrev qs : List (List ℕ)
  qs = X.qs

  abbrev ss : List ℕ
  ss = X.ss

  abbrev ms : List ℕ
  ms = X.ms

  abbrev os : List ℕ
  os = X.os

  abbrev part : ℕ → Part
  part = X.part

  abbrev slot : ℕ → ℕ → ℕ
  slot = X.slot

  abbrev slots : ℕ → List ℕ
  slots = X.slots

  abbrev s : Sound n qs ss
  s = X.sound

  abbrev sl : Slots n qs ss slot slots
  sl = X.numbered

  abbrev own : Owners n qs ss os
  own = X.owned

  abbrev J : Task Part
  J = task_in X

  abbrev st : State
  st = X.state p

  abbrev sound : T (soundb n qs ss)
  sound = sound_from n qs ss s

  abbrev new : ℕ → Level
  new = new_level_in X

  abbrev new_cell : ℕ → ℕ → Cell Point
  new_cell k i = get_or (new k).cells i no_cell

  abbrev new_status : ℕ → ℕ → ℕ
  new_status k i = get_or (new k).statuses i 0

  abbrev old : ℕ → Level
  old = old_level_in X

  abbrev Afresh : ℕ → ℕ → Type 0
  Afresh k i = (redb (new_status k i) ≡ false) × Fresh (old k) (new_cell k i)

  abbrev num : ℕ → ℕ → ℕ
  num = num_in X

  abbrev owner : ℕ → Part
  owner = J.owner

  abbrev st_now : ℕ → ℕ → ℕ
  st_now k t = status_new J st (num k t)

  abbrev st_was : ℕ → ℕ → ℕ
  st_was k t = get_or ss (num k t) 0

  abbrev kid_now : ℕ → ℕ → ℕ → ℕ
  kid_now k t i = child_status F J p st (num k t) i

  abbrev kid_entries : ℕ → ℕ → ℕ → List Entry
  kid_entries k t i = child_entries F J p st (num k t) i

  abbrev path_of : ℕ → ℕ → List ℕ
  path_of k t = J.path (num k t)

  -- the parent of an old cell of mine
  parent_num : (k t : ℕ) (h : t < length (old (suc k)).cells) (b : Born (old k).first (old k).cells (old k).statuses
      (get_or (old (suc k)).cells t no_cell)) → J.parent (num (suc k) t) ≡ num k b.p
  parent_num k t h b = ap (λ (c : Cell Point). c.parent) ((at_level n qs ss s (suc k) t h).cell_is ∙ b.is)

  parent_mine : (k t : ℕ) (h : t < length (old (suc k)).cells) (b : Born (old k).first (old k).cells (old k).statuses
      (get_or (old (suc k)).cells t no_cell)) → owner (num (suc k) t) ≡ p
      → J.family (num k b.p) ≡ p
  parent_mine k t h b o =
      sym ((fits n qs ss s slot slots sl os own part).kid_owner k (num k b.p) (num (suc k) t)
      (at_level n qs ss s k b.p b.below).here (old_kid n qs ss ms s k t h b)) ∙ o

  -- what the part knows of a flag
  red_is : (k t : ℕ) → t < length (old k).cells → T (mine F J p (num k t)) → st.red (num k t) ≡ new_red_at ms (old_above n qs ss k) (old k) t
  red_is k t h o =
      known_red X p k (num k t) (at_level n qs ss s k t h).here o
      ∙ ap (new_red_row n qs ss ms k) (row_of_cell n qs ss s ms k t h)

  -- a cell that stays is there
  pub stays_there : (k t : ℕ) → t < length (old k).cells → (st_was k t ≢ 0) ⊎ (owner (num k t) ≡ p) → T (staysb F J p st k (num k t))
      → There n qs ss ms s k t
  unfolding staysb coarseb
  stays_there zero t h o y = coarse_there n qs ss ms s t h (rw (coarse_level n qs ss t h) tt)
  stays_there (suc k) t h (inl z) y =
      refined_there n qs ss ms s (suc k) t h (λ q. z ((at_level n qs ss s (suc k) t h).status_is ∙ q))
  stays_there (suc k) t h (inr o) y =
      elim (ℕ_discrete (st_was (suc k) t) 0) [
        | no z ↦ refined_there n qs ss ms s (suc k) t h (λ q. z ((at_level n qs ss s (suc k) t h).status_is ∙ q))
        | yes z ↦
            let top = level_there n qs ss (suc k) t h in
            let b = born_of (old k) (old (suc k)) (level_next n qs ss k (omega (arith, s.high))) t h in
            let e = parent_num k t h b in
            let y' : T (eqb (get_or ss (J.parent (num (suc k) t)) 0) 64 && st.red (J.parent (num (suc k) t))) =
            later (eqb (st_was (suc k) t) 0) (eqb (get_or ss (J.parent (num (suc k) t)) 0) 64 && st.red (J.parent (num (suc k) t)))
            (eq-eqb (st_was (suc k) t) 0 z) y in
            let r64 : get_or ss (J.parent (num (suc k) t)) 0 ≡ 64 =
            eqb→eq (get_or ss (J.parent (num (suc k) t)) 0) 64 (and_left (eqb (get_or ss (J.parent (num (suc k) t)) 0) 64)
            (st.red (J.parent (num (suc k) t))) y') in
            let red : T (st.red (num k b.p)) =
            subst (λ (x : ℕ). T (st.red x)) e (and_right (eqb (get_or ss (J.parent (num (suc k) t)) 0) 64)
            (st.red (J.parent (num (suc k) t))) y') in
            let s64 : get_or (old k).statuses b.p 0 ≡ 64 = sym (at_level n qs ss s k b.p b.below).status_is
            ∙ ap (λ (x : ℕ). get_or ss x 0) (sym e) ∙ r64 in
            let reg : T (get_or (old (suc k)).cells t no_cell).regular =
            subst (λ (x : Bool). T x) (sym (ap (λ (c : Cell Point). c.regular) b.is ∙ ap redb s64)) tt in
            child_there n qs ss ms s k t h reg (record { born = b; red = s64 })
            (sym (red_is k b.p b.below (mine_family X p (num k b.p) (parent_mine k t h b o))) ∙ is_true (st.red (num k b.p)) red)
      ]
    where
      later : (a b : Bool) → a ≡ true → T (not a || b) → T b
      later true b e y = y
      later false b e y = not_both false e refl

  -- a cell that is there stays
  there_stays : (k i : ℕ) → k < 12 → i < length (new k).cells → T (new_cell k i).regular → (w : Met n qs ss ms k i) → (st_was k w.t ≢ 0)
      ⊎ (owner (num k w.t) ≡ p) → T (staysb F J p st k (num k w.t))
  unfolding staysb coarseb
  there_stays zero i h g r w o = tt
  there_stays (suc k) i h g r w (inl z) =
      or_first (not (eqb (st_was (suc k) w.t) 0)) (eqb (get_or ss (J.parent (num (suc k) w.t)) 0) 64
      && st.red (J.parent (num (suc k) w.t))) (subst (λ (x : Bool). T (not x)) (sym (ne_eqb (st_was (suc k) w.t) 0 z)) tt)
  there_stays (suc k) i h g r w (inr o) =
      let b = new_born n qs ss ms s os own k i h g in
      let red : new_status k b.p ≡ 64 = eqb-true (new_status k b.p) 64 (sym (ap (λ (c : Cell Point). c.regular) b.is)
      ∙ is_true (new_cell (suc k) i).regular r) in
      let reg : T (new_cell k b.p).regular = (new_follows n qs ss ms sound k b.p b.below).regular (λ z. omega (arith, red, z)) in
      let u = red_parent n qs ss ms s k w.t w.is.below w.is.regular in
      let e : path_at (old k).cells u.born.p ++ (u.born.i ∷ []) ≡ path_at (new k).cells b.p ++ (b.i ∷ []) =
      sym (ap (λ (c : Cell Point). c.path) u.born.is) ∙ w.is.path ∙ ap (λ (c : Cell Point). c.path) b.is in
      let path = (snoc_inj (path_at (old k).cells u.born.p) (path_at (new k).cells b.p) u.born.i b.i e).0 in
      let rp = ((flagged n qs ss ms sound k).follows u.born.p u.born.below).regular (λ z. omega (arith, u.red, z)) in
      let (m, q) = matched_at n qs ss ms s k b.p u.born.p b.below reg u.born.below rp (sym path) in
      let pn = parent_num k w.t w.is.below u.born in
      let flag : st.red (J.parent (num (suc k) w.t)) ≡ true =
      ap (λ (x : ℕ). st.red x) pn ∙ red_is k u.born.p u.born.below
      (mine_family X p (num k u.born.p) (parent_mine k w.t w.is.below u.born o))
      ∙ ap (new_red_at ms (old_above n qs ss k) (old k)) (sym q) ∙ sym m.red ∙ ap redb red in
      let s64 : get_or ss (J.parent (num (suc k) w.t)) 0 ≡ 64 = ap (λ (x : ℕ). get_or ss x 0) pn ∙ (at_level n qs ss s k u.born.p
      u.born.below).status_is ∙ u.red in
      or_second (not (eqb (st_was (suc k) w.t) 0)) (eqb (get_or ss (J.parent (num (suc k) w.t)) 0) 64
      && st.red (J.parent (num (suc k) w.t)))
      (and_both (eqb (get_or ss (J.parent (num (suc k) w.t)) 0) 64) (st.red (J.parent (num (suc k) w.t)))
      (subst (λ (x : Bool). T x) (sym (eq-eqb (get_or ss (J.parent (num (suc k) w.t)) 0) 64 s64)) tt)
      (subst (λ (x : Bool). T x) (sym flag) tt))

  in_master : (k c : ℕ) → owner c ≡ p → T (staysb F J p st k c) → Memᴰ (entry_by (J.path c) (status_new J st c) false)
      (master_entry F J p st k c)
  unfolding master_entry
  in_master k c o y =
      let e : (is_part F (owner c) p && staysb F J p st k c) ≡ true =
      is_true (is_part F (owner c) p && staysb F J p st k c) (and_both (is_part F (owner c) p) (staysb F J p st k c)
      (rw (is_same F (owner c) p o) tt) y) in
      rw (e, master_entry) (Memᴰ.head refl)

  in_fresh : (k c i : ℕ) (e : Entry) → T (anewb F J p st k c) → i < size_of (status_new J st c) → Memᴰ e (child_entries F J p st c i)
      → Memᴰ e (fresh_entries F J p st k c)
  unfolding fresh_entries
  in_fresh k c i e y h m =
      rw (is_true (anewb F J p st k c) y, fresh_entries) (in_flat (child_entries F J p st c) (range 0 (size_of (status_new J st c))) i e
      (range_member 0 (size_of (status_new J st c)) i (omega arith) (omega arith)) m)

  anew_by : (k c : ℕ) → J.family c ≡ p → T (staysb F J p st k c) → status_new J st c ≢ 0 → (get_or ss c 0 ≡ 64 → status_new J st c ≡ 64 → ⊥)
      → T (anewb F J p st k c)
  unfolding anewb
  anew_by k c f y z d =
      and_both (is_part F (J.family c) p)
      (staysb F J p st k c && (not (eqb (status_new J st c) 0) && not (eqb (get_or ss c 0) 64 && eqb (status_new J st c) 64)))
      (rw (is_same F (J.family c) p f) tt)
      (and_both (staysb F J p st k c) (not (eqb (status_new J st c) 0) && not (eqb (get_or ss c 0) 64 && eqb (status_new J st c) 64)) y
      (and_both (not (eqb (status_new J st c) 0)) (not (eqb (get_or ss c 0) 64 && eqb (status_new J st c) 64))
      (subst (λ (x : Bool). T (not x)) (sym (ne_eqb (status_new J st c) 0 z)) tt)
      (go (eqb (get_or ss c 0) 64) refl (eqb (status_new J st c) 64) refl)))
    where
      go : (a : Bool) → eqb (get_or ss c 0) 64 ≡ a → (b : Bool) → eqb (status_new J st c) 64 ≡ b → T (not (a && b))
      go true e true g = absurd (d (eqb-true (get_or ss c 0) 64 e) (eqb-true (status_new J st c) 64 g))
      go true e false g = tt
      go false e b g = tt

  child_first : (c i : ℕ) → Memᴰ (entry_by (J.path c ++ (i ∷ [])) (child_status F J p st c i) false) (child_entries F J p st c i)
  unfolding child_entries
  child_first c i = Memᴰ.head refl

  child_later : (c i j : ℕ) → j < size_of (child_status F J p st c i) → Memᴰ (entry_by ((J.path c ++ (i ∷ [])) ++ (j ∷ [])) 0 false)
      (child_entries F J p st c i)
  unfolding child_entries
  child_later c i j h =
      Memᴰ.tail (in_map (λ j. entry_by ((J.path c ++ (i ∷ [])) ++ (j ∷ [])) 0 false) (range 0 (size_of (child_status F J p st c i))) j
      (range_member 0 (size_of (child_status F J p st c i)) j (omega arith) (omega arith)))

  child_red : (c i : ℕ) → status_new J st c ≡ 64 → child_status F J p st c i ≡ fresh_status J st c i
  unfolding child_status
  child_red c i e = rw (eq-eqb (status_new J st c) 64 e, child_status)

  master_there : (k i : ℕ) → k < 12 → i < length (new k).cells → T (new_cell k i).regular → Met n qs ss ms k i → own_in X k i ≡ p
      → Memᴰ (new_entry n qs ss ms k i false) (entries_in X p)
  master_there k i h g r w o =
      let c = num k w.t in
      let oc : owner c ≡ p = sym (owner_met X p k i h g r w) ∙ o in
      let e : new_entry n qs ss ms k i false ≡ entry_by (J.path c) (status_new J st c) false =
      ap₂ (λ (l : List ℕ) (x : ℕ). entry_by l x false) (sym (old_path X p k i w)) (kept_new X p k i h g r w (mine_owner X p c oc)) in
      subst (λ (x : Entry). Memᴰ x (entries_in X p)) (sym e)
      (entry_at X p k w.t w.is.below (entry_by (J.path c) (status_new J st c) false)
      (Memᴰ.append_left (ghost_entry F J p st c ++ fresh_entries F J p st k c) (in_master k c oc (there_stays k i h g r w (inr oc)))))

  -- a anew_child of a cell that has a family of another cut
  family_there : (k q : ℕ) → k < 12 → q < length (new k).cells → T (new_cell k q).regular → (w : Met n qs ss ms k q) → fam_in X k q ≡ p
      → new_status k q ≢ 0
      → (st_was k w.t ≡ 64 → new_status k q ≡ 64 → ⊥) → (i : ℕ) → i < length (family (pattern_of (new_status k q)))
      → (e : Entry) → Memᴰ e (kid_entries k w.t i) → Memᴰ e (entries_in X p)
  family_there k q h g r w f z d i hi e m =
      let c = num k w.t in
      let fc : J.family c ≡ p = sym (family_met X p k q h g r w) ∙ f in
      let ks = kept_new X p k q h g r w (mine_family X p c fc) in
      let y = there_stays k q h g r w (here_either X p k w.t w.is.below fc) in
      let size : i < size_of (status_new J st c) =
      subst (λ (x : ℕ). i < size_of x) ks (subst (λ (x : ℕ). i < x) (sym (size_refined (new_status k q) z)) hi) in
      entry_at X p k w.t w.is.below e
      (Memᴰ.append_right (master_entry F J p st k c) (Memᴰ.append_right (ghost_entry F J p st c)
      (in_fresh k c i e (anew_by k c fc y (λ x. z (ks ∙ x)) (λ a b. d a (ks ∙ b))) size m)))

  -- what is known of a anew_child that is new
  module _ (k i : ℕ) (h : suc k < 12) (g : i < length (new (suc k)).cells) (r : T (new_cell (suc k) i).regular)
      (dark : redb (new_status (suc k) i) ≡ false)
      (f : Fostered (old k) (new k) (new_cell (suc k) i)) (o : own_in X (suc k) i ≡ p) where
    foster_family : J.family (num k f.t) ≡ p
    foster_family = sym (ap part (fostered_owner n qs ss ms s os own k i (omega arith) f)) ∙ o

    pub foster_status : new_status (suc k) i ≡ kid_now k f.t f.born.i
    foster_status =
        let (r', (w, e)) = fostered_met n qs ss ms s os own k i f in
        let z : num k w.t ≡ num k f.t = ap (λ (x : ℕ). num k x) e in
        let fc : J.family (num k w.t) ≡ p = ap J.family z ∙ foster_family in
        let ks = kept_new X p k f.born.p (omega arith) f.born.below r' w (mine_family X p (num k w.t) fc) in
        fresh_status_lem X p k i h g r dark f foster_family
        ∙ sym (child_red (num k f.t) f.born.i (ap (status_new J st) (sym z) ∙ sym ks ∙ f.parent_red))

    foster_entry : (e : Entry) → Memᴰ e (kid_entries k f.t f.born.i) → Memᴰ e (entries_in X p)
    foster_entry e m =
        let (r', (w, q)) = fostered_met n qs ss ms s os own k i f in
        let z : num k w.t ≡ num k f.t = ap (λ (x : ℕ). num k x) q in
        let a = at_level n qs ss s k f.t f.is.below in
        family_there k f.born.p (omega arith) f.born.below r' w (sym (ap part (child_owner n qs ss ms os k i f.born)) ∙ o)
        f.born.refined
        (λ x y. f.was (sym a.status_is ∙ ap (λ (x : ℕ). get_or ss x 0) (sym z) ∙ x)) f.born.i f.born.child e
        (subst (λ (x : ℕ). Memᴰ e (child_entries F J p st x f.born.i)) (sym z) m)

    foster_path : path_of k f.t ++ (f.born.i ∷ []) ≡ path_at (new (suc k)).cells i
    foster_path =
        ap (λ (l : List ℕ). l ++ (f.born.i ∷ [])) (ap (λ (c : Cell Point). c.path) (at_level n qs ss s k f.t f.is.below).cell_is
        ∙ f.is.path) ∙ sym (ap (λ (c : Cell Point). c.path) f.born.is)

    fresh_there : Memᴰ (new_entry n qs ss ms (suc k) i false) (entries_in X p)
    fresh_there =
        let e : new_entry n qs ss ms (suc k) i false ≡ entry_by (path_of k f.t ++ (f.born.i ∷ [])) (kid_now k f.t f.born.i) false =
        ap₂ (λ (l : List ℕ) (x : ℕ). entry_by l x false) (sym foster_path) foster_status in
        subst (λ (x : Entry). Memᴰ x (entries_in X p)) (sym e)
        (foster_entry (entry_by (path_of k f.t ++ (f.born.i ∷ [])) (kid_now k f.t f.born.i) false)
        (child_first (num k f.t) f.born.i))

  regular_there : (k i : ℕ) → k < 12 → i < length (new k).cells → T (new_cell k i).regular → own_in X k i ≡ p
      → Memᴰ (new_entry n qs ss ms k i false) (entries_in X p)
  regular_there zero i h g r o = ⊎_elim (λ (w : Met n qs ss ms 0 i). master_there 0 i h g r w o)
      (λ (w : Afresh 0 i). absurd (met_coarse n qs ss ms sound i g w.1)) (met n qs ss ms sound 0 i g r)
  regular_there (suc k) i h g r o = ⊎_elim (λ (w : Met n qs ss ms (suc k) i). master_there (suc k) i h g r w o)
      (λ (w : Afresh (suc k) i).
      fresh_there k i h g r w.0 (fostered n qs ss ms sound k i g r w.1) o) (met n qs ss ms sound (suc k) i g r)

  -- a anew_child of a green cell
  module _ (k i : ℕ) (h : suc k < 12) (g : i < length (new (suc k)).cells) (r : (new_cell (suc k) i).regular ≡ false)
      (o : own_in X (suc k) i ≡ p) where
    abbrev b : Born (new k).first (new k).cells (new k).statuses (new_cell (suc k) i)
    b = new_born n qs ss ms s os own k i h g

    not_red : redb (new_status k b.p) ≡ false
    not_red = sym (ap (λ (c : Cell Point). c.regular) b.is) ∙ r

    parent_regular : T (new_cell k b.p).regular
    parent_regular = (new_follows n qs ss ms sound k b.p b.below).regular b.refined

    parent_family : fam_in X k b.p ≡ p
    parent_family = sym (ap part (child_owner n qs ss ms os k i b)) ∙ o

    path_is : path_at (new k).cells b.p ++ (b.i ∷ []) ≡ path_at (new (suc k)).cells i
    path_is = sym (ap (λ (c : Cell Point). c.path) b.is)

    under_old : Met n qs ss ms k b.p → Memᴰ (new_entry n qs ss ms (suc k) i false) (entries_in X p)
    under_old w =
        let fc : J.family (num k w.t) ≡ p = sym (family_met X p k b.p (omega arith) b.below parent_regular w) ∙ parent_family in
        let ks = kept_new X p k b.p (omega arith) b.below parent_regular w (mine_family X p (num k w.t) fc) in
        let n64 : st_now k w.t ≢ 64 = (λ e. not_both (redb (new_status k b.p)) (ap redb (ks ∙ e)) not_red) in
        let e : new_entry n qs ss ms (suc k) i false ≡ entry_by (path_of k w.t ++ (b.i ∷ [])) (kid_now k w.t b.i) false =
        ap₂ (λ (l : List ℕ) (x : ℕ). entry_by l x false) (sym (ap (λ (l : List ℕ). l ++ (b.i ∷ [])) (old_path X p k b.p w) ∙ path_is))
        (irregular_leaf X p k i h g r o ∙ sym (child_green X p (num k w.t) b.i n64)) in
        subst (λ (x : Entry). Memᴰ x (entries_in X p)) (sym e)
        (family_there k b.p (omega arith) b.below parent_regular w parent_family b.refined
        (λ x y. n64 (sym ks ∙ y)) b.i b.child
        (entry_by (path_of k w.t ++ (b.i ∷ [])) (kid_now k w.t b.i) false) (child_first (num k w.t) b.i))

  under_fresh : (k i : ℕ) (h : suc (suc k) < 12) (g : i < length (new (suc (suc k))).cells) (r : (new_cell (suc (suc k)) i).regular ≡ false)
      (o : own_in X (suc (suc k)) i ≡ p)
      → Fresh (old (suc k)) (new_cell (suc k) (b (suc k) i h g r o).p) → Memᴰ (new_entry n qs ss ms (suc (suc k)) i false)
      (entries_in X p)
  under_fresh k i h g r o fresh =
      let b' = b (suc k) i h g r o in
      let reg = parent_regular (suc k) i h g r o in
      let dark = not_red (suc k) i h g r o in
      let f = fostered n qs ss ms sound k b'.p b'.below reg fresh in
      let o' : own_in X (suc k) b'.p ≡ p = sym (ap part (fresh_family n qs ss ms s os own (suc k) b'.p b'.below fresh))
      ∙ parent_family (suc k) i h g r o in
      let h' : suc k < 12 = omega arith in
      let fs = foster_status k b'.p h' b'.below reg dark f o' in
      let size : b'.i < size_of (kid_now k f.t f.born.i) =
      subst (λ (x : ℕ). b'.i < size_of x) fs
      (subst (λ (x : ℕ). b'.i < x) (sym (size_refined (new_status (suc k) b'.p) b'.refined)) b'.child) in
      let e : new_entry n qs ss ms (suc (suc k)) i false ≡ entry_by ((path_of k f.t ++ (f.born.i ∷ [])) ++ (b'.i ∷ [])) 0 false =
      ap₂ (λ (l : List ℕ) (x : ℕ). entry_by l x false)
      (sym (ap (λ (l : List ℕ). l ++ (b'.i ∷ [])) (foster_path k b'.p h' b'.below reg dark f o') ∙ path_is (suc k) i h g r o))
      (irregular_leaf X p (suc k) i h g r o) in
      subst (λ (x : Entry). Memᴰ x (entries_in X p)) (sym e)
      (foster_entry k b'.p h' b'.below reg dark f o' (entry_by ((path_of k f.t ++ (f.born.i ∷ [])) ++ (b'.i ∷ [])) 0 false)
      (child_later (num k f.t) f.born.i b'.i size))

  irregular_there : (k i : ℕ) → k < 12 → i < length (new k).cells → (new_cell k i).regular ≡ false → own_in X k i ≡ p
      → Memᴰ (new_entry n qs ss ms k i false) (entries_in X p)
  irregular_there zero i h g r o = absurd (coarse_all i g r)
    where
      coarse_all : (i : ℕ) → i < length (new 0).cells → (new_cell 0 i).regular ≡ false → ⊥
      coarse_all i g r =
          let q : (new 0).cells ≡ (old 0).cells = new_coarse n qs ss ms ∙ sym (old_coarse n qs ss ms) in
          let u : (get_or (old 0).cells i no_cell).regular ≡ true = coarse_level n qs ss i (rw (← q) g) in
          not_both (new_cell 0 i).regular (ap (λ (cs : List (Cell Point)). (get_or cs i no_cell).regular) q ∙ u) r
  irregular_there (suc zero) i h g r o =
      ⊎_elim (λ (w : Met n qs ss ms 0 (b 0 i h g r o).p). under_old 0 i h g r o w)
      (λ (w : Afresh 0 (b 0 i h g r o).p). absurd (met_coarse n qs ss ms sound (b 0 i h g r o).p (b 0 i h g r o).below w.1))
      (met n qs ss ms sound 0 (b 0 i h g r o).p (b 0 i h g r o).below (parent_regular 0 i h g r o))
  irregular_there (suc (suc k)) i h g r o =
      ⊎_elim (λ (w : Met n qs ss ms (suc k) (b (suc k) i h g r o).p). under_old (suc k) i h g r o w)
      (λ (w : Afresh (suc k) (b (suc k) i h g r o).p). under_fresh k i h g r o w.1)
      (met n qs ss ms sound (suc k) (b (suc k) i h g r o).p (b (suc k) i h g r o).below (parent_regular (suc k) i h g r o))

  -- each master is there
  pub masters_in_lem : (k i : ℕ) → k < 12 → i < length (new k).cells → own_in X k i ≡ p → Memᴰ (new_entry n qs ss ms k i false)
      (entries_in X p)
  masters_in_lem k i h g o = ⊎_elim (λ (r : (new_cell k i).regular ≡ true). regular_there k i h g (subst (λ (x : Bool). T x) (sym r) tt) o)
      (λ (r : (new_cell k i).regular ≡ false). irregular_there k i h g r o) (either (new_cell k i).regular)
