-- A part's entries are the masters and ghosts that the owners' rule and the step's table make, and nothing else (entries_are).
use Rattle.std.specs.Prelude.{◌≡◌, ◌≢◌, Bool, length, get_or}
use Rattle.std.proofs.Math.Path.{refl, sym, ap, subst}
use Rattle.std.proofs.Common.{◌∙◌, ap₂, inl, arith}
use Rattle.std.proofs.Math.Logic.{inr, ⊎_elim}
use Rattle.std.proofs.Math.Bool.{true, false, ◌&&◌, not}
use mathlib.Core.List.{List, [], ◌∷◌, ◌++◌, map, flat_map, Memᴰ}
use Prim.Native.Nat.{ℕ, suc, ◌+◌, ◌*◌, ◌<◌}
use Rattle.std.proofs.Math.Decide.{ℕ_discrete}
use Rattle.std.proofs.Math.Dec.{T, eqb}
use borrow.Author.Tests.{eq-eqb, eqb-false, ne_eqb}
use Rattle.base.specs.Lists.{sameb}
use Rattle.base.specs.Bools.{is_true, is_false, and_left, and_right, one_if, not_both, false_from}
use Rattle.base.specs.Range.{range, member_range}
use Rattle.cutting.specs.Rule.{family}
use Rattle.mesh.specs.Cells.{Cell, redb, pattern_of, edges, heldb, bits_of, no_cell}
use Rattle.mesh.specs.Weights.{Point}
use Rattle.mesh.specs.Table.{Level, soundb, size_of}
use Rattle.rows.specs.Many.{size_refined, size_some}
use Rattle.lineage.specs.Born.{Born}
use Rattle.lineage.specs.Paths.{path_at, snoc_inj}
use Rattle.lineage.specs.Met.{Fostered, new_next, flagged, fostered, new_known, new_follows}
use Rattle.carriers.specs.Joins.{Edge}
use Rattle.soundness.specs.Family.{ChildAt, family_child}
use Rattle.soundness.specs.Sound.{Sound, sound_from, level_there}
use Rattle.exchange.specs.Finite.{Finite}
use Rattle.rounds.specs.Task.{Task}
use Rattle.rounds.specs.Rounds.{State, is_part}
use Rattle.rounds.specs.Among.{is_same, is_eq}
use Rattle.parts.specs.Held.{Entry}
use Rattle.splitting.specs.Numbers.{at_level, stands}
use Rattle.succession.specs.After.{new_edges, will, new_status_lem}
use Rattle.splitting.specs.Split.{Owners}
use Rattle.base.specs.Distinct.{flat_in, map_in, only_one}
use Rattle.shares.specs.Grow.{status_new, staysb, master_entry, ghost_entry, anewb, child_status, child_entries, fresh_entries, entries}
use Rattle.shares.specs.Grow.{entry_by, cell_entries, level_entries}
use Rattle.shares.specs.There.{refined_there}
use Rattle.shares.specs.Owned.{child_owner, fresh_family, new_born}
use Rattle.shares.specs.Settled.{Settled, task_in, entries_in, old_level_in, new_level_in, num_in, own_in, fam_in}
use Rattle.shares.specs.Present.{mine_owner, mine_family, kept_new, old_path, owner_met, family_met, here_either}
use Rattle.shares.proofs.Present.{stays_there}
use Rattle.shares.specs.Present.{child_green, irregular_leaf}
use Rattle.shares.proofs.Present.{foster_status}
use Rattle.shares.specs.Entries.{old_low, low, anew_child, anew_path, anew_regular, reg, anew_fresh}

dark_bits : (f : Edge → Bool) (l : List Edge) → ((e : Edge) → f e ≡ false) → bits_of (map f l) ≡ 0
unfolding bits_of one_if
dark_bits f [] h = refl
dark_bits f (e ∷ l) h = ap₂ (λ (b : Bool) (x : ℕ). one_if b + 2 * x) (h e) (dark_bits f l h)

module _ {Part : Type 0} {F : Finite Part} (X : Settled F) (p : Part) where
  abbrev n : ℕ
  n = X.n

  abbrev qs : List (List ℕ)
  qs = X.qs

  abbrev ss : List ℕ
  ss = X.ss

  abbrev ms : List ℕ
  ms = X.ms

  abbrev os : List ℕ
  os = X.os

  abbrev part : ℕ → Part
  part = X.part

  abbrev s : Sound n qs ss
  s = X.sound

  abbrev own : Owners n qs ss os
  own = X.owned

  abbrev J : Task Part
  J = task_in X

  abbrev st : State
  st = X.state p

  abbrev sound : T (soundb n qs ss)
  sound = sound_from n qs ss s

  abbrev new : ℕ → Level
  new = new_level_in X

  abbrev new_cell : ℕ → ℕ → Cell Point
  new_cell k i = get_or (new k).cells i no_cell

  abbrev new_status : ℕ → ℕ → ℕ
  new_status k i = get_or (new k).statuses i 0

  abbrev old : ℕ → Level
  old = old_level_in X

  abbrev num : ℕ → ℕ → ℕ
  num = num_in X

  abbrev owner : ℕ → Part
  owner = J.owner

  abbrev st_now : ℕ → ℕ → ℕ
  st_now k t = status_new J st (num k t)

  abbrev st_was : ℕ → ℕ → ℕ
  st_was k t = get_or ss (num k t) 0

  abbrev kid_now : ℕ → ℕ → ℕ → ℕ
  kid_now k t i = child_status F J p st (num k t) i

  abbrev kid_entries : ℕ → ℕ → ℕ → List Entry
  kid_entries k t i = child_entries F J p st (num k t) i

  abbrev path_of : ℕ → ℕ → List ℕ
  path_of k t = J.path (num k t)

  abbrev Means : (e : Entry) → Type 0
  Means = Rattle.shares.specs.Entries.Means X p

  master_means : (k t : ℕ) → t < length (old k).cells → (e : Entry) → Memᴰ e (master_entry F J p st k (num k t)) → Means e
  unfolding master_entry
  master_means k t h e m = go (is_part F (owner (num k t)) p && staysb F J p st k (num k t)) refl
    where
      c : ℕ
      c = num k t

      go : (b : Bool) → (is_part F (owner (num k t)) p && staysb F J p st k (num k t)) ≡ b → Means e
      go false q = absurd (mathlib.Core.List.Memᴰ.not-nil (rw (q, master_entry) at m))
      go true q =
          let u : T (is_part F (owner (num k t)) p && staysb F J p st k (num k t)) = subst (λ (x : Bool). T x) (sym q) tt in
          let o = is_eq F (owner (num k t)) p (and_left (is_part F (owner (num k t)) p) (staysb F J p st k (num k t)) u) in
          let w = stays_there X p k t h (inr o) (and_right (is_part F (owner (num k t)) p) (staysb F J p st k (num k t)) u) in
          let x : e ≡ entry_by (path_of k t) (st_now k t) false =
          only_one e (entry_by (path_of k t) (st_now k t) false) (rw (q, master_entry) at m) in
          let l = old_low X p k t h in
          let z : num k w.met_by.t ≡ num k t = ap (λ (x : ℕ). num k x) w.place_is in
          record {
            k = k;
            i = w.i;
            high = omega arith;
            below = w.below;
            path = ap (λ (e : Entry). e.path) x ∙ ap J.path (sym z) ∙ old_path X p k w.i w.met_by;
            status = ap (λ (e : Entry). e.status) x ∙ ap (status_new J st) (sym z)
                ∙ sym (kept_new X p k w.i (omega arith) w.below w.regular w.met_by
                (mine_owner X p (num k w.met_by.t) (ap owner z ∙ o)));
            kind = inl (
              ap (λ (e : Entry). e.ghost) x,
              owner_met X p k w.i (omega arith) w.below w.regular
                  w.met_by ∙ ap owner z ∙ o,
            );
          }

  ghost_means : (k t : ℕ) → t < length (old k).cells → (e : Entry) → Memᴰ e (ghost_entry F J p st (num k t)) → Means e
  unfolding ghost_entry
  ghost_means k t h e m = go (not (is_part F (owner (num k t)) p) && (is_part F (J.family (num k t)) p && not (eqb (st_now k t) 0))) refl
    where
      go : (b : Bool) → (not (is_part F (owner (num k t)) p) && (is_part F (J.family (num k t)) p && not (eqb (st_now k t) 0))) ≡ b → Means e
      go false q = absurd (mathlib.Core.List.Memᴰ.not-nil (rw (q, ghost_entry) at m))
      go true q =
          let u : T (not (is_part F (owner (num k t)) p) && (is_part F (J.family (num k t)) p && not (eqb (st_now k t) 0))) =
          subst (λ (x : Bool). T x) (sym q) tt in
          let v = and_right (not (is_part F (owner (num k t)) p)) (is_part F (J.family (num k t)) p && not (eqb (st_now k t) 0)) u in
          let fc = is_eq F (J.family (num k t)) p (and_left (is_part F (J.family (num k t)) p) (not (eqb (st_now k t) 0)) v) in
          let nz = eqb-false (st_now k t) 0
          (is_false (eqb (st_now k t) 0) (and_right (is_part F (J.family (num k t)) p) (not (eqb (st_now k t) 0)) v)) in
          let no : owner (num k t) ≢ p =
          (λ y. not_both (is_part F (owner (num k t)) p) (is_same F (owner (num k t)) p y)
          (is_false (is_part F (owner (num k t)) p) (and_left (not (is_part F (owner (num k t)) p)) (is_part F (J.family (num k t)) p
          && not (eqb (st_now k t) 0)) u))) in
          let w = refined_there n qs ss ms s k t h (λ y. ⊎_elim (λ (x : st_was k t ≢ 0). x ((at_level n qs ss s k t h).status_is ∙ y))
          (λ (x : owner (num k t) ≡ p). no x) (here_either X p k t h fc)) in
          let x : e ≡ entry_by (path_of k t) (st_now k t) true =
          only_one e (entry_by (path_of k t) (st_now k t) true) (rw (q, ghost_entry) at m) in
          let l = old_low X p k t h in
          let z : num k w.met_by.t ≡ num k t = ap (λ (x : ℕ). num k x) w.place_is in
          let ks = kept_new X p k w.i (omega arith) w.below w.regular w.met_by
          (mine_family X p (num k w.met_by.t) (ap J.family z ∙ fc)) in
          record {
            k = k;
            i = w.i;
            high = omega arith;
            below = w.below;
            path = ap (λ (e : Entry). e.path) x ∙ ap J.path (sym z) ∙ old_path X p k w.i w.met_by;
            status = ap (λ (e : Entry). e.status) x ∙ ap (status_new J st) (sym z) ∙ sym ks;
            kind = inr (
              ap (λ (e : Entry). e.ghost) x,
              (λ y. nz (ap (status_new J st) (sym z) ∙ sym ks ∙ y)),
              family_met X p k w.i (omega arith) w.below w.regular w.met_by ∙ ap J.family z ∙ fc,
              (λ y. no (sym (ap owner z) ∙ sym (owner_met X p k w.i (omega arith) w.below w.regular w.met_by) ∙ y)),
            );
          }

  abbrev Anew : (k t : ℕ) → Type 0
  Anew = Rattle.shares.specs.Entries.Anew X p

  pub anew_of : (k t : ℕ) → t < length (old k).cells → T (anewb F J p st k (num k t)) → Anew k t
  unfolding anewb
  anew_of k t h y =
      let y1 = and_right (is_part F (J.family (num k t)) p) (staysb F J p st k (num k t)
      && (not (eqb (st_now k t) 0) && not (eqb (st_was k t) 64 && eqb (st_now k t) 64))) y in
      let y2 = and_right (staysb F J p st k (num k t)) (not (eqb (st_now k t) 0) && not (eqb (st_was k t) 64 && eqb (st_now k t) 64)) y1 in
      let y3 = and_right (not (eqb (st_now k t) 0)) (not (eqb (st_was k t) 64 && eqb (st_now k t) 64)) y2 in
      let fc : J.family (num k t) ≡ p =
      is_eq F (J.family (num k t)) p (and_left (is_part F (J.family (num k t)) p) (staysb F J p st k (num k t)
      && (not (eqb (st_now k t) 0) && not (eqb (st_was k t) 64 && eqb (st_now k t) 64))) y) in
      let w = stays_there X p k t h (here_either X p k t h fc)
      (and_left (staysb F J p st k (num k t)) (not (eqb (st_now k t) 0) && not (eqb (st_was k t) 64 && eqb (st_now k t) 64)) y1) in
      let l = old_low X p k t h in
      let z : num k w.met_by.t ≡ num k t = ap (λ (x : ℕ). num k x) w.place_is in
      record {
        fc = fc;
        there = w;
        is_new = kept_new X p k w.i (omega arith) w.below w.regular w.met_by
            (mine_family X p (num k w.met_by.t) (ap J.family z ∙ fc)) ∙ ap (status_new J st) z;
        some = eqb-false (st_now k t) 0
            (is_false (eqb (st_now k t) 0) (and_left (not (eqb (st_now k t) 0)) (not (eqb (st_was k t) 64 && eqb (st_now k t) 64)) y2));
        other = λ a b. not_both (eqb (st_was k t) 64 && eqb (st_now k t) 64) (ap₂ ◌&&◌ (eq-eqb (st_was k t) 64 a) (eq-eqb (st_now k t) 64 b))
            (is_false (eqb (st_was k t) 64 && eqb (st_now k t) 64) y3);
      }

  module _ (k t : ℕ) (h : t < length (old k).cells) (a : Anew k t) (i : ℕ) (hi : i < size_of (st_now k t)) where
    abbrev q : ℕ
    q = a.there.i

    abbrev u : ℕ
    u = (anew_child X p k t h a i hi).u

    born_u : Born (new k).first (new k).cells (new k).statuses (new_cell (suc k) u)
    born_u = new_born n qs ss ms s os own k u (omega (arith, low X p k t h a i hi)) (anew_child X p k t h a i hi).below

    born_place : born_u.p ≡ q
    born_place =
        let e : (new k).first + born_u.p ≡ (new k).first + q = sym (ap (λ (c : Cell Point). c.parent) born_u.is)
        ∙ ap (λ (c : Cell Point). c.parent) (anew_child X p k t h a i hi).is in omega arith

    child_own : own_in X (suc k) u ≡ p
    child_own =
        let z : num k a.there.met_by.t ≡ num k t = ap (λ (x : ℕ). num k x) a.there.place_is in
        ap part (child_owner n qs ss ms os k u born_u) ∙ ap (λ (x : ℕ). fam_in X k x) born_place
        ∙ family_met X p k q (omega (arith, low X p k t h a i hi)) a.there.below a.there.regular a.there.met_by ∙ ap J.family z ∙ a.fc

    green_status : st_now k t ≢ 64 → new_status (suc k) u ≡ kid_now k t i
    green_status n64 =
        leaf_if (suc k) u (anew_child X p k t h a i hi).below (anew_regular X p k t h a i hi ∙ ne_eqb (st_now k t) 64 n64) ∙ sym (child_green X p (num k t) i n64)
      where
        leaf_if : (k u : ℕ) → u < length (new k).cells → (new_cell k u).regular ≡ false → new_status k u ≡ 0
        leaf_if k u g r =
            elim (ℕ_discrete (new_status k u) 0) [
              | yes e ↦ e
              | no z ↦ not_both (new_cell k u).regular (is_true (new_cell k u).regular ((new_follows n qs ss ms sound k u g).regular z)) r
            ]

    module _ (s64 : st_now k t ≡ 64) where
      foster : Fostered (old k) (new k) (new_cell (suc k) u)
      foster = fostered n qs ss ms sound k u (anew_child X p k t h a i hi).below (reg X p k t h a i hi s64) (anew_fresh X p k t h a i hi s64).1

      foster_same : (foster.t ≡ t) × (foster.born.i ≡ i)
      foster_same =
          let e : path_at (new k).cells foster.born.p ++ (foster.born.i ∷ []) ≡ path_of k t ++ (i ∷ []) =
          sym (ap (λ (c : Cell Point). c.path) foster.born.is) ∙ sym (anew_path X p k t h a i hi) in
          let (x, y) = snoc_inj (path_at (new k).cells foster.born.p) (path_of k t) foster.born.i i e in (
            (flagged n qs ss ms sound k).paths foster.t t foster.is.below h (foster.is.path ∙ x ∙ ap (λ (c : Cell Point). c.path)
                (at_level n qs ss s k t h).cell_is),
            y,
          )

      red_status : new_status (suc k) u ≡ kid_now k t i
      red_status =
          foster_status X p k u (omega (arith, low X p k t h a i hi)) (anew_child X p k t h a i hi).below (reg X p k t h a i hi s64) (anew_fresh X p k t h a i hi s64).0 foster child_own
          ∙ ap₂ (λ (x y : ℕ). kid_now k x y) foster_same.0 foster_same.1

    child_status_lem : new_status (suc k) u ≡ kid_now k t i
    child_status_lem = elim (ℕ_discrete (st_now k t) 64) [ yes e ↦ red_status e | no e ↦ green_status e ]

    child_means : Means (entry_by (path_of k t ++ (i ∷ [])) (kid_now k t i) false)
    child_means =
        record {
          k = suc k;
          i = u;
          high = omega (arith, low X p k t h a i hi);
          below = (anew_child X p k t h a i hi).below;
          path = anew_path X p k t h a i hi;
          status = sym child_status_lem;
          kind = inl (refl, child_own);
        }

  -- no cell of level 11 is refined
  eleven : (u : ℕ) → u < length (new 11).cells → T (new_cell 11 u).regular → redb (new_status 11 u) ≡ false → new_status 11 u ≡ 0
  eleven u g r d =
      let quiet : (e : Edge) → heldb sameb (new_edges n qs ss ms 11) e ≡ false =
      (λ e. false_from (heldb sameb (new_edges n qs ss ms 11) e) (λ t. let w = will n qs ss ms s 11 e t in
      omega (arith, level_there n qs ss 11 w.t w.below, s.high))) in
      new_status_lem n qs ss ms s 11 (omega arith) u g r d
      ∙ dark_bits (heldb sameb (new_edges n qs ss ms 11)) (edges [] (new_cell 11 u)) quiet

  grand_means : (k t : ℕ) (h : t < length (old k).cells) (a : Anew k t) (i : ℕ) (hi : i < size_of (st_now k t)) (j : ℕ)
      → j < size_of (kid_now k t i)
      → Means (entry_by ((path_of k t ++ (i ∷ [])) ++ (j ∷ [])) 0 false)
  grand_means k t h a i hi j hj =
      let z : kid_now k t i ≢ 0 = size_some (kid_now k t i) j hj in
      let s64 : st_now k t ≡ 64 = (elim (ℕ_discrete (st_now k t) 64) [ yes e ↦ e | no e ↦ absurd (z (child_green X p (num k t) i e)) ]) in
      let v = anew_child X p k t h a i hi in
      let cs = child_status_lem k t h a i hi in
      let fr = anew_fresh X p k t h a i hi s64 in
      let r = reg X p k t h a i hi s64 in
      let nz : new_status (suc k) v.u ≢ 0 = (λ e. z (sym cs ∙ e)) in
      let low' : k < 10 = (elim (ℕ_discrete k 10) [
        | yes e ↦ absurd (deep k e v.u v.below r fr.0 nz)
        | no e ↦ omega
            (arith, old_low X p k t h)
      ]) in
      let w : ChildAt (new (suc k)) (new (suc (suc k))) v.u j =
      family_child (new (suc k)) (new (suc (suc k))) (new_next n qs ss ms (suc k) (omega arith)) v.u j v.below
      (omega (arith, new_known n qs ss ms sound (suc k), v.below)) nz
      (subst (λ (x : ℕ). j < length (family (pattern_of x))) (sym cs) (subst (λ (x : ℕ). j < x) (size_refined (kid_now k t i) z) hj)) in
      let b' = new_born n qs ss ms s os own (suc k) w.u (omega arith) w.below in
      let pp : (new (suc k)).first + b'.p ≡ (new (suc k)).first + v.u = sym (ap (λ (c : Cell Point). c.parent) b'.is)
      ∙ ap (λ (c : Cell Point). c.parent) w.is in
      let place : b'.p ≡ v.u = omega arith in
      let ow : own_in X (suc (suc k)) w.u ≡ p =
      ap part (child_owner n qs ss ms os (suc k) w.u b') ∙ ap (λ (x : ℕ). fam_in X (suc k) x) place
      ∙ ap part (fresh_family n qs ss ms s os own (suc k) v.u v.below fr.1) ∙ child_own k t h a i hi in
      let ir : (new_cell (suc (suc k)) w.u).regular ≡ false = ap (λ (c : Cell Point). c.regular) w.is ∙ fr.0 in
      record {
        k = suc (suc k);
        i = w.u;
        high = omega arith;
        below = w.below;
        path = ap (λ (l : List ℕ). l ++ (j ∷ [])) (anew_path X p k t h a i hi) ∙ sym (ap (λ (c : Cell Point). c.path) w.is);
        status = sym (irregular_leaf X p (suc k) w.u (omega arith) w.below ir ow);
        kind = inl (refl, ow);
      }
    where
      deep : (k : ℕ) → k ≡ 10 → (u : ℕ) → u < length (new (suc k)).cells → T (new_cell (suc k) u).regular → redb (new_status (suc k) u)
          ≡ false → new_status (suc k) u ≢ 0 → ⊥
      deep k e = subst (λ (k : ℕ). (u : ℕ) → u < length (new (suc k)).cells → T (new_cell (suc k) u).regular → redb (new_status (suc k) u)
          ≡ false → new_status (suc k) u ≢ 0 → ⊥) (sym e) (λ u g r d z. z (eleven u g r d))

  childs_mean : (k t : ℕ) (h : t < length (old k).cells) (a : Anew k t) (i : ℕ) (hi : i < size_of (st_now k t)) (e : Entry)
      → Memᴰ e (kid_entries k t i) → Means e
  unfolding child_entries
  childs_mean k t h a i hi e m =
      ⊎_elim (λ (q : e ≡ entry_by (path_of k t ++ (i ∷ [])) (kid_now k t i) false). subst Means (sym q) (child_means k t h a i hi))
      (λ (q : Memᴰ e (map (λ j. entry_by ((path_of k t ++ (i ∷ [])) ++ (j ∷ [])) 0 false) (range 0 (size_of (kid_now k t i))))).
      let (j, y, x) = map_in (λ j. entry_by ((path_of k t ++ (i ∷ [])) ++ (j ∷ [])) 0 false) (range 0 (size_of (kid_now k t i))) e q in
      let (_, hj) = member_range 0 (size_of (kid_now k t i)) j y in
      subst Means (sym x) (grand_means k t h a i hi j (omega arith)))
      (mathlib.Core.List.Memᴰ.cases_cons m)

  fresh_means : (k t : ℕ) → t < length (old k).cells → (e : Entry) → Memᴰ e (fresh_entries F J p st k (num k t)) → Means e
  unfolding fresh_entries
  fresh_means k t h e m = go (anewb F J p st k (num k t)) refl
    where
      go : (b : Bool) → anewb F J p st k (num k t) ≡ b → Means e
      go false q = absurd (mathlib.Core.List.Memᴰ.not-nil (rw (q, fresh_entries) at m))
      go true q =
          let a = anew_of k t h (subst (λ (x : Bool). T x) (sym q) tt) in
          let m' : Memᴰ e (flat_map (kid_entries k t) (range 0 (size_of (st_now k t)))) = rw (q, fresh_entries) at m in
          let (i, y, x) = flat_in (kid_entries k t) (range 0 (size_of (st_now k t))) e m' in
          let (_, hi) = member_range 0 (size_of (st_now k t)) i y in
          childs_mean k t h a i (omega arith) e x

  pub entries_are : (e : Entry) → Memᴰ e (entries_in X p) → Means e
  unfolding entries
  entries_are e m =
      let (k, y, x) = flat_in (level_entries F J p st) (range 0 (suc J.top)) e m in
      let (c, z, w) = flat_in (cell_entries F J p st k) (J.cells k) e x in
      let pl = stands n qs ss s k c z in
      let w' : Memᴰ e (cell_entries F J p st k (num k pl.t)) =
      subst (λ (x : ℕ). Memᴰ e (cell_entries F J p st k x)) pl.number w in
      ⊎_elim (λ (q : Memᴰ e (master_entry F J p st k (num k pl.t))). master_means k pl.t pl.below e q)
      (λ (q : Memᴰ e (ghost_entry F J p st (num k pl.t) ++ fresh_entries F J p st k (num k pl.t))).
      ⊎_elim (λ (v : Memᴰ e (ghost_entry F J p st (num k pl.t))). ghost_means k pl.t pl.below e v)
      (λ (v : Memᴰ e (fresh_entries F J p st k (num k pl.t))). fresh_means k pl.t pl.below e v)
      (mathlib.Core.List.Memᴰ.append_cases (ghost_entry F J p st (num k pl.t)) q))
      (mathlib.Core.List.Memᴰ.append_cases (master_entry F J p st k (num k pl.t)) w')
