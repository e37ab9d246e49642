-- No cell stands twice among a part's entries.
-- Law: each_once (the theorem).
use Rattle.std.specs.Prelude.{◌≡◌, ◌≢◌, ◌⊎◌, Bool, ◌&&◌, eqb, get_or}
use Rattle.std.proofs.Math.Path.{refl, sym, ap, subst}
use Rattle.std.proofs.Common.{◌∙◌, length-append, ne_eqb}
use Rattle.std.proofs.Math.Logic.{inl, inr, ⊎_elim}
use Rattle.std.proofs.Math.Bool.{true, false, not}
use mathlib.Core.List.{List, [], ◌∷◌, ◌++◌, map, flat_map, Memᴰ}
use Prim.Native.Nat.{ℕ, suc, ◌<◌}
use Rattle.std.proofs.Math.Decide.{ℕ_discrete}
use native.Mathlib.Omega.{arith}
use Rattle.std.proofs.Math.Dec.{T}
use Rattle.std.proofs.Math.ListN.{length}
use Rattle.base.specs.Bools.{is_true, is_false, and_left, and_right, not_both}
use Rattle.base.specs.Range.{range, member_range}
use Rattle.mesh.specs.Cells.{Cell, redb, no_cell}
use Rattle.mesh.specs.Weights.{Point}
use Rattle.mesh.specs.Table.{Level, soundb, size_of}
use Rattle.rows.specs.Many.{size_some}
use Rattle.lineage.specs.Paths.{path_at, snoc_inj}
use Rattle.lineage.specs.Met.{flagged}
use Rattle.soundness.specs.Sound.{Sound, sound_from}
use Rattle.exchange.specs.Finite.{Finite}
use Rattle.rounds.specs.Task.{Task}
use Rattle.rounds.specs.Rounds.{State, is_part}
use Rattle.rounds.specs.Among.{is_same, is_eq}
use Rattle.parts.specs.Held.{Entry}
use Rattle.splitting.specs.Numbers.{numbers_of, at_level, stands}
use Rattle.splitting.specs.Paths.{path-length, new_one_place}
use Rattle.splitting.specs.Split.{Owners}
use Rattle.base.specs.Distinct.{flat_in, map_in, only_one}
use Rattle.shares.specs.Flat.{NoTwice, once_append, once_range, once-map}
use Rattle.shares.specs.Grow.{status_new, staysb, master_entry, ghost_entry, anewb, child_status, child_entries, fresh_entries, entries}
use Rattle.shares.specs.Grow.{entry_by, cell_entries, level_entries}
use Rattle.shares.specs.There.{There, refined_there}
use Rattle.shares.specs.Owned.{new_born}
use Rattle.shares.specs.Settled.{Settled, task_in, entries_in, old_level_in, new_level_in, num_in}
use Rattle.shares.specs.Present.{old_path, here_either, child_green}
use Rattle.shares.proofs.Present.{stays_there}
use Rattle.shares.specs.Entries.{old_low, Anew, anew_child, anew_path, anew_regular, anew_fresh}
use Rattle.shares.proofs.Entries.{anew_of}

module _ {Part : Type 0} {F : Finite Part} (X : Settled F) (p : Part) where
  abbrev n : ℕ
  n = X.n

  abbrev qs : List (List ℕ)
  qs = X.qs

  abbrev ss : List ℕ
  ss = X.ss

  abbrev ms : List ℕ
  ms = X.ms

  abbrev os : List ℕ
  os = X.os

  abbrev s : Sound n qs ss
  s = X.sound

  abbrev own : Owners n qs ss os
  own = X.owned

  abbrev J : Task Part
  J = task_in X

  abbrev st : State
  st = X.state p

  abbrev sound : T (soundb n qs ss)
  sound = sound_from n qs ss s

  abbrev new : ℕ → Level
  new = new_level_in X

  abbrev old : ℕ → Level
  old = old_level_in X

  abbrev num : ℕ → ℕ → ℕ
  num = num_in X

  abbrev owner : ℕ → Part
  owner = J.owner

  abbrev st_now : ℕ → ℕ → ℕ
  st_now k t = status_new J st (num k t)

  abbrev st_was : ℕ → ℕ → ℕ
  st_was k t = get_or ss (num k t) 0

  abbrev kid_now : ℕ → ℕ → ℕ → ℕ
  kid_now k t i = child_status F J p st (num k t) i

  abbrev kid_entries : ℕ → ℕ → ℕ → List Entry
  kid_entries k t i = child_entries F J p st (num k t) i

  -- each once
  abbrev P : ℕ → ℕ → List ℕ
  P k t = J.path (num k t)

  p_is : (k t : ℕ) → t < length (old k).cells → P k t ≡ path_at (old k).cells t
  p_is k t h = ap (λ (c : Cell Point). c.path) (at_level n qs ss s k t h).cell_is

  p-length : (k t : ℕ) → t < length (old k).cells → length (P k t) ≡ suc k
  p-length k t h = ap length (p_is k t h) ∙ path-length n qs ss k t h

  snoc_length : (l : List ℕ) (i : ℕ) → length (l ++ (i ∷ [])) ≡ suc (length l)
  snoc_length l i = length-append l (i ∷ []) ∙ omega arith

  same_cell : (k t k' t' : ℕ) → t < length (old k).cells → t' < length (old k').cells → P k t ≡ P k' t' → (k ≡ k') × (t ≡ t')
  same_cell k t k' t' h h' e =
      let q : suc k ≡ suc k' = sym (p-length k t h) ∙ ap length e ∙ p-length k' t' h' in
      let w : k ≡ k' = omega arith in
      (w, go k k' w t t' h h' e)
    where
      go : (k k' : ℕ) → k ≡ k' → (t t' : ℕ) → t < length (old k).cells → t' < length (old k').cells → P k t ≡ P k' t' → t ≡ t'
      go k k' w t t' h h' e =
          let h2 : t < length (old k').cells = subst (λ (x : ℕ). t < length (old x).cells) w h in
          let e2 : P k' t ≡ P k' t' = subst (λ (x : ℕ). P x t ≡ P k' t') w e in
          (flagged n qs ss ms sound k').paths t t' h2 h' (sym (p_is k' t h2) ∙ e2 ∙ p_is k' t' h')

  -- a cell that was there is no new anew_child X p
  new_path : (k t : ℕ) (w : There n qs ss ms s k t) → path_at (new k).cells w.i ≡ P k t
  new_path k t w = sym (old_path X p k w.i w.met_by) ∙ ap (λ (x : ℕ). P k x) w.place_is

  not_child : (k t k' t' : ℕ) (h : t < length (old k).cells) (h' : t' < length (old k').cells) → There n qs ss ms s k t
      → (a : Anew X p k' t') (i : ℕ) (hi : i < size_of (st_now k' t'))
      → P k t ≡ P k' t' ++ (i ∷ []) → ⊥
  not_child k t k' t' h h' w a i hi e =
      let q : suc k ≡ suc (suc k') = sym (p-length k t h) ∙ ap length e ∙ snoc_length (P k' t') i ∙ ap suc (p-length k' t' h') in
      let z : k ≡ suc k' = omega arith in
      let v = anew_child X p k' t' h' a i hi in
      let w' : There n qs ss ms s (suc k') t = subst (λ (x : ℕ). There n qs ss ms s x t) z w in
      let h2 : t < length (old (suc k')).cells = subst (λ (x : ℕ). t < length (old x).cells) z h in
      let e2 : P (suc k') t ≡ P k' t' ++ (i ∷ []) = subst (λ (x : ℕ). P x t ≡ P k' t' ++ (i ∷ [])) z e in
      let same : w'.i ≡ v.u = (new_one_place n qs ss ms (suc k') w'.i (suc k') v.u w'.below v.below (new_path (suc k') t w'
      ∙ e2 ∙ anew_path X p k' t' h' a i hi)).1 in
      elim (ℕ_discrete (st_now k' t') 64) [
        | yes s64 ↦ (anew_fresh X p k' t' h' a i hi s64).1 t h2 (subst (λ (x : ℕ). T (get_or (old (suc k')).cells x no_cell).regular)
            w'.place_is w'.met_by.is.regular) (sym (p_is (suc k') t h2) ∙ e2 ∙ anew_path X p k' t' h' a i hi)
        | no n64 ↦ not_both (get_or (new (suc k')).cells v.u no_cell).regular (is_true (get_or (new (suc k')).cells v.u no_cell).regular
            (subst (λ (x : ℕ). T (get_or (new (suc k')).cells x no_cell).regular) same w'.regular))
            (anew_regular X p k' t' h' a i hi ∙ ne_eqb (st_now k' t') 64 n64)
      ]

  not_grandchild : (k t k' t' : ℕ) (h : t < length (old k).cells) (h' : t' < length (old k').cells) → There n qs ss ms s k t
      → (a : Anew X p k' t') (i : ℕ) (hi : i < size_of (st_now k' t')) (j : ℕ)
      → j < size_of (kid_now k' t' i) → P k t ≡ (P k' t' ++ (i ∷ [])) ++ (j ∷ []) → ⊥
  not_grandchild k t k' t' h h' w a i hi j hj e =
      let q : suc k ≡ suc (suc (suc k')) = sym (p-length k t h) ∙ ap length e ∙ snoc_length (P k' t' ++ (i ∷ [])) j
      ∙ ap suc (snoc_length (P k' t') i ∙ ap suc (p-length k' t' h')) in
      let zk : k ≡ suc (suc k') = omega arith in
      let l = old_low X p k t h in
      let v = anew_child X p k' t' h' a i hi in
      let w' : There n qs ss ms s (suc (suc k')) t = subst (λ (x : ℕ). There n qs ss ms s x t) zk w in
      let e2 : P (suc (suc k')) t ≡ (P k' t' ++ (i ∷ [])) ++ (j ∷ []) = subst (λ (x : ℕ). P x t ≡ (P k' t' ++ (i ∷ [])) ++ (j ∷ [])) zk e in
      let cz : kid_now k' t' i ≢ 0 = size_some (kid_now k' t' i) j hj in
      let s64 : st_now k' t' ≡ 64 = (elim (ℕ_discrete (st_now k' t') 64) [
        | yes e ↦ e
        | no e ↦ absurd
            (cz (child_green X p (num k' t') i e))
      ]) in
      let b' = new_born n qs ss ms s os own (suc k') w'.i (omega arith) w'.below in
      let red : redb (get_or (new (suc k')).statuses b'.p 0) ≡ true = sym (ap (λ (c : Cell Point). c.regular) b'.is)
      ∙ is_true (get_or (new (suc (suc k'))).cells w'.i no_cell).regular w'.regular in
      let pe : path_at (new (suc k')).cells b'.p ++ (b'.i ∷ []) ≡ (P k' t' ++ (i ∷ [])) ++ (j ∷ []) =
      sym (ap (λ (c : Cell Point). c.path) b'.is) ∙ new_path (suc (suc k')) t w' ∙ e2 in
      let pp = (snoc_inj (path_at (new (suc k')).cells b'.p) (P k' t' ++ (i ∷ [])) b'.i j pe).0 in
      let same : b'.p ≡ v.u = (new_one_place n qs ss ms (suc k') b'.p (suc k') v.u b'.below v.below
      (pp ∙ anew_path X p k' t' h' a i hi)).1 in
      not_both (redb (get_or (new (suc k')).statuses v.u 0)) (ap (λ (x : ℕ). redb (get_or (new (suc k')).statuses x 0)) (sym same) ∙ red)
      (anew_fresh X p k' t' h' a i hi s64).0

  -- what an entry of an old cell is
  abbrev Later : ℕ → ℕ → Entry → Type 0
  Later k t e = (a : Anew X p k t) × (i : ℕ) × (i < size_of (st_now k t))
      × ((e.path ≡ P k t ++ (i ∷ [])) ⊎ ((j : ℕ) × (j < size_of (kid_now k t i)) × (e.path ≡ (P k t ++ (i ∷ [])) ++ (j ∷ []))))

  abbrev Sort : ℕ → ℕ → Entry → Type 0
  Sort k t e = (There n qs ss ms s k t × (e.path ≡ P k t)) ⊎ Later k t e

  one_anchor : (k t k' t' : ℕ) (h : t < length (old k).cells) (h' : t' < length (old k').cells) (e f : Entry) → Sort k t e → Sort k' t' f
      → e.path ≡ f.path → (k ≡ k') × (t ≡ t')
  one_anchor k t k' t' h h' e f (inl (w, x)) (inl (w', x')) q = same_cell k t k' t' h h' (sym x ∙ q ∙ x')
  one_anchor k t k' t' h h' e f (inl (w, x)) (inr (a, i, hi, inl y)) q = absurd (not_child k t k' t' h h' w a i hi (sym x ∙ q ∙ y))
  one_anchor k t k' t' h h' e f (inl (w, x)) (inr (a, i, hi, inr (j, hj, y))) q =
      absurd (not_grandchild k t k' t' h h' w a i hi j hj (sym x ∙ q ∙ y))
  one_anchor k t k' t' h h' e f (inr (a, i, hi, inl y)) (inl (w, x)) q = absurd (not_child k' t' k t h' h w a i hi (sym x ∙ sym q ∙ y))
  one_anchor k t k' t' h h' e f (inr (a, i, hi, inr (j, hj, y))) (inl (w, x)) q =
      absurd (not_grandchild k' t' k t h' h w a i hi j hj (sym x ∙ sym q ∙ y))
  one_anchor k t k' t' h h' e f (inr (a, i, hi, inl y)) (inr (a', i', hi', inl y')) q =
      same_cell k t k' t' h h' (snoc_inj (P k t) (P k' t') i i' (sym y ∙ q ∙ y')).0
  one_anchor k t k' t' h h' e f (inr (a, i, hi, inl y)) (inr (a', i', hi', inr (j', hj', y'))) q =
      absurd (not_child k t k' t' h h' a.there a' i' hi' (snoc_inj (P k t) (P k' t' ++ (i' ∷ [])) i j' (sym y ∙ q ∙ y')).0)
  one_anchor k t k' t' h h' e f (inr (a, i, hi, inr (j, hj, y))) (inr (a', i', hi', inl y')) q =
      absurd (not_child k' t' k t h' h a'.there a i hi (snoc_inj (P k' t') (P k t ++ (i ∷ [])) i' j (sym y' ∙ sym q ∙ y)).0)
  one_anchor k t k' t' h h' e f (inr (a, i, hi, inr (j, hj, y))) (inr (a', i', hi', inr (j', hj', y'))) q =
      same_cell k t k' t' h h' (snoc_inj (P k t) (P k' t') i i' (snoc_inj (P k t ++ (i ∷ [])) (P k' t' ++ (i' ∷ [])) j j'
      (sym y ∙ q ∙ y')).0).0

  master_sort : (k t : ℕ) → t < length (old k).cells → (e : Entry) → Memᴰ e (master_entry F J p st k (num k t))
      → There n qs ss ms s k t × (e.path ≡ P k t) × (owner (num k t) ≡ p)
  unfolding master_entry
  master_sort k t h e m = go (is_part F (owner (num k t)) p && staysb F J p st k (num k t)) refl
    where
      go : (b : Bool) → (is_part F (owner (num k t)) p && staysb F J p st k (num k t)) ≡ b → There n qs ss ms s k t × (e.path ≡ P k t)
          × (owner (num k t) ≡ p)
      go false q = absurd (mathlib.Core.List.Memᴰ.not-nil (rw (q, master_entry) at m))
      go true q =
          let u : T (is_part F (owner (num k t)) p && staysb F J p st k (num k t)) = subst (λ (x : Bool). T x) (sym q) tt in
          let o = is_eq F (owner (num k t)) p (and_left (is_part F (owner (num k t)) p) (staysb F J p st k (num k t)) u) in (
            stays_there X p k t h (inr o) (and_right (is_part F (owner (num k t)) p) (staysb F J p st k (num k t)) u),
            ap (λ (e : Entry). e.path) (only_one e (entry_by (P k t) (st_now k t) false) (rw (q, master_entry) at m)),
            o,
          )

  ghost_sort : (k t : ℕ) → t < length (old k).cells → (e : Entry) → Memᴰ e (ghost_entry F J p st (num k t)) → There n qs ss ms s k t
      × (e.path ≡ P k t) × (owner (num k t) ≢ p)
  unfolding ghost_entry
  ghost_sort k t h e m = go (not (is_part F (owner (num k t)) p) && (is_part F (J.family (num k t)) p && not (eqb (st_now k t) 0))) refl
    where
      go : (b : Bool) → (not (is_part F (owner (num k t)) p) && (is_part F (J.family (num k t)) p && not (eqb (st_now k t) 0))) ≡ b
          → There n qs ss ms s k t × (e.path ≡ P k t) × (owner (num k t) ≢ p)
      go false q = absurd (mathlib.Core.List.Memᴰ.not-nil (rw (q, ghost_entry) at m))
      go true q =
          let u : T (not (is_part F (owner (num k t)) p) && (is_part F (J.family (num k t)) p && not (eqb (st_now k t) 0))) =
          subst (λ (x : Bool). T x) (sym q) tt in
          let v = and_right (not (is_part F (owner (num k t)) p)) (is_part F (J.family (num k t)) p && not (eqb (st_now k t) 0)) u in
          let fc = is_eq F (J.family (num k t)) p (and_left (is_part F (J.family (num k t)) p) (not (eqb (st_now k t) 0)) v) in
          let no : owner (num k t) ≢ p =
          (λ y. not_both (is_part F (owner (num k t)) p) (is_same F (owner (num k t)) p y)
          (is_false (is_part F (owner (num k t)) p) (and_left (not (is_part F (owner (num k t)) p)) (is_part F (J.family (num k t)) p
          && not (eqb (st_now k t) 0)) u))) in (
            refined_there n qs ss ms s k t h (λ y. ⊎_elim (λ (x : st_was k t ≢ 0). x ((at_level n qs ss s k t h).status_is ∙ y))
                (λ (x : owner (num k t) ≡ p). no x) (here_either X p k t h fc)),
            ap (λ (e : Entry). e.path) (only_one e (entry_by (P k t) (st_now k t) true) (rw (q, ghost_entry) at m)),
            no,
          )

  child_sort : (k t i : ℕ) (e : Entry) → Memᴰ e (kid_entries k t i) → (e.path ≡ P k t ++ (i ∷ []))
      ⊎ ((j : ℕ) × (j < size_of (kid_now k t i)) × (e.path ≡ (P k t ++ (i ∷ [])) ++ (j ∷ [])))
  unfolding child_entries
  child_sort k t i e m =
      ⊎_elim (λ (q : e ≡ entry_by (P k t ++ (i ∷ [])) (kid_now k t i) false). inl (ap (λ (e : Entry). e.path) q))
      (λ (q : Memᴰ e (map (λ j. entry_by ((P k t ++ (i ∷ [])) ++ (j ∷ [])) 0 false) (range 0 (size_of (kid_now k t i))))).
      let (j, y, x) = map_in (λ j. entry_by ((P k t ++ (i ∷ [])) ++ (j ∷ [])) 0 false) (range 0 (size_of (kid_now k t i))) e q in
      let (_, hj) = member_range 0 (size_of (kid_now k t i)) j y in
      inr (j, omega arith, ap (λ (e : Entry). e.path) x))
      (mathlib.Core.List.Memᴰ.cases_cons m)

  fresh_sort : (k t : ℕ) → t < length (old k).cells → (e : Entry) → Memᴰ e (fresh_entries F J p st k (num k t)) → Later k t e
  unfolding fresh_entries
  fresh_sort k t h e m = go (anewb F J p st k (num k t)) refl
    where
      go : (b : Bool) → anewb F J p st k (num k t) ≡ b → Later k t e
      go false q = absurd (mathlib.Core.List.Memᴰ.not-nil (rw (q, fresh_entries) at m))
      go true q =
          let m' : Memᴰ e (flat_map (kid_entries k t) (range 0 (size_of (st_now k t)))) = rw (q, fresh_entries) at m in
          let (i, y, x) = flat_in (kid_entries k t) (range 0 (size_of (st_now k t))) e m' in
          let (_, hi) = member_range 0 (size_of (st_now k t)) i y in
          (anew_of X p k t h (subst (λ (x : Bool). T x) (sym q) tt), i, omega arith, child_sort k t i e x)

  sort_of : (k t : ℕ) → t < length (old k).cells → (e : Entry) → Memᴰ e (cell_entries F J p st k (num k t)) → Sort k t e
  sort_of k t h e m =
      ⊎_elim (λ (q : Memᴰ e (master_entry F J p st k (num k t))). let (w, x, o) = master_sort k t h e q in inl (w, x))
      (λ (q : Memᴰ e (ghost_entry F J p st (num k t) ++ fresh_entries F J p st k (num k t))).
      ⊎_elim (λ (v : Memᴰ e (ghost_entry F J p st (num k t))). let (w, x, o) = ghost_sort k t h e v in inl (w, x))
      (λ (v : Memᴰ e (fresh_entries F J p st k (num k t))). inr (fresh_sort k t h e v))
      (mathlib.Core.List.Memᴰ.append_cases (ghost_entry F J p st (num k t)) q))
      (mathlib.Core.List.Memᴰ.append_cases (master_entry F J p st k (num k t)) m)

  once_child : (k t i : ℕ) → NoTwice (kid_entries k t i)
  unfolding child_entries
  once_child k t i = (
    (λ f m q.
        let (j, y, x) = map_in (λ j. entry_by ((P k t ++ (i ∷ [])) ++ (j ∷ [])) 0 false) (range 0 (size_of (kid_now k t i))) f m in
        let z : suc (length (P k t ++ (i ∷ []))) ≡ length (P k t ++ (i ∷ [])) = sym (snoc_length (P k t ++ (i ∷ [])) j)
        ∙ ap length (sym (ap (λ (e : Entry). e.path) x) ∙ q) in
        omega arith),
    once-map (λ j. entry_by ((P k t ++ (i ∷ [])) ++ (j ∷ [])) 0 false) 0 (size_of (kid_now k t i))
        (λ x y q. (snoc_inj (P k t ++ (i ∷ [])) (P k t ++ (i ∷ [])) x y q).1),
  )

  child_apart : (k t i i' : ℕ) → i ≢ i' → (e f : Entry) → Memᴰ e (kid_entries k t i) → Memᴰ f (kid_entries k t i')
      → f.path ≡ e.path → ⊥
  child_apart k t i i' d e f m m' q = go (child_sort k t i e m) (child_sort k t i' f m')
    where
      S : ℕ → Entry → Type 0
      S i e = (e.path ≡ P k t ++ (i ∷ [])) ⊎ ((j : ℕ) × (j < size_of (kid_now k t i)) × (e.path ≡ (P k t ++ (i ∷ [])) ++ (j ∷ [])))

      go : (e.path ≡ P k t ++ (i ∷ [])) ⊎ ((j : ℕ) × (j < size_of (kid_now k t i)) × (e.path ≡ (P k t ++ (i ∷ [])) ++ (j ∷ [])))
          → (f.path ≡ P k t ++ (i' ∷ [])) ⊎ ((j : ℕ) × (j < size_of (kid_now k t i')) × (f.path ≡ (P k t ++ (i' ∷ [])) ++ (j ∷ []))) → ⊥
      go (inl x) (inl y) = d (snoc_inj (P k t) (P k t) i i' (sym x ∙ sym q ∙ y)).1
      go (inl x) (inr (j, h, y)) = longer j i' i (sym y ∙ q ∙ x)
        where
          longer : (j a b : ℕ) → (P k t ++ (a ∷ [])) ++ (j ∷ []) ≡ P k t ++ (b ∷ []) → ⊥
          longer j a b z =
              let w : suc (suc (length (P k t))) ≡ suc (length (P k t)) =
              sym (snoc_length (P k t ++ (a ∷ [])) j ∙ ap suc (snoc_length (P k t) a)) ∙ ap length z ∙ snoc_length (P k t) b in omega arith
      go (inr (j, h, x)) (inl y) = longer j i i' (sym x ∙ sym q ∙ y)
        where
          longer : (j a b : ℕ) → (P k t ++ (a ∷ [])) ++ (j ∷ []) ≡ P k t ++ (b ∷ []) → ⊥
          longer j a b z =
              let w : suc (suc (length (P k t))) ≡ suc (length (P k t)) =
              sym (snoc_length (P k t ++ (a ∷ [])) j ∙ ap suc (snoc_length (P k t) a)) ∙ ap length z ∙ snoc_length (P k t) b in omega arith
      go (inr (j, h, x)) (inr (j', h', y)) =
          d (snoc_inj (P k t) (P k t) i i' (snoc_inj (P k t ++ (i ∷ [])) (P k t ++ (i' ∷ [])) j j' (sym x ∙ sym q ∙ y)).0).1

  once_master : (k c : ℕ) → NoTwice (master_entry F J p st k c)
  unfolding master_entry
  once_master k c = go (is_part F (owner c) p && staysb F J p st k c) refl
    where
      go : (b : Bool) → (is_part F (owner c) p && staysb F J p st k c) ≡ b → NoTwice (master_entry F J p st k c)
      go true q = rw (q, master_entry) ((λ f m z. absurd (mathlib.Core.List.Memᴰ.not-nil m)), tt)
      go false q = rw (q, master_entry) tt

  once_ghost : (c : ℕ) → NoTwice (ghost_entry F J p st c)
  unfolding ghost_entry
  once_ghost c = go (not (is_part F (owner c) p) && (is_part F (J.family c) p && not (eqb (status_new J st c) 0))) refl
    where
      go : (b : Bool) → (not (is_part F (owner c) p) && (is_part F (J.family c) p && not (eqb (status_new J st c) 0))) ≡ b
          → NoTwice (ghost_entry F J p st c)
      go true q = rw (q, ghost_entry) ((λ f m z. absurd (mathlib.Core.List.Memᴰ.not-nil m)), tt)
      go false q = rw (q, ghost_entry) tt

  once_fresh : (k t : ℕ) → NoTwice (fresh_entries F J p st k (num k t))
  unfolding fresh_entries
  once_fresh k t = go (anewb F J p st k (num k t)) refl
    where
      go : (b : Bool) → anewb F J p st k (num k t) ≡ b → NoTwice (fresh_entries F J p st k (num k t))
      go true q = rw (q, fresh_entries) (once_range (kid_entries k t) 0 (size_of (st_now k t)) (λ i m. once_child k t i)
          (λ x y h g d e f m m'. child_apart k t x y d e f m m'))
      go false q = rw (q, fresh_entries) tt

  later_long : (k t : ℕ) → t < length (old k).cells → (e : Entry) → Later k t e → e.path ≡ P k t → ⊥
  later_long k t h e (a, i, hi, inl y) q = let z : suc (length (P k t)) ≡ length (P k t) =
      sym (snoc_length (P k t) i) ∙ ap length (sym y ∙ q) in omega arith
  later_long k t h e (a, i, hi, inr (j, hj, y)) q =
      let z : suc (suc (length (P k t))) ≡ length (P k t) = sym (snoc_length (P k t ++ (i ∷ [])) j ∙ ap suc (snoc_length (P k t) i))
      ∙ ap length (sym y ∙ q) in omega arith

  once_at : (k t : ℕ) → t < length (old k).cells → NoTwice (cell_entries F J p st k (num k t))
  once_at k t h =
      once_append (master_entry F J p st k (num k t)) (ghost_entry F J p st (num k t) ++ fresh_entries F J p st k (num k t))
      (once_master k (num k t))
      (once_append (ghost_entry F J p st (num k t)) (fresh_entries F J p st k (num k t)) (once_ghost (num k t)) (once_fresh k t)
      (λ e f m m' q. let (w, x, o) = ghost_sort k t h e m in later_long k t h f (fresh_sort k t h f m') (q ∙ x)))
      (λ e f m m' q.
      let (w, x, o) = master_sort k t h e m in
      ⊎_elim (λ (v : Memᴰ f (ghost_entry F J p st (num k t))). let (w', x', o') = ghost_sort k t h f v in o' o)
      (λ (v : Memᴰ f (fresh_entries F J p st k (num k t))). later_long k t h f (fresh_sort k t h f v) (q ∙ x))
      (mathlib.Core.List.Memᴰ.append_cases (ghost_entry F J p st (num k t)) m'))

  at_level_once : (k : ℕ) → NoTwice ((level_entries F J p st) k)
  unfolding numbers_of
  at_level_once k =
      once_range (cell_entries F J p st k) (old k).first (length (old k).cells)
      (λ x m. let pl = stands n qs ss s k x m in subst (λ (c : ℕ). NoTwice (cell_entries F J p st k c)) (sym pl.number)
      (once_at k pl.t pl.below))
      (λ x y hx hy d e g m m' q.
      let a = stands n qs ss s k x hx in
      let b' = stands n qs ss s k y hy in
      let sa = sort_of k a.t a.below e (subst (λ (c : ℕ). Memᴰ e (cell_entries F J p st k c)) a.number m) in
      let sb = sort_of k b'.t b'.below g (subst (λ (c : ℕ). Memᴰ g (cell_entries F J p st k c)) b'.number m') in
      let z = (one_anchor k a.t k b'.t a.below b'.below e g sa sb (sym q)).1 in
      d (a.number ∙ ap (λ (t : ℕ). num k t) z ∙ sym b'.number))

  pub each_once : NoTwice (entries_in X p)
  unfolding entries
  each_once =
      once_range (level_entries F J p st) 0 (suc J.top) (λ k m. at_level_once k)
      (λ x y hx hy d e g m m' q.
      let (c, mc, w) = flat_in (cell_entries F J p st x) (J.cells x) e m in
      let (c', mc', w') = flat_in (cell_entries F J p st y) (J.cells y) g m' in
      let a = stands n qs ss s x c mc in
      let b' = stands n qs ss s y c' mc' in
      let sa = sort_of x a.t a.below e (subst (λ (c : ℕ). Memᴰ e (cell_entries F J p st x c)) a.number w) in
      let sb = sort_of y b'.t b'.below g (subst (λ (c : ℕ). Memᴰ g (cell_entries F J p st y c)) b'.number w') in
      d (one_anchor x a.t y b'.t a.below b'.below e g sa sb (sym q)).0)
