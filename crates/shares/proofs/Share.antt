-- What a part makes is its share of the step's table: its entries are those of its number (share_held, held_share).
use Rattle.std.specs.Prelude.{◌≡◌, ◌≢◌, ◌⊎◌, Bool, true, false, not, ℕ, suc, ◌+◌, ◌<◌, eqb, length, get_or}
use Rattle.std.proofs.Common.{sym, ◌∙◌, ap, ap₂, subst, inl, inr, arith, eqb→eq, eq-eqb, ne_eqb}
use mathlib.Core.List.{List, Memᴰ}
use Rattle.std.proofs.Math.Dec.{T}
use Rattle.std.proofs.lemmas.Bool.{eqb-false}
use Rattle.mesh.specs.Cells.{Cell}
use Rattle.mesh.specs.Weights.{Point}
use Rattle.mesh.specs.Table.{Level}
use Rattle.lineage.specs.Paths.{path_at}
use Rattle.soundness.specs.Sound.{Sound, lv}
use Rattle.exchange.specs.Finite.{Finite}
use Rattle.base.specs.Member.{Member}
use Rattle.parts.specs.Owners.{nth_cell, children_of, family_of, ownersb, family_after, owner_after}
use Rattle.parts.specs.Held.{Entry, masterb, ghostb, entries_of}
use Rattle.splitting.specs.Numbers.{numbers_of, At, at_level, Stands, stands, level_at_lem, number_inside, kid, kid_some}
use Rattle.splitting.specs.Paths.{level_below, new_lv}
use Rattle.splitting.specs.Split.{owners_fit}
use Rattle.splitting.specs.Admissible.{ghost_family, ghost_other}
use Rattle.splitting.specs.Heirs.{heir_owner, heir_family, owner_in, number_in, heirs, heirs_admissible}
use Rattle.shares.specs.Grow.{entry_by}
use Rattle.shares.specs.Owned.{own_at, fam_at}
use Rattle.shares.specs.Settled.{Settled, entries_in, new_level_in, own_in, fam_in}
use Rattle.shares.specs.Present.{new_entry, ghosts_in}
use Rattle.shares.proofs.Present.{masters_in_lem}
use Rattle.shares.specs.Entries.{Means}
use Rattle.shares.proofs.Entries.{entries_are}
use Rattle.shares.specs.Held.{HeldBy, master_held, ghost_held, held_is}
use Rattle.base.specs.Bools.{and_both}
use Rattle.shares.specs.Share.{Named, table_in, owners_in}

module _ {Part : Type 0} {F : Finite Part} (X : Settled F) (P : ℕ) (number : Part → ℕ) (names : Named P X.part number)
    (t : T (ownersb X.n X.qs X.ss P X.os)) (u : Sound X.n X.qs (table_in X)) where
  abbrev n : ℕ
  n = X.n

  abbrev qs : List (List ℕ)
  qs = X.qs

  abbrev ts : List ℕ
  ts = table_in X

  abbrev os' : List ℕ
  os' = owners_in X

  abbrev num : ℕ → ℕ → ℕ
  num k i = (lv n qs ts k).first + i

  -- the new cells by number
  inside : (k i : ℕ) → i < length (new_level_in X k).cells → i < length (lv n qs ts k).cells
  inside k i h = subst (λ (l : Level). i < length l.cells) (sym (new_lv n qs X.ss X.ms k)) h

  entry_is_lem : (k i : ℕ) → i < length (new_level_in X k).cells → (b : Bool)
      → entry_by (nth_cell n qs ts (num k i)).path (get_or ts (num k i) 0) b ≡ new_entry n qs X.ss X.ms k i b
  entry_is_lem k i h b =
      let a = at_level n qs ts u k i (inside k i h) in
      ap₂ (λ (l : List ℕ) (x : ℕ). entry_by l x b) (ap (λ (c : Cell Point). c.path) a.cell_is) a.status_is
      ∙ ap {A = Level} {B = Entry} (λ l. entry_by (path_at l.cells i) (get_or l.statuses i 0) b) (new_lv n qs X.ss X.ms k)

  own_is : (k i : ℕ) → i < length (new_level_in X k).cells → get_or os' (num k i) 0 ≡ own_at n qs X.ss X.ms X.os k i
  own_is k i h =
      heir_owner n qs X.ss X.os ts u k i (inside k i h)
      ∙ ap (λ (l : Level). owner_after n qs X.ss X.os (path_at l.cells i)) (new_lv n qs X.ss X.ms k)

  -- an owner by the part and by the number
  module _ (k i : ℕ) (h : i < length (new_level_in X k).cells) (p : Part) where
    owner_number : number (own_in X k i) ≡ own_at n qs X.ss X.ms X.os k i
    owner_number =
        let (a, b) = owner_in n qs X.ss X.os X.sound P t ts k i (inside k i h) in
        let e = heir_owner n qs X.ss X.os ts u k i (inside k i h) in
        let o : owner_after n qs X.ss X.os (path_at (lv n qs ts k).cells i) ≡ own_at n qs X.ss X.ms X.os k i =
        sym e ∙ own_is k i h in
        names.forth (own_at n qs X.ss X.ms X.os k i) (omega (arith, a, o)) (omega (arith, b, o))

    owned_by : own_in X k i ≡ p → get_or os' (num k i) 0 ≡ number p
    owned_by o = own_is k i h ∙ sym owner_number ∙ ap number o

    by_owned : get_or os' (num k i) 0 ≡ number p → own_in X k i ≡ p
    by_owned e = ap X.part (sym (own_is k i h) ∙ e) ∙ names.back p

    -- and of a family, where there is one
    fam_is : (d : ℕ) → Member d (children_of n qs ts (num k i)) → family_of n qs ts os' (num k i) ≡ fam_at n qs X.ss X.ms X.os k i
    fam_is d m =
        let a = at_level n qs ts u k i (inside k i h) in
        let path : (nth_cell n qs ts (num k i)).path ≡ path_at (new_level_in X k).cells i =
        ap (λ (c : Cell Point). c.path) a.cell_is ∙ ap (λ (l : Level). path_at l.cells i) (new_lv n qs X.ss X.ms k) in
        heir_family n qs X.ss X.os ts u (num k i) d a.inside m
        ∙ ap₂ (λ (l : List ℕ) (o : ℕ). family_after n qs X.ss X.os l o) path (own_is k i h)

    fam_number : (d : ℕ) → Member d (children_of n qs ts (num k i)) → number (fam_in X k i) ≡ family_of n qs ts os' (num k i)
    fam_number d m =
        let a = at_level n qs ts u k i (inside k i h) in
        let w = kid n qs ts u k (num k i) d a.here m in
        let e = owners_fit n qs ts P os' (heirs n qs X.ss X.os ts u X.sound P t) (num k i) d a.inside m in
        let (x, y) = number_in n qs X.ss X.os ts u X.sound P t d (number_inside n qs ts u (suc k) d w.up) in
        ap number (ap X.part (sym (fam_is d m))) ∙ names.forth (family_of n qs ts os' (num k i)) (omega (arith, x, e))
        (omega (arith, y, e))

  -- a part's entry is one of its number
  pub share_held : (p : Part) (e : Entry) → Memᴰ e (entries_in X p) → Memᴰ e (entries_of n qs ts os' (number p))
  unfolding masterb ghostb
  share_held p e m = go (entries_are X p e m)
    where
      equal : (a b : ℕ) → a ≡ b → T (eqb a b)
      equal a b q = rw (eq-eqb a b q) tt

      place_it : (k i : ℕ) → i < length (new_level_in X k).cells → (b : Bool) → e.path ≡ path_at (new_level_in X k).cells i
          → e.status ≡ get_or (new_level_in X k).statuses i 0 → e.ghost ≡ b
          → Memᴰ (entry_by (nth_cell n qs ts (num k i)).path (get_or ts (num k i) 0) b) (entries_of n qs ts os' (number p))
          → Memᴰ e (entries_of n qs ts os' (number p))
      place_it k i h b x y z w =
          let same : e ≡ new_entry n qs X.ss X.ms k i b =
          ap₂ {A = List ℕ} {B = ℕ} {C = Entry} (λ l v. entry_by l v e.ghost) x y
          ∙ ap (entry_by (path_at (new_level_in X k).cells i) (get_or (new_level_in X k).statuses i 0)) z in
          subst (λ (f : Entry). Memᴰ f (entries_of n qs ts os' (number p))) (entry_is_lem k i h b ∙ sym same) w

      go : Means X p e → Memᴰ e (entries_of n qs ts os' (number p))
      go w = kind_of_lem w.kind
        where
          a : At n qs ts u w.k w.i
          a = at_level n qs ts u w.k w.i (inside w.k w.i w.below)

          kind_of_lem : ((e.ghost ≡ false) × (own_in X w.k w.i ≡ p))
              ⊎ ((e.ghost ≡ true) × (get_or (new_level_in X w.k).statuses w.i 0 ≢ 0) × (fam_in X w.k w.i ≡ p)
              × (own_in X w.k w.i ≢ p))
              → Memᴰ e (entries_of n qs ts os' (number p))
          kind_of_lem (inl (g, o)) =
              place_it w.k w.i w.below false w.path w.status g
              (master_held n qs ts os' (number p) (num w.k w.i) a.inside
              (equal (get_or os' (num w.k w.i) 0) (number p) (owned_by w.k w.i w.below p o)))
          kind_of_lem (inr (g, z, f, o)) =
              let st : get_or ts (num w.k w.i) 0 ≢ 0 =
              (λ y. z (sym (a.status_is ∙ ap (λ (l : Level). get_or l.statuses w.i 0) (new_lv n qs X.ss X.ms w.k)) ∙ y)) in
              let (d, md) = kid_some n qs ts u w.k (num w.k w.i) a.here st in
              let other : get_or os' (num w.k w.i) 0 ≢ number p = (λ y. o (by_owned w.k w.i w.below p y)) in
              let fam : family_of n qs ts os' (num w.k w.i) ≡ number p = sym (fam_number w.k w.i w.below p d md)
              ∙ ap number f in
              place_it w.k w.i w.below true w.path w.status g
              (ghost_held n qs ts os' (number p) (num w.k w.i) a.inside
              (and_both (not (eqb (get_or os' (num w.k w.i) 0) (number p))) (eqb (family_of n qs ts os' (num w.k w.i)) (number p))
              (rw (ne_eqb (get_or os' (num w.k w.i) 0) (number p) other) tt)
              (equal (family_of n qs ts os' (num w.k w.i)) (number p) fam)))

  -- and the other way round
  pub held_share : (p : Part) (e : Entry) → Memᴰ e (entries_of n qs ts os' (number p)) → Memᴰ e (entries_in X p)
  unfolding masterb
  held_share p e m = go (held_is n qs ts os' (number p) e m)
    where
      go : HeldBy n qs ts os' (number p) e → Memᴰ e (entries_in X p)
      go w = from (level_at_lem n qs ts u w.c w.below)
        where
          from : (k : ℕ) × Member w.c (numbers_of n qs ts k) → Memᴰ e (entries_in X p)
          from (k, mc) = kind_of_lem w.kind
            where
              pl : Stands n qs ts u k w.c
              pl = stands n qs ts u k w.c mc

              h : pl.t < length (new_level_in X k).cells
              h = subst (λ (l : Level). pl.t < length l.cells) (new_lv n qs X.ss X.ms k) pl.below

              low : k < 12
              low = level_below n qs ts k pl.t pl.below

              same : (b : Bool) → e.ghost ≡ b → e ≡ new_entry n qs X.ss X.ms k pl.t b
              same b g =
                  w.is ∙ ap (λ (x : ℕ). entry_by (nth_cell n qs ts x).path (get_or ts x 0) e.ghost) pl.number
                  ∙ entry_is_lem k pl.t h e.ghost
                  ∙ ap (new_entry n qs X.ss X.ms k pl.t) g

              kind_of_lem : ((e.ghost ≡ false) × T (masterb os' (number p) w.c))
                  ⊎ ((e.ghost ≡ true) × T (ghostb n qs ts os' (number p) w.c))
                  → Memᴰ e (entries_in X p)
              kind_of_lem (inl (g, a)) =
                  let o : get_or os' (num k pl.t) 0 ≡ number p = ap (λ (x : ℕ). get_or os' x 0) (sym pl.number)
                  ∙ eqb→eq (get_or os' w.c 0) (number p) a in
                  subst (λ (f : Entry). Memᴰ f (entries_in X p)) (sym (same false g))
                  (masters_in_lem X p k pl.t low h (by_owned k pl.t h p o))
              kind_of_lem (inr (g, a)) =
                  let ad = heirs_admissible n qs X.ss X.os ts u X.sound P t in
                  let (d, md) = ad.A5 (number p) w.c a in
                  let md' : Member d (children_of n qs ts (num k pl.t)) =
                  subst (λ (x : ℕ). Member d (children_of n qs ts x)) pl.number md in
                  let o : own_in X k pl.t ≢ p =
                  (λ y. eqb-false (get_or os' w.c 0) (number p) (ghost_other n qs ts P os' (number p) w.c a)
                  (ap (λ (x : ℕ). get_or os' x 0) pl.number ∙ owned_by k pl.t h p y)) in
                  let f : fam_in X k pl.t ≡ p =
                  ap X.part (sym (fam_is k pl.t h p d md') ∙ ap (family_of n qs ts os') (sym pl.number)
                  ∙ ghost_family n qs ts P os' (number p) w.c a)
                  ∙ names.back p in
                  let kd = kid n qs ts u k w.c d mc md in
                  let z : get_or (new_level_in X k).statuses pl.t 0 ≢ 0 =
                  (λ y. kd.refined (ap (λ (x : ℕ). get_or ts x 0) pl.number ∙ (at_level n qs ts u k pl.t pl.below).status_is
                  ∙ ap (λ (l : Level). get_or l.statuses pl.t 0) (new_lv n qs X.ss X.ms k) ∙ y)) in
                  subst (λ (f : Entry). Memᴰ f (entries_in X p)) (sym (same true g))
                  (ghosts_in X p k pl.t low h z f o)
