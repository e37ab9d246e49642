-- The masters and ghosts of a part after the step, as its store has them, are those of its state.
--   placed_by x         the store x with masters and ghosts of the step written, and their totals
-- Laws: place_at_lem (the place of a cell), all_placed, placed_else, placed_size (what stays), placed_total, placed_high, placed_entries,
-- placed_held (what is written).
use Rattle.std.specs.Prelude.{◌≡◌, ◌≢◌, ◌⊎◌, Bool, true, ◌&&◌, T, take}
use Rattle.std.proofs.Math.Path.{refl, ap, ap₂, subst}
use Rattle.std.proofs.Common.{sym, ◌∙◌, inr, zero-add, arith}
use Rattle.std.proofs.Math.Bool.{false, not}
use mathlib.Core.List.{List, [], ◌∷◌, ◌++◌, map, flat_map, append_assoc, append-nil}
use Prim.Native.Nat.{ℕ, zero, suc, ◌+◌, ◌-◌, ◌≤◌, ◌<◌, min, Fin}
use Rattle.std.proofs.Math.Dec.{eqb}
use Rattle.std.proofs.Math.ListN.{length, set, length-set}
use Rattle.std.proofs.Math.Seq.{get_or-set_same, get_or-set_other}
use borrow.Author.Tests.{eq-eqb, ne_eqb, eqb-true, eqb-false}
use Rattle.base.specs.Bools.{and_left, and_right}
use Rattle.base.specs.Limits.{most_cells, top_level}
use Rattle.base.specs.Lists.{anyb}
use Rattle.base.specs.Range.{range, range_member}
use Rattle.mesh.specs.Cells.{bits_of}
use Rattle.mesh.specs.Table.{size_of}
use Rattle.mesh.specs.Layout.{edge_numbers}
use Rattle.rows.specs.Sizes.{size_leaf, size_red, size_few}
use Rattle.families.specs.Children.{low_digit, high_digit}
use Rattle.parts.specs.Held.{Entry}
use Rattle.exchange.specs.Finite.{Finite, parts}
use Rattle.base.specs.Member.{Member}
use Rattle.rounds.specs.Task.{Task, Fit}
use Rattle.rounds.specs.Rounds.{State, is_part, capped, largest}
use Rattle.rounds.specs.Among.{is_eq}
use Rattle.store.specs.Fields.{field, PART, CELLS, ENTRIES, TOTAL, HIGH, FIRST_CELL, OWNER, FAMILY, STATUS, CHILD, HEAD, DIGITS, MORE}
use Rattle.store.specs.Fields.{CURSOR, PLACE_HEAD}
use Rattle.store.specs.declared.Place.{Place}
use Rattle.store.specs.Places.{place_of}
use Rattle.standing.proofs.Absorbs.{and_none}
use Rattle.standing.specs.Busy.{HoldsCell}
use Rattle.turns.specs.Decide.{kid_count}
use Rattle.turns.specs.Loops.{each_from}
use Rattle.places.specs.Status.{new_status, lastsb, remadeb, fresh_bits}
use Rattle.places.specs.Put.{place_at, put, put_master, put_leaves, put_child, place_master, place_ghost, place_family, place_cell}
use Rattle.partstep.specs.Step.{cleared}
use Rattle.held.specs.Held.{held_in}
use Rattle.shares.specs.Grow.{status_new, pair_held, entry_by, master_entry, ghost_entry, child_status, child_entries, fresh_entries, cell_entries}
use Rattle.shares.specs.Grow.{level_entries, entries, fresh_status as fresh_now, fresh_is as fresh_bits_lem, staysb as stays_now, anewb as anew_now}
use Rattle.merging.specs.Complete.{master_paths}
use Rattle.merging.specs.Limits.{top_of}
use Rattle.merging.specs.Totals.{grown_of}
use Rattle.entering.specs.Columns.{Columns, Heard}
use Rattle.entering.specs.PlacingSteps.{Else, StepHeld, placed_master, placed_ghost, placed_leaves, placed_child, leaf_by}
use Rattle.entering.specs.PlacingSteps.{each_adds, flat_one, held_placed, else_nine, else_ten, else_eleven}
use Rattle.entering.specs.PlacingStatus.{cell_few, holds_owner, holds_family, owner_is, family_is, stored_is, status_is, stays_is}
use Rattle.entering.specs.PlacingStatus.{anew_is, fresh_read, status_few, fresh_few}

-- lists and loops
flat_agree : {A B : Type 0} (f g : A → List B) → ((a : A) → f a ≡ g a) → (l : List A) → flat_map f l ≡ flat_map g l
unfolding flat_map
flat_agree f g h [] = refl
flat_agree f g h (a ∷ l) = ap₂ ◌++◌ (h a) (flat_agree f g h l)

flat_snoc : {B : Type 0} (g : ℕ → List B) (k n : ℕ) → flat_map g (range k (suc n)) ≡ flat_map g (range k n) ++ g (k + n)
unfolding flat_map range
flat_snoc g k zero = append-nil (g k) ∙ ap g (omega arith)
flat_snoc g k (suc n) =
    let z : suc k + n ≡ k + suc n = omega arith in
    ap (◌++◌ (g k)) (flat_snoc g (suc k) n) ∙ sym (append_assoc (g k) (flat_map g (range (suc k) n)) (g (suc k + n)))
    ∙ ap (λ (i : ℕ). (g k ++ flat_map g (range (suc k) n)) ++ g i) z

each_on : (f : List ℕ → ℕ → List ℕ) (m n c : ℕ) (y : List ℕ) → each_from f (m + n) c y ≡ each_from f n (c + m) (each_from f m c y)
unfolding each_from
each_on f zero n c y =
    let a : 0 + n ≡ n = omega arith in
    let b : c + 0 ≡ c = omega arith in
    ap (λ (i : ℕ). each_from f i c y) a ∙ ap (λ (i : ℕ). each_from f n i y) (sym b)
each_on f (suc m) n c y =
    let a : suc m + n ≡ suc (m + n) = omega arith in
    let b : suc c + m ≡ c + suc m = omega arith in
    ap (λ (i : ℕ). each_from f i c y) a ∙ each_on f m n (suc c) (f y c) ∙ ap (λ (i : ℕ). each_from f n i (each_from f m (suc c) (f y c))) b

choose : Bool → Bool → List ℕ → List ℕ → List ℕ → List ℕ
choose a b r l y = elim a [ true ↦ elim b [ true ↦ r | false ↦ l ] | false ↦ y ]

-- what a cell gives, by its tests
module _ (y : List ℕ) (c : ℕ) where
  master_yes : (eqb (field y (OWNER + c)) (field y PART) && lastsb y c) ≡ true → place_master y c ≡ put_master y (place_at y c) (new_status y c)
  unfolding place_master
  master_yes e = rw (e, place_master)

  master_no : (eqb (field y (OWNER + c)) (field y PART) && lastsb y c) ≡ false → place_master y c ≡ y
  unfolding place_master
  master_no e = rw (e, place_master)

  abbrev ghost_test : Bool
  ghost_test = not (eqb (field y (OWNER + c)) (field y PART)) && (eqb (field y (FAMILY + c)) (field y PART) && not (eqb (new_status y c) 0))

  ghost_yes : ghost_test ≡ true → place_ghost y c ≡ put y (place_at y c) (128 + new_status y c)
  unfolding place_ghost
  ghost_yes e = rw (e, place_ghost)

  ghost_no : ghost_test ≡ false → place_ghost y c ≡ y
  unfolding place_ghost
  ghost_no e = rw (e, place_ghost)

  family_no : remadeb y c ≡ false → place_family y c ≡ y
  unfolding place_family
  family_no e = rw (e, place_family)

  family_leaves : remadeb y c ≡ true → (eqb (new_status y c) 64 && not (eqb (field y (STATUS + c)) 0)) ≡ false
      → place_family y c ≡ put_leaves (place_at y c) (size_of (new_status y c)) y
  unfolding place_family
  family_leaves e f = rw (e, f, place_family)

  family_children : remadeb y c ≡ true → (eqb (new_status y c) 64 && not (eqb (field y (STATUS + c)) 0)) ≡ true
      → place_family y c ≡ each_from (put_child (place_at y c) (fresh_bits y c)) 8 0 y
  unfolding place_family choose
  family_children e f =
      ap₂ (λ (a b : Bool). choose a b (each_from (put_child (place_at y c) (fresh_bits y c)) 8 0 y)
      (put_leaves (place_at y c) (size_of (new_status y c)) y) y) e f

  cell_is : place_cell y c ≡ place_family (place_ghost (place_master y c) c) c
  unfolding place_cell
  cell_is = refl

module _ {Part : Type 0} (F : Finite Part) (J : Task Part) (p : Part) (st : State) (k c : ℕ) where
  a_fresh : anew_now F J p st k c ≡ true → fresh_entries F J p st k c
      ≡ flat_map (child_entries F J p st c) (range 0 (size_of (status_new J st c)))
  unfolding fresh_entries
  a_fresh e = rw (e, fresh_entries)

  no_fresh : anew_now F J p st k c ≡ false → fresh_entries F J p st k c ≡ []
  unfolding fresh_entries
  no_fresh e = rw (e, fresh_entries)

  a_master : (is_part F (J.owner c) p && stays_now F J p st k c) ≡ true
      → master_entry F J p st k c ≡ entry_by (J.path c) (status_new J st c) false ∷ []
  unfolding master_entry
  a_master e = rw (e, master_entry)

  no_master : (is_part F (J.owner c) p && stays_now F J p st k c) ≡ false → master_entry F J p st k c ≡ []
  unfolding master_entry
  no_master e = rw (e, master_entry)

module _ {Part : Type 0} (F : Finite Part) (J : Task Part) (p : Part) (st : State) (c : ℕ) where
  abbrev ghost_now : Bool
  ghost_now = not (is_part F (J.owner c) p) && (is_part F (J.family c) p && not (eqb (status_new J st c) 0))

  a_ghost : ghost_now ≡ true → ghost_entry F J p st c ≡ entry_by (J.path c) (status_new J st c) true ∷ []
  unfolding ghost_entry
  a_ghost e = rw (e, ghost_entry)

  no_ghost : ghost_now ≡ false → ghost_entry F J p st c ≡ []
  unfolding ghost_entry
  no_ghost e = rw (e, ghost_entry)

-- children that a cell gives
module _ {Part : Type 0} (F : Finite Part) (J : Task Part) (p : Part) (st : State) (c i : ℕ) where
  green_child : status_new J st c ≢ 64 → child_status F J p st c i ≡ 0
  unfolding child_status
  green_child h = rw (ne_eqb (status_new J st c) 64 h, child_status)

  red_child : status_new J st c ≡ 64 → child_status F J p st c i ≡ fresh_now J st c i
  unfolding child_status
  red_child h = rw (eq-eqb (status_new J st c) 64 h, child_status)

  a_child : (s : ℕ) → child_status F J p st c i ≡ s → child_entries F J p st c i
      ≡ entry_by (J.path c ++ (i ∷ [])) s false ∷ map (λ j. entry_by ((J.path c ++ (i ∷ [])) ++ (j ∷ [])) 0 false) (range 0 (size_of s))
  unfolding child_entries
  a_child s e = rw e

  one_leaf : child_status F J p st c i ≡ 0 → child_entries F J p st c i ≡ entry_by (J.path c ++ (i ∷ [])) 0 false ∷ []
  unfolding range
  one_leaf e =
      a_child 0 e ∙ ap (λ (n : ℕ). entry_by (J.path c ++ (i ∷ [])) 0 false
      ∷ map (λ j. entry_by ((J.path c ++ (i ∷ [])) ++ (j ∷ [])) 0 false) (range 0 n)) (size_leaf 0 refl)

no_kids : (x : List ℕ) (c : ℕ) → field x (STATUS + c) ≡ 0 → kid_count x c ≡ 0
unfolding kid_count
no_kids x c z = rw (z, kid_count) (omega (arith, size_leaf (field x (STATUS + c)) z))

no_pair : {Part : Type 0} (J : Task Part) (st : State) (c : ℕ) → J.kids c ≡ [] → (a b : ℕ) → pair_held J st c a b ≡ false
unfolding pair_held anyb
no_pair J st c z a b = rw (z, pair_held)

no_pairs : {Part : Type 0} (J : Task Part) (st : State) (c : ℕ) → J.kids c ≡ [] → (f g : ℕ → ℕ)
    → bits_of (map (λ y. pair_held J st c (f y) (g y)) edge_numbers) ≡ 0
unfolding bits_of
no_pairs J st c z f g =
    let none : (a b : ℕ) → pair_held J st c a b ≡ false = no_pair J st c z in
    rw (none (f 0) (g 0), none (f 1) (g 1), none (f 2) (g 2), none (f 3) (g 3), none (f 4) (g 4), none (f 5) (g 5))

module _ {Part : Type 0} (F : Finite Part) (J : Task Part) (p : Part) (st : State) (k c : ℕ) where
  anew_family : anew_now F J p st k c ≡ true → T (is_part F (J.family c) p)
  unfolding anew_now
  anew_family e =
      and_left (is_part F (J.family c) p) (stays_now F J p st k c && (not (eqb (status_new J st c) 0)
      && not (eqb (J.status c) 64 && eqb (status_new J st c) 64))) (rw e tt)

  not_red_twice : anew_now F J p st k c ≡ true → status_new J st c ≡ 64 → J.status c ≢ 64
  unfolding anew_now
  not_red_twice e s z =
      let a = and_right (is_part F (J.family c) p) (stays_now F J p st k c && (not (eqb (status_new J st c) 0)
      && not (eqb (J.status c) 64 && eqb (status_new J st c) 64))) (rw e tt) in
      let b = and_right (stays_now F J p st k c) (not (eqb (status_new J st c) 0)
      && not (eqb (J.status c) 64 && eqb (status_new J st c) 64)) a in
      let d = and_right (not (eqb (status_new J st c) 0)) (not (eqb (J.status c) 64 && eqb (status_new J st c) 64)) b in
      rw (eq-eqb (J.status c) 64 z, eq-eqb (status_new J st c) 64 s) at d

module _ (P : ℕ) (J : Task (Fin P)) (p : Fin P) (x : List ℕ) (C : Columns P J p x) where
  -- the place of a cell that is here
  pub place_at_lem : (y : List ℕ) → Else x y → (c : ℕ) → HoldsCell P J p c → place_at y c ≡ place_of (J.path c)
  place_at_lem y else c (k, m, t) =
      let a : field y (HEAD + c) ≡ field x (HEAD + c) = else (HEAD + c) (inr (omega arith, omega (arith, cell_few P J p x C k c m))) in
      let b : field y (DIGITS + c) ≡ field x (DIGITS + c) = else (DIGITS + c)
      (inr (omega arith, omega (arith, cell_few P J p x C k c m))) in
      let d : field y (MORE + c) ≡ field x (MORE + c) = else (MORE + c) (inr (omega arith, omega (arith, cell_few P J p x C k c m))) in
      let e : place_at y c ≡ place_at x c = rw (a, b, d) in
      e ∙ C.place c (k, m, t)

module _ (P : ℕ) (J : Task (Fin P)) (fit : Fit J) (p : Fin P) (x : List ℕ) (C : Columns P J p x) (st : State)
    (K : Heard P J p st.red st.sum x) where
  module _ (k c : ℕ) (m : Member c (J.cells k)) where
    deep : k ≤ top_level
    deep = omega (arith, C.no_cells k c m, C.levels_few)

    few : status_new J st c < 128
    few = omega (arith, status_few J st c)

    adds_master : (es : List Entry) (y : List ℕ) → StepHeld x es y → StepHeld x (es ++ master_entry (parts P) J p st k c) (place_master y c)
    adds_master es y w = go (is_part (parts P) (J.owner c) p) refl (stays_now (parts P) J p st k c) refl
      where
        owns : eqb (field y (OWNER + c)) (field y PART) ≡ is_part (parts P) (J.owner c) p
        owns = owner_is P J p x C y w.else k c m

        none : (is_part (parts P) (J.owner c) p && stays_now (parts P) J p st k c) ≡ false
            → (eqb (field y (OWNER + c)) (field y PART) && lastsb y c) ≡ false
            → StepHeld x (es ++ master_entry (parts P) J p st k c) (place_master y c)
        none a b = rw (no_master (parts P) J p st k c a, master_no y c b, append-nil es) w

        go : (a : Bool) → is_part (parts P) (J.owner c) p ≡ a → (b : Bool) → stays_now (parts P) J p st k c ≡ b
            → StepHeld x (es ++ master_entry (parts P) J p st k c) (place_master y c)
        go false q b s = none (ap (λ (a : Bool). a && stays_now (parts P) J p st k c) q) (ap (λ (a : Bool). a && lastsb y c) (owns ∙ q))
        go true q b s =
            let o : J.owner c ≡ p = is_eq (parts P) (J.owner c) p (rw q tt) in
            let h = holds_owner P J p x C k c m o in
            inner b s (ap₂ ◌&&◌ q s) (ap₂ ◌&&◌ (owns ∙ q) (stays_is P J p x C y w.else fit st K k c m o ∙ s))
            (place_at_lem P J p x C y w.else c h) (status_is P J p x C y w.else fit st K c h)
          where
            inner : (b : Bool) → stays_now (parts P) J p st k c ≡ b → (is_part (parts P) (J.owner c) p && stays_now (parts P) J p st k c) ≡ b
                → (eqb (field y (OWNER + c)) (field y PART) && lastsb y c) ≡ b → place_at y c ≡ place_of (J.path c)
                → new_status y c ≡ status_new J st c → StepHeld x (es ++ master_entry (parts P) J p st k c) (place_master y c)
            inner false s t r u v = none t r
            inner true s t r u v =
                rw (a_master (parts P) J p st k c t, master_yes y c r ∙ ap₂ (put_master y) u v)
                (placed_master x es y w k (J.path c) (C.paths k c m) (status_new J st c) few (omega (arith, deep)))

    adds_ghost : (es : List Entry) (y : List ℕ) → StepHeld x es y → StepHeld x (es ++ ghost_entry (parts P) J p st c) (place_ghost y c)
    adds_ghost es y w = go (is_part (parts P) (J.family c) p) refl
      where
        go : (b : Bool) → is_part (parts P) (J.family c) p ≡ b → StepHeld x (es ++ ghost_entry (parts P) J p st c) (place_ghost y c)
        go false q =
            rw (
              no_ghost (parts P) J p st c
                  (ap (λ (b : Bool). not (is_part (parts P) (J.owner c) p) && (b && not (eqb (status_new J st c) 0))) q
                  ∙ and_none (not (is_part (parts P) (J.owner c) p))),
              ghost_no y c (ap (λ (b : Bool). not (eqb (field y (OWNER + c)) (field y PART)) && (b && not (eqb (new_status y c) 0)))
                  (family_is P J p x C y w.else k c m ∙ q) ∙ and_none (not (eqb (field y (OWNER + c)) (field y PART)))),
              append-nil es,
            ) w
        go true q =
            let f : J.family c ≡ p = is_eq (parts P) (J.family c) p (rw q tt) in
            let h = holds_family P J p x C k c m f in
            inner (ghost_now (parts P) J p st c) refl
            (place_at_lem P J p x C y w.else c h) (status_is P J p x C y w.else fit st K c h)
          where
            same : new_status y c ≡ status_new J st c
                → ghost_test y c ≡ ghost_now (parts P) J p st c
            same v = ap₂ (λ (a b : Bool). not a && (b && not (eqb (new_status y c) 0))) (owner_is P J p x C y w.else k c m)
                (family_is P J p x C y w.else k c m)
                ∙ ap (λ (n : ℕ). not (is_part (parts P) (J.owner c) p) && (is_part (parts P) (J.family c) p && not (eqb n 0))) v

            inner : (b : Bool) → ghost_now (parts P) J p st c ≡ b
                → place_at y c ≡ place_of (J.path c) → new_status y c ≡ status_new J st c
                → StepHeld x (es ++ ghost_entry (parts P) J p st c) (place_ghost y c)
            inner false s u v = rw (no_ghost (parts P) J p st c s, ghost_no y c (same v ∙ s), append-nil es) w
            inner true s u v =
                rw (a_ghost (parts P) J p st c s, ghost_yes y c (same v ∙ s) ∙ ap₂ (λ (q : Place) (n : ℕ). put y q (128 + n)) u v)
                (placed_ghost x es y w k (J.path c) (C.paths k c m) (status_new J st c) few deep)

    -- the new children of a cell
    module _ (anew : anew_now (parts P) J p st k c ≡ true) where
      in_family : J.family c ≡ p
      in_family = is_eq (parts P) (J.family c) p (anew_family (parts P) J p st k c anew)

      here : HoldsCell P J p c
      here = holds_family P J p x C k c m in_family

      -- a leaf has no children now
      leaf_kids : J.status c ≡ 0 → J.kids c ≡ []
      unfolding range
      leaf_kids z =
          C.kids k c m in_family
          ∙ ap (range (field x (CHILD + c))) (no_kids x c (C.status c here ∙ z))

      leaf_fresh : J.status c ≡ 0 → (i : ℕ) → fresh_now J st c i ≡ 0
      leaf_fresh z i = fresh_bits_lem J st c i ∙ no_pairs J st c (leaf_kids z) (λ y. low_digit 63 i y) (λ y. high_digit 63 i y)

      -- all of them leaves
      adds_leaves : (es : List Entry) (y : List ℕ) → StepHeld x es y → ((i : ℕ) → child_status (parts P) J p st c i ≡ 0)
          → StepHeld x (es ++ flat_map (child_entries (parts P) J p st c) (range 0 (size_of (status_new J st c))))
          (put_leaves (place_of (J.path c)) (size_of (status_new J st c)) y)
      adds_leaves es y w z =
          subst (λ (l : List Entry). StepHeld x (es ++ l) (put_leaves (place_of (J.path c)) (size_of (status_new J st c)) y))
          (sym (flat_agree (child_entries (parts P) J p st c) (λ i. leaf_by x k (J.path c) (C.paths k c m) (omega (arith, deep)) i ∷ [])
          (λ i. one_leaf (parts P) J p st c i (z i)) (range 0 (size_of (status_new J st c)))
          ∙ flat_one (leaf_by x k (J.path c) (C.paths k c m) (omega (arith, deep))) (range 0 (size_of (status_new J st c)))))
          (placed_leaves x k (J.path c) (C.paths k c m) (omega (arith, deep)) (size_of (status_new J st c)) es y
          (size_few (status_new J st c) (status_few J st c)) w)

      -- or of a green cell that will be red
      adds_children : (es : List Entry) (y : List ℕ) → StepHeld x es y → status_new J st c ≡ 64 → J.status c ≢ 64
          → StepHeld x (es ++ flat_map (child_entries (parts P) J p st c) (range 0 8))
          (each_from (put_child (place_of (J.path c)) (fresh_bits y c)) 8 0 y)
      adds_children es y w s g =
          each_adds (StepHeld x) (put_child (place_of (J.path c)) (fresh_bits y c)) (child_entries (parts P) J p st c) 8 0
          (λ i es' y' _ b w'. subst (λ (l : List Entry). StepHeld x (es' ++ l) (put_child (place_of (J.path c)) (fresh_bits y c) y' i))
          (sym (a_child (parts P) J p st c i (fresh_bits y c i) (status i)))
          (placed_child x k (J.path c) (C.paths k c m) (omega (arith, deep)) (fresh_bits y c)
          (λ i _. (fresh_low i, fresh_size i)) i es' y' b w'))
          es y w
        where
          read : (i : ℕ) → fresh_bits y c i ≡ fresh_now J st c i
          read i = fresh_read P J p x C y w.else fit st K k c i m in_family g

          status : (i : ℕ) → child_status (parts P) J p st c i ≡ fresh_bits y c i
          status i = red_child (parts P) J p st c i s ∙ sym (read i)

          fresh_low : (i : ℕ) → fresh_bits y c i < 128
          fresh_low i = omega (arith, read i, fresh_few J st c i)

          fresh_size : (i : ℕ) → size_of (fresh_bits y c i) ≤ 8
          fresh_size i = size_few (fresh_bits y c i) (omega (arith, read i, fresh_few J st c i))

    adds_family : (es : List Entry) (y : List ℕ) → StepHeld x es y → StepHeld x (es ++ fresh_entries (parts P) J p st k c) (place_family y c)
    adds_family es y w = go (anew_now (parts P) J p st k c) refl
      where
        now : remadeb y c ≡ anew_now (parts P) J p st k c
        now = anew_is P J p x C y w.else fit st K k c m

        go : (b : Bool) → anew_now (parts P) J p st k c ≡ b → StepHeld x (es ++ fresh_entries (parts P) J p st k c) (place_family y c)
        go false q = rw (no_fresh (parts P) J p st k c q, family_no y c (now ∙ q), append-nil es) w
        go true q = inner (eqb (status_new J st c) 64) refl (eqb (J.status c) 0) refl
          where
            at : place_at y c ≡ place_of (J.path c)
            at = place_at_lem P J p x C y w.else c (here q)

            new : new_status y c ≡ status_new J st c
            new = status_is P J p x C y w.else fit st K c (here q)

            old : field y (STATUS + c) ≡ J.status c
            old = stored_is P J p x C y w.else c (here q)

            leaves : (eqb (status_new J st c) 64 && not (eqb (J.status c) 0)) ≡ false → ((i : ℕ) → child_status (parts P) J p st c i ≡ 0)
                → StepHeld x (es ++ fresh_entries (parts P) J p st k c) (place_family y c)
            leaves r z =
                rw (
                  a_fresh (parts P) J p st k c q,
                  family_leaves y c (now ∙ q)
                      (ap₂ (λ (a b : ℕ). eqb a 64 && not (eqb b 0)) new old ∙ r)
                      ∙ ap₂ (λ (l : Place) (n : ℕ). put_leaves l (size_of n) y) at new,
                )
                (adds_leaves q es y w z)

            inner : (a : Bool) → eqb (status_new J st c) 64 ≡ a → (b : Bool) → eqb (J.status c) 0 ≡ b
                → StepHeld x (es ++ fresh_entries (parts P) J p st k c) (place_family y c)
            inner false a b e = leaves (ap (λ (a : Bool). a && not (eqb (J.status c) 0)) a)
                (λ i. green_child (parts P) J p st c i (eqb-false (status_new J st c) 64 a))
            inner true a true e =
                leaves (ap₂ (λ (a b : Bool). a && not b) a e)
                (λ i. red_child (parts P) J p st c i (eqb-true (status_new J st c) 64 a) ∙ leaf_fresh q (eqb-true (J.status c) 0 e) i)
            inner true a false e =
                let s : status_new J st c ≡ 64 = eqb-true (status_new J st c) 64 a in
                rw (
                  a_fresh (parts P) J p st k c q,
                  size_red (status_new J st c) s,
                  family_children y c (now ∙ q)
                      (ap₂ (λ (a b : ℕ). eqb a 64 && not (eqb b 0)) new old ∙ ap₂ (λ (a b : Bool). a && not b) a e)
                      ∙ ap (λ (l : Place). each_from (put_child l (fresh_bits y c)) 8 0 y) at,
                )
                (adds_children q es y w s (not_red_twice (parts P) J p st k c q s))

    adds_cell : (es : List Entry) (y : List ℕ) → StepHeld x es y → StepHeld x (es ++ cell_entries (parts P) J p st k c) (place_cell y c)
    adds_cell es y w =
        let a = adds_master es y w in
        let b = adds_ghost (es ++ master_entry (parts P) J p st k c) (place_master y c) a in
        let d = adds_family ((es ++ master_entry (parts P) J p st k c) ++ ghost_entry (parts P) J p st c)
        (place_ghost (place_master y c) c) b in
        rw (cell_is y c) (rw (
          append_assoc (es ++ master_entry (parts P) J p st k c) (ghost_entry (parts P) J p st c) (fresh_entries (parts P) J p st k c),
          append_assoc es (master_entry (parts P) J p st k c) (ghost_entry (parts P) J p st c ++ fresh_entries (parts P) J p st k c),
        ) at d)

  -- the levels one after the other
  abbrev first_cell : ℕ → ℕ
  first_cell k = field x (FIRST_CELL + k)

  all_levels : (h : ℕ) → h ≤ suc J.top → (y : List ℕ) → StepHeld x [] y
      → StepHeld x (flat_map (level_entries (parts P) J p st) (range 0 h)) (each_from place_cell (first_cell h) 0 y)
  unfolding flat_map range each_from
  all_levels zero b y w = rw C.first_cell w
  all_levels (suc h) b y w =
      let v = all_levels h (omega arith) y w in
      let d : ℕ = first_cell (suc h) - first_cell h in
      let e : first_cell (suc h) ≡ first_cell h + d = omega (arith, C.cells_rise h (omega arith)) in
      let done : List Entry = flat_map (level_entries (parts P) J p st) (range 0 h) in
      let u : StepHeld x (done ++ flat_map (cell_entries (parts P) J p st h) (range (first_cell h) d))
      (each_from place_cell d (first_cell h) (each_from place_cell (first_cell h) 0 y)) =
      each_adds (StepHeld x) place_cell (cell_entries (parts P) J p st h) d (first_cell h)
      (λ i es z a r. adds_cell h i (subst (λ (l : List ℕ). Member i l) (sym (C.cells h (omega arith)))
      (range_member (first_cell h) d i a r)) es z) done (each_from place_cell (first_cell h) 0 y) v in
      let f : each_from place_cell (first_cell (suc h)) 0 y ≡ each_from place_cell d (first_cell h) (each_from place_cell (first_cell h) 0 y) =
      ap (λ (n : ℕ). each_from place_cell n 0 y) e ∙ each_on place_cell (first_cell h) d 0 y
      ∙ ap (λ (n : ℕ). each_from place_cell d n (each_from place_cell (first_cell h) 0 y)) (zero-add (first_cell h)) in
      let g : flat_map (level_entries (parts P) J p st) (range 0 (suc h))
      ≡ done ++ flat_map (cell_entries (parts P) J p st h) (range (first_cell h) d) =
      flat_snoc (level_entries (parts P) J p st) 0 h ∙ ap (λ (n : ℕ). done ++ level_entries (parts P) J p st n) (zero-add h)
      ∙ ap (λ (l : List ℕ). done ++ flat_map (cell_entries (parts P) J p st h) l) (C.cells h (omega arith)) in
      subst (λ (l : List Entry). StepHeld x l (each_from place_cell (first_cell (suc h)) 0 y)) (sym g)
      (subst (StepHeld x (done ++ flat_map (cell_entries (parts P) J p st h) (range (first_cell h) d))) (sym f) u)

  -- nothing is written yet
  start_placed : StepHeld x [] (cleared x)
  unfolding cleared master_paths top_of largest
  start_placed =
      let x₁ : List ℕ = set x ENTRIES 0 in
      let x₂ : List ℕ = set x₁ TOTAL 0 in
      let a : length x₁ ≡ length x = length-set x ENTRIES 0 in
      let b : length x₂ ≡ length x = length-set x₁ TOTAL 0 ∙ a in
      let d : length (cleared x) ≡ length x = length-set x₂ HIGH 0 ∙ b in
      record {
        wrote =
            record {
              long = omega (arith, C.long);
              entries = get_or-set_other x₂ HIGH ENTRIES 0 0 (λ q. absurd (omega (arith, q)))
                  ∙ get_or-set_other x₁ TOTAL ENTRIES 0 0 (λ q. absurd (omega (arith, q))) ∙ get_or-set_same x ENTRIES 0 0
                  (omega (arith, C.long))
                  ∙ omega arith;
              at = λ j h l. absurd (omega arith);
            };
        size = d;
        else = λ i o. get_or-set_other x₂ HIGH i 0 0 (else_eleven i o) ∙ get_or-set_other x₁ TOTAL i 0 0 (else_ten i o)
            ∙ get_or-set_other x ENTRIES i 0 0 (else_nine i o);
        total = get_or-set_other x₂ HIGH TOTAL 0 0 (λ q. absurd (omega (arith, q))) ∙ get_or-set_same x₁ TOTAL 0 0 (omega (arith, C.long))
            ∙ omega arith;
        high = get_or-set_same x₂ HIGH 0 0 (omega (arith, C.long));
        room = tt;
      }

  -- ALL THAT IS PLACED
  abbrev pub placed_by : List ℕ
  placed_by = each_from place_cell (field x CELLS) 0 (cleared x)

  all_placed : StepHeld x (entries (parts P) J p st) placed_by
  unfolding entries
  all_placed =
      subst (λ (n : ℕ). StepHeld x (entries (parts P) J p st) (each_from place_cell n 0 (cleared x))) C.last_cell
      (all_levels (suc J.top) (omega arith) (cleared x) start_placed)

  pub placed_else : (i : ℕ) → i < ENTRIES ⊎ ((CURSOR ≤ i) × (i < PLACE_HEAD)) → field placed_by i ≡ field x i
  placed_else = all_placed.else

  pub placed_size : length placed_by ≡ length x
  placed_size = all_placed.size

  pub placed_total : field placed_by TOTAL ≡ capped (grown_of (parts P) J p st).0
  unfolding grown_of
  placed_total = all_placed.total

  pub placed_high : field placed_by HIGH ≡ (grown_of (parts P) J p st).1
  unfolding grown_of
  placed_high = all_placed.high

  pub placed_entries : field placed_by ENTRIES ≡ min (length (entries (parts P) J p st)) most_cells
  placed_entries = all_placed.wrote.entries

  pub placed_held : (grown_of (parts P) J p st).1 ≤ top_level → held_in placed_by ≡ take most_cells (entries (parts P) J p st)
  unfolding grown_of
  placed_held h = held_placed x (entries (parts P) J p st) placed_by all_placed h
