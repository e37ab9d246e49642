-- The masters and ghosts as they were, which a store holds beside 8 or 9.
-- Laws: cell_level_lem (each cell has a level), kept_else, kept_size (what stays), kept_entries, kept_held (what is written).
use Rattle.std.specs.Prelude.{◌≡◌, ◌≢◌, Bool, true, false, eqb, length, set}
use Rattle.std.proofs.Math.Path.{refl}
use Rattle.std.proofs.Common.{sym, ◌∙◌, ap₂, subst, take_all}
use mathlib.Core.List.{List, [], ◌∷◌, ◌++◌, flat_map, append-nil}
use Prim.Native.Nat.{ℕ, zero, suc, ◌+◌, ◌-◌, ◌%◌, ◌≤◌, ◌<◌, Fin}
use Rattle.std.proofs.Math.Decide.{dec_lt}
use native.Mathlib.Omega.{arith}
use Rattle.std.proofs.Math.ListN.{length-set, length-append}
use Rattle.std.proofs.Math.Seq.{get_or-set_same, get_or-set_other}
use Rattle.base.specs.Every.{All, all_append, all_at}
use Rattle.base.specs.Limits.{most_cells, top_level}
use Rattle.base.specs.Range.{range, range_member}
use Rattle.parts.specs.Held.{Entry}
use Rattle.exchange.specs.Finite.{parts}
use Rattle.base.specs.Member.{Member}
use Rattle.rounds.specs.Task.{Task}
use Rattle.rounds.specs.Rounds.{is_part}
use Rattle.rounds.specs.Among.{is_eq}
use Rattle.store.specs.Fields.{field, PART, CELLS, ENTRIES, FIRST_CELL, OWNER, FAMILY, STATUS, PLACE_HEAD}
use Rattle.store.specs.Places.{place_of}
use Rattle.standing.specs.Busy.{HoldsCell}
use Rattle.places.specs.Put.{place_at, put, place_old}
use Rattle.partstep.specs.Step.{old_places}
use Rattle.held.specs.Held.{held_in}
use Rattle.shares.specs.Grow.{entry_by}
use Rattle.entering.specs.Columns.{Columns}
use Rattle.entering.specs.Standing.{old_entry, olds}
use Rattle.entering.specs.Placing.{EntriesAt, EntryRoom, status_code, no_entry, put_size, put_else, put_wrote, held_wrote}
use Rattle.entering.specs.PlacingSteps.{Else, else_nine, else_below, each_adds}
use Rattle.entering.specs.PlacingStatus.{holds_owner, holds_family, owner_is, family_is, stored_is}
use Rattle.entering.specs.PlacingCells.{place_at_lem}

module _ (P : ℕ) (J : Task (Fin P)) (p : Fin P) where
  old_master : (c : ℕ) → is_part (parts P) (J.owner c) p ≡ true → old_entry P J p c ≡ entry_by (J.path c) (J.status c) false ∷ []
  unfolding old_entry
  old_master c e = rw (e, old_entry)

  old_ghost : (c : ℕ) → is_part (parts P) (J.owner c) p ≡ false → is_part (parts P) (J.family c) p ≡ true
      → old_entry P J p c ≡ entry_by (J.path c) (J.status c) true ∷ []
  unfolding old_entry
  old_ghost c e f = rw (e, f, old_entry)

  old_none : (c : ℕ) → is_part (parts P) (J.owner c) p ≡ false → is_part (parts P) (J.family c) p ≡ false → old_entry P J p c ≡ []
  unfolding old_entry
  old_none c e f = rw (e, f, old_entry)

  -- at most one for each cell
  old_one : (c : ℕ) → length (old_entry P J p c) ≤ 1
  old_one c = go (is_part (parts P) (J.owner c) p) refl (is_part (parts P) (J.family c) p) refl
    where
      go : (a : Bool) → is_part (parts P) (J.owner c) p ≡ a → (b : Bool) → is_part (parts P) (J.family c) p ≡ b
          → length (old_entry P J p c) ≤ 1
      go true e b f = rw (old_master c e) (omega arith)
      go false e true f = rw (old_ghost c e f) (omega arith)
      go false e false f = rw (old_none c e f) (omega arith)

  olds_few : (c n : ℕ) → length (flat_map (old_entry P J p) (range c n)) ≤ n
  unfolding flat_map range
  olds_few c zero = omega arith
  olds_few c (suc n) =
      omega (arith, length-append (old_entry P J p c) (flat_map (old_entry P J p) (range (suc c) n)), old_one c, olds_few (suc c) n)

module _ (x : List ℕ) (c : ℕ) where
  place_master_lem : eqb (field x (OWNER + c)) (field x PART) ≡ true → place_old x c ≡ put x (place_at x c) (field x (STATUS + c))
  unfolding place_old
  place_master_lem e = rw (e, place_old)

  place_ghost_lem : eqb (field x (OWNER + c)) (field x PART) ≡ false → eqb (field x (FAMILY + c)) (field x PART) ≡ true
      → place_old x c ≡ put x (place_at x c) ((128 + field x (STATUS + c)) % 65536)
  unfolding place_old
  place_ghost_lem e f = rw (e, f, place_old)

  place_none : eqb (field x (OWNER + c)) (field x PART) ≡ false → eqb (field x (FAMILY + c)) (field x PART) ≡ false → place_old x c ≡ x
  unfolding place_old
  place_none e f = rw (e, f, place_old)

module _ (P : ℕ) (J : Task (Fin P)) (p : Fin P) (x : List ℕ) (C : Columns P J p x) where
  -- each cell has a level
  cell_level_lem : (c : ℕ) → c < field x CELLS → (k : ℕ) × Member c (J.cells k)
  cell_level_lem c h = go (suc J.top) (omega arith) (subst (λ (n : ℕ). c < n) (sym C.last_cell) h)
    where
      go : (k : ℕ) → k ≤ suc J.top → c < field x (FIRST_CELL + k) → (k : ℕ) × Member c (J.cells k)
      go zero b l = absurd (omega (arith, C.first_cell))
      go (suc k) b l = elim (dec_lt c (field x (FIRST_CELL + k))) [
        | yes a ↦ go k (omega arith) a
        | no a ↦ (
          k,
          subst (λ (m : List ℕ). Member c m) (sym (C.cells k (omega arith)))
              (range_member (field x (FIRST_CELL + k)) (field x (FIRST_CELL + suc k) - field x (FIRST_CELL + k)) c (omega arith)
              (omega arith)),
        )
      ]

  abbrev Low : Entry → Type 0
  Low e = (r : EntryRoom e) × (r.level ≤ top_level)

  record Kept (es : List Entry) (y : List ℕ) : Type 0 where
    pub wrote : EntriesAt es y
    pub size : length y ≡ length x
    pub else : (i : ℕ) → i ≢ ENTRIES → i < PLACE_HEAD → field y i ≡ field x i
    pub room : All Low es

  adds : (es : List Entry) (y : List ℕ) (e : Entry) (s : ℕ) → s ≡ status_code e → Low e → Kept es y
      → Kept (es ++ (e ∷ [])) (put y (place_of e.path) s)
  adds es y e s q r w =
      record {
        wrote = put_wrote y (place_of e.path) s es e w.wrote refl q;
        size = put_size y (place_of e.path) s ∙ w.size;
        else = λ i a b. put_else y (place_of e.path) s i a b ∙ w.else i a b;
        room = all_append Low es (e ∷ []) w.room (r, tt);
      }

  adds_old : (k c : ℕ) → Member c (J.cells k) → (es : List Entry) (y : List ℕ) → Kept es y
      → Kept (es ++ old_entry P J p c) (place_old y c)
  unfolding status_code
  adds_old k c m es y w = go (is_part (parts P) (J.owner c) p) refl (is_part (parts P) (J.family c) p) refl
    where
      else : Else x y
      else i o = w.else i (else_nine i o) (else_below i o)

      owns : eqb (field y (OWNER + c)) (field y PART) ≡ is_part (parts P) (J.owner c) p
      owns = owner_is P J p x C y else k c m

      has_family : eqb (field y (FAMILY + c)) (field y PART) ≡ is_part (parts P) (J.family c) p
      has_family = family_is P J p x C y else k c m

      low : HoldsCell P J p c → (g : Bool) → Low (entry_by (J.path c) (J.status c) g)
      low h g =
          let d : k ≤ top_level = omega (arith, C.no_cells k c m, C.levels_few) in
          (record { level = k; path = C.paths k c m; deep = omega arith; status = omega (arith, C.status_most c h); ghost = λ q. d }, d)

      go : (a : Bool) → is_part (parts P) (J.owner c) p ≡ a → (b : Bool) → is_part (parts P) (J.family c) p ≡ b
          → Kept (es ++ old_entry P J p c) (place_old y c)
      go true e b f =
          let h = holds_owner P J p x C k c m (is_eq (parts P) (J.owner c) p (rw e tt)) in
          rw (
            old_master P J p c e,
            place_master_lem y c (owns ∙ e) ∙ ap₂ (put y) (place_at_lem P J p x C y else c h)
                (stored_is P J p x C y else c h),
          )
          (adds es y (entry_by (J.path c) (J.status c) false) (J.status c) refl (low h false) w)
      go false e true f =
          let h = holds_family P J p x C k c m (is_eq (parts P) (J.family c) p (rw f tt)) in
          let z : (128 + field y (STATUS + c)) % 65536 ≡ 128 + J.status c =
          omega (arith, stored_is P J p x C y else c h, C.status_most c h) in
          rw (old_ghost P J p c e f, place_ghost_lem y c (owns ∙ e) (has_family ∙ f) ∙ ap₂ (put y) (place_at_lem P J p x C y else c h) z)
          (adds es y (entry_by (J.path c) (J.status c) true) (128 + J.status c) refl (low h true) w)
      go false e false f =
          rw (old_none P J p c e f, place_none y c (owns ∙ e) (has_family ∙ f), append-nil es) w

  all_kept : Kept (olds P J p (field x CELLS)) (old_places x)
  unfolding old_places olds
  all_kept =
      each_adds Kept place_old (old_entry P J p) (field x CELLS) 0 (λ i es y a b. let (k, m) = cell_level_lem i (omega arith) in
      adds_old k i m es y) [] (set x ENTRIES 0) (record {
        wrote =
            record {
              long = omega (arith, C.long, length-set x ENTRIES 0);
              entries = get_or-set_same x ENTRIES 0 0 (omega (arith, C.long)) ∙ omega arith;
              at = λ j h l. absurd (omega arith);
            };
        size = length-set x ENTRIES 0;
        else = λ i a b. get_or-set_other x ENTRIES i 0 0 a;
        room = tt;
      })

  few : length (olds P J p (field x CELLS)) ≤ most_cells
  unfolding olds
  few = omega (arith, olds_few P J p 0 (field x CELLS), C.cells_few)

  -- ALL THAT IS KEPT
  pub kept_else : (i : ℕ) → i ≢ ENTRIES → i < PLACE_HEAD → field (old_places x) i ≡ field x i
  kept_else = all_kept.else

  pub kept_size : length (old_places x) ≡ length x
  kept_size = all_kept.size

  pub kept_entries : field (old_places x) ENTRIES ≡ length (olds P J p (field x CELLS))
  kept_entries = all_kept.wrote.entries ∙ omega (arith, few)

  pub kept_held : held_in (old_places x) ≡ olds P J p (field x CELLS)
  kept_held =
      held_wrote (olds P J p (field x CELLS)) (old_places x) all_kept.wrote
      (λ j h l. all_at Low no_entry (olds P J p (field x CELLS)) all_kept.room j h)
      ∙ take_all most_cells (olds P J p (field x CELLS)) few
