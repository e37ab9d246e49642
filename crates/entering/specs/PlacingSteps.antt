-- Masters and ghosts of the step, written one behind the other: the totals beside them.
--   StepHeld x es y     from the store x on the entries es are written, and their totals
--   Else x y          they agree in all but the number of entries, the totals and the columns of places
-- Laws: path_child, below_place (a child number more), placed_master, placed_ghost, placed_leaves, placed_child (what each call adds),
-- each_adds (a loop), held_placed (what is then held).
use Rattle.std.proofs.Math.Path.{◌≡◌, refl, ap, subst}
use Rattle.std.proofs.Common.{sym, ◌∙◌, inl, inr}
use Rattle.std.specs.Prelude.{◌≢◌, ◌⊎◌, Bool, get_or, take}
use Rattle.std.proofs.Math.Bool.{true, false}
use mathlib.Core.List.{List, [], ◌∷◌, ◌++◌, map, flat_map, append_assoc, append-nil}
use Prim.Native.Nat.{ℕ, zero, suc, ◌+◌, ◌*◌, ◌≤◌, ◌<◌, min, max, pred}
use native.Mathlib.Omega.{arith}
use Rattle.std.proofs.Math.ListN.{length, set, length-set, length-append}
use Rattle.std.proofs.Math.Seq.{get_or-set_same, get_or-set_other}
use Rattle.base.specs.Every.{All, all_append, all_at}
use Rattle.base.specs.Limits.{most_cells, too_many, top_level}
use Rattle.base.specs.Range.{range}
use Rattle.mesh.specs.Table.{size_of}
use Rattle.parts.specs.Held.{Entry}
use Rattle.rounds.specs.Rounds.{largest}
use Rattle.rounds.specs.Among.{largest_in}
use Rattle.shares.specs.Grow.{entry_by}
use Rattle.merging.specs.Complete.{master_paths, paths_append, path_by}
use Rattle.base.specs.Distinct.{mem_at}
use Rattle.merging.specs.Limits.{top_of}
use Rattle.store.specs.Fields.{field, ENTRIES, TOTAL, HIGH, CURSOR, PLACE_HEAD}
use Rattle.store.specs.declared.Place.{Place}
use Rattle.store.specs.Places.{place_level, coarse_place, child_place, place_down, place_of, place_child}
use Rattle.turns.specs.Loops.{each_from}
use Rattle.places.specs.Put.{put, put_master, put_leaf, put_leaves, put_child}
use Rattle.entering.specs.Columns.{Path}
use Rattle.held.specs.Held.{held_in}
use Rattle.entering.specs.Placing.{EntriesAt, EntryRoom, status_code, no_entry, put_size, put_else, put_wrote, wrote_same, held_wrote}

-- the level of a place: its head has room for far more than eleven levels
head_down : (p : Place) (l : List ℕ) → p.head + 256 * length l < 65536 → (place_down p l).head ≡ p.head + 256 * length l
unfolding place_down child_place
head_down p [] h = omega arith
head_down p (i ∷ l) h =
    let z : (child_place p i).head ≡ p.head + 256 = omega arith in
    head_down (child_place p i) l (omega arith) ∙ omega arith

level_of_lem : (k : ℕ) (l : List ℕ) → Path k l → k ≤ 20 → (place_level (place_of l) ≡ k) × (pred (length l) ≡ k)
unfolding place_of
level_of_lem k l w h =
    let d = head_down (coarse_place w.coarse) w.down (omega (arith, w.deep, w.coarse_few)) in
    let e : (place_of l).head ≡ w.coarse + 256 * length w.down = ap (λ (m : List ℕ). (place_of m).head) w.is ∙ d in
    (omega (arith, w.deep, w.coarse_few), ap (λ (m : List ℕ). pred (length m)) w.is ∙ w.deep)

-- a child number more
path_child : (k i : ℕ) (l : List ℕ) → Path k l → i < 8 → Path (suc k) (l ++ (i ∷ []))
path_child k i l w h =
    record {
      coarse = w.coarse;
      down = w.down ++ (i ∷ []);
      is = ap (λ (m : List ℕ). m ++ (i ∷ [])) w.is;
      coarse_few = w.coarse_few;
      deep = omega (arith, length-append w.down (i ∷ []), w.deep);
      digits = all_append (λ i. i < 8) w.down (i ∷ []) w.digits (h, tt);
    }

below_place : (k i : ℕ) (l : List ℕ) → Path k l → child_place (place_of l) i ≡ place_of (l ++ (i ∷ []))
below_place k i l w =
    ap (λ (m : List ℕ). child_place (place_of m) i) w.is ∙ sym (place_child w.coarse w.down i)
    ∙ ap (λ (m : List ℕ). place_of (m ++ (i ∷ []))) (sym w.is)

-- a loop adds what its turns add
module _ (I : List Entry → List ℕ → Type 0) (f : List ℕ → ℕ → List ℕ) (g : ℕ → List Entry) where
  pub each_adds : (n c : ℕ) → ((i : ℕ) (es : List Entry) (y : List ℕ) → c ≤ i → i < c + n → I es y → I (es ++ g i) (f y i))
      → (es : List Entry) (y : List ℕ) → I es y → I (es ++ flat_map g (range c n)) (each_from f n c y)
  unfolding each_from range flat_map
  each_adds zero c s es y w = rw (append-nil es) w
  each_adds (suc n) c s es y w =
      let v = each_adds n (suc c) (λ i es y a b. s i es y (omega arith) (omega arith)) (es ++ g c) (f y c)
      (s c es y (omega arith) (omega arith) w) in
      subst (λ (l : List Entry). I l (each_from f n (suc c) (f y c))) (append_assoc es (g c) (flat_map g (range (suc c) n))) v

pub flat_one : {A B : Type 0} (f : A → B) (l : List A) → flat_map (λ a. f a ∷ []) l ≡ map f l
unfolding flat_map
flat_one f [] = refl
flat_one f (a ∷ l) = ap (◌∷◌ (f a)) (flat_one f l)

largest_snoc : {A : Type 0} (f : A → ℕ) (l : List A) (a : A) → largest f (l ++ (a ∷ [])) ≡ max (largest f l) (f a)
unfolding largest
largest_snoc f [] a = omega arith
largest_snoc f (b ∷ l) a = omega (arith, largest_snoc f l a)

top_snoc : (ls : List (List ℕ)) (l : List ℕ) → top_of (ls ++ (l ∷ [])) ≡ max (top_of ls) (pred (length l))
unfolding top_of
top_snoc ls l = largest_snoc (λ l. pred (length l)) ls l

-- all but the number of entries, the totals and the columns of places
abbrev pub Else : List ℕ → List ℕ → Type 0
Else x y = (i : ℕ) → i < ENTRIES ⊎ ((CURSOR ≤ i) × (i < PLACE_HEAD)) → field y i ≡ field x i

pub else_nine : (i : ℕ) → i < ENTRIES ⊎ ((CURSOR ≤ i) × (i < PLACE_HEAD)) → i ≢ ENTRIES
else_nine i (inl a) q = omega (arith, q)
else_nine i (inr (a, b)) q = omega (arith, q)

pub else_ten : (i : ℕ) → i < ENTRIES ⊎ ((CURSOR ≤ i) × (i < PLACE_HEAD)) → i ≢ TOTAL
else_ten i (inl a) q = omega (arith, q)
else_ten i (inr (a, b)) q = omega (arith, q)

pub else_eleven : (i : ℕ) → i < ENTRIES ⊎ ((CURSOR ≤ i) × (i < PLACE_HEAD)) → i ≢ HIGH
else_eleven i (inl a) q = omega (arith, q)
else_eleven i (inr (a, b)) q = omega (arith, q)

pub else_below : (i : ℕ) → i < ENTRIES ⊎ ((CURSOR ≤ i) × (i < PLACE_HEAD)) → i < PLACE_HEAD
else_below i (inl a) = omega arith
else_below i (inr (a, b)) = b

pub record StepHeld (x : List ℕ) (es : List Entry) (y : List ℕ) : Type 0 where
  pub wrote : EntriesAt es y
  pub size : length y ≡ length x
  pub else : Else x y
  pub total : field y TOTAL ≡ min (length (master_paths es)) too_many
  pub high : field y HIGH ≡ top_of (master_paths es)
  pub room : All EntryRoom es

module _ (x : List ℕ) (es : List Entry) (y : List ℕ) (w : StepHeld x es y) (k : ℕ) (l : List ℕ) (path : Path k l) (s : ℕ) (few : s < 128)
  where
    pub placed_ghost : k ≤ top_level → StepHeld x (es ++ (entry_by l s true ∷ [])) (put y (place_of l) (128 + s))
    unfolding master_paths status_code
    placed_ghost h =
        let e : Entry = entry_by l s true in
        let z : master_paths (es ++ (e ∷ [])) ≡ master_paths es = paths_append es (e ∷ []) ∙ append-nil (master_paths es) in
        record {
          wrote = put_wrote y (place_of l) (128 + s) es e w.wrote refl refl;
          size = put_size y (place_of l) (128 + s) ∙ w.size;
          else = λ i o. put_else y (place_of l) (128 + s) i (else_nine i o) (else_below i o) ∙ w.else i o;
          total = put_else y (place_of l) (128 + s) TOTAL (λ q. absurd (omega (arith, q))) (omega arith) ∙ w.total
              ∙ ap (λ (m : List (List ℕ)). min (length m) too_many) (sym z);
          high = put_else y (place_of l) (128 + s) HIGH (λ q. absurd (omega (arith, q))) (omega arith) ∙ w.high ∙ ap top_of (sym z);
          room = all_append EntryRoom es (e ∷ []) w.room
              (record { level = k; path = path; deep = omega arith; status = few; ghost = λ q. h }, tt);
        }

    pub placed_master : k ≤ 20 → StepHeld x (es ++ (entry_by l s false ∷ [])) (put_master y (place_of l) s)
    unfolding put_master master_paths status_code
    placed_master h =
        let e : Entry = entry_by l s false in
        let z : master_paths (es ++ (e ∷ [])) ≡ master_paths es ++ (l ∷ []) = paths_append es (e ∷ []) in
        let y₁ : List ℕ = set y TOTAL (min (field y TOTAL + 1) too_many) in
        let y₂ : List ℕ = set y₁ HIGH (max (field y HIGH) (place_level (place_of l))) in
        let a : length y₁ ≡ length y = length-set y TOTAL (min (field y TOTAL + 1) too_many) in
        let b : length y₂ ≡ length y = length-set y₁ HIGH (max (field y HIGH) (place_level (place_of l))) ∙ a in
        let c : (i : ℕ) → i ≢ TOTAL → i ≢ HIGH → field y₂ i ≡ field y i =
        λ i u v. get_or-set_other y₁ HIGH i (max (field y HIGH) (place_level (place_of l))) 0 v
        ∙ get_or-set_other y TOTAL i (min (field y TOTAL + 1) too_many) 0 u in
        let d : EntriesAt es y₂ = wrote_same es y y₂ b (c ENTRIES (λ q. absurd (omega (arith, q))) (λ q. absurd (omega (arith, q))))
        (λ i u. c i (λ q. absurd (omega (arith, q))) (λ q. absurd (omega (arith, q)))) w.wrote in
        let (f, g) = level_of_lem k l path h in
        let t : field y₂ TOTAL ≡ min (length (master_paths es ++ (l ∷ []))) too_many =
        get_or-set_other y₁ HIGH TOTAL (max (field y HIGH) (place_level (place_of l))) 0 (λ q. absurd (omega (arith, q)))
        ∙ get_or-set_same y TOTAL (min (field y TOTAL + 1) too_many) 0 (omega (arith, w.wrote.long))
        ∙ omega (arith, w.total, length-append (master_paths es) (l ∷ [])) in
        let r : field y₂ HIGH ≡ top_of (master_paths es ++ (l ∷ [])) =
        get_or-set_same y₁ HIGH (max (field y HIGH) (place_level (place_of l))) 0 (omega (arith, w.wrote.long))
        ∙ omega (arith, w.high, top_snoc (master_paths es) l) in
        record {
          wrote = put_wrote y₂ (place_of l) s es e d refl refl;
          size = put_size y₂ (place_of l) s ∙ b ∙ w.size;
          else = λ i o. put_else y₂ (place_of l) s i (else_nine i o) (else_below i o) ∙ c i (else_ten i o) (else_eleven i o) ∙ w.else i o;
          total = put_else y₂ (place_of l) s TOTAL (λ q. absurd (omega (arith, q))) (omega arith) ∙ t
              ∙ ap (λ (m : List (List ℕ)). min (length m) too_many) (sym z);
          high = put_else y₂ (place_of l) s HIGH (λ q. absurd (omega (arith, q))) (omega arith) ∙ r ∙ ap top_of (sym z);
          room = all_append EntryRoom es (e ∷ []) w.room
              (record { level = k; path = path; deep = h; status = few; ghost = λ q. absurd (false_not q) }, tt);
        }
      where
        false_not : false ≡ true → ⊥
        false_not q = let z : ◌≡◌ {A = ℕ} 0 1 = cc in omega arith

-- children
module _ (x : List ℕ) (k : ℕ) (l : List ℕ) (path : Path k l) (h : k < 20) where
  abbrev pub leaf_by : ℕ → Entry
  leaf_by i = entry_by (l ++ (i ∷ [])) 0 false

  placed_leaf : (i : ℕ) (es : List Entry) (y : List ℕ) → i < 8 → StepHeld x es y
      → StepHeld x (es ++ (leaf_by i ∷ [])) (put_leaf (place_of l) y i)
  unfolding put_leaf
  placed_leaf i es y b w =
      subst (λ (q : Place). StepHeld x (es ++ (leaf_by i ∷ [])) (put_master y q 0)) (sym (below_place k i l path))
      (placed_master x es y w (suc k) (l ++ (i ∷ [])) (path_child k i l path b) 0 (omega arith) (omega arith))

  pub placed_leaves : (n : ℕ) (es : List Entry) (y : List ℕ) → n ≤ 8 → StepHeld x es y
      → StepHeld x (es ++ map leaf_by (range 0 n)) (put_leaves (place_of l) n y)
  placed_leaves n es y b w =
      subst (λ (m : List Entry). StepHeld x (es ++ m) (put_leaves (place_of l) n y)) (flat_one leaf_by (range 0 n))
      (each_adds (StepHeld x) (put_leaf (place_of l)) (λ i. leaf_by i ∷ []) n 0 (λ i es y _ u. placed_leaf i es y (omega arith)) es y w)

-- a child, and its children
module _ (x : List ℕ) (k : ℕ) (l : List ℕ) (path : Path k l) (h : k < 19) (f : ℕ → ℕ)
    (few : (i : ℕ) → i < 8 → (f i < 128) × (size_of (f i) ≤ 8))
  where
    abbrev pub child_by : ℕ → List Entry
    child_by i = entry_by (l ++ (i ∷ [])) (f i) false ∷ map (λ j. entry_by ((l ++ (i ∷ [])) ++ (j ∷ [])) 0 false) (range 0 (size_of (f i)))

    pub placed_child : (i : ℕ) (es : List Entry) (y : List ℕ) → i < 8 → StepHeld x es y
        → StepHeld x (es ++ child_by i) (put_child (place_of l) f y i)
    unfolding put_child
    placed_child i es y b w =
        let m : List ℕ = l ++ (i ∷ []) in
        let q : Path (suc k) m = path_child k i l path b in
        let e : Entry = entry_by m (f i) false in
        let u : StepHeld x (es ++ (e ∷ [])) (put_master y (place_of m) (f i)) =
        placed_master x es y w (suc k) m q (f i) (few i b).0 (omega arith) in
        let v = placed_leaves x (suc k) m q (omega arith) (size_of (f i)) (es ++ (e ∷ [])) (put_master y (place_of m) (f i)) (few i b).1 u in
        subst (λ (q : Place). StepHeld x (es ++ child_by i) (put_leaves q (size_of (f i)) (put_master y q (f i))))
        (sym (below_place k i l path))
        (subst (λ (a : List Entry). StepHeld x a (put_leaves (place_of m) (size_of (f i)) (put_master y (place_of m) (f i))))
        (append_assoc es (e ∷ []) (map (λ j. entry_by (m ++ (j ∷ [])) 0 false) (range 0 (size_of (f i))))) v)

-- what is held when all is written, and no master is deeper than ten levels
pub held_placed : (x : List ℕ) (es : List Entry) (y : List ℕ) → StepHeld x es y → top_of (master_paths es) ≤ top_level
    → held_in y ≡ take most_cells es
unfolding top_of
held_placed x es y w h = held_wrote es y w.wrote
    (λ j b c. let r = all_at EntryRoom no_entry es w.room j b in (r, low j b r (get_or es j no_entry).ghost refl))
  where
    low : (j : ℕ) → j < length es → (r : EntryRoom (get_or es j no_entry)) → (g : Bool) → (get_or es j no_entry).ghost ≡ g → r.level ≤ top_level
    low j b r true q = r.ghost q
    low j b r false q =
        let m = path_by es (get_or es j no_entry) (mem_at no_entry es j b) q in
        let (_, e) = level_of_lem r.level (get_or es j no_entry).path r.path r.deep in
        omega (arith, largest_in (λ l. pred (length l)) (master_paths es) (get_or es j no_entry).path m)
