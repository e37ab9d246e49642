-- Masters and ghosts written one behind the other: what the store then holds.
--   status_code e           the status of an entry as it is written: 128 more for a ghost
--   EntriesAt es y         the store y has the entries es written, the first 4,096 of them
--   EntryRoom e             an entry that has room: its path, its status; a ghost at most ten levels deep
-- Laws: held_same (what is held is read from the number of entries and from their columns), put_size, put_else, put_wrote (one entry more),
-- held_wrote (what is held is what was written).
use Rattle.std.specs.Prelude.{◌≡◌, ◌≢◌, Bool, List, [], ◌∷◌, ◌++◌, map, ℕ, ◌+◌, ◌%◌, ◌≤◌, ◌<◌, min, leb, get_or, set, take}
use Rattle.std.proofs.Math.Path.{refl}
use Rattle.std.proofs.Common.{sym, ◌∙◌, ap, ap₂, subst, zero-add, length-take, get_or-take, ext_get_or, ltb-true, ltb-false, le-leb}
use Rattle.std.proofs.Math.Bool.{true, false}
use Rattle.std.proofs.Math.Decide.{ℕ_discrete}
use native.Mathlib.Omega.{arith}
use Rattle.std.proofs.Math.Dec.{ltb}
use Rattle.std.proofs.Math.ListN.{length, length-set, length-append, get_or-append}
use Rattle.std.proofs.lemmas.List.{length-map}
use Rattle.std.proofs.Math.Seq.{get_or-set_same, get_or-set_other, get_or-append_seam}
use Rattle.std.proofs.lemmas.Bool.{lt-leb}
use Rattle.base.specs.Every.{get_d_map}
use Rattle.base.specs.Limits.{most_cells, top_level}
use Rattle.base.specs.Range.{range, length-range, range_at}
use Rattle.parts.specs.Held.{Entry}
use Rattle.store.specs.Fields.{field, full, ENTRIES, PLACE_HEAD, PLACE_DIGITS, PLACE_MORE, PLACE_STATUS}
use Rattle.store.specs.declared.Place.{Place}
use Rattle.store.specs.Places.{place_of, path_of, path_place}
use Rattle.held.specs.Held.{entry_in, held_in}
use Rattle.places.specs.Put.{entry_set, put}
use Rattle.entering.specs.Columns.{Path}

-- what is held is read from the number of entries, and from the columns of their places and statuses
entry_same : (x y : List ℕ) → ((i : ℕ) → PLACE_HEAD ≤ i → field y i ≡ field x i) → (j : ℕ) → entry_in y j ≡ entry_in x j
unfolding entry_in
entry_same x y e j =
    rw (
      e (PLACE_HEAD + j) (omega arith),
      e (PLACE_DIGITS + j) (omega arith),
      e (PLACE_MORE + j) (omega arith),
      e (PLACE_STATUS + j) (omega arith),
    )

map_same : {A B : Type 0} (f g : A → B) → ((a : A) → f a ≡ g a) → (l : List A) → map f l ≡ map g l
map_same f g h [] = refl
map_same f g h (a ∷ l) = ap₂ ◌∷◌ (h a) (map_same f g h l)

pub held_same : (x y : List ℕ) → field y ENTRIES ≡ field x ENTRIES → ((i : ℕ) → PLACE_HEAD ≤ i → field y i ≡ field x i)
    → held_in y ≡ held_in x
unfolding held_in
held_same x y n e =
    map_same (entry_in y) (entry_in x) (entry_same x y e) (range 0 (field y ENTRIES))
    ∙ ap (λ (m : ℕ). map (entry_in x) (range 0 m)) n

-- an entry that is set
module _ (x : List ℕ) (j : ℕ) (p : Place) (s : ℕ) where
  abbrev headed : List ℕ
  headed = set x (PLACE_HEAD + j) p.head

  abbrev dug : List ℕ
  dug = set headed (PLACE_DIGITS + j) p.digits

  abbrev mored : List ℕ
  mored = set dug (PLACE_MORE + j) p.more

  set-size : length (entry_set x j p s) ≡ length x
  unfolding entry_set
  set-size =
      length-set mored (PLACE_STATUS + j) s ∙ length-set dug (PLACE_MORE + j) p.more ∙ length-set headed (PLACE_DIGITS + j) p.digits
      ∙ length-set x (PLACE_HEAD + j) p.head

  set_else : (i : ℕ) → i ≢ PLACE_HEAD + j → i ≢ PLACE_DIGITS + j → i ≢ PLACE_MORE + j → i ≢ PLACE_STATUS + j
      → field (entry_set x j p s) i ≡ field x i
  unfolding entry_set
  set_else i a b c d =
      get_or-set_other mored (PLACE_STATUS + j) i s 0 d ∙ get_or-set_other dug (PLACE_MORE + j) i p.more 0 c
      ∙ get_or-set_other headed (PLACE_DIGITS + j) i p.digits 0 b ∙ get_or-set_other x (PLACE_HEAD + j) i p.head 0 a

  module _ (long : full ≤ length x) (few : j < most_cells) where
    set-head : field (entry_set x j p s) (PLACE_HEAD + j) ≡ p.head
    unfolding entry_set
    set-head =
        get_or-set_other mored (PLACE_STATUS + j) (PLACE_HEAD + j) s 0 (λ e. absurd (omega (arith, e)))
        ∙ get_or-set_other dug (PLACE_MORE + j) (PLACE_HEAD + j) p.more 0 (λ e. absurd (omega (arith, e)))
        ∙ get_or-set_other headed (PLACE_DIGITS + j) (PLACE_HEAD + j) p.digits 0 (λ e. absurd (omega (arith, e)))
        ∙ get_or-set_same x (PLACE_HEAD + j) p.head 0 (omega arith)

    set-digits : field (entry_set x j p s) (PLACE_DIGITS + j) ≡ p.digits
    unfolding entry_set
    set-digits =
        get_or-set_other mored (PLACE_STATUS + j) (PLACE_DIGITS + j) s 0 (λ e. absurd (omega (arith, e)))
        ∙ get_or-set_other dug (PLACE_MORE + j) (PLACE_DIGITS + j) p.more 0 (λ e. absurd (omega (arith, e)))
        ∙ get_or-set_same headed (PLACE_DIGITS + j) p.digits 0 (omega (arith, length-set x (PLACE_HEAD + j) p.head))

    set_more : field (entry_set x j p s) (PLACE_MORE + j) ≡ p.more
    unfolding entry_set
    set_more =
        get_or-set_other mored (PLACE_STATUS + j) (PLACE_MORE + j) s 0 (λ e. absurd (omega (arith, e)))
        ∙ get_or-set_same dug (PLACE_MORE + j) p.more 0
        (omega (arith, length-set headed (PLACE_DIGITS + j) p.digits, length-set x (PLACE_HEAD + j) p.head))

    set-status : field (entry_set x j p s) (PLACE_STATUS + j) ≡ s
    unfolding entry_set
    set-status = get_or-set_same mored (PLACE_STATUS + j) s 0 (omega (
      arith,
      length-set dug (PLACE_MORE + j) p.more,
      length-set headed (PLACE_DIGITS + j) p.digits,
      length-set x (PLACE_HEAD + j) p.head,
    ))

-- the status as it is written
unfoldable pub status_code : Entry → ℕ
status_code e = elim e.ghost [ true ↦ 128 + e.status | false ↦ e.status ]

abbrev pub no_entry : Entry
no_entry = record { path = []; status = 0; ghost = false }

pub record EntryAt (e : Entry) (y : List ℕ) (j : ℕ) : Type 0 where
  pub head : field y (PLACE_HEAD + j) ≡ (place_of e.path).head
  pub digits : field y (PLACE_DIGITS + j) ≡ (place_of e.path).digits
  pub more : field y (PLACE_MORE + j) ≡ (place_of e.path).more
  pub status : field y (PLACE_STATUS + j) ≡ status_code e

pub record EntriesAt (es : List Entry) (y : List ℕ) : Type 0 where
  pub long : full ≤ length y
  pub entries : field y ENTRIES ≡ min (length es) most_cells
  pub at : (j : ℕ) → j < length es → j < most_cells → EntryAt (get_or es j no_entry) y j

row_same : (e : Entry) (x y : List ℕ) (j : ℕ) → ((i : ℕ) → i ≡ PLACE_HEAD + j → field y i ≡ field x i)
    → ((i : ℕ) → i ≡ PLACE_DIGITS + j → field y i ≡ field x i) → ((i : ℕ) → i ≡ PLACE_MORE + j → field y i ≡ field x i)
    → ((i : ℕ) → i ≡ PLACE_STATUS + j → field y i ≡ field x i) → EntryAt e x j → EntryAt e y j
row_same e x y j a b c d r =
    record {
      head = a (PLACE_HEAD + j) refl ∙ r.head;
      digits = b (PLACE_DIGITS + j) refl ∙ r.digits;
      more = c (PLACE_MORE + j) refl ∙ r.more;
      status = d (PLACE_STATUS + j) refl ∙ r.status;
    }

-- what is written stands in these places alone
pub wrote_same : (es : List Entry) (x y : List ℕ) → length y ≡ length x → field y ENTRIES ≡ field x ENTRIES
    → ((i : ℕ) → PLACE_HEAD ≤ i → field y i ≡ field x i) → EntriesAt es x → EntriesAt es y
wrote_same es x y l n e w =
    record {
      long = omega (arith, w.long);
      entries = n ∙ w.entries;
      at = λ j h k. row_same (get_or es j no_entry) x y j (λ i q. e i (omega arith)) (λ i q. e i (omega arith)) (λ i q. e i (omega arith))
          (λ i q. e i (omega arith)) (w.at j h k);
    }

-- one entry more
module _ (x : List ℕ) (p : Place) (s : ℕ) where
  pub put_size : length (put x p s) ≡ length x
  unfolding put
  put_size = go (ltb (field x ENTRIES) most_cells) refl
    where
      go : (b : Bool) → ltb (field x ENTRIES) most_cells ≡ b → length (put x p s) ≡ length x
      go true e = rw (e, put) (length-set (entry_set x (field x ENTRIES) p s) ENTRIES (field x ENTRIES + 1)
          ∙ set-size x (field x ENTRIES) p s)
      go false e = rw (e, put)

  pub put_else : (i : ℕ) → i ≢ ENTRIES → i < PLACE_HEAD → field (put x p s) i ≡ field x i
  unfolding put
  put_else i h l = go (ltb (field x ENTRIES) most_cells) refl
    where
      go : (b : Bool) → ltb (field x ENTRIES) most_cells ≡ b → field (put x p s) i ≡ field x i
      go true e = rw (e, put) (get_or-set_other (entry_set x (field x ENTRIES) p s) ENTRIES i (field x ENTRIES + 1) 0 h
          ∙ set_else x (field x ENTRIES) p s i (λ z. absurd (omega (arith, z))) (λ z. absurd (omega (arith, z)))
          (λ z. absurd (omega (arith, z))) (λ z. absurd (omega (arith, z))))
      go false e = rw (e, put)

  module _ (es : List Entry) (e : Entry) (w : EntriesAt es x) (place : p ≡ place_of e.path) (code : s ≡ status_code e) where
    abbrev n : ℕ
    n = field x ENTRIES

    abbrev more : List Entry
    more = es ++ (e ∷ [])

    abbrev set_in : List ℕ
    set_in = entry_set x n p s

    abbrev after : List ℕ
    after = set set_in ENTRIES (n + 1)

    here : length es < most_cells → EntryAt (get_or more (length es) no_entry) after (length es)
    here h =
        let z : n ≡ length es = omega (arith, w.entries) in
        let q : get_or more (length es) no_entry ≡ e = get_or-append_seam es e [] no_entry in
        let r : EntryAt e after n =
        record {
          head = get_or-set_other set_in ENTRIES (PLACE_HEAD + n) (n + 1) 0 (λ y. absurd (omega (arith, y)))
              ∙ set-head x n p s w.long (omega arith) ∙ ap (λ (p : Place). p.head) place;
          digits = get_or-set_other set_in ENTRIES (PLACE_DIGITS + n) (n + 1) 0 (λ y. absurd (omega (arith, y)))
              ∙ set-digits x n p s w.long (omega arith) ∙ ap (λ (p : Place). p.digits) place;
          more = get_or-set_other set_in ENTRIES (PLACE_MORE + n) (n + 1) 0 (λ y. absurd (omega (arith, y)))
              ∙ set_more x n p s w.long (omega arith) ∙ ap (λ (p : Place). p.more) place;
          status = get_or-set_other set_in ENTRIES (PLACE_STATUS + n) (n + 1) 0 (λ y. absurd (omega (arith, y)))
              ∙ set-status x n p s w.long (omega arith) ∙ code;
        } in
        subst (λ (f : Entry). EntryAt f after (length es)) (sym q) (subst (EntryAt e after) z r)

    before : length es < most_cells → (j : ℕ) → j < length es → EntryAt (get_or more j no_entry) after j
    before h j l =
        let z : n ≡ length es = omega (arith, w.entries) in
        let else : (i : ℕ) → PLACE_HEAD ≤ i → i ≢ PLACE_HEAD + n → i ≢ PLACE_DIGITS + n → i ≢ PLACE_MORE + n → i ≢ PLACE_STATUS + n
        → field after i ≡ field x i =
        λ i a b c d f. get_or-set_other set_in ENTRIES i (n + 1) 0 (λ y. absurd (omega (arith, y))) ∙ set_else x n p s i b c d f in
        let q : get_or more j no_entry ≡ get_or es j no_entry = get_or-append es (e ∷ []) no_entry j l in
        subst (λ (f : Entry). EntryAt f after j) (sym q) (row_same (get_or es j no_entry) x after j
        (λ i y. else i (omega arith) (λ v. absurd (omega (arith, v))) (λ v. absurd (omega (arith, v))) (λ v. absurd (omega (arith, v)))
        (λ v. absurd (omega (arith, v))))
        (λ i y. else i (omega arith) (λ v. absurd (omega (arith, v))) (λ v. absurd (omega (arith, v))) (λ v. absurd (omega (arith, v)))
        (λ v. absurd (omega (arith, v))))
        (λ i y. else i (omega arith) (λ v. absurd (omega (arith, v))) (λ v. absurd (omega (arith, v))) (λ v. absurd (omega (arith, v)))
        (λ v. absurd (omega (arith, v))))
        (λ i y. else i (omega arith) (λ v. absurd (omega (arith, v))) (λ v. absurd (omega (arith, v))) (λ v. absurd (omega (arith, v)))
        (λ v. absurd (omega (arith, v))))
        (w.at j l (omega arith)))

    pub put_wrote : EntriesAt more (put x p s)
    unfolding put
    put_wrote = go (ltb n most_cells) refl
      where
        len : length more ≡ length es + 1
        len = length-append es (e ∷ [])

        go : (b : Bool) → ltb n most_cells ≡ b → EntriesAt more (put x p s)
        go true q =
            let h : n < most_cells = ltb-true n most_cells q in
            let z : n ≡ length es = omega (arith, w.entries) in
            rw (q, put) (record {
              long = omega (arith, length-set set_in ENTRIES (n + 1), set-size x n p s, w.long);
              entries = get_or-set_same set_in ENTRIES (n + 1) 0 (omega (arith, set-size x n p s, w.long)) ∙ omega (arith, len);
              at = λ j k l. elim (ℕ_discrete j (length es)) [
                | yes y ↦ subst (λ (i : ℕ). EntryAt (get_or more i no_entry) after i) (sym y) (here (omega arith))
                | no y ↦ before (omega arith) j (omega (arith, len))
              ];
            })
        go false q =
            let h : most_cells ≤ n = ltb-false n most_cells q in
            rw (q, put) (record {
              long = w.long;
              entries = w.entries ∙ omega (arith, len, w.entries);
              at = λ j k l. subst (λ (f : Entry). EntryAt f x j) (sym (get_or-append es (e ∷ []) no_entry j (omega (arith, w.entries))))
                  (w.at j (omega (arith, w.entries)) l);
            })

-- an entry that has room in its columns
pub record EntryRoom (e : Entry) : Type 0 where
  pub level : ℕ
  pub path : Path level e.path
  pub deep : level ≤ 20
  pub status : e.status < 128
  pub ghost : e.ghost ≡ true → level ≤ top_level

-- the path of a place, at most ten levels deep
path_back : (k : ℕ) (l : List ℕ) → Path k l → k ≤ top_level → path_of (place_of l) ≡ l
path_back k l w h =
    ap (λ (m : List ℕ). path_of (place_of m)) w.is ∙ path_place w.coarse w.down w.coarse_few (omega (arith, w.deep)) w.digits
    ∙ sym w.is

entry_is_lem : (y : List ℕ) (j : ℕ) (e : Entry) → EntryAt e y j → (r : EntryRoom e) → r.level ≤ top_level → entry_in y j ≡ e
unfolding entry_in status_code
entry_is_lem y j e w r h =
    go e.ghost refl
  where
    place : path_of (record { head = field y (PLACE_HEAD + j); digits = field y (PLACE_DIGITS + j); more = field y (PLACE_MORE + j) })
        ≡ e.path
    place = rw (w.head, w.digits, w.more) (path_back r.level e.path r.path h)

    go : (b : Bool) → e.ghost ≡ b → entry_in y j ≡ e
    go true q =
        let z : field y (PLACE_STATUS + j) ≡ 128 + e.status = w.status ∙ rw (q, status_code) in
        let s : field y (PLACE_STATUS + j) % 128 ≡ e.status = omega (arith, r.status) in
        let g : leb 128 (field y (PLACE_STATUS + j)) ≡ e.ghost = le-leb 128 (field y (PLACE_STATUS + j)) (omega arith) ∙ sym q in
        rw (place, s, g)
    go false q =
        let z : field y (PLACE_STATUS + j) ≡ e.status = w.status ∙ rw (q, status_code) in
        let s : field y (PLACE_STATUS + j) % 128 ≡ e.status = omega (arith, r.status) in
        let g : leb 128 (field y (PLACE_STATUS + j)) ≡ e.ghost = lt-leb 128 (field y (PLACE_STATUS + j)) (omega (arith, r.status))
        ∙ sym q in
        rw (place, s, g)

-- what is held is what was written
pub held_wrote : (es : List Entry) (y : List ℕ) → EntriesAt es y
    → ((j : ℕ) → j < length es → j < most_cells → (r : EntryRoom (get_or es j no_entry)) × (r.level ≤ top_level))
    → held_in y ≡ take most_cells es
unfolding held_in
held_wrote es y w f =
    ext_get_or no_entry (map (entry_in y) (range 0 (field y ENTRIES))) (take most_cells es)
    (long ∙ w.entries ∙ omega (arith, length-take most_cells es))
    (λ i h.
    let a : i < field y ENTRIES = omega (arith, long) in
    let b : i < length es = omega (arith, w.entries) in
    let c : i < most_cells = omega (arith, w.entries) in
    let (r, k) = f i b c in
    get_d_map (entry_in y) (range 0 (field y ENTRIES)) i 0 no_entry (omega (arith, length-range 0 (field y ENTRIES)))
    ∙ ap (entry_in y) (range_at 0 (field y ENTRIES) i 0 a ∙ zero-add i) ∙ entry_is_lem y i (get_or es i no_entry) (w.at i b c) r k
    ∙ sym (get_or-take most_cells es i no_entry c))
  where
    long : length (map (entry_in y) (range 0 (field y ENTRIES))) ≡ field y ENTRIES
    long = length-map (range 0 (field y ENTRIES)) (entry_in y) ∙ length-range 0 (field y ENTRIES)
