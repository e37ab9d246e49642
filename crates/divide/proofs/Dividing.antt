-- The functions, step by step.
--   Firsts ks k fs     fs has the first cells of the levels up to k
-- Laws: firsts_start, firsts_turn, firsts_done, rising_of (first cells), flat_append, more_start, more_turn (store by store),
-- lent_length, lent_back, part_length, parts_room (the part of the table that is lent).
use mathlib.Core.Path.{◌≡◌, refl, sym, ◌∙◌, ap, ap₂}
use mathlib.Core.Logic.{⊎_elim}
use mathlib.Core.List.{List, [], ◌∷◌, ◌++◌, flat_map, append_assoc, append-nil}
use Prim.Native.Nat.{ℕ, zero, suc, ◌+◌, ◌*◌, ◌-◌, ◌/◌, ◌≤◌, ◌<◌}
use native.Mathlib.Nat.{eq-or-lt_of_le}
use native.Mathlib.Omega.{arith}
use lib.ListN.{length, get_or, take, drop, set, replicate, length-set, length-append, length-replicate, get_or-replicate}
use lib.Seq.{get_or-set_same, get_or-set_other, take_at, drop_at, drop-drop}
use borrow.Rule.Slice.PartMut.{put_mid}
use Rattle.base.specs.Limits.{full_coarse, most_cells, most_levels, most_parts, most_slots}
use Rattle.base.specs.Range.{range, range_snoc}
use Rattle.store.specs.Fields.{full, FRONT, columns_length, firsts_length, flags_length, free_length}
use Rattle.store.specs.Stores.{store_in, rest_size}
use Rattle.slots.specs.Slots.{Rising}
use Rattle.filling.specs.Regions.{put_by, column_by, corner_by, slot_by, holder_by, regions}
use Rattle.filling.specs.Laws.{tab-length, zero-length, header_size, between}
use Rattle.divide.specs.Divided.{first_by, Leveled, FirstCells, store_with, stores_to, store_put, masks_of, part_by}

pub record Firsts (ks : List ℕ) (k : ℕ) (fs : List ℕ) : Type 0 where
  pub size : length fs ≡ firsts_length
  pub at : (j : ℕ) → j ≤ k → get_or fs j 0 ≡ first_by ks j

pub firsts_start : (ks : List ℕ) → Firsts ks 0 (replicate firsts_length 0)
unfolding first_by
firsts_start ks =
    record {
      size = length-replicate {A = ℕ} firsts_length 0;
      at = λ j h. let z : j ≡ 0 = omega arith in rw z (get_or-replicate firsts_length 0 0 0 (omega arith));
    }

pub firsts_turn : (ks fs : List ℕ) (k : ℕ) → k < most_levels → Firsts ks k fs → Firsts ks (suc k) (set fs (suc k) (get_or ks (get_or fs k 0) 0))
unfolding first_by
firsts_turn ks fs k h f =
    let v = get_or ks (get_or fs k 0) 0 in
    record {
      size = length-set fs (suc k) v ∙ f.size;
      at = λ j g.
          ⊎_elim
          (λ (e : j ≡ suc k).
          rw e (get_or-set_same fs (suc k) v 0 (omega (arith, f.size)) ∙ ap (λ (i : ℕ). get_or ks i 0) (f.at k (omega arith))))
          (λ (e : j < suc k). get_or-set_other fs (suc k) j v 0 (λ z. absurd (omega (arith, z))) ∙ f.at j (omega arith))
          (eq-or-lt_of_le g);
    }

pub firsts_done : (ks fs : List ℕ) (k : ℕ) → k ≡ most_levels → Firsts ks k fs → FirstCells ks fs
firsts_done ks fs k e f = record { size = f.size; at = λ j h. f.at j (omega arith) }

pub rising_of : (ks fs : List ℕ) (m : ℕ) → m ≤ most_cells → Leveled ks m → FirstCells ks fs → Rising fs
rising_of ks fs m h l f =
    record {
      up = λ k g. rw (f.at k (omega arith), f.at (suc k) (omega arith)) (l.up k g);
      most = λ k g. rw (f.at k g) (omega (arith, l.most k g));
    }

-- the length of all regions
module _ (cols mesh sl ms fs st : List ℕ) (m p P n l : ℕ) (fl : length fs ≡ firsts_length) (sl' : length st ≡ firsts_length) where
  regions-length : length (regions cols mesh sl ms fs st m p P n l) ≡ FRONT
  unfolding regions
  regions-length =
      simp length-append (omega (
        arith,
        header_size p P n (length mesh / 4) m l,
        zero-length free_length,
        tab-length columns_length (column_by cols m p),
        zero-length flags_length,
        tab-length full_coarse (corner_by cols mesh p),
        tab-length most_slots (slot_by cols m p sl),
        tab-length most_slots (holder_by cols m p sl ms),
        zero-length most_slots,
      ))

-- store by store
put_by_lem : (a d : ℕ) (x y : List ℕ) → put_by a d x y ≡ take a x ++ (y ++ drop d x)
unfolding put_by
put_by_lem a d x y = refl

one_more : (f : ℕ → List ℕ) (b : List ℕ) (j : ℕ)
    → store_put f b j ≡ take (full * j) b ++ (store_with f b j ++ drop (full * j + full) b)
unfolding store_put
one_more f b j = put_by_lem (full * j) (full * j + full) b (store_with f b j)

to_stores : (f : ℕ → List ℕ) (b : List ℕ) (j : ℕ) → flat_map (store_with f b) (range 0 j) ++ drop (full * j) b ≡ stores_to f b j
unfolding stores_to
to_stores f b j = refl

pub flat_append : (f : ℕ → List ℕ) (l m : List ℕ) → flat_map f (l ++ m) ≡ flat_map f l ++ flat_map f m
unfolding flat_map
flat_append f [] m = refl
flat_append f (x ∷ l) m = ap (λ (r : List ℕ). f x ++ r) (flat_append f l m) ∙ sym (append_assoc (f x) (flat_map f l) (flat_map f m))

flat_snoc : (f : ℕ → List ℕ) (j : ℕ) → flat_map f (range 0 (suc j)) ≡ flat_map f (range 0 j) ++ f j
unfolding flat_map
flat_snoc f j =
    let y : 0 + j ≡ j = omega arith in
    ap (flat_map f) (range_snoc 0 j) ∙ flat_append f (range 0 j) ((0 + j) ∷ [])
    ∙ ap (λ (r : List ℕ). flat_map f (range 0 j) ++ r) (append-nil (f (0 + j)) ∙ ap f y)

module _ (f : ℕ → List ℕ) (sized : (p : ℕ) → length (f p) ≡ FRONT) (b : List ℕ) where
  store_length : (j : ℕ) → full * j + full ≤ length b → length (store_with f b j) ≡ full
  unfolding store_with
  store_length j h =
      length-append (f (suc j)) (drop FRONT (store_in b j))
      ∙ ap₂ ◌+◌ (sized (suc j)) (rest_size b j FRONT h)

  all-length : (j : ℕ) → full * j ≤ length b → length (flat_map (store_with f b) (range 0 j)) ≡ full * j
  unfolding flat_map range
  all-length zero h = omega arith
  all-length (suc j) h =
      ap length (flat_snoc (store_with f b) j) ∙ length-append (flat_map (store_with f b) (range 0 j)) (store_with f b j)
      ∙ ap₂ ◌+◌ (all-length j (omega arith)) (store_length j (omega arith)) ∙ omega arith

  -- one store more
  module _ (j : ℕ) (room : full * j + full ≤ length b) where
    abbrev done : List ℕ
    done = flat_map (store_with f b) (range 0 j)

    done-length : length done ≡ full * j
    done-length = all-length j (omega arith)

    taken : take (full * j) (stores_to f b j) ≡ done
    unfolding stores_to
    taken = take_at done (drop (full * j) b) (full * j) done-length

    dropped : drop (full * j) (stores_to f b j) ≡ drop (full * j) b
    unfolding stores_to
    dropped = drop_at done (drop (full * j) b) (full * j) done-length

    same_store : store_with f (stores_to f b j) j ≡ store_with f b j
    unfolding store_with store_in
    same_store = ap (λ (l : List ℕ). f (suc j) ++ drop FRONT (take full l)) dropped

    behind : drop (full * j + full) (stores_to f b j) ≡ drop (full * suc j) b
    behind =
        let z : full * j + full ≡ full * suc j = omega arith in
        sym (drop-drop full (full * j) (stores_to f b j)) ∙ ap (drop full) dropped ∙ drop-drop full (full * j) b
        ∙ ap (λ (k : ℕ). drop k b) z

    pub more_turn : store_put f (stores_to f b j) j ≡ stores_to f b (suc j)
    more_turn =
        one_more f (stores_to f b j) j
        ∙ ap₂ (λ (x y : List ℕ). x ++ (y ++ drop (full * j + full) (stores_to f b j))) taken same_store
        ∙ ap (λ (x : List ℕ). done ++ (store_with f b j ++ x)) behind
        ∙ sym (append_assoc done (store_with f b j) (drop (full * suc j) b))
        ∙ ap (λ (x : List ℕ). x ++ drop (full * suc j) b) (sym (flat_snoc (store_with f b) j))
        ∙ to_stores f b (suc j)

  pub more_start : b ≡ stores_to f b 0
  unfolding stores_to flat_map range
  more_start = let z : full * 0 ≡ 0 = omega arith in refl

store_part : (cols mesh sl fs st : List ℕ) (m P n l : ℕ) (x : List ℕ) (j : ℕ)
    → regions cols mesh sl (masks_of cols m sl) fs st m (suc j) P n l ++ drop FRONT (store_in x j)
    ≡ store_with (part_by cols mesh sl fs st m P n l) x j
unfolding part_by store_with
store_part cols mesh sl fs st m P n l x j = refl

-- a store lent to a call
pub lent_length : (x : List ℕ) (j : ℕ) → j < most_parts → most_parts * full ≤ length x
    → length (take (full * j + full - full * j) (drop (full * j) x))
    ≡ full
lent_length x j h l = between x (full * j) full (omega arith)

module _ (cols mesh sl ms fs st : List ℕ) (m P n l : ℕ) (is : ms ≡ masks_of cols m sl) where
  pub lent_back : (x y : List ℕ) (j : ℕ)
      → y ≡ regions cols mesh sl ms fs st m (j + 1) P n l ++ drop FRONT (take (full * j + full - full * j) (drop (full * j) x))
      → put_mid (full * j) (full * j + full - full * j) x y ≡ store_put (part_by cols mesh sl fs st m P n l) x j
  unfolding store_in
  lent_back x y j e =
      let z : full * j + full - full * j ≡ full = back (full * j) full in
      let v : j + 1 ≡ suc j = omega arith in
      let q : y ≡ store_with (part_by cols mesh sl fs st m P n l) x j =
      e ∙ ap₂ (λ (u : List ℕ) (k : ℕ). regions cols mesh sl u fs st m (j + 1) P n l ++ drop FRONT (take k (drop (full * j) x))) is z
      ∙ ap (λ (k : ℕ). regions cols mesh sl (masks_of cols m sl) fs st m k P n l ++ drop FRONT (store_in x j)) v
      ∙ store_of x j in
      ap (λ (k : ℕ). put_mid (full * j) k x y) z ∙ put_mid_lem (full * j) full x y
      ∙ ap (λ (u : List ℕ). take (full * j) x ++ (u ++ drop (full * j + full) x)) q
      ∙ sym (one_more (part_by cols mesh sl fs st m P n l) x j)
    where
      back : (a k : ℕ) → a + k - a ≡ k
      back a k = omega arith

      put_mid_lem : (a k : ℕ) (x y : List ℕ) → put_mid a k x y ≡ take a x ++ (y ++ drop (a + k) x)
      put_mid_lem a k x y = ap (λ (u : List ℕ). take a x ++ (y ++ u)) (drop-drop k a x)

      store_of : (x : List ℕ) (j : ℕ)
          → regions cols mesh sl (masks_of cols m sl) fs st m (suc j) P n l ++ drop FRONT (store_in x j)
          ≡ store_with (part_by cols mesh sl fs st m P n l) x j
      store_of x j = store_part cols mesh sl fs st m P n l x j

pub part_length : (cols mesh sl fs st : List ℕ) (m P n l : ℕ) → length fs ≡ firsts_length → length st ≡ firsts_length → (p : ℕ)
    → length (part_by cols mesh sl fs st m P n l p) ≡ FRONT
unfolding part_by
part_length cols mesh sl fs st m P n l a b p = regions-length cols mesh sl (masks_of cols m sl) fs st m p P n l a b

pub parts_room : (b : List ℕ) (j : ℕ) → j < most_parts → most_parts * full ≤ length b → full * j + full ≤ length b
parts_room b j h l = omega arith
