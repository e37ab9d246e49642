-- What a store of a split holds (specs/Stored): theorems.
-- Laws: store_length, stored_front (a list that begins with a store's numbers), store_cut (the table after a split, store by store),
-- stored_split (the stores of the parts 1 to P are Stored, also where more is lent), stores_behind (what stands behind them is as it was),
-- rest_kept (each store's entries and places are as they were).
use Rattle.std.specs.Prelude.{◌≡◌, Bool, ◌&&◌, drop}
use Rattle.std.proofs.Math.Path.{refl, ap, ap₂}
use Rattle.std.proofs.Common.{sym, ◌∙◌, get_or-drop, get_or-take, drop_at, length-take-le, get_or-append-add, ext_get_or, ltb-true}
use Rattle.std.proofs.Math.Bool.{true, false}
use mathlib.Core.List.{List, [], ◌∷◌, ◌++◌, map, flat_map, append_assoc, append-nil}
use Prim.Native.Nat.{ℕ, zero, suc, ◌+◌, ◌*◌, ◌-◌, ◌≤◌, ◌<◌}
use native.Mathlib.Omega.{arith}
use Rattle.std.proofs.Math.Dec.{ltb}
use Rattle.std.proofs.Math.ListN.{length, get_or, take, replicate, length-append, length-drop, length-replicate, get_or-replicate, get_or-append}
use Rattle.std.proofs.lemmas.List.{length-map, drop-append-le}
use Rattle.std.proofs.Math.Seq.{take_at, drop-append-add, take-append-le}
use Rattle.base.specs.Bools.{one_if}
use Rattle.base.specs.Limits.{full_coarse, most_cells, most_coarse_cells, most_slots, most_parts}
use Rattle.base.specs.Range.{range, length-range}
use Rattle.mesh.specs.Table.{levels_of}
use Rattle.mesh.specs.Layout.{edge_numbers}
use Rattle.lineage.specs.Olds.{first_child}
use Rattle.parts.specs.Owners.{nth_cell, family_of}
use Rattle.parts.specs.Held.{masterb}
use Rattle.store.specs.Places.{place_of}
use Rattle.store.specs.Fields.{full, field, STAGE, PART, PARTS, CORNERS, COARSE, CELLS, LEVELS, ROUND, RESULT, ENTRIES, TOTAL, HIGH, CURSOR}
use Rattle.store.specs.Fields.{BIT, WRITTEN, FIRST_CELL, TAKEN, ENDED, GIVEN}
use Rattle.store.specs.Fields.{MARK, RED, CORNER, FRONT, FREE}
use Rattle.store.specs.Fields.{firsts_length, flags_length, free_length}
use Rattle.store.specs.Stores.{store_in, rest_size}
use Rattle.split.specs.Columns.{cells_below, slots_below, slot_of, inner_bits, holds_cell}
use Rattle.split.specs.Split.{by_cell, six_of, four_of, holders_at, part_store, stores_after}
use Rattle.split.specs.Stored.{Fours, if_held, Stored}

-- what f gives for numbers in a row
map_at : (f : ℕ → ℕ) (k m i : ℕ) → i < m → get_or (map f (range k m)) i 0 ≡ f (k + i)
unfolding range
map_at f k zero i h = absurd (omega arith)
map_at f k (suc m) zero h = let z : k ≡ k + 0 = omega arith in ap f z
map_at f k (suc m) (suc i) h = let z : suc k + i ≡ k + suc i = omega arith in map_at f (suc k) m i (omega arith) ∙ ap f z

map-here : (f : ℕ → ℕ) (m i : ℕ) → i < m → get_or (map f (range 0 m)) i 0 ≡ f i
map-here f m i h = let z : 0 + i ≡ i = omega arith in map_at f 0 m i h ∙ ap f z

map-size : (f : ℕ → ℕ) (m : ℕ) → length (map f (range 0 m)) ≡ m
map-size f m = length-map (range 0 m) f ∙ length-range 0 m

module _ (f : ℕ → List ℕ) (w most : ℕ) (all : (i : ℕ) → i < most → length (f i) ≡ w) where
  flat-length : (k m : ℕ) → k + m ≤ most → length (flat_map f (range k m)) ≡ w * m
  unfolding range flat_map
  flat-length k zero l = omega arith
  flat-length k (suc m) l = simp length-append (omega (arith, all k (omega arith), flat-length (suc k) m (omega arith)))

  flat-drop : (k m i : ℕ) → k + m ≤ most → i ≤ m → drop (w * i) (flat_map f (range k m)) ≡ flat_map f (range (k + i) (m - i))
  unfolding range flat_map
  flat-drop k m zero l h =
      let z : k + 0 ≡ k = omega arith in let y : m - 0 ≡ m = omega arith in let x : w * 0 ≡ 0 = omega arith in rw (z, y, x)
  flat-drop k zero (suc i) l h = absurd (omega arith)
  flat-drop k (suc m) (suc i) l h =
      let z : w * suc i ≡ length (f k) + w * i = omega (arith, all k (omega arith)) in
      let y : k + suc i ≡ suc k + i = omega arith in
      let x : suc m - suc i ≡ m - i = omega arith in
      rw (z, y, x) (drop-append-add (f k) (flat_map f (range (suc k) m)) (w * i) ∙ flat-drop (suc k) m i (omega arith) (omega arith))

  flat_part : (m i : ℕ) → m ≤ most → i < m → take w (drop (w * i) (flat_map f (range 0 m))) ≡ f i
  unfolding range flat_map
  flat_part m i l h =
      let z : m - i ≡ suc (m - suc i) = omega arith in
      let y : 0 + i ≡ i = omega arith in
      ap (take w) (flat-drop 0 m i (omega arith) (omega arith) ∙ rw (z, y))
      ∙ take_at (f i) (flat_map f (range (suc i) (m - suc i))) w (all i (omega arith))

-- more behind a list
not_less : (x r : List ℕ) (n : ℕ) → length x ≡ n → n ≤ length (x ++ r)
not_less x r n e = omega (arith, length-append x r)

-- lists in a row, and where each begins
joined : List (List ℕ) → List ℕ
joined [] = []
joined (l ∷ ls) = l ++ joined ls

sum : List ℕ → ℕ
sum [] = 0
sum (m ∷ ms) = m + sum ms

-- the lists have these lengths
Sized : List (List ℕ) → List ℕ → Type 0
Sized [] [] = Unit
Sized [] (m ∷ ms) = ⊥
Sized (l ∷ ls) [] = ⊥
Sized (l ∷ ls) (m ∷ ms) = (length l ≡ m) × Sized ls ms

joined_length : (ls : List (List ℕ)) (ms : List ℕ) → Sized ls ms → length (joined ls) ≡ sum ms
unfolding joined sum Sized
joined_length [] [] s = refl
joined_length [] (m ∷ ms) s = absurd s
joined_length (l ∷ ls) [] s = absurd s
joined_length (l ∷ ls) (m ∷ ms) s = simp length-append (omega (arith, s.0, joined_length ls ms s.1))

joined_at : (ls : List (List ℕ)) (ms : List ℕ) → Sized ls ms → (j i : ℕ) → i < get_or ms j 0
    → get_or (joined ls) (sum (take j ms) + i) 0 ≡ get_or (get_or ls j []) i 0
unfolding joined sum Sized
joined_at [] [] s j i h = absurd (omega arith)
joined_at [] (m ∷ ms) s j i h = absurd s
joined_at (l ∷ ls) [] s j i h = absurd s
joined_at (l ∷ ls) (m ∷ ms) s zero i h = let z : 0 + i ≡ i = omega arith in rw z (get_or-append l (joined ls) 0 i (omega (arith, s.0)))
joined_at (l ∷ ls) (m ∷ ms) s (suc j) i h =
    let z : m + sum (take j ms) + i ≡ length l + (sum (take j ms) + i) = omega (arith, s.0) in
    rw z (get_or-append-add l (joined ls) (sum (take j ms) + i) 0 ∙ joined_at ls ms s.1 j i h)

within : (ms : List ℕ) (j i : ℕ) → i < get_or ms j 0 → sum (take j ms) + i < sum ms
unfolding sum
within [] j i h = absurd (omega arith)
within (m ∷ ms) zero i h = omega arith
within (m ∷ ms) (suc j) i h = omega (arith, within ms j i h)

regroup : (a b c d e f g h i j k l m n o p q r s : List ℕ)
    → a ++ b ++ c ++ d ++ e ++ f ++ g ++ h ++ i ++ j ++ k ++ l ++ m ++ n ++ o ++ p ++ q ++ r ++ s
    ≡ joined (a ∷ b ∷ c ∷ d ∷ e ∷ f ∷ g ∷ h ∷ i ∷ j ∷ k ∷ l ∷ m ∷ n ∷ o ∷ p ∷ q ∷ r ∷ s ∷ [])
unfolding joined
regroup a b c d e f g h i j k l m n o p q r s = simp (append_assoc, append-nil)

sizes : List ℕ
sizes =
    FIRST_CELL ∷ firsts_length ∷ firsts_length ∷ free_length
    ∷ most_cells ∷ most_cells ∷ most_cells ∷ most_cells ∷ most_cells ∷ most_cells ∷ most_cells ∷ most_cells ∷ most_cells ∷ most_cells
    ∷ flags_length ∷ full_coarse ∷ most_slots ∷ most_slots ∷ most_slots ∷ []

flat_field : (f : ℕ → List ℕ) (w m : ℕ) → ((i : ℕ) → i < m → length (f i) ≡ w) → (i e : ℕ) → i < m → e < w
    → get_or (flat_map f (range 0 m)) (w * i + e) 0 ≡ get_or (f i) e 0
flat_field f w m all i e h k =
    sym (get_or-drop (w * i) (flat_map f (range 0 m)) e 0)
    ∙ sym (get_or-take w (drop (w * i) (flat_map f (range 0 m))) e 0 k)
    ∙ ap (λ (l : List ℕ). get_or l e 0) (flat_part f w m all m i (omega arith) h)

module _ (n : ℕ) (qs : List (List ℕ)) (ss : List ℕ) (P : ℕ) (os : List ℕ) (p : ℕ) where
  abbrev column : (ℕ → ℕ) → List ℕ
  column f = by_cell n qs ss P os p f

  lines : List (List ℕ)
  lines =
      (0 ∷ p ∷ P ∷ n ∷ length qs ∷ length ss ∷ length (levels_of n qs ss) ∷ replicate 9 0)
      ∷ map (cells_below n qs ss) (range 0 firsts_length) ∷ map (slots_below n qs ss) (range 0 firsts_length) ∷ replicate free_length 0
      ∷ column (λ c. get_or os c 0) ∷ column (family_of n qs ss os)
      ∷ column (λ c. get_or ss c 0) ∷ column (λ c. one_if (nth_cell n qs ss c).regular)
      ∷ column (first_child (length qs) ss) ∷ column (λ c. (nth_cell n qs ss c).parent)
      ∷ column (λ c. (place_of (nth_cell n qs ss c).path).head) ∷ column (λ c. (place_of (nth_cell n qs ss c).path).digits)
      ∷ column (λ c. (place_of (nth_cell n qs ss c).path).more)
      ∷ column (inner_bits n qs ss) ∷ replicate flags_length 0
      ∷ flat_map (four_of n qs ss P os p) (range 0 most_coarse_cells) ∷ flat_map (six_of n qs ss P os p) (range 0 most_cells)
      ∷ map (holders_at n qs ss P os p) (range 0 most_slots) ∷ replicate most_slots 0 ∷ []

  store_lines : part_store n qs ss P os p ≡ joined lines
  unfolding part_store lines
  store_lines =
      regroup (0 ∷ p ∷ P ∷ n ∷ length qs ∷ length ss ∷ length (levels_of n qs ss) ∷ replicate 9 0)
      (map (cells_below n qs ss) (range 0 firsts_length)) (map (slots_below n qs ss) (range 0 firsts_length)) (replicate free_length 0)
      (column (λ c. get_or os c 0)) (column (family_of n qs ss os))
      (column (λ c. get_or ss c 0)) (column (λ c. one_if (nth_cell n qs ss c).regular))
      (column (first_child (length qs) ss)) (column (λ c. (nth_cell n qs ss c).parent))
      (column (λ c. (place_of (nth_cell n qs ss c).path).head)) (column (λ c. (place_of (nth_cell n qs ss c).path).digits))
      (column (λ c. (place_of (nth_cell n qs ss c).path).more))
      (column (inner_bits n qs ss)) (replicate flags_length 0)
      (flat_map (four_of n qs ss P os p) (range 0 most_coarse_cells)) (flat_map (six_of n qs ss P os p) (range 0 most_cells))
      (map (holders_at n qs ss P os p) (range 0 most_slots)) (replicate most_slots 0)

  column_is : (f : ℕ → ℕ) → column f ≡ map (if_held n qs ss os p f) (range 0 most_cells)
  unfolding by_cell if_held
  column_is f = refl

  column_at : (f : ℕ → ℕ) (c : ℕ) → c < most_cells → get_or (column f) c 0 ≡ if_held n qs ss os p f c
  column_at f c h = ap (λ (l : List ℕ). get_or l c 0) (column_is f) ∙ map-here (if_held n qs ss os p f) most_cells c h

  column_size : (f : ℕ → ℕ) → length (column f) ≡ most_cells
  column_size f = ap length (column_is f) ∙ map-size (if_held n qs ss os p f) most_cells

  four_size : Fours qs → (i : ℕ) → length (four_of n qs ss P os p i) ≡ 4
  unfolding four_of
  four_size q i = go (ltb i (length qs)) refl (masterb os p i) refl
    where
      go : (a : Bool) → ltb i (length qs) ≡ a → (b : Bool) → masterb os p i ≡ b → length (four_of n qs ss P os p i) ≡ 4
      go true d true e = rw (d, e, four_of) (q i (ltb-true i (length qs) d))
      go true d false e = rw (d, e, four_of)
      go false d b e = rw (d, four_of)

  six_at : (c e : ℕ) → e < 6 → get_or (six_of n qs ss P os p c) e 0 ≡ if_held n qs ss os p (λ d. slot_of n qs ss d e) c
  unfolding six_of if_held
  six_at c e h = go (ltb c (length ss) && holds_cell n qs ss os p c) refl
    where
      at : (e : ℕ) → e < 6 → get_or (map (slot_of n qs ss c) edge_numbers) e 0 ≡ slot_of n qs ss c e
      at zero h = refl
      at (suc zero) h = refl
      at (suc (suc zero)) h = refl
      at (suc (suc (suc zero))) h = refl
      at (suc (suc (suc (suc zero)))) h = refl
      at (suc (suc (suc (suc (suc zero))))) h = refl
      at (suc (suc (suc (suc (suc (suc e)))))) h = absurd (omega arith)

      go : (b : Bool) → (ltb c (length ss) && holds_cell n qs ss os p c) ≡ b
          → get_or (six_of n qs ss P os p c) e 0 ≡ if_held n qs ss os p (λ d. slot_of n qs ss d e) c
      go true d = rw (d, six_of, if_held) (at e h)
      go false d = rw (d, six_of, if_held) (get_or-replicate 6 e 0 0 h)

  six_size : (c : ℕ) → length (six_of n qs ss P os p c) ≡ 6
  unfolding six_of
  six_size c = go (ltb c (length ss) && holds_cell n qs ss os p c) refl
    where
      go : (b : Bool) → (ltb c (length ss) && holds_cell n qs ss os p c) ≡ b → length (six_of n qs ss P os p c) ≡ 6
      go true d = rw (d, six_of)
      go false d = rw (d, six_of)

  sized : Fours qs → Sized lines sizes
  unfolding lines sizes Sized
  sized q = (
    refl,
    (
      map-size (cells_below n qs ss) firsts_length,
      (
        map-size (slots_below n qs ss) firsts_length,
        (
          length-replicate {A = ℕ} free_length 0,
          (
            column_size (λ c. get_or os c 0),
            (
              column_size (family_of n qs ss os),
              (
                column_size (λ c. get_or ss c 0),
                (
                  column_size (λ c. one_if (nth_cell n qs ss c).regular),
                  (
                    column_size (first_child (length qs) ss),
                    (
                      column_size (λ c. (nth_cell n qs ss c).parent),
                      (
                        column_size (λ c. (place_of (nth_cell n qs ss c).path).head),
                        (
                          column_size (λ c. (place_of (nth_cell n qs ss c).path).digits),
                          (
                            column_size (λ c. (place_of (nth_cell n qs ss c).path).more),
                            (
                              column_size (inner_bits n qs ss),
                              (
                                length-replicate {A = ℕ} flags_length 0,
                                (
                                  flat-length (four_of n qs ss P os p) 4 most_coarse_cells (λ i h. four_size q i) 0 most_coarse_cells
                                      (omega arith),
                                  (
                                    flat-length (six_of n qs ss P os p) 6 most_cells (λ i h. six_size i) 0 most_cells (omega arith),
                                    (
                                      map-size (holders_at n qs ss P os p) most_slots,
                                      (length-replicate {A = ℕ} most_slots 0, tt),
                                    ),
                                  ),
                                ),
                              ),
                            ),
                          ),
                        ),
                      ),
                    ),
                  ),
                ),
              ),
            ),
          ),
        ),
      ),
    ),
  )

  pub store_length : Fours qs → length (part_store n qs ss P os p) ≡ FRONT
  unfolding sizes sum
  store_length q = ap length store_lines ∙ joined_length lines sizes (sized q)

  module _ (q : Fours qs) (x : List ℕ) (rest : List ℕ) (made : x ≡ part_store n qs ss P os p ++ rest) where
    line : (j i : ℕ) → i < get_or sizes j 0 → get_or x (sum (take j sizes) + i) 0 ≡ get_or (get_or lines j []) i 0
    line j i h =
        let l : sum sizes ≡ FRONT = sym (joined_length lines sizes (sized q)) ∙ sym (ap length store_lines) ∙ store_length q in
        let k : sum (take j sizes) + i < length (part_store n qs ss P os p) = omega (arith, within sizes j i h, store_length q) in
        ap (λ (l : List ℕ). get_or l (sum (take j sizes) + i) 0) made
        ∙ get_or-append (part_store n qs ss P os p) rest 0 (sum (take j sizes) + i) k
        ∙ ap (λ (l : List ℕ). get_or l (sum (take j sizes) + i) 0) store_lines
        ∙ joined_at lines sizes (sized q) j i h

    col : (j c : ℕ) → c < most_cells → (f : ℕ → ℕ) → get_or sizes j 0 ≡ most_cells → get_or lines j [] ≡ column f
        → get_or x (sum (take j sizes) + c) 0 ≡ if_held n qs ss os p f c
    col j c h f s e = line j c (omega arith) ∙ ap (λ (l : List ℕ). get_or l c 0) e ∙ column_at f c h

    pub stored_front : full - FRONT ≤ length rest → Stored n qs ss P os p x
    unfolding lines sizes sum
    stored_front r =
        record {
          long = x_long;
          stage = line 0 STAGE (omega arith);
          part = line 0 PART (omega arith);
          parts = line 0 PARTS (omega arith);
          corners = line 0 CORNERS (omega arith);
          coarse = line 0 COARSE (omega arith);
          cells = line 0 CELLS (omega arith);
          levels = line 0 LEVELS (omega arith);
          round = line 0 ROUND (omega arith);
          result = line 0 RESULT (omega arith);
          entries = line 0 ENTRIES (omega arith);
          total = line 0 TOTAL (omega arith);
          high = line 0 HIGH (omega arith);
          cursor = line 0 CURSOR (omega arith);
          bit = line 0 BIT (omega arith);
          written = line 0 WRITTEN (omega arith);
          first_cell = λ k h. line 1 k h ∙ map-here (cells_below n qs ss) firsts_length k h;
          first_slot = λ k h. line 2 k h ∙ map-here (slots_below n qs ss) firsts_length k h;
          taken = λ k a b. let z : TAKEN + k ≡ FREE + (TAKEN - FREE + k) = omega arith in free (TAKEN + k) (TAKEN - FREE + k) z
              (omega arith);
          ended = λ k a b. let z : ENDED + k ≡ FREE + (ENDED - FREE + k) = omega arith in free (ENDED + k) (ENDED - FREE + k) z
              (omega arith);
          given = λ k b. let z : GIVEN + k ≡ FREE + (GIVEN - FREE + k) = omega arith in free (GIVEN + k) (GIVEN - FREE + k) z (omega arith);
          owner = λ c h. col 4 c h (λ c. get_or os c 0) refl refl;
          family = λ c h. col 5 c h (family_of n qs ss os) refl refl;
          status = λ c h. col 6 c h (λ c. get_or ss c 0) refl refl;
          regular = λ c h. col 7 c h (λ c. one_if (nth_cell n qs ss c).regular) refl refl;
          child = λ c h. col 8 c h (first_child (length qs) ss) refl refl;
          parent = λ c h. col 9 c h (λ c. (nth_cell n qs ss c).parent) refl refl;
          head = λ c h. col 10 c h (λ c. (place_of (nth_cell n qs ss c).path).head) refl refl;
          digits = λ c h. col 11 c h (λ c. (place_of (nth_cell n qs ss c).path).digits) refl refl;
          more = λ c h. col 12 c h (λ c. (place_of (nth_cell n qs ss c).path).more) refl refl;
          inner = λ c h. col 13 c h (inner_bits n qs ss) refl refl;
          mark = λ c h. zeros (MARK + c) c refl (omega arith);
          red = λ c h. let z : RED + c ≡ MARK + (most_cells + c) = omega arith in zeros (RED + c) (most_cells + c) z (omega arith);
          corner = λ i k h l. line 15 (4 * i + k) (omega arith)
              ∙ flat_field (four_of n qs ss P os p) 4 most_coarse_cells (λ i h. four_size q i) i k h l;
          four = λ i h. four_is i h;
          slot = λ c e h l.
              line 16 (6 * c + e) (omega arith) ∙ flat_field (six_of n qs ss P os p) 6 most_cells (λ i h. six_size i) c e h l
              ∙ six_at c e l;
          holders = λ i h. line 17 i h ∙ map-here (holders_at n qs ss P os p) most_slots i h;
          sums = λ i h. line 18 i h ∙ get_or-replicate most_slots i 0 0 h;
        }
      where
        x_long : full ≤ length x
        x_long = omega (arith, r, ap length made, length-append (part_store n qs ss P os p) rest, store_length q)

        free : (k i : ℕ) → k ≡ FREE + i → i < free_length → field x k ≡ 0
        free k i z h = rw z (line 3 i h ∙ get_or-replicate free_length i 0 0 h)

        zeros : (k i : ℕ) → k ≡ MARK + i → i < flags_length → field x k ≡ 0
        zeros k i z h = rw z (line 14 i h ∙ get_or-replicate flags_length i 0 0 h)

        -- four numbers in a row
        four_is : (i : ℕ) → i < most_coarse_cells → take 4 (drop (CORNER + 4 * i) x) ≡ four_of n qs ss P os p i
        four_is i h =
            let s : full ≤ length x = x_long in
            let l : length (drop (CORNER + 4 * i) x) ≡ length x - (CORNER + 4 * i) = length-drop (CORNER + 4 * i) x in
            let t : length (take 4 (drop (CORNER + 4 * i) x)) ≡ 4 = length-take-le 4 (drop (CORNER + 4 * i) x) (omega arith) in
            ext_get_or 0 (take 4 (drop (CORNER + 4 * i) x)) (four_of n qs ss P os p i) (t ∙ sym (four_size q i))
            (λ k u.
            let v : k < 4 = omega arith in
            let z : CORNER + 4 * i + k ≡ CORNER + (4 * i + k) = omega arith in
            get_or-take 4 (drop (CORNER + 4 * i) x) k 0 v ∙ get_or-drop (CORNER + 4 * i) x k 0 ∙ ap (field x) z
            ∙ line 15 (4 * i + k) (omega arith) ∙ flat_field (four_of n qs ss P os p) 4 most_coarse_cells (λ i h. four_size q i) i k h v)

module _ (n : ℕ) (qs : List (List ℕ)) (ss : List ℕ) (P : ℕ) (os b : List ℕ) (q : Fours qs) (few : P ≤ most_parts)
    (room : most_parts * full ≤ length b)
  where
    new : ℕ → List ℕ
    new j = part_store n qs ss P os (suc j) ++ drop FRONT (store_in b j)

    after_is : stores_after n qs ss P os b ≡ flat_map new (range 0 P) ++ drop (full * P) b
    unfolding stores_after new
    after_is = refl

    rest-length : (j : ℕ) → j < P → length (drop FRONT (store_in b j)) ≡ full - FRONT
    rest-length j h = rest_size b j FRONT (omega arith)

    new-length : (j : ℕ) → j < P → length (new j) ≡ full
    unfolding new
    new-length j h =
        length-append (part_store n qs ss P os (suc j)) (drop FRONT (store_in b j))
        ∙ ap₂ ◌+◌ (store_length n qs ss P os (suc j) q) (rest-length j h)

    all-length : length (flat_map new (range 0 P)) ≡ full * P
    all-length = flat-length new full P new-length 0 P (omega arith)

    pub stores_behind : drop (full * P) (stores_after n qs ss P os b) ≡ drop (full * P) b
    stores_behind = ap (drop (full * P)) after_is ∙ drop_at (flat_map new (range 0 P)) (drop (full * P) b) (full * P) all-length

    pub store_cut : (j : ℕ) → j < P
        → store_in (stores_after n qs ss P os b) j ≡ part_store n qs ss P os (suc j) ++ drop FRONT (store_in b j)
    unfolding new store_in
    store_cut j h =
        let a = flat_map new (range 0 P) in
        let l : length (flat_map new (range 0 P)) ≡ full * P = all-length in
        let d : length (drop (full * j) (flat_map new (range 0 P))) ≡ length (flat_map new (range 0 P)) - full * j
        = length-drop (full * j) (flat_map new (range 0 P)) in
        ap (λ (l : List ℕ). take full (drop (full * j) l)) after_is
        ∙ ap (take full) (drop-append-le (full * j) a (drop (full * P) b) (omega arith))
        ∙ take-append-le full (drop (full * j) a) (drop (full * P) b) (omega arith)
        ∙ flat_part new full P new-length P j (omega arith) h

    pub stored_split : (j : ℕ) → j < P → (r : List ℕ) → Stored n qs ss P os (suc j) (store_in (stores_after n qs ss P os b) j ++ r)
    stored_split j h r =
        stored_front n qs ss P os (suc j) q (store_in (stores_after n qs ss P os b) j ++ r) (drop FRONT (store_in b j) ++ r)
        (ap (λ (x : List ℕ). x ++ r) (store_cut j h) ∙ append_assoc (part_store n qs ss P os (suc j)) (drop FRONT (store_in b j)) r)
        (not_less (drop FRONT (store_in b j)) r (full - FRONT) (rest-length j h))

    pub rest_kept : (j : ℕ) → j < P → drop FRONT (store_in (stores_after n qs ss P os b) j) ≡ drop FRONT (store_in b j)
    rest_kept j h =
        ap (drop FRONT) (store_cut j h)
        ∙ drop_at (part_store n qs ss P os (suc j)) (drop FRONT (store_in b j)) FRONT (store_length n qs ss P os (suc j) q)
