-- The store that the code writes for a part is that of the split.
-- Laws: regions_are (the theorem).
use mathlib.Core.Path.{◌≡◌, refl, sym, ◌∙◌, ap, ap₂}
use mathlib.Core.Bool.{Bool, true, false, ◌&&◌, ◌||◌}
use mathlib.Core.List.{List, [], ◌∷◌, ◌++◌, map, flat_map, append_assoc, append-nil, map-append}
use Prim.Native.Nat.{ℕ, zero, suc, ◌+◌, ◌*◌, ◌/◌, ◌%◌, ◌≤◌, ◌<◌}
use native.Mathlib.Decide.{dec_lt}
use native.Mathlib.Omega.{arith}
use lib.Dec.{eqb, ltb}
use lib.ListN.{length, get_or, replicate, get_or-replicate}
use borrow.Author.Tests.{lt-ltb, le-ltb, ltb-true}
use Rattle.base.specs.Bools.{one_if}
use Rattle.base.specs.Fours.{fours, length-fours}
use Rattle.base.specs.Limits.{full_coarse, most_cells, most_coarse_cells, most_slots, most_parts}
use Rattle.base.specs.Lists.{anyb}
use Rattle.base.specs.Range.{range, range_append, range_snoc, map_range}
use Rattle.mesh.specs.Cells.{bits_of}
use Rattle.mesh.specs.Layout.{edge_numbers}
use Rattle.mesh.specs.Table.{levels_of}
use Rattle.parts.specs.Owners.{nth_cell, family_of}
use Rattle.parts.specs.Held.{masterb}
use Rattle.store.specs.Fields.{columns_length, firsts_length, flags_length, free_length}
use Rattle.store.specs.declared.Place.{Place}
use Rattle.store.specs.Places.{place_of}
use Rattle.split.specs.Columns.{cells_below, slots_below, slot_of, inner_bits, holds_cell, holds_slot, holders_of}
use Rattle.split.specs.Split.{by_cell, six_of, four_of, holders_at, part_store}
use Rattle.split.specs.Stored.{if_held, Fours, fours_long}
use Rattle.slots.specs.Slots.{Slotted}
use Rattle.columns.specs.Ten.{ten_of, Filled}
use Rattle.filling.specs.Regions.{zeros, tab, Tabled, holdb, pick_by, column_by, slot_by, held_slot_to, held_slotb, holder_to, holder_by, mask_from}
use Rattle.filling.specs.Regions.{mask_by, corner_by, head_by, regions}
use Rattle.filling.specs.Laws.{tabled_is}
use Rattle.divide.proofs.Laid.{Table, coarse_few, parent_is, regular_is, family_is, place_is, inner_is}
use Rattle.divide.proofs.Edged.{starts_are, slot_is}
use Rattle.lineage.specs.Olds.{first_child}
use Rattle.divide.proofs.Dividing.{flat_append}

-- tables of numbers, part by part
shift : (f : ℕ → ℕ) (k j m : ℕ) → map f (range (k + j) m) ≡ map (λ i. f (k + i)) (range j m)
unfolding range
shift f k j zero = refl
shift f k j (suc m) =
    let z : suc (k + j) ≡ k + suc j = omega arith in
    ap (λ (l : List ℕ). f (k + j) ∷ l) (ap (λ (a : ℕ). map f (range a m)) z ∙ shift f k (suc j) m)

tab_add : (k m : ℕ) (f : ℕ → ℕ) → tab (k + m) f ≡ tab k f ++ tab m (λ i. f (k + i))
unfolding tab
tab_add k m f =
    let z : 0 + k ≡ k + 0 = omega arith in
    ap (map f) (range_append 0 k m) ∙ map-append f (range 0 k) (range (0 + k) m)
    ∙ ap (λ (l : List ℕ). map f (range 0 k) ++ l) (ap (λ (a : ℕ). map f (range a m)) z ∙ shift f k 0 m)

tab_same : (m : ℕ) (f h : ℕ → ℕ) → ((i : ℕ) → i < m → f i ≡ h i) → tab m f ≡ tab m h
unfolding tab
tab_same m f h e = map_range f h 0 m (λ i a b. e i (omega arith))

tab_list : (m : ℕ) (f : ℕ → ℕ) (l : List ℕ) → length l ≡ m → ((i : ℕ) → i < m → get_or l i 0 ≡ f i) → l ≡ tab m f
tab_list m f l n e = tabled_is m f l (record { size = n; at = e })

flat_one : (f : ℕ → List ℕ) (x : ℕ) → flat_map f (x ∷ []) ≡ f x
unfolding flat_map
flat_one f x = append-nil (f x)

tab_none : (h : ℕ → ℕ) → [] ≡ tab 0 h
unfolding tab range
tab_none h = refl

flat_tab : (f : ℕ → List ℕ) (w : ℕ) (h : ℕ → ℕ) (m : ℕ) → ((i : ℕ) → i < m → length (f i) ≡ w)
    → ((i e : ℕ) → i < m → e < w → get_or (f i) e 0 ≡ h (w * i + e)) → flat_map f (range 0 m) ≡ tab (w * m) h
unfolding flat_map range
flat_tab f w h zero l e = let z : w * 0 ≡ 0 = omega arith in rw z (tab_none h)
flat_tab f w h (suc m) l e =
    let z : w * suc m ≡ w * m + w = omega arith in
    let y : 0 + m ≡ m = omega arith in
    ap (flat_map f) (range_snoc 0 m) ∙ flat_append f (range 0 m) ((0 + m) ∷ []) ∙ ap (λ (r : List ℕ). flat_map f (range 0 m) ++ r)
    (flat_one f (0 + m) ∙ ap f y)
    ∙ ap₂ ◌++◌ (flat_tab f w h m (λ i a. l i (omega arith)) (λ i k a b. e i k (omega arith) b))
    (tab_list w (λ k. h (w * m + k)) (f m) (l m (omega arith)) (λ k a. e m k (omega arith) a))
    ∙ sym (ap (λ (k : ℕ). tab k h) z ∙ tab_add (w * m) w h)

hold_beyond : (cols : List ℕ) (m p c : ℕ) → m ≤ c → holdb cols m p c ≡ false
unfolding holdb
hold_beyond cols m p c h = rw (le-ltb c m h)

ten_tabs : (f : ℕ → ℕ) → tab columns_length f
    ≡ tab most_cells (λ i. f (most_cells * 0 + i)) ++ tab most_cells (λ i. f (most_cells * 1 + i))
    ++ tab most_cells (λ i. f (most_cells * 2 + i)) ++ tab most_cells (λ i. f (most_cells * 3 + i))
    ++ tab most_cells (λ i. f (most_cells * 4 + i)) ++ tab most_cells (λ i. f (most_cells * 5 + i))
    ++ tab most_cells (λ i. f (most_cells * 6 + i)) ++ tab most_cells (λ i. f (most_cells * 7 + i))
    ++ tab most_cells (λ i. f (most_cells * 8 + i)) ++ tab most_cells (λ i. f (most_cells * 9 + i))
ten_tabs f =
    tab_add (9 * most_cells) most_cells f
    ∙ ap (λ (l : List ℕ). l ++ tab most_cells (λ i. f (most_cells * 9 + i))) (tab_add (8 * most_cells) most_cells f
    ∙ ap (λ (l : List ℕ). l ++ tab most_cells (λ i. f (most_cells * 8 + i))) (tab_add (7 * most_cells) most_cells f
    ∙ ap (λ (l : List ℕ). l ++ tab most_cells (λ i. f (most_cells * 7 + i))) (tab_add (6 * most_cells) most_cells f
    ∙ ap (λ (l : List ℕ). l ++ tab most_cells (λ i. f (most_cells * 6 + i))) (tab_add (5 * most_cells) most_cells f
    ∙ ap (λ (l : List ℕ). l ++ tab most_cells (λ i. f (most_cells * 5 + i))) (tab_add (4 * most_cells) most_cells f
    ∙ ap (λ (l : List ℕ). l ++ tab most_cells (λ i. f (most_cells * 4 + i))) (tab_add (3 * most_cells) most_cells f
    ∙ ap (λ (l : List ℕ). l ++ tab most_cells (λ i. f (most_cells * 3 + i))) (tab_add (2 * most_cells) most_cells f
    ∙ ap (λ (l : List ℕ). l ++ tab most_cells (λ i. f (most_cells * 2 + i))) (tab_add most_cells most_cells f
    ∙ ap (λ (l : List ℕ). l ++ tab most_cells (λ i. f (most_cells * 1 + i)))
    (tab_same most_cells f (λ i. f (most_cells * 0 + i)) (λ i h. let z : i ≡ most_cells * 0 + i = omega arith in ap f z))))))))))

ten_join : (a b c d e f g h i j a' b' c' d' e' f' g' h' i' j' : List ℕ) → a ≡ a' → b ≡ b' → c ≡ c' → d ≡ d' → e ≡ e' → f ≡ f' → g ≡ g'
    → h ≡ h' → i ≡ i' → j ≡ j' → a ++ b ++ c ++ d ++ e ++ f ++ g ++ h ++ i ++ j ≡ a' ++ b' ++ c' ++ d' ++ e' ++ f' ++ g' ++ h' ++ i' ++ j'
ten_join a b c d e f g h i j a' b' c' d' e' f' g' h' i' j' p q r s t u v w x y = rw (p, q, r, s, t, u, v, w, x, y)

four-length : (n : ℕ) (qs : List (List ℕ)) (ss : List ℕ) (P : ℕ) (os : List ℕ) (p : ℕ) → Fours qs → (i : ℕ)
    → length (four_of n qs ss P os p i) ≡ 4
unfolding four_of
four-length n qs ss P os p q i = go (ltb i (length qs)) refl (masterb os p i)
  where
    go : (a : Bool) → ltb i (length qs) ≡ a → (b : Bool) → length {A = ℕ} (elim (a && b) [
      | true ↦ get_or qs i []
      | false ↦ replicate 4 0
    ]) ≡ 4
    go true d true = q i (ltb-true i (length qs) d)
    go true d false = refl
    go false d b = refl

six_at : (f : ℕ → ℕ) (e : ℕ) → e < 6 → get_or (map f edge_numbers) e 0 ≡ f e
six_at f zero h = refl
six_at f (suc zero) h = refl
six_at f (suc (suc zero)) h = refl
six_at f (suc (suc (suc zero))) h = refl
six_at f (suc (suc (suc (suc zero)))) h = refl
six_at f (suc (suc (suc (suc (suc zero))))) h = refl
six_at f (suc (suc (suc (suc (suc (suc e)))))) h = absurd (omega arith)

zeros_is : (k : ℕ) → zeros k ≡ replicate k 0
unfolding zeros
zeros_is k = refl

tab_is : (k : ℕ) (f : ℕ → ℕ) → tab k f ≡ map f (range 0 k)
unfolding tab
tab_is k f = refl

head_is : (p P n q m l q' m' l' : ℕ) → q ≡ q' → m ≡ m' → l ≡ l' → head_by p P n q m l ≡ 0 ∷ p ∷ P ∷ n ∷ q' ∷ m' ∷ l' ∷ replicate 9 0
unfolding head_by
head_is p P n q m l q' m' l' e f g = rw (e, f, g)

regroup : (h a b z c0 c1 c2 c3 c4 c5 c6 c7 c8 c9 y k s w v : List ℕ)
    → h ++ a ++ b ++ z ++ c0 ++ c1 ++ c2 ++ c3 ++ c4 ++ c5 ++ c6 ++ c7 ++ c8 ++ c9 ++ y ++ k ++ s ++ w ++ v
    ≡ ((h ++ a ++ b ++ z) ++ ((c0 ++ c1 ++ c2 ++ c3 ++ c4 ++ c5 ++ c6 ++ c7 ++ c8 ++ c9) ++ y ++ k)) ++ (s ++ w ++ v)
regroup h a b z c0 c1 c2 c3 c4 c5 c6 c7 c8 c9 y k s w v = simp append_assoc

same_regions : (h a b z c y k s w v h' a' b' z' c' y' k' s' w' v' : List ℕ) → h ≡ h' → a ≡ a' → b ≡ b' → z ≡ z' → c ≡ c' → y ≡ y' → k ≡ k'
    → s ≡ s' → w ≡ w' → v ≡ v'
    → ((h ++ a ++ b ++ z) ++ (c ++ y ++ k)) ++ (s ++ w ++ v) ≡ ((h' ++ a' ++ b' ++ z') ++ (c' ++ y' ++ k')) ++ (s' ++ w' ++ v')
same_regions h a b z c y k s w v h' a' b' z' c' y' k' s' w' v' p₁ p₂ p₃ p₄ p₅ p₆ p₇ p₈ p₉ p₀ = rw (p₁, p₂, p₃, p₄, p₅, p₆, p₇, p₈, p₉, p₀)

any_same : (f h : ℕ → Bool) (k m : ℕ) → ((c : ℕ) → k ≤ c → c < k + m → f c ≡ h c) → anyb f (range k m) ≡ anyb h (range k m)
unfolding anyb range
any_same f h k zero e = refl
any_same f h k (suc m) e =
    ap₂ ◌||◌ (e k (omega arith) (omega arith)) (any_same f h (suc k) m (λ c a b. e c (omega arith) (omega arith)))

any_six : (f h : ℕ → Bool) → ((e : ℕ) → e < 6 → f e ≡ h e) → anyb f edge_numbers ≡ anyb h edge_numbers
unfolding anyb
any_six f h e =
    rw (e 0 (omega arith), e 1 (omega arith), e 2 (omega arith), e 3 (omega arith), e 4 (omega arith), e 5 (omega arith))

map-all : (f h : ℕ → Bool) (l : List ℕ) → ((x : ℕ) → f x ≡ h x) → map f l ≡ map h l
map-all f h [] e = refl
map-all f h (x ∷ l) e = ap₂ ◌∷◌ (e x) (map-all f h l e)

fours_at : (ts : List ℕ) (i e : ℕ) → i < length (fours ts) → e < 4 → get_or (get_or (fours ts) i []) e 0 ≡ get_or ts (4 * i + e) 0
unfolding fours
fours_at [] i e h k = absurd (omega arith)
fours_at (a ∷ []) i e h k = absurd (omega arith)
fours_at (a ∷ b ∷ []) i e h k = absurd (omega arith)
fours_at (a ∷ b ∷ c ∷ []) i e h k = absurd (omega arith)
fours_at (a ∷ b ∷ c ∷ d ∷ l) zero zero h k = refl
fours_at (a ∷ b ∷ c ∷ d ∷ l) zero (suc zero) h k = refl
fours_at (a ∷ b ∷ c ∷ d ∷ l) zero (suc (suc zero)) h k = refl
fours_at (a ∷ b ∷ c ∷ d ∷ l) zero (suc (suc (suc zero))) h k = refl
fours_at (a ∷ b ∷ c ∷ d ∷ l) zero (suc (suc (suc (suc e)))) h k = absurd (omega arith)
fours_at (a ∷ b ∷ c ∷ d ∷ l) (suc i) e h k =
    let z : 4 * suc i + e ≡ suc (suc (suc (suc (4 * i + e)))) = omega arith in
    fours_at l i e (omega arith) k ∙ sym (ap (λ (j : ℕ). get_or (a ∷ b ∷ c ∷ d ∷ l) j 0) z)

module _ (n : ℕ) (ts ss t ks : List ℕ) (g : Table n (fours ts) ss t ks) (few : length ss ≤ most_cells)
    (small : length (fours ts) ≤ most_coarse_cells)
    (fs : List ℕ) (first : (k : ℕ) → k < firsts_length → get_or fs k 0 ≡ cells_below n (fours ts) ss k) (fs_long : length fs ≡ firsts_length)
    (sl st : List ℕ)
    (w : Slotted t fs sl st) (st_long : length st ≡ firsts_length) (os : List ℕ) (cols : List ℕ)
    (a : Filled t ss ks os (length ss) cols) where
  abbrev qs : List (List ℕ)
  qs = fours ts

  abbrev m : ℕ
  m = length ss

  owner_at : (c : ℕ) → c < length ss → get_or cols c 0 ≡ get_or os c 0
  unfolding ten_of
  owner_at c h = let z : most_cells * 0 + c ≡ c = omega arith in rw z at (a.at c 0 h (omega arith))

  family_at : (c : ℕ) → c < length ss → get_or cols (most_cells + c) 0 ≡ family_of n qs ss os c
  unfolding ten_of
  family_at c h = a.at c 1 h (omega arith) ∙ family_is n qs ss t ks g os c h

  coarse_in : length qs ≤ length ss
  coarse_in = coarse_few n qs ss t ks g

  module _ (P p : ℕ) where
    hold_is : (c : ℕ) → c < length ss → holdb cols m p c ≡ holds_cell n qs ss os p c
    unfolding holdb holds_cell masterb
    hold_is c h =
        rw (lt-ltb c (length ss) h) (ap₂ (λ (x y : ℕ). eqb x p || eqb y p) (owner_at c h) (family_at c h))

    hold_all : (c : ℕ) → holdb cols m p c ≡ (ltb c (length ss) && holds_cell n qs ss os p c)
    hold_all c =
        elim (dec_lt c (length ss)) [
          | yes h ↦ hold_is c h ∙ sym (ap (λ (b : Bool). b && holds_cell n qs ss os p c) (lt-ltb c (length ss) h))
          | no h ↦ beyond c (omega arith) ∙ sym (ap (λ (b : Bool). b && holds_cell n qs ss os p c) (le-ltb c (length ss) (omega arith)))
        ]
      where
        beyond : (c : ℕ) → length ss ≤ c → holdb cols m p c ≡ false
        beyond c h = hold_beyond cols m p c h

    -- v where the part has the cell
    picked : (c x y : ℕ) → (c < length ss → x ≡ y)
        → ◌≡◌ {A = ℕ} (elim (holdb cols m p c) [ true ↦ x | false ↦ 0 ])
        (elim (ltb c (length ss) && holds_cell n qs ss os p c) [ true ↦ y | false ↦ 0 ])
    picked c x y e =
        elim (dec_lt c (length ss)) [
          | yes h ↦ ap₂ (λ (b : Bool) (z : ℕ). elim b [ true ↦ z | false ↦ 0 ]) (hold_all c) (e h)
          | no h ↦
              let z : ltb c (length ss) ≡ false = le-ltb c (length ss) (omega arith) in
              ap (λ (b : Bool). elim b [ true ↦ x | false ↦ 0 ]) (hold_all c ∙ ap (λ (b : Bool). b && holds_cell n qs ss os p c) z)
              ∙ sym (ap (λ (b : Bool). elim (b && holds_cell n qs ss os p c) [ true ↦ y | false ↦ 0 ]) z)
        ]

    -- the columns
    by_cell_lem : (f : ℕ → ℕ) → by_cell n qs ss P os p f ≡ tab most_cells (if_held n qs ss os p f)
    unfolding by_cell tab if_held
    by_cell_lem f = refl

    column_is : (j : ℕ) (f : ℕ → ℕ) → j < 10 → ((c : ℕ) → c < length ss → get_or (ten_of t ss ks os c) j 0 ≡ f c)
        → tab most_cells (λ i. column_by cols m p (most_cells * j + i)) ≡ by_cell n qs ss P os p f
    unfolding pick_by if_held
    column_is j f h e =
        tab_same most_cells (λ i. column_by cols m p (most_cells * j + i)) (if_held n qs ss os p f)
        (λ i l.
        let z : (most_cells * j + i) % most_cells ≡ i = omega arith in
        ap (λ (c : ℕ). elim (holdb cols m p c) [ true ↦ get_or cols (most_cells * j + i) 0 | false ↦ 0 ]) z
        ∙ picked i (get_or cols (most_cells * j + i) 0) (f i) (λ k. a.at i j k h ∙ e i k))
        ∙ sym (by_cell_lem f)

    abbrev column : (ℕ → ℕ) → List ℕ
    column f = by_cell n qs ss P os p f

    columns_are : tab columns_length (column_by cols m p)
        ≡ column (λ c. get_or os c 0) ++ column (family_of n qs ss os) ++ column (λ c. get_or ss c 0)
        ++ column (λ c. one_if (nth_cell n qs ss c).regular) ++ column (first_child (length qs) ss)
        ++ column (λ c. (nth_cell n qs ss c).parent)
        ++ column (λ c. (place_of (nth_cell n qs ss c).path).head) ++ column (λ c. (place_of (nth_cell n qs ss c).path).digits)
        ++ column (λ c. (place_of (nth_cell n qs ss c).path).more) ++ column (inner_bits n qs ss)
    unfolding ten_of
    columns_are =
        ten_tabs (column_by cols m p)
        ∙ ten_join _ _ _ _ _ _ _ _ _ _ _ _ _ _ _ _ _ _ _ _
        (column_is 0 (λ c. get_or os c 0) (omega arith) (λ c h. refl))
        (column_is 1 (family_of n qs ss os) (omega arith) (λ c h. family_is n qs ss t ks g os c h))
        (column_is 2 (λ c. get_or ss c 0) (omega arith) (λ c h. refl))
        (column_is 3 (λ c. one_if (nth_cell n qs ss c).regular) (omega arith) (λ c h. regular_is n qs ss t ks g c h))
        (column_is 4 (first_child (length qs) ss) (omega arith) (λ c h. g.kids c (omega arith)))
        (column_is 5 (λ c. (nth_cell n qs ss c).parent) (omega arith) (λ c h. parent_is n qs ss t ks g c h))
        (column_is 6 (λ c. (place_of (nth_cell n qs ss c).path).head) (omega arith) (λ c h. ap (λ (q : Place). q.head) (place_is n qs ss
        t ks g c h)))
        (column_is 7 (λ c. (place_of (nth_cell n qs ss c).path).digits) (omega arith) (λ c h. ap (λ (q : Place). q.digits) (place_is n
        qs ss t ks g c h)))
        (column_is 8 (λ c. (place_of (nth_cell n qs ss c).path).more) (omega arith) (λ c h. ap (λ (q : Place). q.more) (place_is n qs ss
        t ks g c h)))
        (column_is 9 (inner_bits n qs ss) (omega arith) (λ c h. inner_is n qs ss t ks g c h))

    -- the corners of coarse masters
    corner_is : (i e : ℕ) → e < 4 → get_or (four_of n qs ss P os p i) e 0 ≡ corner_by cols ts p (4 * i + e)
    unfolding four_of corner_by masterb
    corner_is i e k = go (dec_lt i (length qs))
      where
        x : (4 * i + e) / 4 ≡ i
        x = omega arith

        left : Bool → ℕ
        left b = get_or {A = ℕ} (elim b [ true ↦ get_or qs i [] | false ↦ replicate 4 0 ]) e 0

        right : Bool → ℕ
        right b = elim b [ true ↦ get_or ts (4 * i + e) 0 | false ↦ 0 ]

        go : Dec (i < length qs) → get_or (four_of n qs ss P os p i) e 0 ≡ corner_by cols ts p (4 * i + e)
        go (yes h) =
            let y : ltb ((4 * i + e) / 4) (length ts / 4) ≡ true = lt-ltb ((4 * i + e) / 4) (length ts / 4) (omega (
              arith,
              length-fours
                  ts,
            )) in
            let z : eqb (get_or cols ((4 * i + e) / 4) 0) p ≡ eqb (get_or os i 0) p =
            ap (λ (c : ℕ). eqb (get_or cols c 0) p) x ∙ ap (λ (o : ℕ). eqb o p) (owner_at i (omega (arith, coarse_in))) in
            ap (λ (b : Bool). left (b && eqb (get_or os i 0) p)) (lt-ltb i (length qs) h) ∙ own (eqb (get_or os i 0) p)
            ∙ sym (ap₂ (λ (b d : Bool). right (b && d)) y z)
          where
            own : (b : Bool) → left b ≡ right b
            own true = fours_at ts i e h k
            own false = get_or-replicate 4 e 0 0 k
        go (no h) =
            let y : ltb ((4 * i + e) / 4) (length ts / 4) ≡ false = le-ltb ((4 * i + e) / 4) (length ts / 4) (omega (
              arith,
              length-fours ts,
            )) in
            ap (λ (b : Bool). left (b && eqb (get_or os i 0) p)) (le-ltb i (length qs) (omega arith)) ∙ get_or-replicate 4 e 0 0 k
            ∙ sym (ap (λ (b : Bool). right (b && eqb (get_or cols ((4 * i + e) / 4) 0) p)) y)

    corners_are : tab full_coarse (corner_by cols ts p) ≡ flat_map (four_of n qs ss P os p) (range 0 most_coarse_cells)
    corners_are =
        sym (flat_tab (four_of n qs ss P os p) 4 (corner_by cols ts p) most_coarse_cells (λ i h. four-length n qs ss P os p (fours_long ts) i)
        (λ i e h k. corner_is i e k))

    -- the slots
    six_is : (c e : ℕ) → e < 6 → get_or (six_of n qs ss P os p c) e 0 ≡ slot_by cols m p sl (6 * c + e)
    unfolding six_of pick_by
    six_is c e k =
        let z : (6 * c + e) / 6 ≡ c = omega arith in
        own (ltb c (length ss) && holds_cell n qs ss os p c)
        ∙ sym (picked c (get_or sl (6 * c + e) 0) (slot_of n qs ss c e)
        (λ h. slot_is n qs ss t ks g fs first sl st w c e h k))
        ∙ ap (λ (d : ℕ). elim (holdb cols m p d) [ true ↦ get_or sl (6 * c + e) 0 | false ↦ 0 ]) (sym z)
      where
        own : (b : Bool) → ◌≡◌ {A = ℕ} (get_or {A = ℕ} (elim b [ true ↦ map (slot_of n qs ss c) edge_numbers | false ↦ replicate 6 0 ]) e 0)
            (elim b [ true ↦ slot_of n qs ss c e | false ↦ 0 ])
        own true = six_at (slot_of n qs ss c) e k
        own false = get_or-replicate 6 e 0 0 k

    six-length : (c : ℕ) → length (six_of n qs ss P os p c) ≡ 6
    unfolding six_of
    six-length c = go (ltb c (length ss) && holds_cell n qs ss os p c)
      where
        go : (b : Bool) → length {A = ℕ} (elim b [ true ↦ map (slot_of n qs ss c) edge_numbers | false ↦ replicate 6 0 ]) ≡ 6
        go true = refl
        go false = refl

    sixes_are : tab most_slots (slot_by cols m p sl) ≡ flat_map (six_of n qs ss P os p) (range 0 most_cells)
    sixes_are = sym (flat_tab (six_of n qs ss P os p) 6 (slot_by cols m p sl) most_cells (λ c h. six-length c) (λ c e h k. six_is c e k))

  -- the holders of slots
  mark_is : (q s : ℕ) → held_slotb cols m q sl s ≡ holds_slot n qs ss os q s
  unfolding held_slot_to holds_slot
  mark_is q s =
      any_same (λ c. holdb cols m q c && anyb (λ e. eqb (get_or sl (6 * c + e) 0) s) edge_numbers)
      (λ c. holds_cell n qs ss os q c && anyb (λ e. eqb (slot_of n qs ss c e) s) edge_numbers) 0 (length ss)
      (λ c u v.
      let h : c < length ss = omega arith in
      ap₂ ◌&&◌ (hold_is 0 q c h)
      (any_six (λ e. eqb (get_or sl (6 * c + e) 0) s) (λ e. eqb (slot_of n qs ss c e) s)
      (λ e k. ap (λ (x : ℕ). eqb x s) (slot_is n qs ss t ks g fs first sl st w c e h k))))

  mask_is : (s : ℕ) → mask_by cols m sl s ≡ holders_of n qs ss os s
  unfolding mask_from holders_of
  mask_is s = ap bits_of (map-all (λ q. held_slotb cols m q sl s) (λ q. holds_slot n qs ss os q s) (range 1 most_parts) (λ q. mark_is q s))

  module _ (ms : List ℕ) (masks : Tabled most_slots (mask_by cols m sl) ms) (P p : ℕ) where
    holder_is : (s : ℕ) → s < most_slots → holder_by cols m p sl ms s ≡ holders_at n qs ss P os p s
    unfolding holder_to holders_at
    holder_is s h =
        ap₂ (λ (b : Bool) (x : ℕ). elim b [ true ↦ x | false ↦ 0 ]) (mark_is p s) (masks.at s h ∙ mask_is s)

    holders_are : tab most_slots (holder_by cols m p sl ms) ≡ tab most_slots (holders_at n qs ss P os p)
    holders_are = tab_same most_slots (holder_by cols m p sl ms) (holders_at n qs ss P os p) holder_is

    opened : part_store n qs ss P os p
        ≡ (((0 ∷ p ∷ P ∷ n ∷ length qs ∷ length ss ∷ length (levels_of n qs ss) ∷ replicate 9 0) ++ map (cells_below n qs ss)
        (range 0 firsts_length)
        ++ map (slots_below n qs ss) (range 0 firsts_length) ++ replicate free_length 0)
        ++ ((column P p (λ c. get_or os c 0) ++ column P p (family_of n qs ss os) ++ column P p (λ c. get_or ss c 0)
        ++ column P p (λ c. one_if (nth_cell n qs ss c).regular) ++ column P p (first_child (length qs) ss)
        ++ column P p (λ c. (nth_cell n qs ss c).parent)
        ++ column P p (λ c. (place_of (nth_cell n qs ss c).path).head) ++ column P p (λ c. (place_of (nth_cell n qs ss c).path).digits)
        ++ column P p (λ c. (place_of (nth_cell n qs ss c).path).more) ++ column P p (inner_bits n qs ss)) ++ replicate flags_length 0
        ++ flat_map (four_of n qs ss P os p) (range 0 most_coarse_cells)))
        ++ (flat_map (six_of n qs ss P os p) (range 0 most_cells) ++ map (holders_at n qs ss P os p)
        (range 0 most_slots) ++ replicate most_slots 0)
    unfolding part_store
    opened =
        regroup (0 ∷ p ∷ P ∷ n ∷ length qs ∷ length ss ∷ length (levels_of n qs ss) ∷ replicate 9 0) (map (cells_below n qs ss) (range 0
        firsts_length))
        (map (slots_below n qs ss) (range 0 firsts_length)) (replicate free_length 0) (column P p (λ c. get_or os c 0))
        (column P p (family_of n qs ss os))
        (column P p (λ c. get_or ss c 0)) (column P p (λ c. one_if (nth_cell n qs ss c).regular)) (column P p (first_child (length qs) ss))
        (column P p (λ c. (nth_cell n qs ss c).parent)) (column P p (λ c. (place_of (nth_cell n qs ss c).path).head))
        (column P p (λ c. (place_of (nth_cell n qs ss c).path).digits)) (column P p (λ c. (place_of (nth_cell n qs ss c).path).more))
        (column P p (inner_bits n qs ss)) (replicate flags_length 0) (flat_map (four_of n qs ss P os p) (range 0 most_coarse_cells))
        (flat_map (six_of n qs ss P os p) (range 0 most_cells)) (map (holders_at n qs ss P os p) (range 0 most_slots)) (replicate most_slots 0)

    pub regions_are : (l : ℕ) → l ≡ length (levels_of n qs ss) → regions cols ts sl ms fs st m p P n l ≡ part_store n qs ss P os p
    unfolding regions
    regions_are l e =
        same_regions (head_by p P n (length ts / 4) m l) fs st (zeros free_length) (tab columns_length (column_by cols m p)) (zeros flags_length)
        (tab full_coarse (corner_by cols ts p)) (tab most_slots (slot_by cols m p sl)) (tab most_slots (holder_by cols m p sl ms))
        (zeros most_slots)
        (0 ∷ p ∷ P ∷ n ∷ length qs ∷ length ss ∷ length (levels_of n qs ss) ∷ replicate 9 0)
        (map (cells_below n qs ss) (range 0 firsts_length))
        (map (slots_below n qs ss) (range 0 firsts_length)) (replicate free_length 0)
        (column P p (λ c. get_or os c 0) ++ column P p (family_of n qs ss os) ++ column P p (λ c. get_or ss c 0)
        ++ column P p (λ c. one_if (nth_cell n qs ss c).regular) ++ column P p (first_child (length qs) ss)
        ++ column P p (λ c. (nth_cell n qs ss c).parent)
        ++ column P p (λ c. (place_of (nth_cell n qs ss c).path).head) ++ column P p (λ c. (place_of (nth_cell n qs ss c).path).digits)
        ++ column P p (λ c. (place_of (nth_cell n qs ss c).path).more) ++ column P p (inner_bits n qs ss)) (replicate flags_length 0)
        (flat_map (four_of n qs ss P os p) (range 0 most_coarse_cells)) (flat_map (six_of n qs ss P os p) (range 0 most_cells))
        (map (holders_at n qs ss P os p) (range 0 most_slots)) (replicate most_slots 0)
        (head_is p P n (length ts / 4) m l (length qs) (length ss) (length (levels_of n qs ss)) (sym (length-fours ts)) refl e)
        (tab_list firsts_length (cells_below n qs ss) fs fs_long first ∙ tab_is firsts_length (cells_below n qs ss))
        (tab_list firsts_length (slots_below n qs ss) st st_long (starts_are n qs ss t ks g fs first sl st w)
        ∙ tab_is firsts_length (slots_below n qs ss))
        (zeros_is free_length) (columns_are P p) (zeros_is flags_length) (corners_are P p) (sixes_are P p)
        (holders_are ∙ tab_is most_slots (holders_at n qs ss P os p)) (zeros_is most_slots)
        ∙ sym opened
