-- Passes over the cells that a part holds.
-- Laws: hold_beyond, hold_own, hold_family (whether a cell is held), column_here, column_not, column_none, column_all (columns), six_here,
-- six_not, six_none, six_all, six_copied (slots), marked_start, marked_turn, mark_here, mark_not, mark_none (what is written at slots),
-- masks_none, masks_room, flags_room, masks_turn, ones_are (masks), corner_beyond, corner_other, corner_here (corners), head_is (the header).
use mathlib.Core.Path.{◌≡◌, refl, sym, ◌∙◌, ap, subst}
use mathlib.Core.Bool.{Bool, true, false, ◌&&◌, ◌||◌, or-false, or-true}
use mathlib.Core.List.{List, [], ◌∷◌, ◌++◌, map}
use Prim.Native.Nat.{ℕ, zero, suc, ◌+◌, ◌*◌, ◌-◌, ◌/◌, ◌%◌, ◌^◌, ◌≤◌, ◌<◌}
use native.Mathlib.Decide.{ℕ_discrete, dec_lt}
use native.Mathlib.Omega.{arith}
use lib.Dec.{T, eqb, ltb, leb, leb→le}
use lib.ListN.{length, get_or, take, drop, length-append, length-drop, set, replicate, length-set, length-map, length-replicate, get_or-replicate}
use lib.Seq.{get_or-set_same, get_or-set_other, length-take-le}
use Rattle.std.proofs.lemmas.List.{get_or-append_right, get_or_append_left, get_or-take, get_or-drop}
use borrow.Rule.Slice.PartMut.{put_mid}
use borrow.Author.Tests.{eq-eqb, ne_eqb, lt-ltb, le-ltb}
use Rattle.base.specs.Bools.{one_if, one_most}
use Rattle.base.specs.Limits.{most_cells, most_parts, most_slots}
use Rattle.base.specs.Lists.{anyb, belowb, belowb_at}
use Rattle.base.specs.Range.{range, length-range, range_snoc}
use Rattle.mesh.specs.Cells.{bits_of}
use Rattle.mesh.specs.Layout.{edge_numbers}
use Rattle.mesh.specs.Laws.{edges_more}
use Rattle.store.specs.Fields.{columns_length, FIRST_CELL}
use Rattle.filling.specs.Regions.{Tabled, holdb, pick_by, pick_to, in_column, in_six, column_to, column_by, slot_to, slot_by, held_slot_to}
use Rattle.filling.specs.Regions.{holder_to, zeros, held_slotb, holder_by, mask_from, corner_by, head_by}
use Rattle.filling.specs.Passes.{Column, Six, six_haveb, Masked, AllBelow, Doubled}

module _ (cols : List ℕ) (m p c : ℕ) where
  pub hold_beyond : m ≤ c → false ≡ holdb cols m p c
  unfolding holdb
  hold_beyond h = rw (le-ltb c m h)

  pub hold_own : c < m → get_or cols c 0 ≡ p → true ≡ holdb cols m p c
  unfolding holdb
  hold_own h e = rw (lt-ltb c m h, eq-eqb (get_or cols c 0) p e)

  pub hold_family : c < m → (get_or cols c 0 ≡ p → ⊥) → eqb (get_or cols (most_cells + c) 0) p ≡ holdb cols m p c
  unfolding holdb
  hold_family h e = rw (lt-ltb c m h, ne_eqb (get_or cols c 0) p e)

  hold_there : holdb cols m p c ≡ (ltb c m && holdb cols m p c)
  unfolding holdb
  hold_there = go (ltb c m)
    where
      go : (b : Bool) → (b && (eqb (get_or cols c 0) p || eqb (get_or cols (most_cells + c) 0) p))
          ≡ (b && (b && (eqb (get_or cols c 0) p || eqb (get_or cols (most_cells + c) 0) p)))
      go true = refl
      go false = refl

-- one cell more, for any region
ltb_more : (k c : ℕ) → (k ≡ c → ⊥) → ltb k (suc c) ≡ ltb k c
ltb_more k c n =
    elim (dec_lt k c) [
      | yes h ↦ lt-ltb k (suc c) (omega arith) ∙ sym (lt-ltb k c h)
      | no h ↦ le-ltb k (suc c) (omega (arith, n)) ∙ sym (le-ltb k c (omega arith))
    ]

module _ (κ : ℕ → ℕ) (h : ℕ → Bool) (v : ℕ → ℕ) where
  pick_other : (c i : ℕ) → (κ i ≡ c → ⊥) → pick_to κ h v (suc c) i ≡ pick_to κ h v c i
  unfolding pick_to
  pick_other c i n = ap (λ (b : Bool). elim (b && h (κ i)) [ true ↦ v i | false ↦ 0 ]) (ltb_more (κ i) c n)

  pick_new : (c i : ℕ) → κ i ≡ c → h c ≡ true → pick_to κ h v (suc c) i ≡ v i
  unfolding pick_to
  pick_new c i e t = rw (e, lt-ltb c (suc c) (omega arith), t, pick_to)

  pick_not : (c i : ℕ) → κ i ≡ c → h c ≡ false → pick_to κ h v (suc c) i ≡ pick_to κ h v c i
  unfolding pick_to
  pick_not c i e t = rw (e, lt-ltb c (suc c) (omega arith), le-ltb c c (omega arith), t, pick_to)

  module _ (k c : ℕ) (x : List ℕ) (a : Tabled k (pick_to κ h v c) x) where
    each_here : h c ≡ true → (y : List ℕ) → length y ≡ length x
        → ((i : ℕ) → i < k → κ i ≡ c → get_or y i 0 ≡ v i)
        → ((i : ℕ) → i < k → (κ i ≡ c → ⊥) → get_or y i 0 ≡ get_or x i 0)
        → Tabled k (pick_to κ h v (suc c)) y
    each_here t y l new old =
        record {
          size = l ∙ a.size;
          at = λ i g.
              elim (ℕ_discrete (κ i) c) [
                | yes e ↦ new i g e ∙ sym (pick_new c i e t)
                | no n ↦ old i g n ∙ a.at i g ∙ sym (pick_other c i n)
              ];
        }

    each_not : h c ≡ false → Tabled k (pick_to κ h v (suc c)) x
    each_not t =
        record {
          size = a.size;
          at = λ i g.
              elim (ℕ_discrete (κ i) c) [
                | yes e ↦ a.at i g ∙ sym (pick_not c i e t)
                | no n ↦ a.at i g ∙ sym (pick_other c i n)
              ];
        }

  each_none : (k : ℕ) → Tabled k (pick_to κ h v 0) (zeros k)
  unfolding pick_to zeros
  each_none k =
      record { size = length-replicate k 0; at = λ i g. get_or-replicate k i 0 0 g ∙ sym (rw (le-ltb (κ i) 0 (omega arith), pick_to)) }

  each_all : (k m : ℕ) (x : List ℕ) → ((c : ℕ) → h c ≡ (ltb c m && h c)) → Tabled k (pick_to κ h v m) x → Tabled k (pick_by κ h v) x
  unfolding pick_by pick_to
  each_all k m x e a =
      record {
        size = a.size;
        at = λ i g. a.at i g ∙ ap (λ (b : Bool). elim b [ true ↦ v i | false ↦ 0 ]) (sym (e (κ i)));
      }

-- the ten numbers of a cell
module _ (cols : List ℕ) (m p : ℕ) where
  module _ (c : ℕ) (low : c < most_cells) (x : List ℕ) (a : Tabled columns_length (column_to cols m p c) x) where
    pub column_here : holdb cols m p c ≡ true → (y : List ℕ) → Column cols c 10 x y → Tabled columns_length (column_to cols m p (c + 1)) y
    column_here t y w =
        let z : c + 1 ≡ suc c = omega arith in
        rw z (each_here in_column (holdb cols m p) (λ i. get_or cols i 0) columns_length c x a t y w.size
        (λ i g e.
        let q : most_cells * (i / most_cells) + c ≡ i = omega arith in
        rw q at (w.here (i / most_cells) (omega arith)))
        (λ i g n. w.other i (λ k h e. n (omega (arith, e)))))

    pub column_not : holdb cols m p c ≡ false → Tabled columns_length (column_to cols m p (c + 1)) x
    column_not t =
        let z : c + 1 ≡ suc c = omega arith in
        rw z (each_not in_column (holdb cols m p) (λ i. get_or cols i 0) columns_length c x a t)

  pub column_none : Tabled columns_length (column_to cols m p 0) (zeros columns_length)
  column_none = each_none in_column (holdb cols m p) (λ i. get_or cols i 0) columns_length

  pub column_all : (x : List ℕ) → Tabled columns_length (column_to cols m p m) x → Tabled columns_length (column_by cols m p) x
  column_all x a = each_all in_column (holdb cols m p) (λ i. get_or cols i 0) columns_length m x (hold_there cols m p) a

-- the six slots of a cell
module _ (cols : List ℕ) (m p : ℕ) (sl : List ℕ) where
  module _ (c : ℕ) (x : List ℕ) (a : Tabled most_slots (slot_to cols m p sl c) x) where
    pub six_here : holdb cols m p c ≡ true → (y : List ℕ) → Six sl c 6 x y → Tabled most_slots (slot_to cols m p sl (c + 1)) y
    six_here t y w =
        let z : c + 1 ≡ suc c = omega arith in
        rw z (each_here in_six (holdb cols m p) (λ j. get_or sl j 0) most_slots c x a t y w.size
        (λ j g e.
        let q : 6 * c + j % 6 ≡ j = omega arith in
        rw q at (w.here (j % 6) (omega arith)))
        (λ j g n. w.other j (λ k h e. n (omega (arith, e)))))

    pub six_not : holdb cols m p c ≡ false → Tabled most_slots (slot_to cols m p sl (c + 1)) x
    six_not t =
        let z : c + 1 ≡ suc c = omega arith in
        rw z (each_not in_six (holdb cols m p) (λ j. get_or sl j 0) most_slots c x a t)

  pub six_none : Tabled most_slots (slot_to cols m p sl 0) (zeros most_slots)
  six_none = each_none in_six (holdb cols m p) (λ j. get_or sl j 0) most_slots

  pub six_all : (x : List ℕ) → Tabled most_slots (slot_to cols m p sl m) x → Tabled most_slots (slot_by cols m p sl) x
  six_all x a = each_all in_six (holdb cols m p) (λ j. get_or sl j 0) most_slots m x (hold_there cols m p) a

-- six slots copied
pub six_copied : (sl : List ℕ) (c : ℕ) (x y : List ℕ) → length x ≡ most_slots → length sl ≡ most_slots → c < most_cells
    → y ≡ take (6 * c + 6 - 6 * c) (drop (6 * c) sl) → Six sl c 6 x (put_mid (6 * c) (6 * c + 6 - 6 * c) x y)
six_copied sl c x y long slots low e =
    let w : 6 * c + 6 - 6 * c ≡ 6 = omega arith in
    let q : y ≡ take 6 (drop (6 * c) sl) = rw w at e in
    let n : length y ≡ 6 = ap length q ∙ length-take-le 6 (drop (6 * c) sl) (simp length-drop (omega arith)) in
    let m : length (take (6 * c) x) ≡ 6 * c = length-take-le (6 * c) x (omega arith) in
    let rest = drop 6 (drop (6 * c) x) in
    rw w (record {
      size = simp (length-append, length-drop) (omega arith);
      here = λ i h.
          let z : 6 * c + i - 6 * c ≡ i = omega arith in
          get_or-append_right (take (6 * c) x) (y ++ rest) (6 * c) (6 * c + i) 0 m (omega arith)
          ∙ ap (λ (k : ℕ). get_or (y ++ rest) k 0) z ∙ get_or_append_left y rest 0 i (omega arith)
          ∙ ap (λ (l : List ℕ). get_or l i 0) q ∙ get_or-take 6 (drop (6 * c) sl) i 0 h ∙ get_or-drop (6 * c) sl i 0;
      other = λ k n'.
          elim (dec_lt k (6 * c)) [
            | yes h ↦ get_or_append_left (take (6 * c) x) (y ++ rest) 0 k (omega arith) ∙ get_or-take (6 * c) x k 0 h
            | no h ↦
                let far : 6 ≤ k - 6 * c = further k n' (omega arith) in
                let z : 6 * c + (6 + (k - 6 * c - 6)) ≡ k = omega arith in
                get_or-append_right (take (6 * c) x) (y ++ rest) (6 * c) k 0 m (omega arith)
                ∙ get_or-append_right y rest 6 (k - 6 * c) 0 n far
                ∙ get_or-drop 6 (drop (6 * c) x) (k - 6 * c - 6) 0 ∙ get_or-drop (6 * c) x (6 + (k - 6 * c - 6)) 0
                ∙ ap (λ (j : ℕ). get_or x j 0) z
          ];
    })
  where
    further : (k : ℕ) → ((i : ℕ) → i < 6 → k ≡ 6 * c + i → ⊥) → 6 * c ≤ k → 6 ≤ k - 6 * c
    further k n h =
        elim (dec_lt (k - 6 * c) 6) [
          | yes l ↦ absurd (n (k - 6 * c) l (omega arith))
          | no l ↦ omega arith
        ]

-- what stands at the six slots of a cell
any_snoc : (f : ℕ → Bool) (l : List ℕ) (x : ℕ) → anyb f (l ++ (x ∷ [])) ≡ (anyb f l || f x)
unfolding anyb
any_snoc f [] x = or-false (f x)
any_snoc f (y ∷ l) x = go (f y) (any_snoc f l x)
  where
    go : (b : Bool) → anyb f (l ++ (x ∷ [])) ≡ (anyb f l || f x) → (b || anyb f (l ++ (x ∷ []))) ≡ ((b || anyb f l) || f x)
    go true i = refl
    go false i = i

own_more : (sl : List ℕ) (c e s : ℕ) → e < 6 → six_haveb sl c (suc e) s ≡ (six_haveb sl c e s || eqb (get_or sl (6 * c + e) 0) s)
own_more sl c e s h =
    ap (anyb (λ i. eqb (get_or sl (6 * c + i) 0) s)) (edges_more e h)
    ∙ any_snoc (λ i. eqb (get_or sl (6 * c + i) 0) s) (take e edge_numbers) e

module _ (sl ms : List ℕ) (c : ℕ) (x : List ℕ) where
  pub marked_start : Masked sl ms c 0 x x
  unfolding anyb
  marked_start = record { size = refl; at = λ s h. refl }

  pub marked_turn : (e : ℕ) (y : List ℕ) → e < 6 → length x ≡ most_slots → get_or sl (6 * c + e) 0 < most_slots → Masked sl ms c e x y
      → Masked sl ms c (suc e) x (set y (get_or sl (6 * c + e) 0) (get_or ms (get_or sl (6 * c + e) 0) 0))
  marked_turn e y h long small w =
      let o = get_or sl (6 * c + e) 0 in
      record {
        size = length-set y o (get_or ms o 0) ∙ w.size;
        at = λ s g.
            elim (ℕ_discrete s (get_or sl (6 * c + e) 0)) [
              | yes q ↦
                  let t : six_haveb sl c (suc e) s ≡ true =
                  own_more sl c e s h ∙ ap (λ (b : Bool). six_haveb sl c e s || b) (eq-eqb o s (sym q)) ∙ or-true (six_haveb sl c e s) in
                  ap (λ (z : ℕ). get_or (set y o (get_or ms o 0)) z 0) q ∙ get_or-set_same y o (get_or ms o 0) 0 (omega (arith, w.size))
                  ∙ ap (λ (z : ℕ). get_or ms z 0) (sym q)
                  ∙ sym (ap (λ (b : Bool). elim b [ true ↦ get_or ms s 0 | false ↦ get_or x s 0 ]) t)
              | no n ↦
                  let t : six_haveb sl c (suc e) s ≡ six_haveb sl c e s =
                  own_more sl c e s h ∙ ap (λ (b : Bool). six_haveb sl c e s || b) (ne_eqb o s (λ z. n (sym z)))
                  ∙ or-false (six_haveb sl c e s) in
                  get_or-set_other y o s (get_or ms o 0) 0 n ∙ w.at s g
                  ∙ sym (ap (λ (b : Bool). elim b [ true ↦ get_or ms s 0 | false ↦ get_or x s 0 ]) t)
            ];
      }

module _ (cols : List ℕ) (m p : ℕ) (sl ms : List ℕ) where
  mark_more : (k s : ℕ) → held_slot_to cols m p sl (suc k) s ≡ (held_slot_to cols m p sl k s || (holdb cols m p k && six_haveb sl k 6 s))
  unfolding held_slot_to
  mark_more k s =
      let f : ℕ → Bool = λ c. holdb cols m p c && anyb (λ e. eqb (get_or sl (6 * c + e) 0) s) edge_numbers in
      let z : 0 + k ≡ k = omega arith in
      ap (anyb f) (range_snoc 0 k ∙ ap (λ (x : ℕ). range 0 k ++ (x ∷ [])) z) ∙ any_snoc f (range 0 k) k

  module _ (k : ℕ) (x : List ℕ) (a : Tabled most_slots (holder_to cols m p sl ms k) x) where
    pub mark_here : holdb cols m p k ≡ true → (y : List ℕ) → Masked sl ms k 6 x y → Tabled most_slots (holder_to cols m p sl ms (k + 1)) y
    unfolding holder_to
    mark_here t y w =
        let z : k + 1 ≡ suc k = omega arith in
        rw z (record {
          size = w.size ∙ a.size;
          at = λ s g.
              w.at s g
              ∙ go (held_slot_to cols m p sl k s) (six_haveb sl k 6 s) s (a.at s g)
              ∙ sym (ap (λ (b : Bool). elim b [ true ↦ get_or ms s 0 | false ↦ 0 ])
              (mark_more k s ∙ ap (λ (b : Bool). held_slot_to cols m p sl k s || (b && six_haveb sl k 6 s)) t));
        })
      where
        go : (b d : Bool) (s : ℕ) → get_or x s 0 ≡ elim b [ true ↦ get_or ms s 0 | false ↦ 0 ]
            → ◌≡◌ {A = ℕ} (elim d [ true ↦ get_or ms s 0 | false ↦ get_or x s 0 ]) (elim (b || d) [ true ↦ get_or ms s 0 | false ↦ 0 ])
        go true true s e = refl
        go true false s e = e
        go false true s e = refl
        go false false s e = e

    pub mark_not : holdb cols m p k ≡ false → Tabled most_slots (holder_to cols m p sl ms (k + 1)) x
    unfolding holder_to
    mark_not t =
        let z : k + 1 ≡ suc k = omega arith in
        rw z (record {
          size = a.size;
          at = λ s g.
              a.at s g
              ∙ sym (ap (λ (b : Bool). elim b [ true ↦ get_or ms s 0 | false ↦ 0 ])
              (mark_more k s ∙ ap (λ (b : Bool). held_slot_to cols m p sl k s || (b && six_haveb sl k 6 s)) t
              ∙ or-false (held_slot_to cols m p sl k s)));
        })

  pub mark_none : Tabled most_slots (holder_to cols m p sl ms 0) (zeros most_slots)
  unfolding zeros holder_to held_slot_to anyb range
  mark_none = record { size = length-replicate {A = ℕ} most_slots 0; at = λ s h. get_or-replicate most_slots s 0 0 h }

-- one bit more for each slot
powers : T (belowb (λ k. leb (2 ^ k) 32768) 16)
unfolding belowb
powers = tt

bits_below : (bs : List Bool) (k : ℕ) → length bs ≡ k → bits_of bs < 2 ^ k
unfolding bits_of
bits_below [] k e = rw (sym e) (omega arith)
bits_below (b ∷ bs) zero e = absurd (omega arith)
bits_below (b ∷ bs) (suc k) e = omega (arith, bits_below bs k (omega arith), one_most b)

module _ (cols : List ℕ) (m : ℕ) (sl : List ℕ) where
  mask_more : (p k s : ℕ) → mask_from cols m sl p (suc k) s ≡ one_if (held_slotb cols m p sl s) + 2 * mask_from cols m sl (suc p) k s
  unfolding mask_from range bits_of
  mask_more p k s = refl

  mask_below : (p k s : ℕ) → k ≤ 15 → mask_from cols m sl p k s < 32768
  unfolding mask_from
  mask_below p k s h =
      let l : length (map (λ q. held_slotb cols m q sl s) (range p k)) ≡ k =
      length-map (range p k) (λ q. held_slotb cols m q sl s) ∙ length-range p k in
      omega (
        arith,
        bits_below (map (λ q. held_slotb cols m q sl s) (range p k)) k l,
        leb→le (2 ^ k) 32768 (belowb_at (λ k. leb (2 ^ k) 32768) 16 powers k (omega arith)),
      )

  pub masks_none : (x : List ℕ) → x ≡ replicate most_slots 0 → Tabled most_slots (mask_from cols m sl 17 0) x
  unfolding mask_from range bits_of
  masks_none x e =
      rw e (record { size = length-replicate {A = ℕ} most_slots 0; at = λ s h. get_or-replicate most_slots s 0 0 h })

  pub masks_room : (p : ℕ) (x : List ℕ) → 0 < p → p ≤ most_parts → Tabled most_slots (mask_from cols m sl (p + 1) (most_parts - p)) x
      → AllBelow x 32768
  masks_room p x h l a = record { below = λ s g. rw (a.at s g) (mask_below (p + 1) (most_parts - p) s (omega arith)) }

  module _ (ones : List ℕ) (one : Tabled most_slots (λ s. 1) ones) (p : ℕ) (b : List ℕ)
      (f : Tabled most_slots (holder_by cols m p sl ones) b) where
    flag_is : (s : ℕ) → s < most_slots → get_or b s 0 ≡ one_if (held_slotb cols m p sl s)
    unfolding holder_to one_if
    flag_is s h = f.at s h ∙ go (held_slotb cols m p sl s)
      where
        go : (t : Bool) → ◌≡◌ {A = ℕ} (elim t [ true ↦ get_or ones s 0 | false ↦ 0 ]) (one_if t)
        go true = one.at s h
        go false = refl

    pub flags_room : AllBelow b 2
    flags_room = record { below = λ s h. omega (arith, flag_is s h, one_most (held_slotb cols m p sl s)) }

    pub masks_turn : 0 < p → p ≤ most_parts → (x y : List ℕ) → Tabled most_slots (mask_from cols m sl (p + 1) (most_parts - p)) x
        → Doubled most_slots x b y
        → Tabled most_slots (mask_from cols m sl (p - 1 + 1) (most_parts - (p - 1))) y
    masks_turn h l x y a d =
        let z : p - 1 + 1 ≡ p = omega arith in
        let w : most_parts - (p - 1) ≡ suc (most_parts - p) = omega arith in
        let v : p + 1 ≡ suc p = omega arith in
        rw (z, w) (record {
          size = d.size ∙ a.size;
          at = λ s g.
              d.done s g
              ∙ omega (
                arith,
                a.at s g,
                flag_is s g,
                mask_more p (most_parts - p) s,
                ap
                    (λ (q : ℕ). mask_from cols m sl q (most_parts - p) s) v,
              );
        })

-- corners of coarse masters
module _ (cols mesh : List ℕ) (p j : ℕ) where
  pub corner_beyond : length mesh / 4 ≤ j / 4 → 0 ≡ corner_by cols mesh p j
  unfolding corner_by
  corner_beyond h = rw (le-ltb (j / 4) (length mesh / 4) h, corner_by)

  pub corner_other : j / 4 < length mesh / 4 → (get_or cols (j / 4) 0 ≡ p → ⊥) → 0 ≡ corner_by cols mesh p j
  unfolding corner_by
  corner_other h n = rw (lt-ltb (j / 4) (length mesh / 4) h, ne_eqb (get_or cols (j / 4) 0) p n, corner_by)

  pub corner_here : j / 4 < length mesh / 4 → get_or cols (j / 4) 0 ≡ p → get_or mesh j 0 ≡ corner_by cols mesh p j
  unfolding corner_by
  corner_here h e = rw (lt-ltb (j / 4) (length mesh / 4) h, eq-eqb (get_or cols (j / 4) 0) p e, corner_by)

-- a region written number by number
pub record So (f : ℕ → ℕ) (i : ℕ) (x y : List ℕ) : Type 0 where
  pub size : length y ≡ length x
  pub at : (j : ℕ) → j < i → get_or y j 0 ≡ f j

pub head_is : (x : List ℕ) (p P n q m l : ℕ) → x ≡ replicate FIRST_CELL 0
    → set (set (set (set (set (set x 1 p) 2 P) 3 n) 4 q) 5 m) 6 l ≡ head_by p P n q m l
unfolding head_by
head_is x p P n q m l e = rw e

pub zeros_are : (x y : List ℕ) (k : ℕ) (P : List ℕ → Type 0) → y ≡ replicate (length x) 0 → length x ≡ k → P (zeros k) → P y
unfolding zeros
zeros_are x y k P e l a = subst P (sym (e ∙ ap (λ (n : ℕ). replicate n 0) l)) a

pub ones_are : Tabled most_slots (λ s. 1) (replicate most_slots 1)
ones_are = record { size = length-replicate {A = ℕ} most_slots 1; at = λ s h. get_or-replicate most_slots s 1 0 h }
