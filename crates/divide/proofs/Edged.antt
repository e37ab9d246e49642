-- The slots that the code writes are those of the table.
-- Laws: keys_are (the edges of a level), starts_are (the first slots), slot_is and slots_small (the slots).
use mathlib.Core.Path.{◌≡◌, refl, sym, ◌∙◌, ap, ap₂}
use mathlib.Core.List.{List, [], ◌∷◌, ◌++◌, map, flat_map}
use Prim.Native.Nat.{ℕ, zero, suc, ◌+◌, ◌-◌, ◌*◌, ◌/◌, ◌%◌, ◌≤◌, ◌<◌}
use native.Mathlib.Omega.{arith}
use lib.ListN.{length, get_or}
use Rattle.base.specs.Limits.{most_levels, most_slots}
use Rattle.mesh.specs.Laws.{below_six}
use Rattle.base.specs.Places.{place_in}
use Rattle.base.specs.Range.{range, member_range}
use Rattle.mesh.specs.Cells.{edge, edges}
use Rattle.edges.specs.Pairs.{Pair, sorted, isb, add_pairs}
use Rattle.rows.specs.Numbered.{cell_at}
use Rattle.soundness.specs.Sound.{Sound}
use Rattle.base.specs.Member.{Member}
use Rattle.store.specs.Fields.{firsts_length}
use Rattle.splitting.specs.Numbers.{numbers_of}
use Rattle.split.specs.Columns.{numbered_cell, cell_level, level_at, cells_below, keys_at, slots_below, slot_of}
use Rattle.tasks.specs.Levels.{below_more, below_all, level_gap, level_top}
use Rattle.tasks.specs.Edges.{slots_follow}
use Rattle.tasks.proofs.Edges.{slots_split}
use Rattle.tasks.specs.Sizes.{slots_none, slots_all}
use Rattle.slots.specs.Slots.{edge_at, keys_in, slots_to, Slotted}
use Rattle.filling.specs.Regions.{SmallSlots}
use Rattle.divide.proofs.Laid.{Table, s, at, edge_is, edges_are}

edge_at_lem : (t : List ℕ) (a e i : ℕ) → e < 6 → i ≡ 6 * a + e → edge_at t i ≡ edge 0 (cell_at t a) e
unfolding edge_at
edge_at_lem t a e i h q =
    let x : i / 6 ≡ a = omega arith in
    let y : i % 6 ≡ e = omega arith in
    ap₂ (λ (u v : ℕ). edge 0 (cell_at t u) v) x y

all_six : (t : List ℕ) (a : ℕ) (l : List Pair)
    → ◌≡◌ {A = List Pair} (edge 0 (cell_at t a) 0 ∷ edge 0 (cell_at t a) 1 ∷ edge 0 (cell_at t a) 2 ∷ edge 0 (cell_at t a) 3
    ∷ edge 0 (cell_at t a) 4 ∷ edge 0 (cell_at t a) 5 ∷ l) (edges 0 (cell_at t a) ++ l)
unfolding edges
all_six t a l = refl

six_edges : (t : List ℕ) (a m : ℕ) → map (edge_at t) (range (6 * a) (6 * m)) ≡ flat_map (λ c. edges 0 (cell_at t c)) (range a m)
unfolding range flat_map
six_edges t a zero = refl
six_edges t a (suc m) =
    let w : 6 * suc m ≡ suc (suc (suc (suc (suc (suc (6 * m)))))) = omega arith in
    let b : ℕ = 6 * a in
    let n : suc (suc (suc (suc (suc (suc (6 * a)))))) ≡ 6 * suc a = omega arith in
    ap (λ (k : ℕ). map (edge_at t) (range (6 * a) k)) w
    ∙ six (edge_at t (6 * a)) (edge_at t (suc (6 * a))) (edge_at t (suc (suc (6 * a)))) (edge_at t (suc (suc (suc (6 * a)))))
    (edge_at t (suc (suc (suc (suc (6 * a)))))) (edge_at t (suc (suc (suc (suc (suc (6 * a))))))) (edge 0 (cell_at t a) 0) (edge 0 (cell_at
    t a) 1)
    (edge 0 (cell_at t a) 2) (edge 0 (cell_at t a) 3) (edge 0 (cell_at t a) 4) (edge 0 (cell_at t a) 5)
    (edge_at_lem t a 0 (6 * a) (omega arith) (omega arith)) (edge_at_lem t a 1 (suc (6 * a)) (omega arith) (omega arith))
    (edge_at_lem t a 2 (suc (suc (6 * a))) (omega arith) (omega arith)) (edge_at_lem t a 3 (suc (suc (suc (6 * a)))) (omega arith) (omega arith))
    (edge_at_lem t a 4 (suc (suc (suc (suc (6 * a))))) (omega arith) (omega arith))
    (edge_at_lem t a 5 (suc (suc (suc (suc (suc (6 * a)))))) (omega arith) (omega arith))
    (map (edge_at t) (range (suc (suc (suc (suc (suc (suc (6 * a))))))) (6 * m))) (flat_map (λ c. edges 0 (cell_at t c)) (range (suc a) m))
    (ap (λ (k : ℕ). map (edge_at t) (range k (6 * m))) n ∙ six_edges t (suc a) m)
    ∙ all_six t a (flat_map (λ c. edges 0 (cell_at t c)) (range (suc a) m))
  where
    six : (a b c d e f a' b' c' d' e' f' : Pair) → a ≡ a' → b ≡ b' → c ≡ c' → d ≡ d' → e ≡ e' → f ≡ f' → (l m : List Pair) → l ≡ m
        → ◌≡◌ {A = List Pair} (a ∷ b ∷ c ∷ d ∷ e ∷ f ∷ l) (a' ∷ b' ∷ c' ∷ d' ∷ e' ∷ f' ∷ m)
    six a b c d e f a' b' c' d' e' f' p q r s t u l m v = rw (p, q, r, s, t, u, v)

flat_same : (f h : ℕ → List Pair) (k m : ℕ) → ((c : ℕ) → k ≤ c → c < k + m → f c ≡ h c) → flat_map f (range k m) ≡ flat_map h (range k m)
unfolding flat_map range
flat_same f h k zero e = refl
flat_same f h k (suc m) e =
    ap₂ ◌++◌ (e k (omega arith) (omega arith)) (flat_same f h (suc k) m (λ c a b. e c (omega arith) (omega arith)))

module _ (n : ℕ) (qs : List (List ℕ)) (ss t ks : List ℕ) (g : Table n qs ss t ks) (fs : List ℕ)
    (first : (k : ℕ) → k < firsts_length → get_or fs k 0 ≡ cells_below n qs ss k) where
  abbrev so : Sound n qs ss
  so = s n qs ss t ks g

  keys_are : (k : ℕ) → k < most_levels → keys_in t (get_or fs k 0) (get_or fs (suc k) 0) ≡ keys_at n qs ss k
  unfolding keys_in keys_at
  keys_are k h =
      let a = cells_below n qs ss k in
      let m = length (level_at n qs ss k).cells in
      let e : 6 * get_or fs (suc k) 0 - 6 * get_or fs k 0 ≡ 6 * length (level_at n qs ss k).cells =
      omega (arith, first k (omega arith), first (suc k) (omega arith), below_more n qs ss k) in
      ap (add_pairs [])
      (ap₂ (λ (x y : ℕ). map (edge_at t) (range (6 * x) y)) (first k (omega arith)) e ∙ six_edges t a m
      ∙ flat_same (λ c. edges 0 (cell_at t c)) (λ c. edges 0 (numbered_cell n qs ss c)) a m
      (λ c u v. edges_are n qs ss t ks g c (omega (arith, below_more n qs ss k, below_all n qs ss so (suc k)))))

  slots_to_lem : (k : ℕ) → k ≤ most_levels → slots_to t fs k ≡ slots_below n qs ss k
  unfolding slots_to
  slots_to_lem zero h = sym (slots_none n qs ss)
  slots_to_lem (suc k) h =
      ap₂ (λ (x : ℕ) (l : List Pair). x + length l) (slots_to_lem k (omega arith)) (keys_are k (omega arith)) ∙ sym (slots_follow n qs ss k)

  module _ (sl st : List ℕ) (w : Slotted t fs sl st) where
    pub starts_are : (k : ℕ) → k < firsts_length → get_or st k 0 ≡ slots_below n qs ss k
    starts_are k h = w.starts k h ∙ slots_to_lem k (omega arith)

    module _ (c e : ℕ) (h : c < length ss) (small : e < 6) where
      abbrev lev : ℕ
      lev = cell_level n qs ss c

      here : Member c (numbers_of n qs ss lev)
      here = at n qs ss t ks g c h

      low : lev < most_levels
      low = omega (arith, level_top n qs ss so lev c here, so.high)

      inside : (cells_below n qs ss lev ≤ c) × (c < cells_below n qs ss (suc lev))
      inside =
          let m : Member c (range (cells_below n qs ss lev) (cells_below n qs ss (suc lev) - cells_below n qs ss lev)) =
          rw (level_gap n qs ss lev) at here in
          let (a, b) = member_range (cells_below n qs ss lev) (cells_below n qs ss (suc lev) - cells_below n qs ss lev) c m in
          (a, omega (arith, below_more n qs ss lev))

      pub slot_is : get_or sl (6 * c + e) 0 ≡ slot_of n qs ss c e
      unfolding slot_of
      slot_is =
          let i = inside in
          w.slots lev (6 * c + e) low (omega (arith, i, first lev (omega (arith, low))))
          (omega (arith, i, first (suc lev) (omega (arith, low))))
          ∙ ap₂ (λ (x : ℕ) (l : List Pair). x + place_in isb l (sorted (edge_at t (6 * c + e)))) (slots_to_lem lev (omega (arith, low)))
          (keys_are lev low)
          ∙ ap (λ (p : Pair). slots_below n qs ss lev + place_in isb (keys_at n qs ss lev) (sorted p))
          (edge_at_lem t c e (6 * c + e) small refl ∙ edge_is n qs ss t ks g c e h)

      slot_below : get_or sl (6 * c + e) 0 < most_slots
      slot_below =
          let m = (slots_split n qs ss g.four g.accepted g.sound).there lev c e here (below_six e small) in
          let (a, b) = member_range (slots_below n qs ss lev) (length (keys_at n qs ss lev)) (slot_of n qs ss c e) m in
          omega (arith, slot_is, slots_follow n qs ss lev, slots_all n qs ss so (suc lev))

    pub slots_small : SmallSlots sl (length ss)
    slots_small =
        record {
          small = λ j h.
              let z : 6 * (j / 6) + j % 6 ≡ j = omega arith in
              rw z at (slot_below (j / 6) (j % 6) (omega arith) (omega arith));
        }
