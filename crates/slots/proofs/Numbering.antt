-- A level's edges numbered one by one.
--   Run ..    the edges of the level before i are numbered
-- Laws: entry_small (an entry is a small number), run_start, run_room, run_more, run_done (a level), going_start, going_more, all_levels (level by level).
use mathlib.Core.Path.{◌≡◌, refl, sym, ◌∙◌, ap, ap₂}
use mathlib.Core.Logic.{⊎_elim}
use mathlib.Core.Bool.{true}
use mathlib.Core.List.{List, [], ◌∷◌, ◌++◌, map, map-append}
use Prim.Native.Nat.{ℕ, zero, suc, ◌+◌, ◌*◌, ◌-◌, ◌/◌, ◌%◌, ◌≤◌, ◌<◌}
use native.Mathlib.Nat.{eq-or-lt_of_le}
use native.Mathlib.Omega.{arith}
use lib.ListN.{length, get_or, set, length-set}
use lib.Seq.{get_or-set_same, get_or-set_other}
use Rattle.base.specs.Bools.{either}
use Rattle.base.specs.Limits.{most_levels, most_slots}
use Rattle.base.specs.Places.{hasb, place_in, add, has_below, place_missing, has_new, kept, place_kept}
use Rattle.base.specs.Range.{range, range_snoc}
use Rattle.mesh.specs.Cells.{edge}
use Rattle.rows.specs.Numbered.{cell_at}
use Rattle.edges.specs.Pairs.{Pair, sorted, isb, add_pair, add_pairs, pairs_of, same_pair}
use Rattle.edges.specs.Table.{entries, Edges, Space, Inserted, pairs_append}
use Rattle.edges.specs.Seek.{length-listed, none_listed}
use Rattle.slots.specs.Slots.{edge_at, keys_in, slots_to, Rising, Table, LevelDone, Slotted}

place_most : (l : List Pair) (e : Pair) → place_in isb l e ≤ length l
place_most l e =
    ⊎_elim (λ t. omega (arith, has_below isb l e t)) (λ t. omega (arith, place_missing isb l e t)) (either (hasb isb l e))

-- an entry is a small number
pub entry_small : (w : Table) (e : Pair) (w' : Table) (at : ℕ) → Inserted w e w' at → at < 65536
entry_small w e w' at d =
    let l = length-listed w'.xs w'.ys w'.from (w'.n - w'.from) in
    omega (arith, d.place, place_most (entries w') (sorted e), w'.up, w'.in_order.small)

pub record Run (t : List ℕ) (start i : ℕ) (w₀ : Table) (sl₀ : List ℕ) (w : Table) (sl : List ℕ) : Type 0 where
  pub edges : Edges w
  pub from : w.from ≡ w₀.n
  pub list : entries w ≡ add_pairs [] (map (edge_at t) (range start (i - start)))
  pub few : w.n ≤ w₀.n + (i - start)
  pub slots : (j : ℕ) → start ≤ j → j < i → get_or sl j 0 ≡ w₀.n + place_in isb (entries w) (sorted (edge_at t j))
  pub there : (j : ℕ) → start ≤ j → j < i → hasb isb (entries w) (sorted (edge_at t j)) ≡ true
  pub old : (j : ℕ) → j < start → get_or sl j 0 ≡ get_or sl₀ j 0
  pub same_sl : length sl ≡ length sl₀

module _ (t : List ℕ) (start : ℕ) (w₀ : Table) (sl₀ : List ℕ) where
  pub run_start : (w : Table) → w.from ≡ w₀.n → w.n ≡ w₀.n → Run t start start w₀ sl₀ w sl₀
  unfolding pairs_of range add_pairs
  run_start w f n =
      let z : w.n - w.from ≡ 0 = omega arith in
      let y : start - start ≡ 0 = omega arith in
      record {
        edges = none_listed w (omega arith);
        from = f;
        list = rw (z, y);
        few = omega arith;
        slots = λ j a b. absurd (omega arith);
        there = λ j a b. absurd (omega arith);
        old = λ j a. refl;
        same_sl = refl;
      }

  module _ (i : ℕ) (w : Table) (sl : List ℕ) (r : Run t start i w₀ sl₀ w sl) (low : start ≤ i) (inside : i < length sl₀) where
    pub run_room : w₀.n ≤ start → i < most_slots → Space w 1
    run_room h l = record { small = omega (arith, r.few); inside = omega (arith, r.few) }

    module _ (e : Pair) (is : e ≡ edge 0 (cell_at t (i / 6)) (i % 6)) (w' : Table) (at : ℕ) (d : Inserted w e w' at) where
      same : e ≡ edge_at t i
      unfolding edge_at
      same = is

      list_one : entries w' ≡ add_pair (entries w) (edge_at t i)
      list_one = d.list ∙ ap (add_pair (entries w)) same

      place_is : at ≡ w₀.n + place_in isb (entries w') (sorted (edge_at t i))
      place_is =
          d.place ∙ ap₂ (λ (k : ℕ) (p : Pair). k + place_in isb (entries w') (sorted p)) r.from same

      edge_more : map (edge_at t) (range start (suc i - start)) ≡ map (edge_at t) (range start (i - start)) ++ (edge_at t i ∷ [])
      edge_more =
          let z : suc i - start ≡ suc (i - start) = omega arith in
          let y : start + (i - start) ≡ i = omega arith in
          rw (z, range_snoc start (i - start), y) (map-append (edge_at t) (range start (i - start)) (i ∷ []))

      list_more : entries w' ≡ add_pairs [] (map (edge_at t) (range start (suc i - start)))
      unfolding add_pairs
      list_more =
          list_one ∙ ap (λ (l : List Pair). add_pair l (edge_at t i)) r.list
          ∙ sym (ap (add_pairs []) edge_more ∙ pairs_append [] (map (edge_at t) (range start (i - start))) (edge_at t i ∷ []))

      added : entries w' ≡ add isb (entries w) (sorted (edge_at t i))
      unfolding add_pair
      added = list_one

      has_more : (j : ℕ) → start ≤ j → j < suc i → hasb isb (entries w') (sorted (edge_at t j)) ≡ true
      has_more j a b =
          ⊎_elim (λ (q : j ≡ i). rw (q, added) (has_new isb (0, 0) same_pair (entries w) (sorted (edge_at t i))))
          (λ (l : j < i). rw added (kept isb (0, 0) same_pair (entries w) (sorted (edge_at t i)) (sorted (edge_at t j)) (r.there j a l)))
          (eq-or-lt_of_le (omega arith))

      slot_more : (j : ℕ) → start ≤ j → j < suc i → get_or (set sl i at) j 0 ≡ w₀.n + place_in isb (entries w') (sorted (edge_at t j))
      slot_more j a b =
          ⊎_elim
          (λ (q : j ≡ i). rw q (get_or-set_same sl i at 0 (omega (arith, r.same_sl)) ∙ place_is))
          (λ (l : j < i).
          get_or-set_other sl i j at 0 (λ z. absurd (omega (arith, z))) ∙ r.slots j a l
          ∙ ap (λ (x : ℕ). w₀.n + x)
          (sym (rw added (place_kept isb (0, 0) same_pair (entries w) (sorted (edge_at t i)) (sorted (edge_at t j)) (r.there j a l)))))
          (eq-or-lt_of_le (omega arith))

      pub run_more : Run t start (suc i) w₀ sl₀ w' (set sl i at)
      run_more =
          record {
            edges = d.distinct;
            from = d.same_from ∙ r.from;
            list = list_more;
            few = omega (arith, r.few, d.one);
            slots = slot_more;
            there = has_more;
            old = λ j h. get_or-set_other sl i j at 0 (λ z. absurd (omega (arith, z))) ∙ r.old j h;
            same_sl = length-set sl i at ∙ r.same_sl;
          }

-- a level is done
pub run_done : (t : List ℕ) (first last : ℕ) (w₀ : Table) (sl₀ : List ℕ) (w : Table) (sl : List ℕ)
    → Run t (6 * first) (6 * last) w₀ sl₀ w sl → LevelDone t first last w₀ sl₀ w sl
unfolding keys_in
run_done t first last w₀ sl₀ w sl r =
    record {
      count = omega (arith, ap length r.list, length-listed w.xs w.ys w.from (w.n - w.from), w.up, r.from);
      few = r.few;
      slots = λ j a b. r.slots j a b ∙ ap (λ (l : List Pair). w₀.n + place_in isb l (sorted (edge_at t j))) r.list;
      kept = r.old;
    }

-- level by level
pub record Going (t fs : List ℕ) (k : ℕ) (w : Table) (sl st : List ℕ) : Type 0 where
  pub count : w.n ≡ slots_to t fs k
  pub few : w.n ≤ 6 * get_or fs k 0
  pub starts : (i : ℕ) → i < k → get_or st i 0 ≡ slots_to t fs i
  pub slots : (i j : ℕ) → i < k → 6 * get_or fs i 0 ≤ j → j < 6 * get_or fs (suc i) 0
      → get_or sl j 0 ≡ slots_to t fs i + place_in isb (keys_in t (get_or fs i 0) (get_or fs (suc i) 0)) (sorted (edge_at t j))
  pub size : length st ≡ most_levels + 1

rising_to : (fs : List ℕ) → Rising fs → (i d : ℕ) → i + d < most_levels + 1 → get_or fs i 0 ≤ get_or fs (i + d) 0
rising_to fs r i zero h = let z : i + 0 ≡ i = omega arith in rw z (omega arith)
rising_to fs r i (suc d) h =
    let z : i + suc d ≡ suc (i + d) = omega arith in
    rw z (omega (arith, rising_to fs r i d (omega arith), r.up (i + d) (omega arith)))

rising_up : (fs : List ℕ) → Rising fs → (i k : ℕ) → i ≤ k → k < most_levels + 1 → get_or fs i 0 ≤ get_or fs k 0
rising_up fs r i k h l = let z : i + (k - i) ≡ k = omega arith in rw z at (rising_to fs r i (k - i) (omega arith))

module _ (t fs : List ℕ) where
  pub going_start : (w : Table) (sl st : List ℕ) → w.n ≡ 0 → length st ≡ most_levels + 1 → Going t fs 0 w sl st
  unfolding slots_to
  going_start w sl st e z =
      record {
        count = e;
        few = omega arith;
        starts = λ i h. absurd (omega arith);
        slots = λ i j h a b. absurd (omega arith);
        size = z;
      }

  module _ (r : Rising fs) (k : ℕ) (below : k < most_levels) (w : Table) (sl st : List ℕ) (g : Going t fs k w sl st)
      (w' : Table) (sl' : List ℕ) (d : LevelDone t (get_or fs k 0) (get_or fs (suc k) 0) w sl w' sl') where
    next_slots : (i j : ℕ) → i < suc k → 6 * get_or fs i 0 ≤ j → j < 6 * get_or fs (suc i) 0
        → get_or sl' j 0 ≡ slots_to t fs i + place_in isb (keys_in t (get_or fs i 0) (get_or fs (suc i) 0)) (sorted (edge_at t j))
    next_slots i j h a b =
        ⊎_elim
        (λ (e : i ≡ k).
        let a' : 6 * get_or fs k 0 ≤ j = rw e at a in
        let b' : j < 6 * get_or fs (suc k) 0 = rw e at b in
        rw (e, ← g.count) (d.slots j a' b'))
        (λ (l : i < k).
        d.kept j (omega (arith, rising_up fs r (suc i) k (omega arith) (omega arith))) ∙ g.slots i j l a b)
        (eq-or-lt_of_le (omega arith))

    next_starts : (i : ℕ) → i < suc k → get_or (set st k w.n) i 0 ≡ slots_to t fs i
    next_starts i h =
        ⊎_elim (λ (e : i ≡ k). rw e (get_or-set_same st k w.n 0 (omega (arith, g.size)) ∙ g.count))
        (λ (l : i < k). get_or-set_other st k i w.n 0 (λ z. absurd (omega (arith, z))) ∙ g.starts i l)
        (eq-or-lt_of_le (omega arith))

    pub going_more : Going t fs (suc k) w' sl' (set st k w.n)
    unfolding slots_to
    going_more =
        record {
          count = d.count ∙ ap (λ (x : ℕ). x + length (keys_in t (get_or fs k 0) (get_or fs (suc k) 0))) g.count;
          few = omega (arith, d.few, g.few, r.up k below);
          starts = next_starts;
          slots = next_slots;
          size = length-set st k w.n ∙ g.size;
        }

  pub all_levels : Rising fs → (w : Table) (sl st : List ℕ) → Going t fs most_levels w sl st → Slotted t fs sl (set st most_levels w.n)
  all_levels r w sl st g =
      record {
        starts = λ k h.
            ⊎_elim (λ (e : k ≡ most_levels). rw e (get_or-set_same st most_levels w.n 0 (omega (arith, g.size)) ∙ g.count))
            (λ (l : k < most_levels). get_or-set_other st most_levels k w.n 0 (λ z. absurd (omega (arith, z))) ∙ g.starts k l)
            (eq-or-lt_of_le (omega arith));
        few = omega (arith, g.count, g.few, r.most most_levels (omega arith));
        slots = λ k j h a b. g.slots k j h a b;
      }
