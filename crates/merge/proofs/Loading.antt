-- The masters of a store, and of all stores, are loaded one by one.
use mathlib.Core.Path.{◌≡◌, sym, ap}
use mathlib.Core.List.{List, [], ◌∷◌, ◌++◌, map, flat_map}
use Prim.Native.Nat.{ℕ, zero, suc, ◌-◌, ◌≤◌, ◌<◌}
use native.Mathlib.Omega.{arith}
use lib.ListN.{length}
use Rattle.base.specs.Limits.{most_cells}
use Rattle.base.specs.Range.{range}
use Rattle.parts.specs.Held.{Entry}
use Rattle.store.specs.Fields.{field, ENTRIES}
use Rattle.store.specs.Stores.{store_in}
use Rattle.held.specs.Held.{entry_in, held_in}
use Rattle.parts.specs.Merge.{masters}
use Rattle.merge.specs.declared.masters.Masters.{Masters}
use Rattle.merge.specs.Load.{Loaded, Overfull, load_start, load_more, load_over, masters_append}
use Rattle.merge.specs.Steps.{entries_by, FewEntries}

-- the entries from j on
abbrev pub entries_from : List ℕ → ℕ → ℕ → List Entry
entries_from x j n = map (entry_in x) (range j (n - j))

-- those of the stores from i on
abbrev pub stores_from : List ℕ → ℕ → ℕ → List Entry
stores_from b i P = flat_map held_in (map (store_in b) (range i (P - i)))

entries_none : (x : List ℕ) (n : ℕ) → entries_from x n n ≡ []
unfolding range
entries_none x n = let z : n - n ≡ 0 = omega arith in rw z

entries_more : (x : List ℕ) (j n : ℕ) → j < n → entries_from x j n ≡ entry_in x j ∷ entries_from x (suc j) n
unfolding range
entries_more x j n h = let z : n - j ≡ suc (n - suc j) = omega arith in rw z

entries_all_lem : (x : List ℕ) → entries_from x 0 (field x ENTRIES) ≡ held_in x
unfolding held_in
entries_all_lem x = let z : field x ENTRIES - 0 ≡ field x ENTRIES = omega arith in rw z

stores_none : (b : List ℕ) (P : ℕ) → stores_from b P P ≡ []
unfolding range flat_map
stores_none b P = let z : P - P ≡ 0 = omega arith in rw z

stores_more : (b : List ℕ) (i P : ℕ) → i < P → stores_from b i P ≡ held_in (store_in b i) ++ stores_from b (suc i) P
unfolding range flat_map
stores_more b i P h = let z : P - i ≡ suc (P - suc i) = omega arith in rw z

stores_all : (b : List ℕ) (P : ℕ) → stores_from b 0 P ≡ entries_by b P
stores_all b P = let z : P - 0 ≡ P = omega arith in rw z

module _ (w : Masters) where
  abbrev pub After : List Entry → Masters → Type 0
  After ds v = Loaded ds w v

  pub loading_none : (x : List ℕ) (k : ℕ) → After (entries_from x k k) w
  loading_none x k = rw (entries_none x k) (load_start w)

  pub storing_none : (b : List ℕ) (k : ℕ) → After (stores_from b k k) w
  storing_none b k = rw (stores_none b k) (load_start w)

  module _ (v : Masters) where
    pub loading_on : (v' : Masters) (x : List ℕ) (i k : ℕ) → 0 < i → i ≤ k → After (entries_from x i k) v
        → Loaded (entry_in x (i - 1) ∷ []) v v' → After (entries_from x (i - 1) k) v'
    loading_on v' x i k h l f g =
        let q : i ≡ suc (i - 1) = omega arith in
        let o = load_more (entries_from x i k) (entry_in x (i - 1) ∷ []) w v f v' g in
        rw (entries_more x (i - 1) k (omega arith)) (let z : suc (i - 1) ≡ i = sym q in rw z o)

    pub storing_on : (v' : Masters) (b : List ℕ) (i k : ℕ) → 0 < i → i ≤ k → After (stores_from b i k) v
        → Loaded (held_in (store_in b (i - 1))) v v' → After (stores_from b (i - 1) k) v'
    storing_on v' b i k h l f g =
        let z : suc (i - 1) ≡ i = omega arith in
        let o = load_more (stores_from b i k) (held_in (store_in b (i - 1))) w v f v' g in
        rw (stores_more b (i - 1) k (omega arith)) (rw z o)

  -- where they are too many already
  fewer : (x : List ℕ) (j k : ℕ) → j ≤ k → length (masters (entries_from x j k)) ≤ length (masters (entries_from x 0 k))
  fewer x zero k h = omega arith
  fewer x (suc j) k h =
      omega (
        arith,
        fewer x j k (omega arith),
        ap (λ (l : List Entry). length (masters l)) (entries_more x j k h),
        masters_append (entry_in x j ∷ []) (entries_from x (suc j) k),
      )

  stored_fewer : (b : List ℕ) (j k : ℕ) → j ≤ k → length (masters (stores_from b j k)) ≤ length (masters (stores_from b 0 k))
  stored_fewer b zero k h = omega arith
  stored_fewer b (suc j) k h =
      omega (
        arith,
        stored_fewer b j k (omega arith),
        ap (λ (l : List Entry). length (masters l)) (stores_more b j k h),
        masters_append (held_in (store_in b j)) (stores_from b (suc j) k),
      )

  module _ (v : Masters) where
    pub loading_out : (x : List ℕ) (j : ℕ) → j ≤ 0 → After (entries_from x j (field x ENTRIES)) v → After (held_in x) v
    loading_out x j h f = let z : j ≡ 0 = omega arith in rw (entries_all_lem x) at (rw z at f)

    pub storing_out : (b : List ℕ) (j k : ℕ) → j ≤ 0 → After (stores_from b j k) v → After (entries_by b k) v
    storing_out b j k h f = let z : j ≡ 0 = omega arith in rw (stores_all b k) at (rw z at f)

    pub loading_full : (x : List ℕ) (i : ℕ) → 0 < i → i ≤ field x ENTRIES → After (entries_from x i (field x ENTRIES)) v
        → Overfull (entry_in x (i - 1) ∷ []) v → Overfull (held_in x) w
    loading_full x i h l f g =
        let k = field x ENTRIES in
        let z : suc (i - 1) ≡ i = omega arith in
        let o : Overfull ((entry_in x (i - 1) ∷ []) ++ entries_from x i k) w = load_over (entries_from x i k) (entry_in x (i - 1) ∷ []) w v f g in
        let e : entries_from x (i - 1) k ≡ (entry_in x (i - 1) ∷ []) ++ entries_from x i k = rw z at (entries_more x (i - 1) k (omega arith)) in
        omega (
          arith,
          o,
          ap (λ (l : List Entry). length (masters l)) e,
          fewer x (i - 1) k (omega arith),
          ap (λ (l : List Entry). length (masters l)) (entries_all_lem x),
        )

    pub storing_full : (b : List ℕ) (i k : ℕ) → 0 < i → i ≤ k → After (stores_from b i k) v → Overfull (held_in (store_in b (i - 1))) v
        → Overfull (entries_by b k) w
    storing_full b i k h l f g =
        let z : suc (i - 1) ≡ i = omega arith in
        let o : Overfull (held_in (store_in b (i - 1)) ++ stores_from b i k) w =
        load_over (stores_from b i k) (held_in (store_in b (i - 1))) w v f g in
        let e : stores_from b (i - 1) k ≡ held_in (store_in b (i - 1)) ++ stores_from b i k = rw z at (stores_more b (i - 1) k (omega arith)) in
        omega (
          arith,
          o,
          ap (λ (l : List Entry). length (masters l)) e,
          stored_fewer b (i - 1) k (omega arith),
          ap (λ (l : List Entry). length (masters l)) (stores_all b k),
        )

-- a store that was read has few entries
pub entries_in_lem : (b : List ℕ) (P i : ℕ) → FewEntries b P → i < P → field (store_in b i) ENTRIES ≤ most_cells
entries_in_lem b P i f h = f i h
