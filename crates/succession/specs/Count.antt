-- The cells of the step's table are at least eight for each cell that will be red, and the coarse ones.
-- Law: reds_counted.
use Rattle.std.proofs.Math.Path.{◌≡◌, refl, ap, ap₂}
use Rattle.std.proofs.Common.{sym, ◌∙◌, subst, eqb-true}
use Rattle.std.specs.Prelude.{Bool, true, false, T, get_or, take}
use mathlib.Core.List.{List, [], ◌∷◌, ◌++◌, map, flat_map, flatten, Memᴰ}
use Prim.Native.Nat.{ℕ, zero, suc, ◌+◌, ◌*◌, ◌≤◌, ◌<◌}
use native.Mathlib.Omega.{arith}
use Rattle.std.proofs.Math.ListN.{length, drop, length-append}
use Rattle.std.proofs.lemmas.List.{length-map}
use Rattle.base.specs.Lists.{filterb, sameb}
use Rattle.base.specs.Bools.{is_true}
use Rattle.base.specs.Each.{filter_map}
use Rattle.base.specs.Append.{filter_append}
use Rattle.base.specs.Range.{range, member_range, range_member}
use Rattle.base.specs.Member.{Member, filtered_member, member_filtered, filter_agree}
use Rattle.base.specs.Distinct.{in_map, map_in, no_more, no_dup_chosen}
use Rattle.mesh.specs.Cells.{Cell, redb, no_cell}
use Rattle.mesh.specs.Weights.{Point, coarse_cells}
use Rattle.mesh.specs.Table.{Level, next, levels, levels_of, soundb, sizes}
use Rattle.mesh.specs.Step.{rows, edges_up, new_reds}
use Rattle.mesh.specs.Laws.{length-coarse}
use Rattle.lattice.specs.Levels.{no_level}
use Rattle.rows.specs.Many.{length-next}
use Rattle.rows.specs.Sizes.{size_red}
use Rattle.lineage.specs.Olds.{flag_table, up_to, olds_next, statuses_by, grow_by, step_by}
use Rattle.kept.specs.Kept.{kept_rows, kept_levels, kept_table}
use Rattle.kept.specs.KeptAt.{keeps_many, keeps_at}
use Rattle.kept.specs.Laws.{kept_is_red}
use Rattle.lineage.specs.Levels.{grow_levels, new_levels, here, length-statuses, length_up}
use Rattle.lineage.specs.Rest.{Rest, rest_start, rest_next}
use Rattle.lineage.specs.Paths.{path_at}
use Rattle.lineage.specs.Flags.{new_red_at}
use Rattle.lineage.specs.Met.{old_at, old_above, new_at, flagged, new_known}
use Rattle.lineage.specs.Stays.{Stays, stays}
use Rattle.soundness.specs.Sound.{Sound, sound_from}
use Rattle.succession.specs.Write.{first_of, level_behind}
use Rattle.lineage.specs.Step.{olds_many, grow_nothing}

-- a range that begins one later
range_later : (k n : ℕ) → range (suc k) n ≡ map suc (range k n)
unfolding range
range_later k zero = refl
range_later k (suc n) = ap (λ (l : List ℕ). suc k ∷ l) (range_later (suc k) n)

-- the places of red statuses
abbrev red_places : List ℕ → List ℕ
red_places ts = filterb (λ i. redb (get_or ts i 0)) (range 0 (length ts))

-- how many pass a test, by their places
count_places : (p : ℕ → Bool) (l : List ℕ) → length (filterb p l) ≡ length (filterb (λ i. p (get_or l i 0)) (range 0 (length l)))
unfolding filterb range
count_places p [] = refl
count_places p (x ∷ l) = go (p x) refl (count_places p l)
  where
    later : length (filterb (λ i. p (get_or (x ∷ l) i 0)) (range 1 (length l))) ≡ length
        (filterb (λ i. p (get_or l i 0)) (range 0 (length l)))
    later =
        ap (λ (r : List ℕ). length (filterb (λ i. p (get_or (x ∷ l) i 0)) r)) (range_later 0 (length l))
        ∙ ap length (filter_map (λ i. p (get_or (x ∷ l) i 0)) suc (range 0 (length l)))
        ∙ length-map (filterb (λ i. p (get_or l i 0)) (range 0 (length l))) suc

    go : (b : Bool) → p x ≡ b → length (filterb p l) ≡ length (filterb (λ i. p (get_or l i 0)) (range 0 (length l)))
        → length (filterb p (x ∷ l)) ≡ length (filterb (λ i. p (get_or (x ∷ l) i 0)) (range 0 (length (x ∷ l))))
    go true e i = rw (e, filterb) (omega (arith, later, i))
    go false e i = rw (e, filterb) (omega (arith, later, i))

red_sizes : (ts : List ℕ) → 8 * length (red_places ts) ≤ sizes ts
unfolding sizes filterb range
red_sizes [] = omega arith
red_sizes (t ∷ ts) = go (redb t) refl (red_sizes ts)
  where
    later : length (filterb (λ i. redb (get_or (t ∷ ts) i 0)) (range 1 (length ts))) ≡ length (red_places ts)
    later =
        ap (λ (l : List ℕ). length (filterb (λ i. redb (get_or (t ∷ ts) i 0)) l)) (range_later 0 (length ts))
        ∙ ap length (filter_map (λ i. redb (get_or (t ∷ ts) i 0)) suc (range 0 (length ts)))
        ∙ length-map (red_places ts) suc

    go : (b : Bool) → redb t ≡ b → 8 * length (red_places ts) ≤ sizes ts → 8 * length (red_places (t ∷ ts)) ≤ sizes (t ∷ ts)
    go true e i = rw (e, filterb) (omega (arith, later, i, size_red t (eqb-true t 64 e)))
    go false e i = rw (e, filterb) (omega (arith, later, i))

module _ (n : ℕ) (qs : List (List ℕ)) (ss ms : List ℕ) (s : Sound n qs ss) where
  abbrev sound : T (soundb n qs ss)
  sound = sound_from n qs ss s

  abbrev old : ℕ → Level
  old k = old_at n qs ss k

  abbrev new : ℕ → Level
  new k = new_at n qs ss ms k

  abbrev will : ℕ → ℕ → Bool
  will k t = new_red_at ms (old_above n qs ss k) (old k) t

  -- the places of the cells of a level that will be red
  abbrev pub will_places : ℕ → List ℕ
  will_places k = filterb (will k) (range 0 (length (old k).cells))

  place_below : (k x : ℕ) → Member x (will_places k) → (x < length (old k).cells) × (will k x ≡ true)
  place_below k x m =
      let (a, b) = filtered_member (will k) (range 0 (length (old k).cells)) x m in
      (omega (arith, (member_range 0 (length (old k).cells) x a).1), is_true (will k x) b)

  there : (k : ℕ) → k < 12 → (p : List ℕ) → Memᴰ p (map (path_at (old k).cells) (will_places k))
      → Memᴰ p (map (path_at (new k).cells) (red_places (new k).statuses))
  there k g p m =
      let (x, q, e) = map_in (path_at (old k).cells) (will_places k) p m in
      let (h, w) = place_below k x q in
      let z : Stays n qs ss ms k x = stays n qs ss ms sound k x g h w in
      let l : z.i < length (new k).statuses = omega (arith, z.below, new_known n qs ss ms sound k) in
      subst (λ (r : List ℕ). Memᴰ r (map (path_at (new k).cells) (red_places (new k).statuses))) (z.path ∙ sym e)
      (in_map (path_at (new k).cells) (red_places (new k).statuses) z.i
      (member_filtered (λ i. redb (get_or (new k).statuses i 0)) (range 0 (length (new k).statuses)) z.i
      (range_member 0 (length (new k).statuses) z.i (omega arith) (omega arith)) (rw z.status tt)))

  level_reds_lem : (k : ℕ) → k < 12 → 8 * length (will_places k) ≤ sizes (new k).statuses
  level_reds_lem k g =
      let f = no_more (map (path_at (old k).cells) (will_places k)) (map (path_at (new k).cells) (red_places (new k).statuses))
      (no_dup_chosen (path_at (old k).cells) (will k) 0 (length (old k).cells)
      (λ x y a b c d e. (flagged n qs ss ms sound k).paths x y (omega arith) (omega arith) e)) (there k g) in
      omega (
        arith,
        f,
        length-map (will_places k) (path_at (old k).cells),
        length-map (red_places (new k).statuses) (path_at (new k).cells),
        red_sizes (new k).statuses,
      )

  abbrev m : ℕ
  m = length qs

  abbrev fs : List ℕ
  fs = flag_table n qs ss ms

  -- what the cells of a level keep
  module _ (h i : ℕ) (c : Cell Point) (cs : List (Cell Point)) (rs : List ℕ) (r : Rest m ss fs ms (suc h) i (c ∷ cs) rs) where
    abbrev upper : List Level
    upper = levels h (i + length (c ∷ cs)) (next i (c ∷ cs) (take (length (c ∷ cs)) rs)) (drop (length (c ∷ cs)) rs)

    abbrev level : Level
    level = here i (c ∷ cs) rs

    abbrev keeps : List ℕ
    keeps = kept_rows upper ms (edges_up (new_reds (level ∷ upper) ms)) (rows level ms)

    count_level : (j : ℕ) → levels (suc h) i (c ∷ cs) rs ≡ drop j (levels_of n qs ss)
        → length (filterb redb keeps) ≡ length (will_places j)
    unfolding levels
    count_level j ol =
        let old_is : level ≡ old j = first_of no_level (levels_of n qs ss) j (level ∷ upper) ol in
        let up_is : upper ≡ old_above n qs ss j = level_behind no_level (levels_of n qs ss) j (level ∷ upper) ol in
        let many : length keeps ≡ length (old j).cells = keeps_many m ss fs ms h i c cs rs r
        ∙ ap (λ (l : Level). length l.cells) old_is in
        count_places redb keeps
        ∙ ap length (filter_agree (λ t. redb (get_or keeps t 0)) (will j) (range 0 (length keeps))
        (λ t q.
        ap redb (keeps_at m ss fs ms h i c cs rs r t (omega (
          arith,
          (member_range 0 (length keeps) t q).1,
          keeps_many m ss fs ms h i c cs rs r,
        )))
        ∙ kept_is_red [] sameb (edges_up (new_reds (level ∷ upper) ms)) (new_red_at ms upper level t) (get_or (c ∷ cs) t no_cell)
        ∙ ap₂ (λ (u : List Level) (l : Level). new_red_at ms u l t) up_is old_is))
        ∙ ap (λ (x : ℕ). length (filterb (will j) (range 0 x))) many

  levels_none : (h k : ℕ) (os : List ℕ) → grow_levels m ss fs h k [] os ≡ []
  unfolding grow_levels
  levels_none zero k os = refl
  levels_none (suc h) k os = refl

  filter_both : (a b : List ℕ) → length (filterb redb (a ++ b)) ≡ length (filterb redb a) + length (filterb redb b)
  filter_both a b = ap length (filter_append redb a b) ∙ length-append (filterb redb a) (filterb redb b)

  -- from a level on
  count_from : (h i : ℕ) (cs : List (Cell Point)) (rs : List ℕ) → Rest m ss fs ms h i cs rs → (k : ℕ) (ds : List (Cell Point))
      (os : List ℕ) → length os ≡ length ds → (j : ℕ) → j + h ≡ 12 → levels h i cs rs ≡ drop j (levels_of n qs ss)
      → grow_levels m ss fs h k ds os ≡ drop j (new_levels n qs ss ms)
      → 8 * length (filterb redb (flatten (kept_levels (levels h i cs rs) ms))) + length ds ≤ length (flatten (grow_by m ss fs h k ds os))
  unfolding levels grow_levels grow_by kept_levels flat_map flatten filterb
  count_from zero i cs rs r k ds os e j q ol nl = absurd (omega (arith, r.high))
  count_from (suc h) i [] rs r k [] os e j q ol nl = omega arith
  count_from (suc h) i [] rs r k (d ∷ ds) os e j q ol nl =
      let ts = statuses_by fs (d ∷ ds) os in
      omega (
        arith,
        length-append ts (flatten (grow_by m ss fs h (k + length (d ∷ ds)) (next k (d ∷ ds) ts) (olds_next m ss ts os))),
        length-statuses fs (d ∷ ds) os e,
      )
  count_from (suc h) i (c ∷ cs) rs r k [] os e j q ol nl =
      let up = levels h (i + length (c ∷ cs)) (next i (c ∷ cs) (take (length (c ∷ cs)) rs)) (drop (length (c ∷ cs)) rs) in
      let here_is : ◌≡◌ {A = Level} no_level (new_at n qs ss ms j) = first_of no_level (new_levels n qs ss ms) j [] nl in
      let nl' : grow_levels m ss fs h k [] [] ≡ drop (suc j) (new_levels n qs ss ms) =
      levels_none h k [] ∙ level_behind no_level (new_levels n qs ss ms) j [] nl in
      let none : sizes (new j).statuses ≡ 0 = ap (λ (l : Level). sizes l.statuses) (sym here_is) in
      omega (
        arith,
        count_level h i c cs rs r j ol,
        filter_both (keeps h i c cs rs r) (flatten (kept_levels up ms)),
        level_reds_lem j (omega arith),
        none,
        count_from h (i + length (c ∷ cs)) (next i (c ∷ cs) (take (length (c ∷ cs)) rs)) (drop (length (c ∷ cs)) rs)
            (rest_next m ss fs ms h i c cs rs r) k [] [] refl (suc j) (omega arith)
            (level_behind no_level (levels_of n qs ss) j (levels (suc h) i (c ∷ cs) rs) ol) nl',
        ap (λ (l : List (List ℕ)). length (flatten l)) (grow_nothing m ss fs h k []),
      )
  count_from (suc h) i (c ∷ cs) rs r k (d ∷ ds) os e j q ol nl =
      let up = levels h (i + length (c ∷ cs)) (next i (c ∷ cs) (take (length (c ∷ cs)) rs)) (drop (length (c ∷ cs)) rs) in
      let ts = statuses_by fs (d ∷ ds) os in
      let os2 = olds_next m ss ts os in
      let above = next k (d ∷ ds) ts in
      let here_is : ◌≡◌ {A = Level} (record { first = k; cells = d ∷ ds; statuses = ts }) (new_at n qs ss ms j) =
      first_of no_level (new_levels n qs ss ms) j (grow_levels m ss fs (suc h) k (d ∷ ds) os) nl in
      omega (
        arith,
        count_level h i c cs rs r j ol,
        filter_both (keeps h i c cs rs r) (flatten (kept_levels up ms)),
        level_reds_lem j (omega arith),
        ap (λ (l : Level). sizes l.statuses) here_is,
        length-next k (d ∷ ds) ts (sym (length-statuses fs (d ∷ ds) os e)),
        length-statuses fs (d ∷ ds) os e,
        length-append ts (flatten (grow_by m ss fs h (k + length (d ∷ ds)) above os2)),
        count_from h (i + length (c ∷ cs)) (next i (c ∷ cs) (take (length (c ∷ cs)) rs)) (drop (length (c ∷ cs)) rs)
            (rest_next m ss fs ms h i c cs rs r) (k + length (d ∷ ds)) above os2 (length_up m ss fs k (d ∷ ds) os e) (suc j)
            (omega arith) (level_behind no_level (levels_of n qs ss) j (levels (suc h) i (c ∷ cs) rs) ol)
            (level_behind no_level (new_levels n qs ss ms) j (grow_levels m ss fs (suc h) k (d ∷ ds) os) nl),
      )

  pub reds_counted : 8 * length (filterb redb (kept_table n qs ss ms)) + length qs ≤ length (flatten (step_by n qs ss ms))
  unfolding kept_table step_by levels_of
  reds_counted =
      omega (
        arith,
        length-coarse n qs,
        count_from 12 0 (coarse_cells n qs) ss (rest_start n qs ss ms sound) 0 (coarse_cells n qs) (up_to m) (olds_many n qs ss) 0 refl refl
            refl,
      )
