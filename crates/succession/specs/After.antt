-- The statuses after the step, from the flags and edges of the old table.
--   new_edges k       the edges of the new red cells of level k; new_red_row k the test that chooses these cells
--   Chosen rs        a row of rs that passes a test and has an edge
--   WillHave k e     an old cell of level k that will be red and has the edge e
-- Laws: chosen (the edges of chosen rows), will and have (the edges of the new red cells), new_held (the edges of the red cells of a new
-- level are these), new_closed_at (each new level is closed), new_status_lem (a new status by these edges).
use Rattle.std.specs.Prelude.{◌≡◌, ◌⊎◌, Bool, ℕ, suc, ◌≤◌, ◌<◌, get_or}
use Rattle.std.proofs.Math.Path.{refl, ap, subst}
use Rattle.std.proofs.Common.{sym, ◌∙◌, ap₂, inl, inr, arith, drop_of_length-le, drop-cons}
use Rattle.std.proofs.Math.Logic.{⊎_elim}
use Rattle.std.proofs.Math.Bool.{true, false}
use mathlib.Core.List.{List, [], ◌∷◌, ◌++◌, map, flat_map, flatten}
use Rattle.std.proofs.Math.Decide.{dec_lt}
use Rattle.std.proofs.Math.Dec.{T}
use Rattle.std.proofs.Math.ListN.{length, drop}
use Rattle.base.specs.Lists.{anyb, filterb, sameb}
use Rattle.base.specs.Bools.{not_both, same_test}
use Rattle.mesh.specs.Cells.{redb, edges, heldb, bits_of, pattern, red_edges, no_cell}
use Rattle.mesh.specs.Table.{Level, levels_of, closedb, soundb}
use Rattle.mesh.specs.Step.{Row, rows, new_redb, rows_up, edges_up, new_reds}
use Rattle.lattice.specs.Levels.{no_level}
use Rattle.lineage.specs.Olds.{step_by}
use Rattle.lineage.specs.Same.{Fresh}
use Rattle.lineage.specs.Levels.{new_levels_lem}
use Rattle.lineage.specs.Flags.{no_row, new_red_at, length-rows, rows_at}
use Rattle.lineage.specs.Met.{Matched, old_at, old_above, new_at, flagged, met, new_known}
use Rattle.lineage.specs.Stays.{Stays, stays}
use Rattle.carriers.specs.Joins.{Edge, held_either}
use Rattle.carriers.specs.Refined.{status_green}
use Rattle.soundness.specs.Held.{RedHas, red_which, red_at_lem, closed_at, red_regular}
use Rattle.soundness.specs.Reds.{held_up}
use Rattle.soundness.specs.Sound.{Sound, sound_from, level_closed, level_there}
use Rattle.soundness.specs.Meets.{edges_alike}
use Rattle.soundness.specs.Grown.{new_closed}

-- Rule 7.2.
abbrev pub new_edges : ℕ → List (List ℕ) → List ℕ → List ℕ → ℕ → List Edge
new_edges n qs ss ms k = edges_up (new_reds (drop k (levels_of n qs ss)) ms)

abbrev pub new_red_row : ℕ → List (List ℕ) → List ℕ → List ℕ → ℕ → Row → Bool
new_red_row n qs ss ms k = new_redb (rows_up (drop (suc k) (levels_of n qs ss)) ms) (new_edges n qs ss ms (suc k))

-- the row of a flat list of edges
module _ (f : Row → Bool) (e : Edge) where
  record Chosen (rs : List Row) : Type 0 where
    pub u : ℕ
    pub below : u < length rs
    pub passes : f (get_or rs u no_row) ≡ true
    pub has : T (heldb sameb (edges [] (get_or rs u no_row).cell) e)

  chosen_later : (r : Row) (rs : List Row) → Chosen rs → Chosen (r ∷ rs)
  chosen_later r rs w = record { u = suc w.u; below = omega (arith, w.below); passes = w.passes; has = w.has }

  chosen : (rs : List Row) → T (heldb sameb (flat_map (λ (r : Row). edges [] r.cell) (filterb f rs)) e) → Chosen rs
  unfolding flat_map flatten filterb heldb anyb
  chosen [] t = absurd t
  chosen (r ∷ rs) t = go (f r) refl (chosen rs)
    where
      go : (b : Bool) → f r ≡ b → (T (heldb sameb (flat_map (λ (r : Row). edges [] r.cell) (filterb f rs)) e) → Chosen rs)
          → Chosen (r ∷ rs)
      go true q i =
          let u : T (heldb sameb (edges [] r.cell ++ flat_map (λ (r : Row). edges [] r.cell) (filterb f rs)) e) =
          rw (q, filterb) at t in
          ⊎_elim (λ (v : T (heldb sameb (edges [] r.cell) e)). record { u = 0; below = omega arith; passes = q; has = v })
          (λ (v : T (heldb sameb (flat_map (λ (r : Row). edges [] r.cell) (filterb f rs)) e)). chosen_later r rs (i v))
          (held_either e (edges [] r.cell) (flat_map (λ (r : Row). edges [] r.cell) (filterb f rs)) u)
      go false q i = let u : T (heldb sameb (flat_map (λ (r : Row). edges [] r.cell) (filterb f rs)) e) =
          rw (q, filterb) at t in chosen_later r rs (i u)

module _ (n : ℕ) (qs : List (List ℕ)) (ss ms : List ℕ) (s : Sound n qs ss) where
  abbrev sound : T (soundb n qs ss)
  sound = sound_from n qs ss s

  abbrev old : ℕ → Level
  old k = old_at n qs ss k

  abbrev new : ℕ → Level
  new k = new_at n qs ss ms k

  new_closed_at : (k : ℕ) → T (closedb (new k))
  new_closed_at k =
      subst (λ (ls : List Level). T (closedb (get_or ls k no_level))) (new_levels_lem n qs ss ms)
      (level_closed n qs (flatten (step_by n qs ss ms)) (new_closed n qs ss ms sound) k)

  -- an old cell that will be red and has an edge
  pub record WillHave (k : ℕ) (e : Edge) : Type 0 where
    pub t : ℕ
    pub below : t < length (old k).cells
    pub red : new_red_at ms (old_above n qs ss k) (old k) t ≡ true
    pub has : T (heldb sameb (edges [] (get_or (old k).cells t no_cell)) e)

  will_from : (k : ℕ) → k < length (levels_of n qs ss) → (e : Edge) → T (heldb sameb (new_edges n qs ss ms k) e) → WillHave k e
  unfolding edges_up new_reds
  will_from k h e t =
      let ls = drop (suc k) (levels_of n qs ss) in
      let q : new_edges n qs ss ms k ≡ edges_up (new_reds (old k ∷ ls) ms) =
      ap (λ (ls : List Level). edges_up (new_reds ls ms)) (drop-cons (levels_of n qs ss) k no_level h) in
      let known = (flagged n qs ss ms sound k).known in
      let w = chosen (new_red_row n qs ss ms k) e (rows (old k) ms) (rw q at t) in
      let b : w.u < length (old k).cells = omega (arith, w.below, length-rows (old k) ms known) in
      let x = rows_at (old k) ms known w.u b in
      record {
        t = w.u;
        below = b;
        red = ap (new_red_row n qs ss ms k) (sym x) ∙ w.passes;
        has = subst (λ (r : Row). T (heldb sameb (edges [] r.cell) e)) x w.has;
      }

  none_above : (k : ℕ) → length (levels_of n qs ss) ≤ k → (e : Edge) → T (heldb sameb (new_edges n qs ss ms k) e) → ⊥
  unfolding edges_up new_reds heldb anyb
  none_above k h e t =
      let q : new_edges n qs ss ms k ≡ [] =
      ap (λ (ls : List Level). edges_up (new_reds ls ms)) (drop_of_length-le (levels_of n qs ss) {i = k} h) in rw q at t

  pub will : (k : ℕ) (e : Edge) → T (heldb sameb (new_edges n qs ss ms k) e) → WillHave k e
  will k e t = elim (dec_lt k (length (levels_of n qs ss))) [ yes h ↦ will_from k h e t | no h ↦ absurd (none_above k (omega arith) e t) ]

  have : (k : ℕ) (e : Edge) → WillHave k e → T (heldb sameb (new_edges n qs ss ms k) e)
  have k e w =
      let h = level_there n qs ss k w.t w.below in
      rw (drop-cons (levels_of n qs ss) k no_level h) (held_up ms (drop (suc k) (levels_of n qs ss)) (old k)
      (flagged n qs ss ms sound k).known w.t w.below w.red e w.has)

  -- the edges of the red cells of a new level
  new_up : (k : ℕ) (e : Edge) → T (heldb sameb (red_edges [] (new k).cells (new k).statuses) e) → T (heldb sameb (new_edges n qs ss ms k) e)
  new_up k e t =
      let w : RedHas (new k).cells (new k).statuses e = red_which e (new k).cells (new k).statuses t in
      let r = red_regular (new k) (new_closed_at k) w.i w.below w.red in
      go w.i w.below w.red w.has (met n qs ss ms sound k w.i w.below r)
    where
      go : (i : ℕ) → i < length (new k).cells → get_or (new k).statuses i 0 ≡ 64
          → T (heldb sameb (edges [] (get_or (new k).cells i no_cell)) e)
          → Matched ms (old_above n qs ss k) (old k) (get_or (new k).cells i no_cell) (get_or (new k).statuses i 0)
          ⊎ ((redb (get_or (new k).statuses i 0) ≡ false) × Fresh (old k) (get_or (new k).cells i no_cell))
          → T (heldb sameb (new_edges n qs ss ms k) e)
      go i h q u (inl m) =
          have k e (record {
            t = m.t;
            below = m.is.below;
            red = sym m.red ∙ ap redb q;
            has = rw (edges_alike (get_or (old k).cells m.t no_cell) (get_or (new k).cells i no_cell) m.is.points) u;
          })
      go i h q u (inr (a, b)) = not_both (redb (get_or (new k).statuses i 0)) (ap redb q) a

  new_down : (k : ℕ) → k < 12 → (e : Edge) → T (heldb sameb (new_edges n qs ss ms k) e)
      → T (heldb sameb (red_edges [] (new k).cells (new k).statuses) e)
  new_down k g e t =
      let w = will k e t in
      let z : Stays n qs ss ms k w.t = stays n qs ss ms sound k w.t g w.below w.red in
      let r = red_regular (new k) (new_closed_at k) z.i z.below z.status in
      go w z (met n qs ss ms sound k z.i z.below r)
    where
      go : (w : WillHave k e) (z : Stays n qs ss ms k w.t)
          → Matched ms (old_above n qs ss k) (old k) (get_or (new k).cells z.i no_cell) (get_or (new k).statuses z.i 0)
          ⊎ ((redb (get_or (new k).statuses z.i 0) ≡ false) × Fresh (old k) (get_or (new k).cells z.i no_cell))
          → T (heldb sameb (red_edges [] (new k).cells (new k).statuses) e)
      go w z (inl m) =
          let x : m.t ≡ w.t = (flagged n qs ss ms sound k).paths m.t w.t m.is.below w.below (m.is.path ∙ z.path) in
          let p : (get_or (old k).cells w.t no_cell).points ≡ (get_or (new k).cells z.i no_cell).points =
          ap (λ (x : ℕ). (get_or (old k).cells x no_cell).points) (sym x) ∙ m.is.points in
          red_at_lem e (new k).cells (new k).statuses (record {
            i = z.i;
            below = z.below;
            known = omega (arith, new_known n qs ss ms sound k, z.below);
            red = z.status;
            has = rw (← edges_alike (get_or (old k).cells w.t no_cell) (get_or (new k).cells z.i no_cell) p) w.has;
          })
      go w z (inr (a, b)) = not_both (redb (get_or (new k).statuses z.i 0)) (ap redb z.status) a

  new_held : (k : ℕ) → k < 12 → (e : Edge) → heldb sameb (red_edges [] (new k).cells (new k).statuses) e ≡ heldb sameb
      (new_edges n qs ss ms k) e
  new_held k g e = same_test (heldb sameb (red_edges [] (new k).cells (new k).statuses) e) (heldb sameb (new_edges n qs ss ms k) e)
      (new_up k e) (new_down k g e)

  -- a status by its edges
  bits_same : (f g : Edge → Bool) (l : List Edge) → ((e : Edge) → f e ≡ g e) → bits_of (map f l) ≡ bits_of (map g l)
  bits_same f g [] h = refl
  bits_same f g (e ∷ l) h = ap bits_of (ap₂ ◌∷◌ (h e) (map_same l))
    where
      map_same : (l : List Edge) → map f l ≡ map g l
      map_same [] = refl
      map_same (e ∷ l) = ap₂ ◌∷◌ (h e) (map_same l)

  pub new_status_lem : (k : ℕ) → k < 12 → (i : ℕ) → i < length (new k).cells → T (get_or (new k).cells i no_cell).regular
      → redb (get_or (new k).statuses i 0) ≡ false
      → get_or (new k).statuses i 0 ≡ bits_of (map (heldb sameb (new_edges n qs ss ms k)) (edges [] (get_or (new k).cells i no_cell)))
  unfolding pattern
  new_status_lem k g i h r e =
      let (_, st) = closed_at (new k) (new_closed_at k) i h in
      status_green (red_edges [] (new k).cells (new k).statuses) (get_or (new k).cells i no_cell) (get_or (new k).statuses i 0) st r e
      ∙ bits_same (heldb sameb (red_edges [] (new k).cells (new k).statuses)) (heldb sameb (new_edges n qs ss ms k))
      (edges [] (get_or (new k).cells i no_cell)) (new_held k g)
