-- A store of a split before its start.
-- Laws: idle_header (its header is in range), master_is (its masters), marks_due_lem (the marks that it takes), marks_before (how many masters
-- stand before a cell).
use Rattle.std.specs.Prelude.{◌≡◌, Bool, false, ◌||◌, List, [], map, T, leb, drop}
use Rattle.std.proofs.Math.Path.{refl, sym, ap, ap₂}
use Rattle.std.proofs.Common.{◌∙◌, drop_of_length-le, drop-cons}
use Rattle.std.proofs.Math.Bool.{true, ◌&&◌, or_comm}
use Prim.Native.Nat.{ℕ, zero, suc, ◌+◌, ◌≤◌, ◌<◌}
use Rattle.std.proofs.Math.Decide.{dec_lt}
use native.Mathlib.Omega.{arith}
use Rattle.std.proofs.Math.Dec.{eqb}
use Rattle.std.proofs.Math.ListN.{length, get_or}
use borrow.Author.Tests.{eq-eqb, ne_eqb, le-leb, lt-ltb, le-ltb}
use Rattle.base.specs.Limits.{most_cells, most_coarse_cells, most_coarse_corners, most_levels, most_parts}
use Rattle.base.specs.Lists.{filterb}
use Rattle.base.specs.Bools.{one_if, not_both}
use Rattle.base.specs.Range.{range}
use Rattle.mesh.specs.Table.{levels_of, soundb}
use Rattle.mesh.specs.Answers.{markb, marksb}
use Rattle.soundness.specs.Sound.{Sound, sound_parts}
use Rattle.store.specs.Fields.{field, STAGE, CELLS, ROUND, RESULT, STATUS}
use Rattle.store.specs.Header.{headerb, stageb}
use Rattle.turns.specs.Start.{ownb, mark_ok, mark_at, next_mark, marks_due}
use Rattle.parts.specs.Owners.{family_of}
use Rattle.parts.specs.Held.{masterb}
use Rattle.parts.specs.Starts.{masters_on, startb, place_on}
use Rattle.entering.specs.Columns.{count_before}
use Rattle.split.specs.Columns.{holds_cell}
use Rattle.split.specs.Stored.{Stored, when_held, not_held}
use Rattle.tasks.specs.Levels.{below_coarse, below_all, one_at_least}

-- one number more of those that pass a test
filter_snoc : (f : ℕ → Bool) (k m : ℕ) → length (filterb f (range k (suc m))) ≡ length (filterb f (range k m)) + one_if (f (k + m))
unfolding filterb range one_if
filter_snoc f k zero = let z : k + 0 ≡ k = omega arith in rw z (go (f k) refl)
  where
    go : (b : Bool) → f k ≡ b → length (filterb f (range k 1)) ≡ 0 + one_if (f k)
    go true e = rw (e, filterb) refl
    go false e = rw (e, filterb) refl
filter_snoc f k (suc m) = go (f k) refl (filter_snoc f (suc k) m)
  where
    go : (b : Bool) → f k ≡ b
        → length (filterb f (range (suc k) (suc m))) ≡ length (filterb f (range (suc k) m)) + one_if (f (suc k + m))
        → length (filterb f (range k (suc (suc m)))) ≡ length (filterb f (range k (suc m))) + one_if (f (k + suc m))
    go true e i = let z : k + suc m ≡ suc k + m = omega arith in rw (e, filterb, z) (omega arith)
    go false e i = let z : k + suc m ≡ suc k + m = omega arith in rw (e, filterb, z) i

module _ (n : ℕ) (qs : List (List ℕ)) (ss : List ℕ) (P : ℕ) (os : List ℕ) (p : ℕ) (x : List ℕ) (sound : T (soundb n qs ss))
    (st : Stored n qs ss P os (suc p) x) where
  abbrev s : Sound n qs ss
  s = sound_parts n qs ss sound

  stage_idle : stageb x ≡ true
  unfolding stageb
  stage_idle =
      let e : eqb (field x STAGE) 0 ≡ true = ap (λ (y : ℕ). eqb y 0) st.stage in
      let f : eqb (field x ROUND) 0 ≡ true = ap (λ (y : ℕ). eqb y 0) st.round in
      let g : eqb (field x RESULT) 0 ≡ true = ap (λ (y : ℕ). eqb y 0) st.result in
      rw (e, stageb) (ap₂ ◌&&◌ f g)

  pub idle_header : P ≤ most_parts → suc p ≤ P → 4 ≤ n → n ≤ most_coarse_corners → 1 ≤ length qs → length qs ≤ most_coarse_cells
      → headerb x ≡ true
  unfolding headerb
  idle_header a b c d e f =
      let g : length qs ≤ length ss = omega (arith, below_coarse n qs ss, below_all n qs ss s 1) in
      rw (
        st.parts,
        st.part,
        st.corners,
        st.coarse,
        st.cells,
        st.levels,
        st.entries,
        stage_idle,
        le-leb 1 P (omega arith),
        le-leb P most_parts a,
        le-leb 1 (suc p) (omega arith),
        le-leb (suc p) P b,
        le-leb 4 n c,
        le-leb n most_coarse_corners d,
        le-leb 1 (length qs) e,
        le-leb (length qs) most_coarse_cells f,
        le-leb (length qs) (length ss) g,
        le-leb (length ss) most_cells (omega (arith, s.many, s.few)),
        le-leb 1 (length (levels_of n qs ss)) (one_at_least n qs ss e),
        le-leb (length (levels_of n qs ss)) most_levels s.high,
      )

  -- its masters
  master_is : (c : ℕ) → c < length ss → ownb x c ≡ masterb os (suc p) c
  unfolding ownb masterb holds_cell
  master_is c h = go (holds_cell n qs ss os (suc p) c) refl (masterb os (suc p) c) refl
    where
      small : c < most_cells
      small = omega (arith, s.many, s.few)

      go : (b : Bool) → holds_cell n qs ss os (suc p) c ≡ b → (d : Bool) → masterb os (suc p) c ≡ d → ownb x c ≡ masterb os (suc p) c
      go true e d f =
          ap₂ eqb (st.owner c small ∙ when_held n qs ss os (suc p) (λ c. get_or os c 0) c h e) st.part
      go false e true f = not_both (holds_cell n qs ss os (suc p) c) (ap (λ (b : Bool). b || eqb (family_of n qs ss os c) (suc p)) f) e
      go false e false f =
          ap₂ eqb (st.owner c small ∙ not_held n qs ss os (suc p) (λ c. get_or os c 0) c e) st.part
          ∙ ne_eqb 0 (suc p) (λ z. omega arith) ∙ sym f

  status_is : (c : ℕ) → c < length ss → masterb os (suc p) c ≡ true → field x (STATUS + c) ≡ get_or ss c 0
  unfolding holds_cell
  status_is c h e =
      st.status c (omega (arith, s.many, s.few))
      ∙ when_held n qs ss os (suc p) (λ c. get_or ss c 0) c h (ap (λ (b : Bool). b || eqb (family_of n qs ss os c) (suc p)) e)

  -- the marks from the cell c on
  abbrev due : ℕ → ℕ → List ℕ
  due c m = map (λ c. get_or ss c 0) (filterb (masterb os (suc p)) (range c m))

  marks_from_lem : (ms : List ℕ) (m c j : ℕ) → c + m ≡ length ss → j ≤ length ms
      → marks_due x ms m c j ≡ marksb (due c m) (drop j ms)
  unfolding marks_due mark_at next_mark mark_ok markb marksb filterb range
  marks_from_lem ms zero c j h g =
      elim (dec_lt j (length ms)) [
        | yes u ↦ ne_eqb (length ms) j (λ z. omega arith) ∙ sym (ap (marksb []) (drop-cons ms j 0 u))
        | no u ↦ eq-eqb (length ms) j (omega arith) ∙ sym (ap (marksb []) (drop_of_length-le ms {i = j} (omega arith)))
      ]
  marks_from_lem ms (suc m) c j h g =
      go (masterb os (suc p) c) refl (dec_lt j (length ms)) (λ i. marks_from_lem ms m (suc c) i (omega arith))
    where
      o : ownb x c ≡ masterb os (suc p) c
      o = master_is c (omega arith)

      go : (b : Bool) → masterb os (suc p) c ≡ b → Dec (j < length ms)
          → ((i : ℕ) → i ≤ length ms → marks_due x ms m (suc c) i ≡ marksb (due (suc c) m) (drop i ms))
          → marks_due x ms (suc m) c j ≡ marksb (due c (suc m)) (drop j ms)
      go true e (yes u) r =
          let w : ownb x c ≡ true = o ∙ e in
          let f : field x (STATUS + c) ≡ get_or ss c 0 = status_is c (omega arith) e in
          let t : marksb (due (suc c) m) (drop (suc j) ms) ≡ marks_due x ms m (suc c) (suc j) = sym (r (suc j) (omega arith)) in
          rw (e, w, f, filterb, mark_at, next_mark, lt-ltb j (length ms) u, drop-cons ms j 0 u, t)
          (ap (λ (b : Bool). (leb (get_or ms j 0) 2 && b) && marks_due x ms m (suc c) (suc j))
          (or_comm (eqb (get_or ms j 0) 0) (eqb (get_or ss c 0) 0)))
      go true e (no u) r =
          let w : ownb x c ≡ true = o ∙ e in
          rw (e, w, filterb, mark_at, next_mark, le-ltb j (length ms) (omega arith), drop_of_length-le ms {i = j} (omega arith)) refl
      go false e d r =
          let w : ownb x c ≡ false = o ∙ e in
          rw (e, w, filterb, mark_at, next_mark) (r j g)

  pub marks_due_lem : length os ≡ length ss → (ms : List ℕ) → marks_due x ms (field x CELLS) 0 0 ≡ startb ss os (suc p) ms
  unfolding startb masters_on
  marks_due_lem many ms =
      ap (λ (m : ℕ). marks_due x ms m 0 0) st.cells ∙ marks_from_lem ms (length ss) 0 0 (omega arith) (omega arith)
      ∙ ap (λ (m : ℕ). marksb (due 0 m) ms) (sym many)

  -- the masters before a cell
  count_is : (c : ℕ) → c ≤ length ss → count_before x c ≡ length (filterb (masterb os (suc p)) (range 0 c))
  unfolding count_before range filterb
  count_is zero h = refl
  count_is (suc c) h =
      let z : 0 + c ≡ c = omega arith in
      ap₂ (λ (a : ℕ) (b : Bool). a + one_if b) (count_is c (omega arith)) (master_is c h)
      ∙ sym (rw z at (filter_snoc (masterb os (suc p)) 0 c))

  pub marks_before : (c : ℕ) → c ≤ length ss → get_or os c 0 ≡ suc p → count_before x c ≡ place_on os c
  unfolding place_on
  marks_before c h e = count_is c h ∙ ap (λ (o : ℕ). length (filterb (masterb os o) (range 0 c))) (sym e)
