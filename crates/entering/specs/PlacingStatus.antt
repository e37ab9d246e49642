-- Statuses after the step, read from a store, are those of the part's state. A store that has more masters and ghosts written reads alike.
-- Laws: cell_inside, cell_few, holds_owner, holds_family (cells that are here), owner_is, family_is (who has a cell), hit_is,
-- status_is, stays_is, stays_refined, anew_is, pair_is, fresh_read (the statuses), status_few, fresh_few, size-few (how large they are).
use Rattle.std.specs.Prelude.{◌≡◌, ◌≢◌, ◌&&◌, ◌||◌, leb}
use Rattle.std.proofs.Math.Path.{refl, sym, ap, ap₂, subst}
use Rattle.std.proofs.Common.{◌∙◌, inl, inr, add-zero}
use Rattle.std.proofs.Math.Bool.{Bool, true, false, not}
use mathlib.Core.List.{List, map}
use Prim.Native.Nat.{ℕ, zero, suc, ◌+◌, ◌-◌, ◌*◌, ◌≤◌, ◌<◌, min, Fin}
use Rattle.std.proofs.Math.Decide.{ℕ_discrete}
use native.Mathlib.Omega.{arith}
use Rattle.std.proofs.Math.Dec.{eqb, ltb}
use borrow.Author.Tests.{eq-eqb, ne_eqb, lt-ltb}
use Rattle.base.specs.Bools.{eqb_one, or_first, or_second, and_both, not_both}
use Rattle.base.specs.Limits.{most_cells, most_slots}
use Rattle.base.specs.Lists.{anyb}
use Rattle.base.specs.Range.{range, member_range, range_member}
use Rattle.mesh.specs.Cells.{pattern_of, bits_of}
use Rattle.mesh.specs.Laws.{bits_small, below_six, six_below}
use Rattle.mesh.specs.Table.{size_of}
use Rattle.mesh.specs.Layout.{edge_numbers}
use Rattle.families.specs.Children.{low_digit, high_digit}
use Rattle.exchange.specs.Finite.{parts}
use Rattle.base.specs.Member.{Member, any_agree, member_any, map-agree}
use Rattle.rounds.specs.Task.{Task, Fit, has}
use Rattle.rounds.specs.Rounds.{State, is_part, mine, holdsb}
use Rattle.rounds.specs.Among.{is_eq, is_same}
use Rattle.store.specs.Fields.{field, PART, CELLS, FIRST_CELL, FIRST_SLOT, OWNER, FAMILY, STATUS, REGULAR}
use Rattle.store.specs.Fields.{CHILD, PARENT, HEAD, RED, SLOT, SUM, PLACE_HEAD, CURSOR}
use Rattle.standing.specs.Busy.{HoldsCell, HoldsSlot}
use Rattle.turns.specs.Decide.{hitb, hit_of, kid_count}
use Rattle.places.specs.Status.{new_status, lastsb, remadeb, pair_hit, fresh_bits}
use Rattle.shares.specs.Grow.{last_of, held_now, status_new, pair_held, coarseb}
use Rattle.shares.specs.Grow.{fresh_status as fresh_now, fresh_is as fresh_bits_lem, staysb as stays_now, anewb as anew_now}
use Rattle.entering.specs.Columns.{Columns, Heard}
use Rattle.entering.specs.Lines.{part_is as part_test}
use Rattle.entering.specs.PlacingSteps.{Else}

-- tests and lists
or_left : (a b : Bool) → (a || b) ≡ false → a ≡ false
or_left true b e = e
or_left false b e = refl

or_right : (a b : Bool) → (a || b) ≡ false → b ≡ false
or_right true b e = not_both true refl e
or_right false b e = e

or_middle : (a b c : Bool) → b ≡ true → (a || (b || c)) ≡ true
or_middle true b c e = refl
or_middle false true c e = refl
or_middle false false c e = not_both false e refl

coarse_zero : coarseb zero ≡ true
unfolding coarseb
coarse_zero = refl

-- a status, by what is known of the cell
status_by : Bool → Bool → List Bool → ℕ
status_by r d l = elim r [ true ↦ elim d [ true ↦ 64 | false ↦ bits_of l ] | false ↦ 0 ]

-- how many children, by the status and the cells that are left
kids_by : ℕ → ℕ → ℕ
kids_by s m = min (elim (leb s 64) [ true ↦ size_of s | false ↦ 0 ]) m

-- the edge y of the child i of a cell with the pattern s, by its digits
abbrev pair_by : ℕ → ℕ → ℕ → ℕ → ℕ → Bool → Bool
pair_by a b s i y t = (eqb a (low_digit s i y) && eqb b (high_digit s i y)) && t

range_below : (n j : ℕ) → Member j (range 0 n) → j < n
range_below n j m = let (a, b) = member_range 0 n j m in omega arith

pattern_green : (s : ℕ) → s ≢ 64 → pattern_of s ≡ s
unfolding pattern_of
pattern_green s h = rw (ne_eqb s 64 h, pattern_of)

any_shift : (f : ℕ → Bool) (c k n : ℕ) → anyb f (range (c + k) n) ≡ anyb (λ j. f (c + j)) (range k n)
unfolding anyb range
any_shift f c k zero = refl
any_shift f c k (suc n) =
    let z : suc (c + k) ≡ c + suc k = omega arith in
    ap (λ (b : Bool). f (c + k) || b) (ap (λ (m : ℕ). anyb f (range m n)) z ∙ any_shift f c (suc k) n)

module _ {Part : Type 0} (J : Task Part) (st : State) where
  pub status_few : (c : ℕ) → status_new J st c ≤ 64
  unfolding status_new
  status_few c = go (J.regular c) refl (st.red c) refl
    where
      go : (a : Bool) → J.regular c ≡ a → (b : Bool) → st.red c ≡ b → status_new J st c ≤ 64
      go true e true f = rw (e, f, status_new) (omega arith)
      go true e false f = rw (e, f, status_new) (omega (
        arith,
        bits_small (held_now J st (J.slot c 0)) (held_now J st (J.slot c 1))
            (held_now J st (J.slot c 2)) (held_now J st (J.slot c 3)) (held_now J st (J.slot c 4)) (held_now J st (J.slot c 5)),
      ))
      go false e b f = rw (e, status_new) (omega arith)

  pub fresh_few : (c i : ℕ) → fresh_now J st c i ≤ 64
  fresh_few c i =
      let at : ℕ → Bool = λ y. pair_held J st c (low_digit 63 i y) (high_digit 63 i y) in
      subst (λ (n : ℕ). n ≤ 64) (sym (fresh_bits_lem J st c i)) (most (bits_of (map at edge_numbers))
      (bits_small (at 0) (at 1) (at 2) (at 3) (at 4) (at 5)))
    where
      most : (n : ℕ) → n < 64 → n ≤ 64
      most n h = omega arith

module _ (P : ℕ) (J : Task (Fin P)) (p : Fin P) (x : List ℕ) (C : Columns P J p x) where
  -- cells of the table
  cell_inside : (k c : ℕ) → Member c (J.cells k) → c < field x CELLS
  cell_inside k c m =
      let h = C.no_cells k c m in
      let (a, b) = member_range (field x (FIRST_CELL + k)) (field x (FIRST_CELL + suc k) - field x (FIRST_CELL + k)) c
      (subst (λ (l : List ℕ). Member c l) (C.cells k h) m) in
      omega (arith, C.cells_in (suc k) (omega arith), C.cells_rise k h)

  pub cell_few : (k c : ℕ) → Member c (J.cells k) → c < most_cells
  cell_few k c m = omega (arith, cell_inside k c m, C.cells_few)

  pub holds_owner : (k c : ℕ) → Member c (J.cells k) → J.owner c ≡ p → HoldsCell P J p c
  holds_owner k c m e =
      (k, m, or_first (is_part (parts P) (J.owner c) p) (is_part (parts P) (J.family c) p) (rw (is_same (parts P) (J.owner c) p e) tt))

  pub holds_family : (k c : ℕ) → Member c (J.cells k) → J.family c ≡ p → HoldsCell P J p c
  holds_family k c m e =
      (k, m, or_second (is_part (parts P) (J.owner c) p) (is_part (parts P) (J.family c) p) (rw (is_same (parts P) (J.family c) p e) tt))

  -- slots of a cell that is here
  slot_low : Fit J → (k c e : ℕ) → Member c (J.cells k) → e < 6 → J.slot c e < most_slots
  slot_low fit k c e m h =
      let g = C.no_cells k c m in
      let (a, b) = member_range (field x (FIRST_SLOT + k)) (field x (FIRST_SLOT + suc k) - field x (FIRST_SLOT + k)) (J.slot c e)
      (subst (λ (l : List ℕ). Member (J.slot c e) l) (C.slots k g) (fit.slot_level k c e m (below_six e h))) in
      omega (arith, C.slots_in (suc k) (omega arith), C.slots_rise k g)

  slot_held : (c e : ℕ) → HoldsCell P J p c → e < 6 → HoldsSlot P J p (J.slot c e)
  unfolding holdsb has
  slot_held c e (k, m, t) h = (
    k,
    member_any (λ d. mine (parts P) J p d && has J d (J.slot c e)) (J.cells k) c m
        (and_both (mine (parts P) J p c) (has J c (J.slot c e)) t
        (member_any (λ f. eqb (J.slot c f) (J.slot c e)) edge_numbers e (below_six e h)
        (rw (eq-eqb (J.slot c e) (J.slot c e) refl) tt))),
  )

  module _ (y : List ℕ) (else : Else x y) where
    at : (o c : ℕ) → CURSOR ≤ o → o + c < PLACE_HEAD → field y (o + c) ≡ field x (o + c)
    at o c a b = else (o + c) (inr (omega arith, b))

    -- who has a cell
    part_is : field y PART ≡ suc p.0
    part_is = else PART (inl (omega arith)) ∙ C.part

    pub owner_is : (k c : ℕ) → Member c (J.cells k) → eqb (field y (OWNER + c)) (field y PART) ≡ is_part (parts P) (J.owner c) p
    owner_is k c m = go (mine (parts P) J p c) refl
      where
        same : field y (OWNER + c) ≡ field x (OWNER + c)
        same = at OWNER c (omega arith) (omega (arith, cell_few k c m))

        go : (b : Bool) → mine (parts P) J p c ≡ b → eqb (field y (OWNER + c)) (field y PART) ≡ is_part (parts P) (J.owner c) p
        go true e = ap₂ eqb (same ∙ C.owner c (k, m, rw e tt)) part_is ∙ part_test P (J.owner c) p
        go false e =
            ap₂ eqb (same ∙ C.no_owner k c m e) part_is ∙ ne_eqb 0 (suc p.0) (λ z. absurd (omega (arith, z)))
            ∙ sym (or_left (is_part (parts P) (J.owner c) p) (is_part (parts P) (J.family c) p) e)

    pub family_is : (k c : ℕ) → Member c (J.cells k) → eqb (field y (FAMILY + c)) (field y PART) ≡ is_part (parts P) (J.family c) p
    family_is k c m = go (mine (parts P) J p c) refl
      where
        same : field y (FAMILY + c) ≡ field x (FAMILY + c)
        same = at FAMILY c (omega arith) (omega (arith, cell_few k c m))

        go : (b : Bool) → mine (parts P) J p c ≡ b → eqb (field y (FAMILY + c)) (field y PART) ≡ is_part (parts P) (J.family c) p
        go true e = ap₂ eqb (same ∙ C.family c (k, m, rw e tt)) part_is ∙ part_test P (J.family c) p
        go false e =
            ap₂ eqb (same ∙ C.no_family k c m e) part_is ∙ ne_eqb 0 (suc p.0) (λ z. absurd (omega (arith, z)))
            ∙ sym (or_right (is_part (parts P) (J.owner c) p) (is_part (parts P) (J.family c) p) e)

    pub stored_is : (c : ℕ) → HoldsCell P J p c → field y (STATUS + c) ≡ J.status c
    stored_is c (k, m, t) = at STATUS c (omega arith) (omega (arith, cell_few k c m)) ∙ C.status c (k, m, t)

    module _ (fit : Fit J) (st : State) (K : Heard P J p st.red st.sum x) where
      red_is : (c : ℕ) → HoldsCell P J p c → eqb (field y (RED + c)) 1 ≡ st.red c
      red_is c (k, m, t) =
          ap (λ (n : ℕ). eqb n 1) (at RED c (omega arith) (omega (arith, cell_few k c m)) ∙ K.flags c (k, m, t)) ∙ eqb_one (st.red c)

      hit_is : (c e : ℕ) → HoldsCell P J p c → e < 6 → hit_of y c e ≡ held_now J st (J.slot c e)
      unfolding hit_of hitb
      hit_is c e (k, m, t) h =
          let a : field y (SLOT + (6 * c + e)) ≡ J.slot c e =
          at SLOT (6 * c + e) (omega arith) (omega (arith, cell_few k c m)) ∙ C.slot c e (k, m, t) h in
          let b : field y (SUM + J.slot c e) ≡ st.sum (J.slot c e) =
          at SUM (J.slot c e) (omega arith) (omega (arith, slot_low fit k c e m h))
          ∙ K.sums (J.slot c e) (slot_held c e (k, m, t) h) in
          rw (a, b, lt-ltb (J.slot c e) most_slots (slot_low fit k c e m h))

      -- STATUSES
      pub status_is : (c : ℕ) → HoldsCell P J p c → new_status y c ≡ status_new J st c
      unfolding new_status status_new status_by
      status_is c (k, m, t) =
          let a : eqb (field y (REGULAR + c)) 1 ≡ J.regular c =
          ap (λ (n : ℕ). eqb n 1) (at REGULAR c (omega arith) (omega (arith, cell_few k c m)) ∙ C.regular c (k, m, t))
          ∙ eqb_one (J.regular c) in
          let b : map (hit_of y c) edge_numbers ≡ map (λ e. held_now J st (J.slot c e)) edge_numbers =
          map-agree (hit_of y c) (λ e. held_now J st (J.slot c e)) edge_numbers (λ e n. hit_is c e (k, m, t) (six_below e n)) in
          ap₂ (λ (r d : Bool). status_by r d (map (hit_of y c) edge_numbers)) a (red_is c (k, m, t))
          ∙ ap (status_by (J.regular c) (st.red c)) b

      -- whether a cell stays: one that the part has as master, and one that is refined
      pub stays_is : (k c : ℕ) → Member c (J.cells k) → J.owner c ≡ p → lastsb y c ≡ stays_now (parts P) J p st k c
      unfolding lastsb stays_now
      stays_is zero c m o =
          let h = holds_owner zero c m o in
          let a : ltb (field y (HEAD + c)) 256 ≡ coarseb zero =
          ap (λ (n : ℕ). ltb n 256) (at HEAD c (omega arith) (omega (arith, cell_few zero c m))) ∙ C.coarse zero c m h in
          rw (a, coarse_zero)
      stays_is (suc k) c m o =
          let h = holds_owner (suc k) c m o in
          let (j, n, t) = C.parent_held k c m o in
          let a : ltb (field y (HEAD + c)) 256 ≡ coarseb (suc k) =
          ap (λ (n : ℕ). ltb n 256) (at HEAD c (omega arith) (omega (arith, cell_few (suc k) c m))) ∙ C.coarse (suc k) c m h in
          let b : field y (PARENT + c) ≡ J.parent c =
          at PARENT c (omega arith) (omega (arith, cell_few (suc k) c m)) ∙ C.parent c h in
          rw (
            a,
            stored_is c h,
            b,
            lt-ltb (J.parent c) most_cells (cell_few j (J.parent c) n),
            stored_is (J.parent c) (j, n, t),
            red_is (J.parent c) (j, n, t),
          )

      stays_refined : (k c : ℕ) → Member c (J.cells k) → HoldsCell P J p c → J.status c ≢ 0
          → lastsb y c ≡ stays_now (parts P) J p st k c
      unfolding lastsb stays_now
      stays_refined k c m h s =
          let a : not (eqb (field y (STATUS + c)) 0) ≡ true = ap not (ap (λ (n : ℕ). eqb n 0) (stored_is c h) ∙ ne_eqb (J.status c) 0 s) in
          let b : not (eqb (J.status c) 0) ≡ true = ap not (ne_eqb (J.status c) 0 s) in
          or_middle (ltb (field y (HEAD + c)) 256) (not (eqb (field y (STATUS + c)) 0)) (ltb (field y (PARENT + c)) most_cells
          && (eqb (field y (STATUS + field y (PARENT + c))) 64 && eqb (field y (RED + field y (PARENT + c))) 1)) a
          ∙ sym (or_middle (coarseb k) (not (eqb (J.status c) 0)) (eqb (J.status (J.parent c)) 64 && st.red (J.parent c)) b)

      -- a new family
      pub anew_is : (k c : ℕ) → Member c (J.cells k) → remadeb y c ≡ anew_now (parts P) J p st k c
      unfolding remadeb anew_now
      anew_is k c m = go (is_part (parts P) (J.family c) p) refl
        where
          stays : J.family c ≡ p → lastsb y c ≡ stays_now (parts P) J p st k c
          stays f = elim (ℕ_discrete (J.status c) 0) [
            | yes z ↦ stays_is k c m (sym (fit.leaf_family k c m z) ∙ f)
            | no z ↦ stays_refined k c m (holds_family k c m f) z
          ]

          go : (b : Bool) → is_part (parts P) (J.family c) p ≡ b → remadeb y c ≡ anew_now (parts P) J p st k c
          go true q =
              let f : J.family c ≡ p = is_eq (parts P) (J.family c) p (rw q tt) in
              let h = holds_family k c m f in
              rw (family_is k c m, stays f, status_is c h, stored_is c h)
          go false q = rw (family_is k c m, q)

      -- children, and pairs of digits on their edges
      kids_same : (k c : ℕ) → Member c (J.cells k) → kid_count y c ≡ kid_count x c
      unfolding kid_count kids_by
      kids_same k c m =
          ap₂ (λ (s t : ℕ). kids_by s (t - field y (CHILD + c))) (at STATUS c (omega arith) (omega (arith, cell_few k c m)))
          (else CELLS (inl (omega arith)))
          ∙ ap (λ (t : ℕ). kids_by (field x (STATUS + c)) (field x CELLS - t)) (at CHILD c (omega arith) (omega (arith, cell_few k c m)))

      pair_is : (k c a b : ℕ) → Member c (J.cells k) → J.family c ≡ p → J.status c ≢ 64 → pair_hit y c a b ≡ pair_held J st c a b
      unfolding pair_hit pair_held
      pair_is k c a b m f s =
          let h = holds_family k c m f in
          let d : field y (CHILD + c) ≡ field x (CHILD + c) = at CHILD c (omega arith) (omega (arith, cell_few k c m)) in
          let v : List ℕ = range (field x (CHILD + c)) (kid_count x c) in
          let test : ℕ → Bool = λ d.
          anyb (λ y. pair_by a b (pattern_of (J.status c)) (last_of (J.path d)) y (held_now J st (J.slot d y))) edge_numbers in
          let read : ℕ → Bool = λ j.
          anyb (λ z. pair_by a b (field y (STATUS + c)) j z (hit_of y (field y (CHILD + c) + j) z)) edge_numbers in
          let here : (j : ℕ) → j < kid_count x c → read j ≡ test (field x (CHILD + c) + j) =
          λ j l.
          let n : Member (field x (CHILD + c) + j) (J.kids c) =
          subst (λ (l : List ℕ). Member (field x (CHILD + c) + j) l) (sym (C.kids k c m f))
          (range_member (field x (CHILD + c)) (kid_count x c) (field x (CHILD + c) + j) (omega arith) (omega arith)) in
          let g = holds_owner (suc k) (field x (CHILD + c) + j) (fit.kid_level k c (field x (CHILD + c) + j) m n)
          (fit.kid_owner k c (field x (CHILD + c) + j) m n ∙ f) in
          any_agree (λ z. pair_by a b (field y (STATUS + c)) j z (hit_of y (field y (CHILD + c) + j) z))
          (λ z. pair_by a b (pattern_of (J.status c)) (last_of (J.path (field x (CHILD + c) + j))) z
          (held_now J st (J.slot (field x (CHILD + c) + j) z))) edge_numbers (λ z q.
          ap₂ (λ (s i : ℕ). pair_by a b s i z (hit_of y (field y (CHILD + c) + j) z)) (stored_is c h ∙ sym (pattern_green (J.status c) s))
          (sym (C.kid_number k c j m f l))
          ∙ ap (pair_by a b (pattern_of (J.status c)) (last_of (J.path (field x (CHILD + c) + j))) z)
          (ap (λ (n : ℕ). hit_of y (n + j) z) d ∙ hit_is (field x (CHILD + c) + j) z g (six_below z q))) in
          let e : anyb read (range 0 (kid_count y c)) ≡ anyb (λ j. test (field x (CHILD + c) + j)) (range 0 (kid_count x c)) =
          ap (λ (n : ℕ). anyb read (range 0 n)) (kids_same k c m)
          ∙ any_agree read (λ j. test (field x (CHILD + c) + j)) (range 0 (kid_count x c)) (λ j q.
          here j (range_below (kid_count x c) j q)) in
          e ∙ sym (any_shift test (field x (CHILD + c)) 0 (kid_count x c))
          ∙ ap (anyb test) (ap (λ (n : ℕ). range n (kid_count x c)) (add-zero (field x (CHILD + c))) ∙ sym (C.kids k c m f))

      pub fresh_read : (k c i : ℕ) → Member c (J.cells k) → J.family c ≡ p → J.status c ≢ 64 → fresh_bits y c i ≡ fresh_now J st c i
      unfolding fresh_bits
      fresh_read k c i m f s =
          ap bits_of (map-agree (λ z. pair_hit y c (low_digit 63 i z) (high_digit 63 i z))
          (λ z. pair_held J st c (low_digit 63 i z) (high_digit 63 i z))
          edge_numbers (λ z q. pair_is k c (low_digit 63 i z) (high_digit 63 i z) m f s))
          ∙ sym (fresh_bits_lem J st c i)
