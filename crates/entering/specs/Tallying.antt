-- On entering a round of counts a part adds its masters of a level that will be red to their slots.
-- Laws: tallied_sum (the sums after), tallied_else, tallied-length, tallied_but (the rest).
use Rattle.std.specs.Prelude.{◌≡◌, ◌⊎◌, Bool, true, false, ◌&&◌, ltb, set}
use Rattle.std.proofs.Math.Path.{refl, sym, ap}
use Rattle.std.proofs.Common.{◌∙◌, ap₂, inl, arith, get_or-set_same, get_or-set_other, eq-eqb, ne_eqb, lt-ltb, ltb-true, eqb-true}
use mathlib.Core.List.{List}
use Prim.Native.Nat.{ℕ, suc, ◌+◌, ◌-◌, ◌*◌, ◌%◌, ◌≤◌, ◌<◌, Fin}
use Rattle.std.proofs.Math.Decide.{ℕ_discrete}
use Rattle.std.proofs.Math.Dec.{eqb}
use Rattle.std.proofs.Math.ListN.{length}
use Rattle.base.specs.Bools.{one_if, eqb_one, not_both}
use Rattle.base.specs.Limits.{most_cells, most_slots}
use Rattle.base.specs.Lists.{anyb, filterb}
use Rattle.base.specs.Range.{range, range_member}
use Rattle.exchange.specs.Finite.{parts}
use Rattle.base.specs.Member.{Member}
use Rattle.rounds.specs.Task.{Task, has}
use Rattle.rounds.specs.Rounds.{is_part, mine, tally}
use Rattle.rounds.specs.Among.{is_same, is_eq}
use Rattle.store.specs.Fields.{field, PART, OWNER, RED, SLOT, SUM}
use Rattle.standing.specs.Busy.{HoldsCell}
use Rattle.turns.specs.Loops.{each_from}
use Rattle.turns.specs.Decide.{slot_at}
use Rattle.turns.specs.Start.{level_from}
use Rattle.turns.specs.Tally.{add_one, add_edge, talliedb, tally_one}
use Rattle.turns.specs.Step.{tallied}
use Rattle.entering.specs.Columns.{Columns}
use Rattle.entering.specs.Within.{six_range, own_held, slot_held, level_inside, level_member, cells_of_level, member_low, slot_low}
use Rattle.entering.specs.Blocks.{SameBut, but_self, but_on, but_set, but_each, each_count, count_single}

add_but : (y : List ℕ) (t : ℕ) → SameBut SUM most_slots y (add_one y t)
unfolding add_one
add_but y t = go (ltb t most_slots) refl
  where
    go : (b : Bool) → ltb t most_slots ≡ b → SameBut SUM most_slots y (add_one y t)
    go true e = rw (e, add_one) (but_set SUM most_slots y (SUM + t) ((field y (SUM + t) + 1) % 65536) (omega arith)
        (omega (arith, ltb-true t most_slots e)))
    go false e = rw (e, add_one) (but_self SUM most_slots y)

edges_but : (c : ℕ) (y : List ℕ) → SameBut SUM most_slots y (each_from (add_edge c) 6 0 y)
unfolding add_edge
edges_but c y = but_each SUM most_slots (add_edge c) 6 (λ z e l. add_but z (slot_at z c e)) 6 0 (omega arith) y

tally_but : (y : List ℕ) (c : ℕ) → SameBut SUM most_slots y (tally_one y c)
unfolding tally_one
tally_but y c = go (talliedb y c) refl
  where
    go : (b : Bool) → talliedb y c ≡ b → SameBut SUM most_slots y (tally_one y c)
    go true e = rw (e, tally_one) (edges_but c y)
    go false e = rw (e, tally_one) (but_self SUM most_slots y)

add_sum : (y : List ℕ) (t s : ℕ) → t < most_slots → SUM + most_slots ≤ length y → field y (SUM + s) + one_if (eqb t s) < 65536
    → field (add_one y t) (SUM + s) ≡ field y (SUM + s) + one_if (eqb t s)
unfolding add_one one_if
add_sum y t s l long h = go (ℕ_discrete t s)
  where
    go : Dec (t ≡ s) → field (add_one y t) (SUM + s) ≡ field y (SUM + s) + one_if (eqb t s)
    go (yes e) =
        let h' : field y (SUM + s) + 1 < 65536 = rw (eq-eqb t s e) at h in
        let z : field y (SUM + t) ≡ field y (SUM + s) = ap (λ (i : ℕ). field y (SUM + i)) e in
        let w : field (set y (SUM + t) ((field y (SUM + t) + 1) % 65536)) (SUM + t) ≡ (field y (SUM + t) + 1) % 65536 =
        get_or-set_same y (SUM + t) ((field y (SUM + t) + 1) % 65536) 0 (omega arith) in
        let v : field (set y (SUM + t) ((field y (SUM + t) + 1) % 65536)) (SUM + s) ≡ field y (SUM + s) + 1 =
        ap (λ (i : ℕ). field (set y (SUM + t) ((field y (SUM + t) + 1) % 65536)) (SUM + i)) (sym e) ∙ w ∙ omega (arith, z, h') in
        rw (lt-ltb t most_slots l, add_one, eq-eqb t s e) v
    go (no n) =
        let v : field (set y (SUM + t) ((field y (SUM + t) + 1) % 65536)) (SUM + s) ≡ field y (SUM + s) + 0 =
        get_or-set_other y (SUM + t) (SUM + s) ((field y (SUM + t) + 1) % 65536) 0 (λ e. n (omega arith)) ∙ omega arith in
        rw (lt-ltb t most_slots l, add_one, ne_eqb t s n) v

stays : (n : ℕ) (b : Bool) → b ≡ false → n ≡ n + one_if b
unfolding one_if
stays n b e = rw e (omega arith)

module _ (P : ℕ) (J : Task (Fin P)) (p : Fin P) (x : List ℕ) (u : Columns P J p x) where
  tallied_but : (k : ℕ) → SameBut SUM most_slots x (tallied x k)
  unfolding tallied
  tallied_but k = but_each SUM most_slots tally_one most_cells (λ y c l. tally_but y c) (level_from x (k + 1) - level_from x k) (level_from x k)
      (level_inside P J p x u k) x

  pub tallied_else : (k i : ℕ) → (i < SUM) ⊎ (SUM + most_slots ≤ i) → field (tallied x k) i ≡ field x i
  tallied_else k = (tallied_but k).rest

  pub tallied-length : (k : ℕ) → length (tallied x k) ≡ length x
  tallied-length k = (tallied_but k).size

  -- one cell: each of its slots has one more
  module _ (c : ℕ) (held : HoldsCell P J p c) (s : ℕ) where
    slot_same : (y : List ℕ) (e : ℕ) → SameBut SUM most_slots x y → e < 6 → slot_at y c e ≡ J.slot c e
    slot_same y e b l =
        let (k, m, h) = held in
        b.rest (SLOT + (6 * c + e)) (inl (omega (arith, member_low P J p x u k c m, u.cells_few))) ∙ u.slot c e held l

    edge_turn : (y : List ℕ) (e : ℕ) → SameBut SUM most_slots x y → 0 ≤ e → e < 0 + 6
        → SameBut SUM most_slots x (add_edge c y e)
        × (field y (SUM + s) + one_if (eqb (J.slot c e) s) < 65536
        → field (add_edge c y e) (SUM + s) ≡ field y (SUM + s) + one_if (eqb (J.slot c e) s))
    unfolding add_edge
    edge_turn y e b a l =
        let z : slot_at y c e ≡ J.slot c e = slot_same y e b (omega arith) in
        let n : Member e (range 0 6) = range_member 0 6 e a l in
        let low : J.slot c e < most_slots = slot_low P J p x u (J.slot c e) (slot_held P J p c e held (rw six_range at n)) in
        let long : SUM + most_slots ≤ length y = omega (arith, b.size, u.long) in (
          but_on SUM most_slots x y (add_one y (slot_at y c e)) b (add_but y (slot_at y c e)),
          λ h. ap (λ (t : ℕ). field (add_one y t) (SUM + s)) z ∙ add_sum y (J.slot c e) s low long h,
        )

    slots_once : length (filterb (λ e. eqb (J.slot c e) s) (range 0 6)) ≡ one_if (has J c s)
    unfolding has
    slots_once =
        count_single (λ e. eqb (J.slot c e) s) 6 0
        (λ i j a b k l q r. u.slots_apart c i j held (omega arith) (omega arith)
        (eqb-true (J.slot c i) s q ∙ sym (eqb-true (J.slot c j) s r)))
        ∙ ap (λ (l : List ℕ). one_if (anyb (λ e. eqb (J.slot c e) s) l)) six_range

    cell_sum : (y : List ℕ) → SameBut SUM most_slots x y → field y (SUM + s) + one_if (has J c s) < 65536
        → field (each_from (add_edge c) 6 0 y) (SUM + s) ≡ field y (SUM + s) + one_if (has J c s)
    cell_sum y b h =
        each_count SUM most_slots (add_edge c) (λ e. eqb (J.slot c e) s) (SUM + s) x 0 6 edge_turn 6 0 y b (omega arith) (omega arith)
        (omega (arith, slots_once, h)) ∙ ap (λ (n : ℕ). field y (SUM + s) + n) slots_once

  owner_not : (k c : ℕ) → Member c (J.cells k) → ¬ (J.owner c ≡ p) → ¬ (field x (OWNER + c) ≡ field x PART)
  owner_not k c m f e = go (mine (parts P) J p c) refl
    where
      go : (b : Bool) → mine (parts P) J p c ≡ b → ⊥
      go true i =
          let held : HoldsCell P J p c = (k, m, rw i tt) in
          f (native.Mathlib.Fin.val_path (omega (arith, u.owner c held, u.part, e)))
      go false i = absurd (omega (arith, u.no_owner k c m i, u.part, e))

  module _ (k : ℕ) (low : k ≤ J.top) (red : ℕ → Bool) (flags : (c : ℕ) → HoldsCell P J p c → field x (RED + c) ≡ one_if (red c)) where
    -- the test of a cell in the loop, by a store that differs in sums only
    test_is : (c : ℕ) → Member c (J.cells k) → (y : List ℕ) → SameBut SUM most_slots x y
        → talliedb y c ≡ is_part (parts P) (J.owner c) p && red c
    unfolding talliedb
    test_is c m y b = go (is_part (parts P) (J.owner c) p) refl
      where
        l : c < most_cells
        l = omega (arith, member_low P J p x u k c m, u.cells_few)

        same : eqb (field y (OWNER + c)) (field y PART) ≡ eqb (field x (OWNER + c)) (field x PART)
        same = ap₂ eqb (b.rest (OWNER + c) (inl (omega (arith, l)))) (b.rest PART (inl (omega arith)))

        go : (t : Bool) → is_part (parts P) (J.owner c) p ≡ t → talliedb y c ≡ is_part (parts P) (J.owner c) p && red c
        go true e =
            let own : J.owner c ≡ p = is_eq (parts P) (J.owner c) p (rw e tt) in
            let held : HoldsCell P J p c = own_held P J p k c m own in
            let q : field x (OWNER + c) ≡ field x PART = u.owner c held ∙ ap (λ (q : Fin P). suc q.0) own ∙ sym u.part in
            let f : eqb (field y (RED + c)) 1 ≡ red c =
            ap (λ (n : ℕ). eqb n 1) (b.rest (RED + c) (inl (omega (arith, l))) ∙ flags c held) ∙ eqb_one (red c) in
            rw (same ∙ eq-eqb (field x (OWNER + c)) (field x PART) q, e) f
        go false e =
            let n : ¬ (J.owner c ≡ p) = λ i. not_both (is_part (parts P) (J.owner c) p) (is_same (parts P) (J.owner c) p i) e in
            rw (same ∙ ne_eqb (field x (OWNER + c)) (field x PART) (owner_not k c m n), e) refl

    counted : ℕ → ℕ → Bool
    counted s c = is_part (parts P) (J.owner c) p && (red c && has J c s)

    cell_turn : (s : ℕ) (y : List ℕ) (c : ℕ) → SameBut SUM most_slots x y → level_from x k ≤ c
        → c < level_from x k + (level_from x (k + 1) - level_from x k)
        → SameBut SUM most_slots x (tally_one y c)
        × (field y (SUM + s) + one_if (counted s c) < 65536 → field (tally_one y c) (SUM + s) ≡ field y (SUM + s) + one_if (counted s c))
    unfolding tally_one counted
    cell_turn s y c b h l = (
      but_on SUM most_slots x y (tally_one y c) b (tally_but y c),
      go (is_part (parts P) (J.owner c) p) refl
          (red c) refl,
    )
      where
        m : Member c (J.cells k)
        m = level_member P J p x u k c low h l

        off : talliedb y c ≡ false → counted s c ≡ false → field y (SUM + s) + one_if (counted s c) < 65536
            → field (tally_one y c) (SUM + s) ≡ field y (SUM + s) + one_if (counted s c)
        off t n _ = rw (t, tally_one) (stays (field y (SUM + s)) (counted s c) n)

        go : (t : Bool) → is_part (parts P) (J.owner c) p ≡ t → (r : Bool) → red c ≡ r → field y (SUM + s) + one_if (counted s c) < 65536
            → field (tally_one y c) (SUM + s) ≡ field y (SUM + s) + one_if (counted s c)
        go true e true r =
            let own : J.owner c ≡ p = is_eq (parts P) (J.owner c) p (rw e tt) in
            let t : talliedb y c ≡ true = test_is c m y b ∙ rw (e, r) refl in
            let n : counted s c ≡ has J c s = rw (e, r) refl in
            rw (t, tally_one, n) (cell_sum c (own_held P J p k c m own) s y b)
        go true e false r = off (test_is c m y b ∙ rw (e, r) refl) (rw (e, r) refl)
        go false e q r = off (test_is c m y b ∙ rw e refl) (rw e refl)

    pub tallied_sum : (s : ℕ) → field x (SUM + s) + tally (parts P) J p red k s < 65536
        → field (tallied x k) (SUM + s) ≡ field x (SUM + s) + tally (parts P) J p red k s
    unfolding tally tallied counted
    tallied_sum s h =
        let n : tally (parts P) J p red k s ≡ length (filterb (counted s) (range (level_from x k) (level_from x (k + 1) - level_from x k))) =
        ap (λ (l : List ℕ). length (filterb (λ c. is_part (parts P) (J.owner c) p && (red c && has J c s)) l))
        (cells_of_level P J p x u k low) in
        each_count SUM most_slots tally_one (counted s) (SUM + s) x (level_from x k) (level_from x (k + 1) - level_from x k) (cell_turn s)
        (level_from x (k + 1) - level_from x k) (level_from x k) x (but_self SUM most_slots x) (omega arith) (omega arith) (omega (arith, n, h))
        ∙ ap (λ (i : ℕ). field x (SUM + s) + i) (sym n)
