-- Keyed slots are slots: two edges of a level have the same one just where their keys are the same (keyed_slots_lem).
use Rattle.std.specs.Prelude.{◌≡◌, Bool, eqb, get_or}
use Rattle.std.proofs.Common.{sym, ◌∙◌, eq-eqb}
use Rattle.std.proofs.Math.Path.{ap, subst}
use Rattle.std.proofs.Math.Bool.{true}
use mathlib.Core.List.{List, []}
use Prim.Native.Nat.{ℕ, zero, suc, ◌+◌, ◌-◌, ◌≤◌, ◌<◌}
use Rattle.std.proofs.Math.Decide.{dec_lt}
use native.Mathlib.Omega.{arith}
use Rattle.std.proofs.Math.Dec.{T, eqb→eq}
use Rattle.std.proofs.Math.ListN.{length}
use Rattle.base.specs.Lists.{sameb}
use Rattle.base.specs.Bools.{is_true, same_test}
use Rattle.base.specs.Places.{Same, hasb, place_in, has_below, place_there}
use Rattle.base.specs.Range.{member_range, range_member}
use Rattle.mesh.specs.Cells.{edge, joinsb}
use Rattle.mesh.specs.Layout.{edge_numbers}
use Rattle.soundness.specs.Sound.{Sound}
use Rattle.base.specs.Member.{Member}
use Rattle.parts.specs.Owners.{nth_cell}
use Rattle.splitting.specs.Numbers.{numbers_of, level_of_lem}
use Rattle.splitting.specs.Split.{Slots}

module _ (n : ℕ) (qs : List (List ℕ)) (ss : List ℕ) {A : Type 0} (same : A → A → Bool) (keys : ℕ → List A) (base : ℕ → ℕ)
    (key : ℕ → ℕ → A) where
  abbrev keyed_slot : ℕ → ℕ → ℕ
  keyed_slot = Rattle.splitting.specs.Keyed.keyed_slot n qs ss same keys base key

  abbrev keyed_slots : ℕ → List ℕ
  keyed_slots = Rattle.splitting.specs.Keyed.keyed_slots n qs ss same keys base key

  module _ (s : Sound n qs ss) (o : A) (equal : Same same) (follows : (k : ℕ) → base (suc k) ≡ base k + length (keys k))
      (has : (k c e : ℕ) → Member c (numbers_of n qs ss k) → Member e edge_numbers → hasb same (keys k) (key c e) ≡ true)
      (means : (k c d e f : ℕ) → Member c (numbers_of n qs ss k) → Member d (numbers_of n qs ss k) → Member e edge_numbers
      → Member f edge_numbers
      → same (key d f) (key c e) ≡ joinsb sameb (edge [] (nth_cell n qs ss c) e) (edge [] (nth_cell n qs ss d) f)) where
    slot_at : (k c e : ℕ) → Member c (numbers_of n qs ss k) → keyed_slot c e ≡ base k + place_in same (keys k) (key c e)
    unfolding Rattle.splitting.specs.Keyed.keyed_slot
    slot_at k c e m = ap (λ (k : ℕ). base k + place_in same (keys k) (key c e)) (level_of_lem n qs ss s k c m)

    -- levels follow one another
    behind : (j d : ℕ) → base j + length (keys j) ≤ base (suc (j + d))
    behind j zero = let z : suc (j + 0) ≡ suc j = omega arith in rw z (omega (arith, follows j))
    behind j (suc d) =
        let z : suc (j + suc d) ≡ suc (suc (j + d)) = omega arith in rw z (omega (arith, follows (suc (j + d)), behind j d))

    apart : (j k x : ℕ) → j < k → Member x (keyed_slots j) → Member x (keyed_slots k) → ⊥
    unfolding Rattle.splitting.specs.Keyed.keyed_slots
    apart j k x h a b =
        let (_, u) = member_range (base j) (length (keys j)) x a in
        let (v, _) = member_range (base k) (length (keys k)) x b in
        let z : suc (j + (k - suc j)) ≡ k = omega arith in
        let w : base j + length (keys j) ≤ base k = rw z at (behind j (k - suc j)) in
        omega arith

    same_place : (k c d e f : ℕ) → Member c (numbers_of n qs ss k) → Member d (numbers_of n qs ss k) → Member e edge_numbers
        → Member f edge_numbers → place_in same (keys k) (key d f) ≡ place_in same (keys k) (key c e) → key d f ≡ key c e
    same_place k c d e f m q b g w =
        sym (place_there same o equal (keys k) (key d f) (has k d f q g)) ∙ ap (λ (x : ℕ). get_or (keys k) x o) w
        ∙ place_there same o equal (keys k) (key c e) (has k c e m b)

    pub keyed_slots_lem : Slots n qs ss keyed_slot keyed_slots
    unfolding Rattle.splitting.specs.Keyed.keyed_slots
    keyed_slots_lem =
        record {
          there = λ k c e m b.
              let z = slot_at k c e m in
              let h = has_below same (keys k) (key c e) (has k c e m b) in
              range_member (base k) (length (keys k)) (keyed_slot c e) (omega arith) (omega arith);
          apart = λ j k x a b.
              elim (dec_lt j k) [
                | yes h ↦ absurd (apart j k x h a b)
                | no h ↦ elim (dec_lt k j) [ yes g ↦ absurd (apart k j x g b a) | no g ↦ omega arith ]
              ];
          same = λ k c d e f m q b g.
              let x = slot_at k c e m in
              let y = slot_at k d f q in
              same_test (eqb (keyed_slot d f) (keyed_slot c e)) (joinsb sameb (edge [] (nth_cell n qs ss c) e) (edge [] (nth_cell n qs ss d) f))
              (λ t.
              let w : keyed_slot d f ≡ keyed_slot c e = eqb→eq (keyed_slot d f) (keyed_slot c e) t in
              let w' : key d f ≡ key c e = same_place k c d e f m q b g (omega arith) in
              subst (λ (z : Bool). T z) (means k c d e f m q b g)
              (subst (λ (z : A). T (same z (key c e))) (sym w') (subst (λ (z : Bool). T z) (sym (equal.self (key c e))) tt)))
              (λ t.
              let u : same (key d f) (key c e) ≡ true =
              means k c d e f m q b g ∙ is_true (joinsb sameb (edge [] (nth_cell n qs ss c) e) (edge [] (nth_cell n qs ss d) f)) t in
              let w : place_in same (keys k) (key d f) ≡ place_in same (keys k) (key c e) =
              ap (place_in same (keys k)) (equal.sound (key d f) (key c e) u) in
              subst (λ (z : Bool). T z) (sym (eq-eqb (keyed_slot d f) (keyed_slot c e) (omega arith))) tt);
        }
