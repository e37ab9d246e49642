-- Which part holds which cell and which slot: in the numbers of a split, and in the task.
--   split_task Q n qs ss os    the task of a table that is split over Q + 1 parts
-- Laws: owner_ranged and family_ranged (owners are parts), part_numbered (a part by its number), mine_held (cells), holder_bit (the
-- parts that hold a slot, as bits), no_slot and no_bit (there are no others). Slots of a level are in proofs/Holders.
use Rattle.std.specs.Prelude.{◌≡◌, Bool, ◌&&◌, List, map, eqb, length}
use Rattle.std.proofs.Common.{sym, ◌∙◌, arith, eqb→eq}
use Rattle.std.proofs.Math.Path.{ap, ap₂}
use Rattle.std.proofs.Math.Bool.{false, ◌||◌}
use Prim.Native.Nat.{ℕ, suc, ◌≤◌, ◌<◌, Fin}
use Rattle.std.proofs.Math.Decide.{dec_lt}
use Rattle.std.proofs.Math.Dec.{T}
use Rattle.std.proofs.Math.ListN.{get_or, length-map, get_or-eq_default}
use borrow.Author.Tests.{eq-eqb, ne_eqb}
use Rattle.base.specs.Limits.{most_parts}
use Rattle.base.specs.Lists.{anyb}
use Rattle.base.specs.Bools.{and_left, same_test}
use Rattle.base.specs.Every.{get_d_map}
use Rattle.base.specs.Range.{range, length-range, range_at, member_range}
use Rattle.mesh.specs.Table.{soundb}
use Rattle.mesh.specs.Layout.{edge_numbers}
use Rattle.soundness.specs.Sound.{Sound, sound_parts}
use Rattle.exchange.specs.Finite.{Finite, parts}
use Rattle.base.specs.Member.{any_member}
use Rattle.rounds.specs.Task.{Task}
use Rattle.rounds.specs.Rounds.{is_part, mine}
use Rattle.rounds.specs.Among.{is_eq, is_same}
use Rattle.store.specs.Fetch.{bitb}
use Rattle.parts.specs.Owners.{children_of, family_of, ownersb}
use Rattle.parts.specs.Held.{masterb}
use Rattle.splitting.specs.Numbers.{number_inside, level_at_lem, kid}
use Rattle.splitting.specs.Split.{task_of}
use Rattle.splitting.specs.Members.{first_in}
use Rattle.splitting.specs.Admissible.{owners_counted}
use Rattle.merging.specs.Run.{nth_part, number_of, named}
use Rattle.split.specs.Columns.{slot_of, holds_cell, holds_slot, holders_of}
use Rattle.tasks.specs.Edges.{slots_on}
use Rattle.tasks.specs.Inner.{bit_at}

abbrev pub split_task : (Q n : ℕ) → List (List ℕ) → List ℕ → List ℕ → Task (Fin (suc Q))
split_task Q n qs ss os = task_of n qs ss (slot_of n qs ss) (slots_on n qs ss) os (nth_part Q)

-- a part by its number
pub part_numbered : (Q o : ℕ) (p : Fin (suc Q)) → 1 ≤ o → o ≤ suc Q → is_part (parts (suc Q)) (nth_part Q o) p ≡ eqb o (suc p.0)
part_numbered Q o p a b =
    same_test (is_part (parts (suc Q)) (nth_part Q o) p) (eqb o (suc p.0))
    (λ t.
    let e : o ≡ suc p.0 = sym ((named Q).forth o a b) ∙ ap (λ (x : Fin (suc Q)). number_of x) (is_eq (parts (suc Q)) (nth_part Q o) p t) in
    rw (eq-eqb o (suc p.0) e) tt)
    (λ t.
    let e : nth_part Q o ≡ p = ap (nth_part Q) (eqb→eq o (suc p.0) t) ∙ (named Q).back p in
    rw (is_same (parts (suc Q)) (nth_part Q o) p e) tt)

module _ (Q n : ℕ) (qs : List (List ℕ)) (ss os : List ℕ) (sound : T (soundb n qs ss)) (owners : T (ownersb n qs ss (suc Q) os)) where
  abbrev s : Sound n qs ss
  s = sound_parts n qs ss sound

  abbrev J : Task (Fin (suc Q))
  J = split_task Q n qs ss os

  abbrev F : Finite (Fin (suc Q))
  F = parts (suc Q)

  pub owner_ranged : (c : ℕ) → c < length ss → (1 ≤ get_or os c 0) × (get_or os c 0 ≤ suc Q)
  owner_ranged c h = (owners_counted n qs ss (suc Q) os owners).each c h

  pub family_ranged : (c : ℕ) → c < length ss → (1 ≤ family_of n qs ss os c) × (family_of n qs ss os c ≤ suc Q)
  unfolding family_of
  family_ranged c h =
      first_in (λ d. get_or os d 0) (get_or os c 0) (λ o. (1 ≤ o) × (o ≤ suc Q)) (children_of n qs ss c) (owner_ranged c h)
      (λ d m.
      let (k, q) = level_at_lem n qs ss s c h in
      owner_ranged d (number_inside n qs ss s (suc k) d (kid n qs ss s k c d q m).up))

  pub mine_held : (p : Fin (suc Q)) (c : ℕ) → c < length ss
      → mine (parts (suc Q)) (split_task Q n qs ss os) p c ≡ holds_cell n qs ss os (suc p.0) c
  unfolding holds_cell masterb
  mine_held p c h =
      let (a, b) = owner_ranged c h in
      let (d, e) = family_ranged c h in
      ap₂ ◌||◌ (part_numbered Q (get_or os c 0) p a b) (part_numbered Q (family_of n qs ss os c) p d e)

  -- no other part holds a cell
  held_ranged : (i c : ℕ) → c < length ss → suc Q ≤ i → holds_cell n qs ss os (suc i) c ≡ false
  unfolding holds_cell masterb
  held_ranged i c h g =
      let (a, b) = owner_ranged c h in
      let (d, e) = family_ranged c h in
      rw (ne_eqb (get_or os c 0) (suc i) (λ z. omega arith), ne_eqb (family_of n qs ss os c) (suc i) (λ z. omega arith))

  abbrev hasb : ℕ → ℕ → Bool
  hasb c x = anyb (λ e. eqb (slot_of n qs ss c e) x) edge_numbers

  no_slot : (i x : ℕ) → suc Q ≤ i → holds_slot n qs ss os (suc i) x ≡ false
  unfolding holds_slot
  no_slot i x g =
      same_test (holds_slot n qs ss os (suc i) x) false
      (λ t.
      let (c, m, u) = any_member (λ c. holds_cell n qs ss os (suc i) c && hasb c x) (range 0 (length ss)) t in
      let (_, h) = member_range 0 (length ss) c m in
      let v : T (holds_cell n qs ss os (suc i) c) = and_left (holds_cell n qs ss os (suc i) c) (hasb c x) u in
      rw (held_ranged i c (omega arith) g) at v)
      (λ t. absurd t)

  -- sixteen bits
  pub holder_bit : (i x : ℕ) → i < most_parts → bitb (holders_of n qs ss os x) i ≡ holds_slot n qs ss os (suc i) x
  unfolding holders_of
  holder_bit i x h =
      bit_at (map (λ p. holds_slot n qs ss os p x) (range 1 most_parts)) i
      ∙ get_d_map (λ p. holds_slot n qs ss os p x) (range 1 most_parts) i 0 false (omega (arith, length-range 1 most_parts))
      ∙ ap (λ (p : ℕ). holds_slot n qs ss os p x) (range_at 1 most_parts i 0 h ∙ omega arith)

  pub no_bit : (i x : ℕ) → suc Q ≤ i → bitb (holders_of n qs ss os x) i ≡ false
  unfolding holders_of
  no_bit i x g =
      elim (dec_lt i most_parts) [
        | yes h ↦ holder_bit i x h ∙ no_slot i x g
        | no h ↦
            bit_at (map (λ p. holds_slot n qs ss os p x) (range 1 most_parts)) i
            ∙ get_or-eq_default (map (λ p. holds_slot n qs ss os p x) (range 1 most_parts)) false {n = i}
            (omega (arith, length-map (range 1 most_parts) (λ p. holds_slot n qs ss os p x), length-range 1 most_parts))
      ]
