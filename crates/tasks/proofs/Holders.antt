-- Laws: slot_told (a slot that is held is one of its level), slot_holds (slots: in the numbers of a split, and in the task).
use Rattle.std.specs.Prelude.{◌≡◌, Bool, true, ◌&&◌, List, eqb, length}
use Rattle.std.proofs.Common.{sym, subst, arith, eqb→eq}
use Prim.Native.Nat.{ℕ, suc, Fin}
use Rattle.std.proofs.Math.Dec.{T}
use Rattle.base.specs.Lists.{anyb}
use Rattle.base.specs.Bools.{and_right, same_test}
use Rattle.base.specs.Every.{All}
use Rattle.base.specs.Range.{range, range_member, member_range}
use Rattle.mesh.specs.Coarse.{cellsb}
use Rattle.mesh.specs.Table.{soundb}
use Rattle.mesh.specs.Layout.{edge_numbers}
use Rattle.soundness.specs.Sound.{Sound, sound_parts}
use Rattle.exchange.specs.Finite.{Finite, parts}
use Rattle.base.specs.Member.{Member, any_member, member_any}
use Rattle.rounds.specs.Task.{Task, has}
use Rattle.rounds.specs.Rounds.{mine, holdsb}
use Rattle.parts.specs.Owners.{ownersb}
use Rattle.splitting.specs.Numbers.{numbers_of, number_inside, level_at_lem}
use Rattle.splitting.specs.Split.{Slots}
use Rattle.split.specs.Columns.{slot_of, holds_cell, holds_slot}
use Rattle.tasks.specs.Edges.{slots_on}
use Rattle.tasks.proofs.Edges.{slots_split}
use Rattle.tasks.specs.Holders.{split_task, mine_held}

module _ (Q n : ℕ) (qs : List (List ℕ)) (ss os : List ℕ) (sound : T (soundb n qs ss)) (owners : T (ownersb n qs ss (suc Q) os)) where
  abbrev s : Sound n qs ss
  s = sound_parts n qs ss sound

  abbrev J : Task (Fin (suc Q))
  J = split_task Q n qs ss os

  abbrev F : Finite (Fin (suc Q))
  F = parts (suc Q)

  abbrev hasb : ℕ → ℕ → Bool
  hasb c x = anyb (λ e. eqb (slot_of n qs ss c e) x) edge_numbers

  module _ (four : All (λ q. length q ≡ 4) qs) (accepted : T (cellsb n qs)) where
    abbrev sl : Slots n qs ss (slot_of n qs ss) (slots_on n qs ss)
    sl = slots_split n qs ss four accepted sound

    -- the level of a cell's slots
    slot_level : (k c x : ℕ) → Member c (numbers_of n qs ss k) → T (hasb c x) → Member x (slots_on n qs ss k)
    slot_level k c x m t =
        let (e, b, u) = any_member (λ e. eqb (slot_of n qs ss c e) x) edge_numbers t in
        subst (λ (y : ℕ). Member y (slots_on n qs ss k)) (eqb→eq (slot_of n qs ss c e) x u) (sl.there k c e m b)

    pub slot_told : (p : Fin (suc Q)) (k x : ℕ) → holdsb (parts (suc Q)) (split_task Q n qs ss os) p k x ≡ true
        → Member x (slots_on n qs ss k)
    unfolding holdsb has
    slot_told p k x e =
        let (c, m, u) = any_member (λ c. mine F J p c && has J c x) (numbers_of n qs ss k) (rw e tt) in
        slot_level k c x m (and_right (mine F J p c) (has J c x) u)

    pub slot_holds : (p : Fin (suc Q)) (k x : ℕ) → Member x (slots_on n qs ss k)
        → holdsb (parts (suc Q)) (split_task Q n qs ss os) p k x ≡ holds_slot n qs ss os (suc p.0) x
    unfolding holdsb has holds_slot
    slot_holds p k x at =
        same_test (holdsb F J p k x) (holds_slot n qs ss os (suc p.0) x)
        (λ t.
        let (c, m, u) = any_member (λ c. mine F J p c && has J c x) (numbers_of n qs ss k) t in
        let h = number_inside n qs ss s k c m in
        member_any (λ c. holds_cell n qs ss os (suc p.0) c && hasb c x) (range 0 (length ss)) c
        (range_member 0 (length ss) c (omega arith) (omega arith))
        (subst (λ (b : Bool). T (b && hasb c x)) (mine_held Q n qs ss os sound owners p c h) u))
        (λ t.
        let (c, m, u) = any_member (λ c. holds_cell n qs ss os (suc p.0) c && hasb c x) (range 0 (length ss)) t in
        let (_, h) = member_range 0 (length ss) c m in
        let (j, q) = level_at_lem n qs ss s c (omega arith) in
        let z : j ≡ k = sl.apart j k x (slot_level j c x q (and_right (holds_cell n qs ss os (suc p.0) c) (hasb c x) u)) at in
        member_any (λ c. mine F J p c && has J c x) (numbers_of n qs ss k) c (subst (λ (y : ℕ). Member c (numbers_of n qs ss y)) z q)
        (subst (λ (b : Bool). T (b && hasb c x)) (sym (mine_held Q n qs ss os sound owners p c (omega arith))) u))
