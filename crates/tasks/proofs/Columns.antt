-- THE STORE OF A SPLIT HAS THE COLUMNS OF THE TASK.
-- Laws: by_owner and by_family (the cells that a part holds), columns_of (the theorem).
use Rattle.std.specs.Prelude.{◌≡◌, refl, Bool, true, false, T, ltb}
use Rattle.std.proofs.Common.{sym, ◌∙◌, ap₂, arith}
use Rattle.std.proofs.Math.Path.{ap}
use mathlib.Core.List.{List, []}
use Prim.Native.Nat.{ℕ, zero, suc, ◌+◌, ◌-◌, ◌≤◌, ◌<◌, pred, Fin}
use Rattle.std.proofs.Math.Decide.{ℕ_discrete}
use Rattle.std.proofs.Math.ListN.{length, get_or}
use borrow.Author.Tests.{le-leb}
use Rattle.base.specs.Bools.{one_if, is_true, or_first, or_second}
use Rattle.base.specs.Every.{All}
use Rattle.base.specs.Limits.{most_cells, most_slots, most_coarse_cells, most_parts}
use Rattle.base.specs.Range.{range, member_range}
use Rattle.mesh.specs.Cells.{Cell, bits_of}
use Rattle.mesh.specs.Weights.{Point}
use Rattle.mesh.specs.Coarse.{cellsb}
use Rattle.mesh.specs.Table.{levels_of, soundb, size_of}
use Rattle.soundness.specs.Sound.{Sound, sound_parts}
use Rattle.exchange.specs.Finite.{Finite, parts}
use Rattle.base.specs.Member.{Member}
use Rattle.rounds.specs.Task.{Task}
use Rattle.rounds.specs.Rounds.{is_part, mine}
use Rattle.rounds.specs.Among.{is_same}
use Rattle.store.specs.Fields.{field, CELLS, FIRST_CELL, FIRST_SLOT, OWNER, FAMILY, STATUS, REGULAR, CHILD, PARENT, HEAD, DIGITS, MORE}
use Rattle.store.specs.Fields.{INNER, HOLDERS}
use Rattle.store.specs.Fetch.{bitb}
use Rattle.store.specs.Places.{place_of}
use Rattle.store.specs.declared.Place.{Place}
use Rattle.standing.specs.Busy.{HoldsCell}
use Rattle.turns.specs.Decide.{kid_count}
use Rattle.places.specs.Put.{place_at}
use Rattle.shares.specs.Grow.{last_of, last_snoc}
use Rattle.parts.specs.Owners.{nth_cell, children_of, family_of, ownersb}
use Rattle.splitting.specs.Numbers.{numbers_of, number_inside, kid, kid_in}
use Rattle.splitting.specs.Split.{owners_fit}
use Rattle.merging.specs.Run.{nth_part, named}
use Rattle.entering.specs.Columns.{Columns}
use Rattle.split.specs.Columns.{cells_below, slots_below, slot_of, inner_bits, holds_cell, holds_slot, holders_of}
use Rattle.split.specs.Split.{holders_at}
use Rattle.split.specs.Stored.{Stored, if_held, when_held, not_held}
use Rattle.tasks.specs.Levels.{below_none, below_more, below_top, below_all, level_gap, one_at_least, level_top}
use Rattle.tasks.specs.Edges.{slots_on, slots_follow}
use Rattle.tasks.proofs.Shapes.{slots_apart}
use Rattle.tasks.specs.Families.{kid_at, kids_are, kids_inside, parent_in, status_most}
use Rattle.tasks.specs.Inner.{bit_at, inner_bits_lem}
use Rattle.tasks.specs.Holders.{split_task, owner_ranged, family_ranged, mine_held, holder_bit, no_bit}
use Rattle.tasks.proofs.Holders.{slot_told, slot_holds}
use Rattle.tasks.specs.Sizes.{slots_none, slots_all}
use Rattle.tasks.proofs.Sizes.{slots_gap}
use Rattle.tasks.specs.Paths.{path_room, place_coarse}
use Rattle.lineage.specs.Olds.{first_child}

same_place : (a b : Place) → a.head ≡ b.head → a.digits ≡ b.digits → a.more ≡ b.more → a ≡ b
same_place a b u v w =
    ap {A = ℕ} {B = Place} (λ y. record { head = y; digits = a.digits; more = a.more }) u
    ∙ ap {A = ℕ} {B = Place} (λ y. record { head = b.head; digits = y; more = a.more }) v
    ∙ ap {A = ℕ} {B = Place} (λ y. record { head = b.head; digits = b.digits; more = y }) w

module _ (Q n : ℕ) (qs : List (List ℕ)) (ss os : List ℕ) (four : All (λ q. length q ≡ 4) qs) (accepted : T (cellsb n qs))
    (sound : T (soundb n qs ss)) (owners : T (ownersb n qs ss (suc Q) os)) (p : Fin (suc Q)) (x : List ℕ)
    (st : Stored n qs ss (suc Q) os (suc p.0) x) where
  abbrev s : Sound n qs ss
  s = sound_parts n qs ss sound

  abbrev F : Finite (Fin (suc Q))
  F = parts (suc Q)

  abbrev J : Task (Fin (suc Q))
  J = split_task Q n qs ss os

  abbrev cells : ℕ → List ℕ
  cells = numbers_of n qs ss

  abbrev Holds : ℕ → Type 0
  Holds = HoldsCell (suc Q) (split_task Q n qs ss os) p

  inside : (k c : ℕ) → Member c (cells k) → (c < length ss) × (c < most_cells)
  inside k c m = let h = number_inside n qs ss s k c m in (h, omega (arith, s.many, s.few))

  held_as : (k c : ℕ) → Member c (cells k) → T (mine F J p c) → holds_cell n qs ss os (suc p.0) c ≡ true
  held_as k c m t = sym (mine_held Q n qs ss os sound owners p c (inside k c m).0) ∙ is_true (mine F J p c) t

  -- a number of a cell that the part holds
  column : (f : ℕ → ℕ) (o : ℕ) → ((c : ℕ) → c < most_cells → field x (o + c) ≡ if_held n qs ss os (suc p.0) f c)
      → (c : ℕ) → Holds c → field x (o + c) ≡ f c
  column f o w c (k, m, t) =
      w c (inside k c m).1 ∙ when_held n qs ss os (suc p.0) f c (inside k c m).0 (held_as k c m t)

  empty : (f : ℕ → ℕ) (o : ℕ) → ((c : ℕ) → c < most_cells → field x (o + c) ≡ if_held n qs ss os (suc p.0) f c)
      → (k c : ℕ) → Member c (cells k) → mine F J p c ≡ false → field x (o + c) ≡ 0
  empty f o w k c m t =
      w c (inside k c m).1
      ∙ not_held n qs ss os (suc p.0) f c (sym (mine_held Q n qs ss os sound owners p c (inside k c m).0) ∙ t)

  -- the part with a number, and its number
  number_back : (o : ℕ) → (1 ≤ o) × (o ≤ suc Q) → o ≡ suc (nth_part Q o).0
  number_back o (a, b) = sym ((named Q).forth o a b)

  by_owner : (k c : ℕ) → Member c (cells k) → J.owner c ≡ p → Holds c
  by_owner k c m e = (k, m, or_first (is_part F (J.owner c) p) (is_part F (J.family c) p) (rw (is_same F (J.owner c) p e) tt))

  by_family : (k c : ℕ) → Member c (cells k) → J.family c ≡ p → Holds c
  by_family k c m e = (k, m, or_second (is_part F (J.owner c) p) (is_part F (J.family c) p) (rw (is_same F (J.family c) p e) tt))

  -- children of a family that is here
  kid_owner : (k c d : ℕ) → Member c (cells k) → J.family c ≡ p → Member d (children_of n qs ss c) → Holds d
  kid_owner k c d m e q =
      by_owner (suc k) d (kid n qs ss s k c d m q).up
      (ap (nth_part Q) (owners_fit n qs ss (suc Q) os owners c d (inside k c m).0 q) ∙ e)

  child_is : (k c : ℕ) → Member c (cells k) → J.family c ≡ p → field x (CHILD + c) ≡ first_child (length qs) ss c
  child_is k c m e = column (first_child (length qs) ss) CHILD st.child c (by_family k c m e)

  count_is : (k c : ℕ) → Member c (cells k) → J.family c ≡ p → kid_count x c ≡ size_of (get_or ss c 0)
  unfolding kid_count
  count_is k c m e =
      let a : field x (STATUS + c) ≡ get_or ss c 0 = column (λ c. get_or ss c 0) STATUS st.status c (by_family k c m e) in
      let b : field x (CHILD + c) ≡ first_child (length qs) ss c = child_is k c m e in
      let d : field x CELLS ≡ length ss = st.cells in
      rw (a, b, d, le-leb (get_or ss c 0) 64 (status_most n qs ss s k c m))
      (elim (ℕ_discrete (size_of (get_or ss c 0)) 0) [
        | yes z ↦ omega (arith, ap size_of a)
        | no z ↦ omega (arith, ap size_of a, kids_inside n qs ss s k c m (omega arith))
      ])

  -- the parts that hold a slot
  slot_small : (k i : ℕ) → Member i (slots_on n qs ss k) → i < most_slots
  slot_small k i m =
      let (a, b) = member_range (slots_below n qs ss k) (slots_below n qs ss (suc k) - slots_below n qs ss k) i
      (rw (slots_gap n qs ss k) at m) in
      omega (arith, slots_all n qs ss s (suc k), slots_follow n qs ss k)

  holders_here : (i : ℕ) → i < most_slots → holds_slot n qs ss os (suc p.0) i ≡ true → field x (HOLDERS + i) ≡ holders_of n qs ss os i
  unfolding holders_at
  holders_here i h e = st.holders i h ∙ rw (e, holders_at)

  holders_none : (i : ℕ) → i < most_slots → holds_slot n qs ss os (suc p.0) i ≡ false → field x (HOLDERS + i) ≡ 0
  unfolding holders_at
  holders_none i h e = st.holders i h ∙ rw (e, holders_at)

  no_bits : (i : ℕ) → bitb 0 i ≡ false
  unfolding bits_of
  no_bits i = bit_at [] i

  no_more : (i j : ℕ) → i < most_slots → suc Q ≤ j → bitb (field x (HOLDERS + i)) j ≡ false
  no_more i j h g = go (holds_slot n qs ss os (suc p.0) i) refl
    where
      go : (b : Bool) → holds_slot n qs ss os (suc p.0) i ≡ b → bitb (field x (HOLDERS + i)) j ≡ false
      go true e = ap (λ (y : ℕ). bitb y j) (holders_here i h e) ∙ no_bit Q n qs ss os sound owners j i g
      go false e = ap (λ (y : ℕ). bitb y j) (holders_none i h e) ∙ no_bits j

  module _ (parts_few : suc Q ≤ most_parts) (some : 1 ≤ length qs) (few : length qs ≤ most_coarse_cells) where
    top : suc (pred (length (levels_of n qs ss))) ≡ length (levels_of n qs ss)
    top = up (length (levels_of n qs ss)) (one_at_least n qs ss some)
      where
        up : (m : ℕ) → 1 ≤ m → suc (pred m) ≡ m
        up zero h = absurd (omega arith)
        up (suc m) h = refl

    abbrev high : ℕ
    high = pred (length (levels_of n qs ss))

    cell_at_lem : (k : ℕ) → k ≤ suc high → field x (FIRST_CELL + k) ≡ cells_below n qs ss k
    cell_at_lem k h = st.first_cell k (omega (arith, top, s.high))

    slot_at : (k : ℕ) → k ≤ suc high → field x (FIRST_SLOT + k) ≡ slots_below n qs ss k
    slot_at k h = st.first_slot k (omega (arith, top, s.high))

    pub columns_of : Columns (suc Q) (split_task Q n qs ss os) p x
    columns_of =
        record {
          long = st.long;
          part = st.part;
          many = st.parts;
          parts_few = parts_few;
          levels = st.levels ∙ sym top;
          levels_few = omega (arith, top, s.high);
          cells_few = omega (arith, st.cells, s.many, s.few);
          first_cell = cell_at_lem 0 (omega arith) ∙ below_none n qs ss;
          last_cell = cell_at_lem (suc high) (omega arith) ∙ ap (cells_below n qs ss) top ∙ below_top n qs ss s ∙ sym st.cells;
          cells_rise = λ k h. omega (arith, cell_at_lem k (omega arith), cell_at_lem (suc k) (omega arith), below_more n qs ss k);
          cells_in = λ k h. omega (arith, cell_at_lem k h, below_all n qs ss s k, st.cells);
          cells = λ k h.
              level_gap n qs ss k
              ∙ ap₂ (λ (a b : ℕ). range a (b - a)) (sym (cell_at_lem k (omega arith))) (sym (cell_at_lem (suc k) (omega arith)));
          no_cells = λ k c m. omega (arith, level_top n qs ss s k c m, top);
          slots_low = slot_small;
          first_slot = slot_at 0 (omega arith) ∙ slots_none n qs ss;
          slots_rise = λ k h. omega (arith, slot_at k (omega arith), slot_at (suc k) (omega arith), slots_follow n qs ss k);
          slots_in = λ k h. omega (arith, slot_at k h, slots_all n qs ss s k);
          slots = λ k h.
              slots_gap n qs ss k
              ∙ ap₂ (λ (a b : ℕ). range a (b - a)) (sym (slot_at k (omega arith))) (sym (slot_at (suc k) (omega arith)));
          owner = λ c h.
              column (λ c. get_or os c 0) OWNER st.owner c h
              ∙ number_back (get_or os c 0) (owner_ranged Q n qs ss os sound owners c (inside h.0 c h.1).0);
          family = λ c h.
              column (family_of n qs ss os) FAMILY st.family c h
              ∙ number_back (family_of n qs ss os c) (family_ranged Q n qs ss os sound owners c (inside h.0 c h.1).0);
          no_owner = empty (λ c. get_or os c 0) OWNER st.owner;
          no_family = empty (family_of n qs ss os) FAMILY st.family;
          status = column (λ c. get_or ss c 0) STATUS st.status;
          status_most = λ c h. status_most n qs ss s h.0 c h.1;
          regular = column (λ c. one_if (nth_cell n qs ss c).regular) REGULAR st.regular;
          slot = λ c e h g.
              st.slot c e (inside h.0 c h.1).1 g
              ∙ when_held n qs ss os (suc p.0) (λ d. slot_of n qs ss d e) c (inside h.0 c h.1).0 (held_as h.0 c h.1 h.2);
          slots_apart = λ c e f h. slots_apart n qs ss four accepted sound h.0 c e f h.1;
          paths = path_room n qs ss few s;
          place = λ c h.
              same_place (place_at x c) (place_of (nth_cell n qs ss c).path)
              (column (λ c. (place_of (nth_cell n qs ss c).path).head) HEAD st.head c h)
              (column (λ c. (place_of (nth_cell n qs ss c).path).digits) DIGITS st.digits c h)
              (column (λ c. (place_of (nth_cell n qs ss c).path).more) MORE st.more c h);
          coarse = λ k c m h.
              ap (λ (y : ℕ). ltb y 256) (column (λ c. (place_of (nth_cell n qs ss c).path).head) HEAD st.head c h)
              ∙ place_coarse k (nth_cell n qs ss c).path (omega (arith, level_top n qs ss s k c m, s.high))
              (path_room n qs ss few s k c m);
          parent = column (λ c. (nth_cell n qs ss c).parent) PARENT st.parent;
          parent_held = λ k c m e.
              let q = parent_in n qs ss s k c m in
              by_family k (nth_cell n qs ss c).parent q
              (ap (nth_part Q) (sym (owners_fit n qs ss (suc Q) os owners (nth_cell n qs ss c).parent c
              (inside k (nth_cell n qs ss c).parent q).0 (own_kid k c m))) ∙ e);
          kids = λ k c m e.
              kids_are n qs ss s k c m ∙ ap₂ range (sym (child_is k c m e)) (sym (count_is k c m e));
          kid_number = λ k c j m e h.
              let w = kid_at n qs ss s k c j m (omega (arith, count_is k c m e)) in
              ap (λ (y : ℕ). last_of (nth_cell n qs ss (y + j)).path) (child_is k c m e) ∙ ap (λ (c : Cell Point). last_of c.path) w.is
              ∙ last_snoc (nth_cell n qs ss c).path j;
          inner = λ k c d e m f q h.
              ap (λ (y : ℕ). bitb y e) (column (inner_bits n qs ss) INNER st.inner d (kid_owner k c d m f q))
              ∙ inner_bits_lem n qs ss four accepted sound k d e (kid n qs ss s k c d m q).up h;
          holders = λ k i m e q.
              let t : holds_slot n qs ss os (suc p.0) i ≡ true = sym (slot_holds Q n qs ss os sound owners four accepted p k i m) ∙ e in
              ap (λ (y : ℕ). bitb y q.0) (holders_here i (slot_small k i m) t)
              ∙ holder_bit Q n qs ss os sound owners q.0 i (omega (arith, q.1))
              ∙ sym (slot_holds Q n qs ss os sound owners four accepted q k i m);
          no_more = no_more;
          no_holders = λ k i m e.
              holders_none i (slot_small k i m) (sym (slot_holds Q n qs ss os sound owners four accepted p k i m) ∙ e);
          held_slot = slot_told Q n qs ss os sound owners four accepted p;
        }
      where
        own_kid : (k c : ℕ) → Member c (cells (suc k)) → Member c (children_of n qs ss (nth_cell n qs ss c).parent)
        own_kid k c m = kid_in n qs ss s (suc k) (nth_cell n qs ss c).parent c m refl
