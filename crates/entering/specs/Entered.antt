-- A part that enters a round: what its store then stands for.
--   Untouched i        the number at the place i is one that entering a round leaves
--   Stay x y           the columns of the split are as they were
-- Laws: told_none, added_none (where nothing is taken), enters (the store stands at the round's beginning), columns_stay.
use Rattle.std.specs.Prelude.{◌≡◌, ◌⊎◌, ◌≢◌, Bool, true, ◌||◌, ltb, leb, length}
use Rattle.std.proofs.Math.Path.{refl, ap, subst}
use Rattle.std.proofs.Common.{sym, ◌∙◌, ap₂, inl, inr, arith}
use Rattle.std.proofs.Math.Bool.{false, or-false}
use mathlib.Core.List.{List, [], ◌∷◌, ◌++◌}
use Prim.Native.Nat.{ℕ, suc, ◌+◌, ◌-◌, ◌*◌, ◌≤◌, ◌<◌, min, Fin}
use Rattle.base.specs.Limits.{most_cells}
use Rattle.base.specs.Lists.{anyb}
use Rattle.base.specs.Bools.{one_if}
use Rattle.base.specs.Range.{range, member_range}
use Rattle.mesh.specs.Table.{size_of}
use Rattle.exchange.specs.Finite.{parts, sum_over}
use Rattle.exchange.specs.Protocol.{only, numbered}
use Rattle.base.specs.Member.{Member}
use Rattle.rounds.specs.Task.{Task}
use Rattle.rounds.specs.Rounds.{Body, phase, State, is_part, told, added, masters_told, top_told, red_told, sum_told, capped, largest}
use Rattle.rounds.specs.Rounded.{overb, sizedb, endedb}
use Rattle.store.specs.Fields.{field, STAGE, PART, PARTS, CELLS, ROUND, TOTAL, HIGH, CURSOR, WRITTEN, FIRST_CELL}
use Rattle.store.specs.Fields.{FIRST_SLOT, OWNER, FAMILY, STATUS, REGULAR, CHILD, PARENT, HEAD, DIGITS, MORE, INNER, MARK, RED, SLOT}
use Rattle.store.specs.Fields.{HOLDERS, SUM, CORNER, FIRST_ENDED, FIRST_TAKEN, FREE}
use Rattle.store.specs.Header.{headerb}
use Rattle.store.specs.Fetch.{entry_count, bitb}
use Rattle.store.specs.declared.Place.{Place}
use Rattle.standing.specs.Walk.{spots_from}
use Rattle.standing.specs.Busy.{L, Busy, HoldsCell, HoldsSlot, pack, part_low, held_few}
use Rattle.standing.specs.Posting.{Longer, Matches, CountRoom}
use Rattle.standing.proofs.Posting.{step_queue, step_sent}
use Rattle.turns.specs.Decide.{kid_count}
use Rattle.places.specs.Put.{place_at}
use Rattle.shares.specs.Grow.{last_of}
use Rattle.entering.specs.Columns.{Columns}
use Rattle.entering.specs.Within.{kids_in}

-- nothing taken
module _ (P : ℕ) where
  pub told_none : (c : ℕ) → told (parts P) (λ q. []) c ≡ false
  unfolding told anyb
  told_none c = go (parts P).list
    where
      go : (l : List (Fin P)) → anyb (λ q. false) l ≡ false
      go [] = refl
      go (q ∷ l) = go l

  pub added_none : (s : ℕ) → added (parts P) (λ q. []) s ≡ 0
  unfolding added sum_over
  added_none s = go (parts P).list
    where
      go : (l : List (Fin P)) → sum_over (λ q. 0) l ≡ 0
      go [] = refl
      go (q ∷ l) = omega (arith, go l)

  masters_none : masters_told (parts P) (λ q. []) ≡ 0
  unfolding masters_told sum_over
  masters_none = go (parts P).list
    where
      go : (l : List (Fin P)) → sum_over (λ q. 0) l ≡ 0
      go [] = refl
      go (q ∷ l) = omega (arith, go l)

  top_none : top_told (parts P) (λ q. []) ≡ 0
  unfolding top_told largest
  top_none = go (parts P).list
    where
      go : (l : List (Fin P)) → largest (λ q. 0) l ≡ 0
      go [] = refl
      go (q ∷ l) = omega (arith, go l)

-- what entering a round leaves
abbrev pub Untouched : ℕ → Type 0
Untouched i = (i ≢ WRITTEN) × (((PART ≤ i) × (i < ROUND)) ⊎ (((CURSOR ≤ i) × (i < MARK)) ⊎ ((CORNER ≤ i) × (i < SUM))))

low_kept : (i : ℕ) → PART ≤ i → i < ROUND → Untouched i
low_kept i a b = ((λ z. absurd (omega (arith, z))), inl (a, b))

mid_kept : (i : ℕ) → CURSOR ≤ i → i < MARK → i ≢ WRITTEN → Untouched i
mid_kept i a b n = (n, inr (inl (a, b)))

high_kept : (i : ℕ) → CORNER ≤ i → i < SUM → Untouched i
high_kept i a b = ((λ z. absurd (omega (arith, z))), inr (inr (a, b)))

module _ (P : ℕ) (J : Task (Fin P)) (p : Fin P) (l : L P J) (x : List ℕ) (u : Busy P J p l x) where
  -- the store z, and the beginning of the round r with the state s: the messages t were written
  module _ (z : List ℕ) (r : ℕ) (s : State) (t : List (Fin P × Body)) (n : ℕ) (longer : Longer x z n)
      (size : length z ≡ length x) (same : (i : ℕ) → Untouched i → field z i ≡ field x i)
      (head : headerb z ≡ true) (round : field z ROUND ≡ r)
      (running : overb (phase J.top r) ≡ false → field z STAGE ≡ 1) (done : overb (phase J.top r) ≡ true → field z STAGE ≡ 2)
      (ends : (q : Fin P) → is_part (parts P) q p ≡ false → overb (phase J.top r) ≡ false → field x (FIRST_ENDED + q.0) ≡ r)
      (flags : (c : ℕ) → HoldsCell P J p c → field z (RED + c) ≡ one_if (s.red c))
      (sums : (i : ℕ) → HoldsSlot P J p i → field z (SUM + i) ≡ s.sum i)
      (sized : sizedb (phase J.top r) ≡ true → (field z TOTAL ≡ capped s.total) × (field z HIGH ≡ s.high)) where
    pub part_own : field z PART ≡ suc p.0
    part_own = same PART (low_kept 1 (omega arith) (omega arith)) ∙ u.part

    abbrev next : L P J
    next = record {
      round = r;
      state = s;
      before = λ q. l.before q + length (l.got q);
      got = λ q. [];
      sent = λ q. l.sent q + length (only (parts P) q t);
      queue = l.queue ++ numbered (parts P) (pack P J) p l.sent t;
    }

    module _ (matches : Matches P J p z part_own t (spots_from z n (entry_count x) 0)) (room : CountRoom P J p z part_own l.sent t) where
      pub enters : Busy P J p next z
      unfolding red_told sum_told endedb one_if
      enters = record {
        long = omega (arith, size, u.long);
        header = head;
        running = running;
        done = done;
        part = part_own;
        many = same PARTS (low_kept 2 (omega arith) (omega arith)) ∙ u.many;
        round = round;
        taken = λ q.
            let h = part_low P J p l x u q in
            same (FIRST_TAKEN + q.0) (mid_kept (FIRST_TAKEN + q.0) (omega arith) (omega arith) (λ e. absurd (omega (arith, e))))
            ∙ u.taken q ∙ omega arith;
        ends = λ q i o.
            let h = part_low P J p l x u q in
            same (FIRST_ENDED + q.0) (mid_kept (FIRST_ENDED + q.0) (omega arith) (omega arith) (λ e. absurd (omega (arith, e))))
            ∙ ends q i o ∙ omega arith;
        queue = step_queue P J p z part_own l x n u longer t matches room;
        sent = step_sent P J p z part_own l x n u longer t matches room;
        cursor =
            let a : field z CURSOR ≡ field x CURSOR = longer.entry in
            let b = longer.many in
            let c = u.cursor.0 in
            (omega (arith, a, b, c), λ e. longer.bit ∙ u.cursor.1 (omega (arith, a, b, c, e)));
        cells = λ c h. (
          subst (λ (m : ℕ). c < m) (sym (same CELLS (low_kept 5 (omega arith) (omega arith)))) (u.cells c h).0,
          λ e. (u.cells c h).1
              (sym (same (OWNER + c) (mid_kept (OWNER + c) (omega arith) (omega (arith, (u.cells c h).0, few))
              (λ e. absurd (omega (arith, e))))) ∙ e),
        );
        slots = λ i h. (
          (u.slots i h).0,
          λ e. (u.slots i h).1
              (sym (same (HOLDERS + i) (high_kept (HOLDERS + i) (omega arith) (omega (arith, (u.slots i h).0)))) ∙ e),
        );
        red = λ c h. flags c h ∙ ap one_if (sym (ap (λ (b : Bool). s.red c || b) (told_none P c) ∙ or-false (s.red c)));
        sum = λ i h. sums i h ∙ omega (arith, added_none P i);
        total = λ o.
            let e : s.total + masters_told (parts P) (λ q. []) ≡ s.total = omega (arith, masters_none P) in
            (sized o).0 ∙ ap capped (sym e);
        high = λ o. (sized o).1 ∙ omega (arith, top_none P);
      }
        where
          few : field x CELLS ≤ most_cells
          few = held_few P J p l x u

-- the columns of the split
abbrev pub Static : ℕ → Type 0
Static i = ((PART ≤ i) × (i < ROUND)) ⊎ (((FIRST_CELL ≤ i) × (i < FREE)) ⊎ (((OWNER ≤ i) × (i < MARK)) ⊎ ((CORNER ≤ i) × (i < SUM))))

pub static_low : (i : ℕ) → Static i → (i < SUM) × (i ≢ ROUND) × (i ≢ WRITTEN)
static_low i (inl (a, b)) = (omega arith, (λ e. absurd (omega (arith, e))), λ e. absurd (omega (arith, e)))
static_low i (inr (inl (a, b))) = (omega arith, (λ e. absurd (omega (arith, e))), λ e. absurd (omega (arith, e)))
static_low i (inr (inr (inl (a, b)))) = (omega arith, (λ e. absurd (omega (arith, e))), λ e. absurd (omega (arith, e)))
static_low i (inr (inr (inr (a, b)))) = (omega arith, (λ e. absurd (omega (arith, e))), λ e. absurd (omega (arith, e)))

pub record Stay (x y : List ℕ) : Type 0 where
  pub size : length y ≡ length x
  pub else : (i : ℕ) → Static i → field y i ≡ field x i

pub stay_on : (x y z : List ℕ) → Stay x y → Stay y z → Stay x z
stay_on x y z a b = record { size = b.size ∙ a.size; else = λ i h. b.else i h ∙ a.else i h }

kid_count_lem : (x y : List ℕ) (c : ℕ) → field y (STATUS + c) ≡ field x (STATUS + c) → field y (CHILD + c) ≡ field x (CHILD + c)
    → field y CELLS ≡ field x CELLS → kid_count y c ≡ kid_count x c
unfolding kid_count
kid_count_lem x y c a b e =
    ap₂ min (ap (λ (s : ℕ). elim (leb s 64) [ true ↦ size_of s | false ↦ 0 ]) a) (ap₂ (λ (m n : ℕ). m - n) e b)

place_like : (x y : List ℕ) (c : ℕ) → field y (HEAD + c) ≡ field x (HEAD + c) → field y (DIGITS + c) ≡ field x (DIGITS + c)
    → field y (MORE + c) ≡ field x (MORE + c) → place_at y c ≡ place_at x c
place_like x y c a b d =
    ap₂ {A = ℕ} {B = ℕ} {C = Place} (λ h g. record { head = h; digits = g; more = field y (MORE + c) }) a b
    ∙ ap {A = ℕ} {B = Place} (λ m. record { head = field x (HEAD + c); digits = field x (DIGITS + c); more = m }) d

module _ (P : ℕ) (J : Task (Fin P)) (p : Fin P) (x y : List ℕ) (s : Stay x y) where
  low : (i : ℕ) → PART ≤ i → i < ROUND → field y i ≡ field x i
  low i a b = s.else i (inl (a, b))

  level : (i : ℕ) → FIRST_CELL ≤ i → i < FREE → field y i ≡ field x i
  level i a b = s.else i (inr (inl (a, b)))

  column : (i : ℕ) → OWNER ≤ i → i < MARK → field y i ≡ field x i
  column i a b = s.else i (inr (inr (inl (a, b))))

  upper : (i : ℕ) → CORNER ≤ i → i < SUM → field y i ≡ field x i
  upper i a b = s.else i (inr (inr (inr (a, b))))

  pub columns_stay : Columns P J p x → Columns P J p y
  columns_stay co = record {
    long = omega (arith, s.size, co.long);
    part = low 1 (omega arith) (omega arith) ∙ co.part;
    many = low 2 (omega arith) (omega arith) ∙ co.many;
    parts_few = co.parts_few;
    levels = low 6 (omega arith) (omega arith) ∙ co.levels;
    levels_few = co.levels_few;
    cells_few = omega (arith, cells_same, co.cells_few);
    first_cell = first 0 (omega arith) ∙ co.first_cell;
    last_cell = first (suc J.top) (omega arith) ∙ co.last_cell ∙ sym cells_same;
    cells_rise = λ k h. omega (arith, first k (omega arith), first (suc k) (omega arith), co.cells_rise k h);
    cells_in = λ k h. omega (arith, first k (omega arith), cells_same, co.cells_in k h);
    cells = λ k h. co.cells k h ∙ sym (ap₂ (λ (a b : ℕ). range a (b - a)) (first k (omega arith)) (first (suc k) (omega arith)));
    no_cells = co.no_cells;
    slots_low = co.slots_low;
    first_slot = slot_first 0 (omega arith) ∙ co.first_slot;
    slots_rise = λ k h. omega (arith, slot_first k (omega arith), slot_first (suc k) (omega arith), co.slots_rise k h);
    slots_in = λ k h. omega (arith, slot_first k (omega arith), co.slots_in k h);
    slots = λ k h. co.slots k h ∙ sym (ap₂ (λ (a b : ℕ). range a (b - a)) (slot_first k (omega arith)) (slot_first (suc k) (omega arith)));
    owner = λ c h. at OWNER c h (omega arith) (omega arith) ∙ co.owner c h;
    family = λ c h. at FAMILY c h (omega arith) (omega arith) ∙ co.family c h;
    no_owner = λ k c m e. by OWNER k c m (omega arith) (omega arith) ∙ co.no_owner k c m e;
    no_family = λ k c m e. by FAMILY k c m (omega arith) (omega arith) ∙ co.no_family k c m e;
    status = λ c h. at STATUS c h (omega arith) (omega arith) ∙ co.status c h;
    status_most = co.status_most;
    regular = λ c h. at REGULAR c h (omega arith) (omega arith) ∙ co.regular c h;
    slot = λ c e h l. upper (SLOT + (6 * c + e)) (omega arith) (omega (arith, cell_low c h)) ∙ co.slot c e h l;
    slots_apart = co.slots_apart;
    paths = co.paths;
    place = λ c h. place_same c h ∙ co.place c h;
    coarse = λ k c m h. ap (λ (a : ℕ). ltb a 256) (at HEAD c h (omega arith) (omega arith)) ∙ co.coarse k c m h;
    parent = λ c h. at PARENT c h (omega arith) (omega arith) ∙ co.parent c h;
    parent_held = co.parent_held;
    kids = λ k c m f. co.kids k c m f ∙ sym (ap₂ range (by CHILD k c m (omega arith) (omega arith)) (kids_same k c m));
    kid_number = λ k c j m f h.
        ap (λ (a : ℕ). last_of (J.path (a + j))) (by CHILD k c m (omega arith) (omega arith))
        ∙ co.kid_number k c j m f (subst (λ (b : ℕ). j < b) (kids_same k c m) h);
    inner = λ k c d e m f o h. ap (λ (a : ℕ). bitb a e) (kid_at INNER k c d m f o (omega arith) (omega arith)) ∙ co.inner k c d e m f o h;
    holders = λ k i m e q. ap (λ (a : ℕ). bitb a q.0) (holder k i m) ∙ co.holders k i m e q;
    no_more = λ i j h e. ap (λ (a : ℕ). bitb a j) (upper (HOLDERS + i) (omega arith) (omega arith)) ∙ co.no_more i j h e;
    no_holders = λ k i m e. holder k i m ∙ co.no_holders k i m e;
    held_slot = co.held_slot;
  }
    where
      cells_same : field y CELLS ≡ field x CELLS
      cells_same = low 5 (omega arith) (omega arith)

      first : (k : ℕ) → k ≤ suc J.top → field y (FIRST_CELL + k) ≡ field x (FIRST_CELL + k)
      first k h = level (FIRST_CELL + k) (omega arith) (omega (arith, co.levels_few))

      slot_first : (k : ℕ) → k ≤ suc J.top → field y (FIRST_SLOT + k) ≡ field x (FIRST_SLOT + k)
      slot_first k h = level (FIRST_SLOT + k) (omega arith) (omega (arith, co.levels_few))

      member_low : (k c : ℕ) → Member c (J.cells k) → c < most_cells
      member_low k c m =
          let h = co.no_cells k c m in
          let (a, b) = member_range (field x (FIRST_CELL + k)) (field x (FIRST_CELL + suc k) - field x (FIRST_CELL + k)) c
          (subst (Member c) (co.cells k h) m) in
          omega (arith, b, co.cells_in (suc k) (omega arith), co.cells_rise k h, co.cells_few)

      cell_low : (c : ℕ) → HoldsCell P J p c → c < most_cells
      cell_low c (k, m, h) = member_low k c m

      by : (o k c : ℕ) → Member c (J.cells k) → OWNER ≤ o → o ≤ INNER → field y (o + c) ≡ field x (o + c)
      by o k c m a b = column (o + c) (omega arith) (omega (arith, member_low k c m))

      at : (o c : ℕ) → HoldsCell P J p c → OWNER ≤ o → o ≤ INNER → field y (o + c) ≡ field x (o + c)
      at o c h a b = column (o + c) (omega arith) (omega (arith, cell_low c h))

      kids_same : (k c : ℕ) → Member c (J.cells k) → kid_count y c ≡ kid_count x c
      kids_same k c m =
          kid_count_lem x y c (by STATUS k c m (omega arith) (omega arith)) (by CHILD k c m (omega arith) (omega arith)) cells_same

      kid_at : (o k c d : ℕ) → Member c (J.cells k) → J.family c ≡ p → Member d (J.kids c) → OWNER ≤ o → o ≤ INNER
          → field y (o + d) ≡ field x (o + d)
      kid_at o k c d m f i a b =
          let (v, w) = member_range (field x (CHILD + c)) (kid_count x c) d (subst (Member d) (co.kids k c m f) i) in
          column (o + d) (omega arith) (omega (arith, w, kids_in x c, co.cells_few))

      place_same : (c : ℕ) → HoldsCell P J p c → place_at y c ≡ place_at x c
      place_same c h = place_like x y c (at HEAD c h (omega arith) (omega arith)) (at DIGITS c h (omega arith) (omega arith))
          (at MORE c h (omega arith) (omega arith))

      holder : (k i : ℕ) → Member i (J.slots k) → field y (HOLDERS + i) ≡ field x (HOLDERS + i)
      holder k i m = upper (HOLDERS + i) (omega arith) (omega (arith, co.slots_low k i m))
