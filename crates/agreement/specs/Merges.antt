-- The done stores of a split merge, in any order: to the serial step's table, or beside 8 or 9 to the old one.
-- Laws: merges_new, merges_old.
use Rattle.std.specs.Prelude.{◌≡◌, refl, T, length, take, drop, ℤ}
use Rattle.std.proofs.Math.Path.{sym, ap}
use Rattle.std.proofs.Common.{◌∙◌, subst, inl, inr, length-take, length-drop, ext_get_or, get_or-take, get_or-drop, length-take-le}
use Rattle.std.proofs.Math.Bool.{true}
use mathlib.Core.List.{List, [], ◌++◌, flat_map, flatten}
use Prim.Native.Nat.{ℕ, zero, suc, ◌+◌, ◌-◌, ◌*◌, ◌≤◌, ◌<◌, min, pred, Fin}
use native.Mathlib.Omega.{arith}
use Rattle.std.proofs.Math.ListN.{get_or}
use borrow.Author.Tests.{lt-ltb, eq-eqb}
use Rattle.base.specs.Limits.{most_cells, most_parts, most_levels, most_coarse_cells}
use Rattle.base.specs.Bools.{or_first}
use Rattle.base.specs.Fours.{fours}
use Rattle.base.specs.Range.{range_member}
use Rattle.base.specs.Refuse.{code_of}
use Rattle.base.specs.Answer.{Accepted, Refused}
use Rattle.mesh.specs.Coarse.{coarse_corner_count}
use Rattle.mesh.specs.Table.{soundb}
use Rattle.mesh.specs.Step.{step_table}
use Rattle.mesh.specs.Answers.{new_table, marked_answer}
use Rattle.exchange.specs.Calls.{play, Lawful}
use Rattle.exchange.specs.Finite.{parts}
use Rattle.base.specs.Member.{Member}
use Rattle.rounds.specs.Rounds.{is_part}
use Rattle.rounds.specs.Among.{is_self, is_eq}
use Rattle.parts.specs.Held.{Entry, masterb, entries_of}
use Rattle.lineage.specs.Step.{step_by_lem}
use Rattle.soundness.specs.Sound.{sound_parts}
use Rattle.soundness.specs.Steady.{step_sound}
use Rattle.splitting.specs.Numbers.{number_inside}
use Rattle.shares.specs.Settled.{entries_in}
use Rattle.merging.specs.Run.{nth_part, number_of, named}
use Rattle.store.specs.Fields.{field, full, PART, CORNERS, COARSE, RESULT, OWNER, CORNER, FIRST_CELL}
use Rattle.split.specs.Split.{split_answer, four_of}
use Rattle.split.specs.Stored.{Stored}
use Rattle.entering.specs.Columns.{Columns}
use Rattle.entering.specs.Entered.{Stay}
use Rattle.entering.specs.PlacingStatus.{owner_is}
use Rattle.tasks.specs.Levels.{below_coarse}
use Rattle.tasks.specs.Holders.{owner_ranged}
use Rattle.tasks.specs.Accepted.{Splits, split_store_lem}
use Rattle.held.specs.Held.{held_in}
use Rattle.merge.specs.Merge.{ownsb, stores_in, merge_answer, merge_table}
use Rattle.joining.specs.Joint.{Order, Joint}
use Rattle.joining.proofs.Joint.{order_count, order_within, joint_old, joint_new}
use Rattle.joining.specs.Done.{PartDone}
use Rattle.joining.specs.Joined.{Joining, laid_at}
use Rattle.joining.proofs.Joined.{joined_accepted, joined_table}
use Rattle.outcome.specs.Program.{act, phase_of}
use Rattle.agreement.specs.Terms.{Calls}
use Rattle.agreement.specs.Agreed.{g, split_store, world, J, R, store_of, phase_done}
use Rattle.agreement.specs.Outcomes.{ms, X, end_stands, split_stays, result_is, limits, held_new, held_old}

-- four numbers that agree
four_same : (x y : List ℕ) (a : ℕ) → length y ≡ length x → ((i : ℕ) → a ≤ i → i < a + 4 → field y i ≡ field x i)
    → take 4 (drop a y) ≡ take 4 (drop a x)
four_same x y a l h =
    ext_get_or 0 (take 4 (drop a y)) (take 4 (drop a x))
    (length-take 4 (drop a y) ∙ ap (λ (n : ℕ). min 4 n) (length-drop a y ∙ ap (λ (n : ℕ). n - a) l ∙ sym (length-drop a x))
    ∙ sym (length-take 4 (drop a x)))
    (λ i k.
    let low : i < 4 = omega (arith, k, length-take 4 (drop a y)) in
    get_or-take 4 (drop a y) i 0 low ∙ get_or-drop a y i 0 ∙ h (a + i) (omega arith) (omega arith) ∙ sym (get_or-drop a x i 0)
    ∙ sym (get_or-take 4 (drop a x) i 0 low))

module _ (ps : List ℤ) (ts ss : List ℕ) (Q : ℕ) (os b : List ℕ) (behind : ℕ → List ℕ)
    (e : split_answer ps ts ss (suc Q) os b ≡ Accepted) (cs : Calls)
    (lawful : Lawful act cs (world ps ts ss Q os b behind e))
    (done : (p : Fin (suc Q)) → phase_of (store_of ps ts ss Q os b behind e cs p) ≡ suc (R ps ts ss Q os b behind e).rounds) where
  abbrev nn : ℕ
  nn = coarse_corner_count ps

  abbrev cells : List (List ℕ)
  cells = fours ts

  abbrev gg : Splits Q nn cells ss os
  gg = g ps ts ss Q os b behind e

  abbrev x : Fin (suc Q) → List ℕ
  x = store_of ps ts ss Q os b behind e cs

  abbrev marks : List ℕ
  marks = ms ps ts ss Q os b behind e cs lawful done

  abbrev owner : ℕ → Fin (suc Q)
  owner i = nth_part Q (get_or os i 0)

  stored : (p : Fin (suc Q)) → Stored nn cells ss (suc Q) os (suc p.0) (split_store ps ts ss Q os b behind e p)
  stored p = split_store_lem ps ts ss Q os b e (behind (suc p.0)) p

  columns : (p : Fin (suc Q)) → Columns (suc Q) (J ps ts ss Q os b behind e) p (x p)
  columns p = (end_stands ps ts ss Q os b behind e cs lawful done p).columns

  stay : (p : Fin (suc Q)) → Stay (split_store ps ts ss Q os b behind e p) (x p)
  stay = split_stays ps ts ss Q os b behind e cs lawful done

  -- a coarse cell stands on level 0
  coarse_member : (p : Fin (suc Q)) (i : ℕ) → i < length cells → Member i ((J ps ts ss Q os b behind e).cells 0)
  coarse_member p i h =
      let co = columns p in
      let a : field (x p) (FIRST_CELL + 1) ≡ length cells =
      (stay p).else (FIRST_CELL + 1) (inr (inl (omega arith, omega arith))) ∙ (stored p).first_cell 1 (omega arith)
      ∙ below_coarse nn cells ss in
      subst (Member i) (sym (co.cells 0 (omega arith)))
      (range_member (field (x p) (FIRST_CELL + 0)) (field (x p) (FIRST_CELL + 1) - field (x p) (FIRST_CELL + 0)) i
      (omega (arith, co.first_cell))
      (omega (arith, co.first_cell, a)))

  owned : (p : Fin (suc Q)) (i : ℕ) → i < length cells → ownsb i (x p) ≡ is_part (parts (suc Q)) (owner i) p
  unfolding ownsb
  owned p i h =
      owner_is (suc Q) (J ps ts ss Q os b behind e) p (x p) (columns p) (x p) (λ i o. refl) 0 i (coarse_member p i h)

  fours_are : (p : Fin (suc Q)) (i : ℕ) → i < length cells → owner i ≡ p → take 4 (drop (CORNER + 4 * i) (x p)) ≡ get_or cells i []
  unfolding four_of masterb
  fours_are p i h o =
      let s = stored p in
      let low : i < most_coarse_cells = omega (arith, gg.coarse_most) in
      let (c, d) = owner_ranged Q nn cells ss os gg.sound gg.owners i
      (number_inside nn cells ss (sound_parts nn cells ss gg.sound) 0 i (coarse_member p i h)) in
      let m : get_or os i 0 ≡ suc p.0 = sym ((named Q).forth (get_or os i 0) c d) ∙ ap (λ (q : Fin (suc Q)). number_of q) o in
      four_same (split_store ps ts ss Q os b behind e p) (x p) (CORNER + 4 * i) (stay p).size
      (λ j k l. (stay p).else j (inr (inr (inr (omega arith, omega arith))))) ∙ s.four i low
      ∙ rw (lt-ltb i (length cells) h, eq-eqb (get_or os i 0) (suc p.0) m, four_of)

  -- the store of the part with a number
  abbrev pub store_by : ℕ → List ℕ
  store_by q = get_or (play act cs (world ps ts ss Q os b behind e)).stores (pred q) []

  -- the done stores, where they hold es and ended with r
  done_of : (r : ℕ) (es : ℕ → List Entry) → ((p : Fin (suc Q)) → field (x p) RESULT ≡ r)
      → ((p : Fin (suc Q)) → held_in (x p) ≡ es (suc p.0))
      → (q : ℕ) → 1 ≤ q → q ≤ suc Q → PartDone (suc Q) nn r cells (es q) q (store_by q)
  unfolding ownsb
  done_of r es f h zero a c = absurd (omega arith)
  done_of r es f h (suc j) a c =
      let p : Fin (suc Q) = (j, omega arith) in record {
        long = (end_stands ps ts ss Q os b behind e cs lawful done (j, omega arith)).busy.long;
        header = rw (end_stands ps ts ss Q os b behind e cs lawful done (j, omega arith)).busy.header tt;
        part = (columns (j, omega arith)).part;
        stage = phase_done ps ts ss Q os b behind e cs lawful (j, omega arith) (done (j, omega arith));
        parts = (columns (j, omega arith)).many;
        corners = (stay (j, omega arith)).else CORNERS (inl (omega arith, omega arith)) ∙ (stored (j, omega arith)).corners;
        coarse = (stay (j, omega arith)).else COARSE (inl (omega arith, omega arith)) ∙ (stored (j, omega arith)).coarse;
        ended = f (j, omega arith);
        held = h (j, omega arith);
        corner = λ i k o.
            fours_are (j, omega arith) i k (is_eq (parts (suc Q)) (owner i) (j, omega arith)
            (rw (sym (owned (j, omega arith) i k) ∙ own_test_lem (j, omega arith) i o) tt));
      }
    where
      own_test_lem : (p : Fin (suc Q)) (i : ℕ) → field (x p) (OWNER + i) ≡ suc p.0 → ownsb i (x p) ≡ true
      own_test_lem p i o = eq-eqb (field (x p) (OWNER + i)) (field (x p) PART) (o ∙ sym (columns p).part)

  sizes : (l : List ℕ) → Order (suc Q) l → (j : ℕ) → j < length l → length (take full (store_by (get_or l j 0))) ≡ full
  sizes l o j h =
      let (a, c) = order_within (suc Q) l o j h in
      length-take-le full (store_by (get_or l j 0)) (size_of (get_or l j 0) a c)
    where
      size_of : (q : ℕ) → 1 ≤ q → q ≤ suc Q → full ≤ length (store_by q)
      size_of zero a c = absurd (omega arith)
      size_of (suc i) a c = subst (λ (n : ℕ). full ≤ n) (sym (stay (i, omega arith)).size) (stored (i, omega arith)).long

  coarse_owner : (i : ℕ) → i < length cells → (q : ℕ) × (1 ≤ q) × (q ≤ suc Q) × (field (store_by q) (OWNER + i) ≡ q)
  coarse_owner i h =
      let p = owner i in
      let k : (owner i).0 < suc Q = (owner i).1 in (
        suc (owner i).0,
        omega arith,
        omega arith,
        (columns p).owner i (
          0,
          coarse_member p i h,
          or_first (is_part (parts (suc Q)) (owner i) (owner i))
              (is_part (parts (suc Q)) ((J ps ts ss Q os b behind e).family i) (owner i)) (rw (is_self (parts (suc Q)) (owner i)) tt),
        ),
      )

  -- the stores one behind the other, in the order l, each at its full length
  abbrev pub laid_out : List ℕ → List ℕ → List ℕ
  laid_out l rest = flat_map (λ q. take full (store_by q)) l ++ rest

  joining_of : (r : ℕ) (table : List ℕ) (es : ℕ → List Entry) → ((p : Fin (suc Q)) → field (x p) RESULT ≡ r)
      → ((p : Fin (suc Q)) → held_in (x p) ≡ es (suc p.0)) → T (soundb nn cells table) → Joint nn cells table (suc Q) es
      → (l : List ℕ) → Order (suc Q) l → (rest : List ℕ) → most_parts * full ≤ length (laid_out l rest)
      → Joining (laid_out l rest) (suc Q) nn r cells table es store_by l
  joining_of r table es f h s j l o rest long = record {
    room = long;
    some = omega arith;
    order = o;
    at = λ i k c d.
        laid_at (λ q. take full (store_by q)) l rest (sizes l o) i k (omega (arith, order_count (suc Q) l o)) d
        ∙ get_or-take full (store_by (get_or l i 0)) k 0 d;
    done = done_of r es f h;
    owner = coarse_owner;
    cells = gg.mesh;
    sound = s;
    joint = j;
  }

  -- THE NEW TABLE
  module _ (yes : marked_answer ps ts ss marks ≡ Accepted) where
    abbrev lim : (length (step_table nn cells ss marks) ≤ most_levels) × (length (new_table nn cells ss marks) ≤ most_cells)
    lim = limits ps ts ss Q os b behind e cs lawful done yes

    new_sound : T (soundb nn cells (new_table nn cells ss marks))
    new_sound = step_sound nn cells ss marks gg.four gg.mesh gg.sound lim.0 lim.1

    abbrev shares : ℕ → List Entry
    shares q = entries_in (X ps ts ss Q os b behind e cs lawful done) (nth_part Q q)

    joint : Joint nn cells (new_table nn cells ss marks) (suc Q) shares
    joint =
        subst (λ (t : List ℕ). Joint nn cells t (suc Q) shares) (sym (ap flatten (step_by_lem nn cells ss marks gg.sound)))
        (joint_new (X ps ts ss Q os b behind e cs lawful done) (suc Q) (nth_part Q) number_of (named Q) (λ p. omega arith) (λ p. p.1))

    module _ (l : List ℕ) (o : Order (suc Q) l) (rest : List ℕ) (long : most_parts * full ≤ length (laid_out l rest)) where
      new_joining : Joining (laid_out l rest) (suc Q) nn 0 cells (new_table nn cells ss marks) shares store_by l
      unfolding code_of
      new_joining =
          joining_of 0 (new_table nn cells ss marks) shares (λ p. result_is ps ts ss Q os b behind e cs lawful done p ∙ ap code_of yes)
          (λ p. held_new ps ts ss Q os b behind e cs lawful done yes p
          ∙ ap (entries_in (X ps ts ss Q os b behind e cs lawful done)) (sym ((named Q).back p)))
          new_sound joint l o rest long

      pub merges_new : ((t : List ℕ) → most_cells ≤ length t → merge_answer (laid_out l rest) t ≡ Accepted)
          × (merge_table (stores_in (laid_out l rest)) (field (laid_out l rest) COARSE) ≡ new_table nn cells ss marks)
      merges_new = (
        joined_accepted (laid_out l rest) (suc Q) nn 0 cells (new_table nn cells ss marks) shares store_by l new_joining,
        joined_table (laid_out l rest) (suc Q) nn 0 cells (new_table nn cells ss marks) shares store_by l new_joining,
      )

  -- THE OLD TABLE, beside 8 or 9
  module _ (k : ℕ) (f : marked_answer ps ts ss marks ≡ Refused (suc k)) where
    module _ (l : List ℕ) (o : Order (suc Q) l) (rest : List ℕ) (long : most_parts * full ≤ length (laid_out l rest)) where
      old_joining : Joining (laid_out l rest) (suc Q) nn (suc k) cells ss (entries_of nn cells ss os) store_by l
      unfolding code_of
      old_joining =
          joining_of (suc k) ss (entries_of nn cells ss os) (λ p. result_is ps ts ss Q os b behind e cs lawful done p ∙ ap code_of f)
          (held_old ps ts ss Q os b behind e cs lawful done k f) gg.sound
          (joint_old nn cells ss (suc Q) (sound_parts nn cells ss gg.sound) os gg.owners) l o rest long

      pub merges_old : ((t : List ℕ) → most_cells ≤ length t → merge_answer (laid_out l rest) t ≡ Accepted)
          × (merge_table (stores_in (laid_out l rest)) (field (laid_out l rest) COARSE) ≡ ss)
      merges_old = (
        joined_accepted (laid_out l rest) (suc Q) nn (suc k) cells ss (entries_of nn cells ss os) store_by l old_joining,
        joined_table (laid_out l rest) (suc Q) nn (suc k) cells ss (entries_of nn cells ss os) store_by l old_joining,
      )
