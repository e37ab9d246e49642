-- What the rounds in lockstep have a part write for another is what `split` `Messages` says.
--   told_of b       a body as code and value
-- Laws: mail_told (what is told in a round), letters_are (the messages of the first rounds).
use Rattle.std.specs.Prelude.{◌≡◌, Bool, ltb, take, drop}
use Rattle.std.proofs.Math.Path.{refl, sym, ap, ap₂}
use Rattle.std.proofs.Common.{◌∙◌, subst, eqb→eq, take-suc, eq-eqb, ne_eqb, lt-ltb, le-ltb, le-leb}
use Rattle.std.proofs.Math.Bool.{true, false, ◌&&◌, not}
use mathlib.Core.List.{List, [], ◌∷◌, ◌++◌, map, map-append}
use Prim.Native.Nat.{ℕ, zero, suc, ◌+◌, ◌-◌, ◌*◌, ◌/◌, ◌%◌, ◌≤◌, ◌<◌, pred, min, Fin}
use Rattle.std.proofs.Math.Nat.{suc-pred-eq_of_pos}
use native.Mathlib.Omega.{arith}
use Rattle.std.proofs.Math.Dec.{T, eqb}
use Rattle.std.proofs.Math.ListN.{length, get_or, length-append, length-map}
use Rattle.store.specs.Fields.{count_code, totals_code}
use Rattle.base.specs.Bools.{one_if, and_left, not_both, is_true}
use Rattle.base.specs.Limits.{too_many, most_cells, most_slots, most_levels}
use Rattle.base.specs.Lists.{anyb, filterb, memberb}
use Rattle.base.specs.Member.{Member, filtered_member, filter_agree, map-agree}
use Rattle.mesh.specs.Table.{Level, levels_of}
use Rattle.mesh.specs.Step.{Row, rows, new_redb, rows_up, edges_up, new_reds}
use Rattle.lattice.specs.Levels.{no_level}
use Rattle.soundness.specs.Sound.{Sound, sound_parts}
use Rattle.succession.specs.After.{new_red_row}
use Rattle.exchange.specs.Finite.{Finite, parts}
use Rattle.exchange.specs.Protocol.{Protocol}
use Rattle.exchange.specs.Lockstep.{lock, mail, mail_count, local, addressed, letters}
use Rattle.exchange.specs.Theorem.{Can}
use Rattle.rounds.specs.Task.{Task, has, red_at}
use Rattle.rounds.specs.Rounds.{Body, mark, count, total, end, Phase, marks, counts, totals, phase, State, is_part, tally, holdsb}
use Rattle.rounds.specs.Rounds.{ghost_marks, edge_counts, says, writing}
use Rattle.rounds.specs.Among.{is_not}
use Rattle.rounds.specs.Enough.{Known, Marking, Counting, other_writes}
use Rattle.rounds.specs.Rounded.{protocol, phase_marks, phase_counts, phase_totals, silent}
use Rattle.rounds.proofs.Rounded.{marking, to_counts, enough}
use Rattle.rounds.specs.Turns.{Turn, in_marks, in_counts, in_totals, in_over, turn_of}
use Rattle.rounds.specs.Totals.{before_totals, sized_last}
use Rattle.rounds.specs.Upward.{ups}
use Rattle.parts.specs.Owners.{family_of}
use Rattle.parts.specs.Held.{masterb, ghostb}
use Rattle.splitting.specs.Numbers.{numbers_of, row_by, number_inside, rows_numbers}
use Rattle.splitting.specs.Split.{owners_fit}
use Rattle.splitting.proofs.Split.{flags_red}
use Rattle.shares.specs.Settled.{Settled}
use Rattle.merging.specs.Totals.{grown_of, grown_plain}
use Rattle.merging.specs.Result.{settle}
use Rattle.merging.specs.Run.{nth_part, number_of, named}
use Rattle.store.specs.Message.{message_of}
use Rattle.standing.specs.Busy.{pack, CanTake}
use Rattle.standing.specs.Packed.{bodyb, entry_code, entry_value, packed}
use Rattle.entering.specs.Fits.{Fitted}
use Rattle.split.specs.Columns.{slot_of, holds_slot}
use Rattle.split.specs.Messages.{has_slot, will_be_red, red_masters, tell_marks, tell_counts, tell_totals}
use Rattle.split.specs.Messages.{round_end, told_in, told_before, numbered_from, messages_to}
use Rattle.tasks.specs.Edges.{slots_on}
use Rattle.tasks.specs.Levels.{level_range, one_at_least}
use Rattle.tasks.specs.Holders.{split_task, part_numbered, owner_ranged, family_ranged}
use Rattle.tasks.proofs.Holders.{slot_holds}
use Rattle.tasks.specs.Accepted.{Splits}
use Rattle.tasks.proofs.Accepted.{split_slots}
use Rattle.agreement.specs.Exchanges.{fit, reads}
use Rattle.agreement.specs.Masters.{masters_many, masters_top}

-- a body as code and value
abbrev told_of : Body → ℕ × ℕ
told_of b = (entry_code b, entry_value b)

-- chosen numbers, each with what is told of it
told_agree : {A : Type 0} (f g : ℕ → A) (s t : ℕ → Bool) (l : List ℕ) → ((x : ℕ) → Member x l → s x ≡ t x)
    → ((x : ℕ) → Member x l → T (t x) → f x ≡ g x) → map f (filterb s l) ≡ map g (filterb t l)
told_agree f g s t l a h =
    ap (map f) (filter_agree s t l a)
    ∙ map-agree f g (filterb t l) (λ x m. let (b, c) = filtered_member t l x m in h x b c)

map-twice : {A B : Type 0} (h : A → B) (f : ℕ → A) (l : List ℕ) → map h (map f l) ≡ map (λ x. h (f x)) l
map-twice h f [] = refl
map-twice h f (x ∷ l) = ap (λ m. h (f x) ∷ m) (map-twice h f l)

-- the new red cells of a level
reds_at_lem : (ls : List Level) (ms : List ℕ) (j : ℕ) → j < length ls
    → get_or (new_reds ls ms) j [] ≡ filterb (new_redb (rows_up (drop (suc j) ls) ms) (edges_up (new_reds (drop (suc j) ls) ms)))
    (rows (get_or ls j no_level) ms)
unfolding new_reds
reds_at_lem [] ms j h = absurd (omega arith)
reds_at_lem (l ∷ ls) ms zero h = refl
reds_at_lem (l ∷ ls) ms (suc j) h = reds_at_lem ls ms j (omega arith)

any_number : (f : Row → Bool) (r : ℕ → Row) → ((c : ℕ) → (r c).number ≡ c) → (c : ℕ) (l : List ℕ)
    → anyb (λ (x : Row). eqb x.number c) (filterb f (map r l)) ≡ (memberb c l && f (r c))
unfolding anyb filterb memberb
any_number f r is c [] = refl
any_number f r is c (x ∷ l) = go (f (r x)) refl (eqb c x) refl (any_number f r is c l)
  where
    same : eqb c x ≡ true → x ≡ c
    same e = sym (eqb→eq c x (rw e tt))

    other : eqb c x ≡ false → eqb (r x).number c ≡ false
    other e = ne_eqb (r x).number c (λ z. not_both (eqb c x) (eq-eqb c x (sym (sym (is x) ∙ z))) e)

    go : (a : Bool) → f (r x) ≡ a → (b : Bool) → eqb c x ≡ b
        → anyb (λ (x : Row). eqb x.number c) (filterb f (map r l)) ≡ (memberb c l && f (r c))
        → anyb (λ (x : Row). eqb x.number c) (filterb f (map r (x ∷ l))) ≡ (memberb c (x ∷ l) && f (r c))
    go true e true q i =
        rw (e, filterb, q, memberb, eq-eqb (r x).number c (is x ∙ same q)) (sym (ap (λ (y : ℕ). f (r y)) (sym (same q)) ∙ e))
    go true e false q i = rw (e, filterb, q, memberb, other q) i
    go false e true q i = rw (e, filterb, q, memberb) (i ∙ both_false (memberb c l) (f (r c)) (ap (λ (y : ℕ). f (r y)) (sym (same q)) ∙ e))
      where
        both_false : (a b : Bool) → b ≡ false → (a && b) ≡ b
        both_false true b z = refl
        both_false false b z = sym z
    go false e false q i = rw (e, filterb, q, memberb) i

-- a message that can be taken has room
can_room : (P : ℕ) (J : Task (Fin P)) (q : Fin P) (b : Body) → CanTake P J q b → T (bodyb b)
unfolding CanTake bodyb
can_room P J q (mark c v) t = rw (lt-ltb c most_cells t.0) tt
can_room P J q (count s n) t = rw (lt-ltb s most_slots t.0, le-leb 1 n t.2, le-leb n most_cells t.3) tt
can_room P J q (total n h) t = rw (le-leb n too_many t.0, le-leb h most_levels t.1) tt
can_room P J q end t = tt

-- counts go on
numbered_append : (p q k : ℕ) (a b : List (ℕ × ℕ)) → numbered_from p q k (a ++ b) ≡ numbered_from p q k a ++ numbered_from p q (k + length a) b
unfolding numbered_from
numbered_append p q k [] b = let z : k ≡ k + 0 = omega arith in ap (λ (j : ℕ). numbered_from p q j b) z
numbered_append p q k (t ∷ a) b =
    let z : suc k + length a ≡ k + suc (length a) = omega arith in
    ap (λ (l : List (List ℕ)). message_of p q k t.0 t.1 ∷ l)
    (numbered_append p q (suc k) a b ∙ ap (λ (j : ℕ). numbered_from p q (suc k) a ++ numbered_from p q j b) z)

module _ (Q n : ℕ) (qs : List (List ℕ)) (ss os : List ℕ) (g : Splits Q n qs ss os) (ms : List ℕ) (input : Fin (suc Q) → List ℕ)
    (starts : (p : Fin (suc Q)) (c : ℕ) → nth_part Q (get_or os c 0) ≡ p → reads Q n qs ss os g p (input p) c ≡ get_or ms c 0) where
  abbrev F : Finite (Fin (suc Q))
  F = parts (suc Q)

  abbrev J : Task (Fin (suc Q))
  J = split_task Q n qs ss os

  abbrev R : Protocol (Fin (suc Q)) (List ℕ) Body (List ℕ) State
  R = protocol F J (grown_of F J) (ups (suc Q)) (pack (suc Q) J) (reads Q n qs ss os g)

  abbrev at : ℕ → Fin (suc Q) → State
  at r p = lock F R input r p

  abbrev sn : Sound n qs ss
  sn = sound_parts n qs ss g.sound

  some_level : 0 < length (levels_of n qs ss)
  some_level = one_at_least n qs ss g.coarse_least

  top_is : suc J.top ≡ length (levels_of n qs ss)
  top_is = suc-pred-eq_of_pos some_level

  -- who will be red
  flag_is : (i : ℕ) → i ≤ J.top → (c : ℕ) → Member c (numbers_of n qs ss (J.top - i))
      → red_at J (λ c. get_or ms c 0) i c ≡ will_be_red n qs ss ms (J.top - i) c
  unfolding will_be_red row_by
  flag_is i h c m =
      let k = J.top - i in
      let f = new_red_row n qs ss ms (J.top - i) in
      flags_red n qs ss sn (slot_of n qs ss) (slots_on n qs ss) (split_slots Q n qs ss os g) os (owners_fit n qs ss (suc Q) os g.owners)
      (nth_part Q) ms i h some_level c m
      ∙ sym (ap (anyb (λ (r : Row). eqb r.number c)) (reds_at_lem (levels_of n qs ss) ms (J.top - i) (omega (arith, top_is))
      ∙ ap (filterb (new_red_row n qs ss ms (J.top - i))) (rows_numbers n qs ss sn ms (J.top - i)))
      ∙ any_number (new_red_row n qs ss ms (J.top - i)) (row_by n qs ss ms) (λ c. refl) c (numbers_of n qs ss (J.top - i))
      ∙ there (memberb c (numbers_of n qs ss (J.top - i))) (new_red_row n qs ss ms (J.top - i) (row_by n qs ss ms c)) m)
    where
      there : (a b : Bool) → T a → (a && b) ≡ b
      there true b t = refl
      there false b t = absurd t

  -- who owns what
  owner_by : (k c : ℕ) → Member c (numbers_of n qs ss k) → (p : Fin (suc Q)) → is_part F (J.owner c) p ≡ masterb os (suc p.0) c
  unfolding masterb
  owner_by k c m p =
      let (a, b) = owner_ranged Q n qs ss os g.sound g.owners c (number_inside n qs ss sn k c m) in
      part_numbered Q (get_or os c 0) p a b

  family_by_lem : (k c : ℕ) → Member c (numbers_of n qs ss k) → (p : Fin (suc Q))
      → is_part F (J.family c) p ≡ eqb (family_of n qs ss os c) (suc p.0)
  family_by_lem k c m p =
      let (a, b) = family_ranged Q n qs ss os g.sound g.owners c (number_inside n qs ss sn k c m) in
      part_numbered Q (family_of n qs ss os c) p a b

  abbrev given : (p : Fin (suc Q)) (c : ℕ) → J.owner c ≡ p → reads Q n qs ss os g p (input p) c ≡ get_or ms c 0
  given = starts

  marks_now : (i : ℕ) → i ≤ J.top → (p : Fin (suc Q)) → Marking F J (λ c. get_or ms c 0) i p (at (i + i) p)
  marks_now i h p =
      marking F J (grown_of F J) (ups (suc Q)) (pack (suc Q) J) (reads Q n qs ss os g) (fit Q n qs ss os g) (λ c. get_or ms c 0) input given i
      h p

  counts_now : (i : ℕ) → i ≤ J.top → (p : Fin (suc Q)) → Counting F J (λ c. get_or ms c 0) i p (at (suc (i + i)) p)
  counts_now i h p =
      to_counts F J (grown_of F J) (ups (suc Q)) (pack (suc Q) J) (reads Q n qs ss os g) (fit Q n qs ss os g) (λ c. get_or ms c 0) input given
      i h (marks_now i h) p

  module _ (p q : Fin (suc Q)) (apart : p ≡ q → ⊥) where
    abbrev p' : ℕ
    p' = suc p.0

    abbrev q' : ℕ
    q' = suc q.0

    differ : is_part F p q ≡ false
    differ = is_not F p q apart

    -- marks of ghosts
    ghost_by : (k c : ℕ) → Member c (numbers_of n qs ss k)
        → (is_part F (J.family c) p && is_part F (J.owner c) q) ≡ (ghostb n qs ss os p' c && masterb os q' c)
    unfolding ghostb masterb
    ghost_by k c m =
        ap₂ ◌&&◌ (family_by_lem k c m p) (owner_by k c m q)
        ∙ go (eqb (family_of n qs ss os c) p') (eqb (get_or os c 0) p') refl (eqb (get_or os c 0) q') refl
      where
        and_no : (b : Bool) → (b && false) ≡ false
        and_no true = refl
        and_no false = refl

        go : (a x : Bool) → eqb (get_or os c 0) p' ≡ x → (y : Bool) → eqb (get_or os c 0) q' ≡ y → (a && y) ≡ ((not x && a) && y)
        go a false e y d = refl
        go a true e true d =
            absurd (apart (native.Mathlib.Fin.val_path (omega (arith, eqb→eq (get_or os c 0) p' (rw e tt), eqb→eq (get_or os c 0) q' (rw d tt)))))
        go a true e false d = and_no a

    marks_told : (i : ℕ) → i ≤ J.top
        → map told_of (ghost_marks F J (J.top - i) p q (at (i + i) p)) ≡ tell_marks n qs ss os ms (J.top - i) p' q'
    unfolding ghost_marks tell_marks entry_code entry_value
    marks_told i h =
        let k = J.top - i in
        let s = at (i + i) p in
        map-twice told_of (λ c. mark c ((at (i + i) p).red c)) (filterb (λ c. is_part F (J.family c) p && is_part F (J.owner c) q)
        (numbers_of n qs ss (J.top - i)))
        ∙ told_agree (λ c. told_of (mark c ((at (i + i) p).red c))) (λ c. (c, one_if (will_be_red n qs ss ms (J.top - i) c)))
        (λ c. is_part F (J.family c) p && is_part F (J.owner c) q) (λ c. ghostb n qs ss os p' c && masterb os q' c)
        (numbers_of n qs ss (J.top - i)) (ghost_by (J.top - i)) (λ c m t. value c m t)
        ∙ ap (λ (l : List ℕ). map (λ c. (c, one_if (will_be_red n qs ss ms (J.top - i) c)))
        (filterb (λ c. ghostb n qs ss os p' c && masterb os q' c) l)) (level_range n qs ss (J.top - i))
      where
        value : (c : ℕ) → Member c (numbers_of n qs ss (J.top - i)) → T (ghostb n qs ss os p' c && masterb os q' c)
            → told_of (mark c ((at (i + i) p).red c)) ≡ (c, one_if (will_be_red n qs ss ms (J.top - i) c))
        value c m t =
            let u : T (is_part F (J.family c) p && is_part F (J.owner c) q) = rw (ghost_by (J.top - i) c m) t in
            let f = and_left (is_part F (J.family c) p) (is_part F (J.owner c) q) u in
            let e : (at (i + i) p).red c ≡ will_be_red n qs ss ms (J.top - i) c =
            (marks_now i h p).here c m ∙ there (is_part F (J.family c) p) (red_at J (λ c. get_or ms c 0) i c) f ∙ flag_is i h c m in
            ap (λ (b : Bool). (c, one_if b)) e
          where
            there : (a b : Bool) → T a → (a && b) ≡ b
            there true b t = refl
            there false b t = absurd t

    -- counts of edges
    tally_is : (i : ℕ) → i ≤ J.top → (x : ℕ)
        → tally F J p (red_at J (λ c. get_or ms c 0) i) (J.top - i) x ≡ red_masters n qs ss os ms (J.top - i) p' x
    unfolding tally red_masters has has_slot
    tally_is i h x =
        ap length (filter_agree (λ c. is_part F (J.owner c) p && (red_at J (λ c. get_or ms c 0) i c && has J c x))
        (λ c. masterb os p' c && (will_be_red n qs ss ms (J.top - i) c && has_slot n qs ss c x)) (numbers_of n qs ss (J.top - i))
        (λ c m. ap₂ ◌&&◌ (owner_by (J.top - i) c m p) (ap (λ (b : Bool). b && has_slot n qs ss c x) (flag_is i h c m))))
        ∙ ap (λ (l : List ℕ). length (filterb (λ c. masterb os p' c && (will_be_red n qs ss ms (J.top - i) c && has_slot n qs ss c x)) l))
        (level_range n qs ss (J.top - i))

    counts_told : (i : ℕ) → i ≤ J.top
        → map told_of (edge_counts F J (J.top - i) p q (at (suc (i + i)) p)) ≡ tell_counts n qs ss os ms (J.top - i) p' q'
    unfolding edge_counts tell_counts entry_code entry_value
    counts_told i h =
        let own = (at (suc (i + i)) p).own in
        map-twice told_of (λ x. count x ((at (suc (i + i)) p).own x)) (filterb (λ x. holdsb F J p (J.top - i) x
        && (holdsb F J q (J.top - i) x && not (eqb ((at (suc (i + i)) p).own x) 0))) (slots_on n qs ss (J.top - i)))
        ∙ told_agree (λ x. told_of (count x ((at (suc (i + i)) p).own x))) (λ x. (count_code + x, red_masters n qs ss os ms (J.top - i) p' x))
        (λ x. holdsb F J p (J.top - i) x && (holdsb F J q (J.top - i) x && not (eqb ((at (suc (i + i)) p).own x) 0)))
        (λ x. holds_slot n qs ss os p' x && (holds_slot n qs ss os q' x && not (eqb (red_masters n qs ss os ms (J.top - i) p' x) 0)))
        (slots_on n qs ss (J.top - i))
        (λ x m. ap₂ ◌&&◌ (slot_holds Q n qs ss os g.sound g.owners g.four g.mesh p (J.top - i) x m)
        (ap₂ (λ (a : Bool) (k : ℕ). a && not (eqb k 0))
        (slot_holds Q n qs ss os g.sound g.owners g.four g.mesh q (J.top - i) x m) (own_is x m)))
        (λ x m t. ap (λ (k : ℕ). (count_code + x, k)) (own_is x m))
      where
        own_is : (x : ℕ) → Member x (slots_on n qs ss (J.top - i))
            → (at (suc (i + i)) p).own x ≡ red_masters n qs ss os ms (J.top - i) p' x
        own_is x m = (counts_now i h p).own_is x m ∙ tally_is i h x

    -- totals
    known : (r : Fin (suc Q)) → Known F J (λ c. get_or ms c 0) (suc (pred (length (levels_of n qs ss)))) r
        (before_totals (suc Q) J (grown_of F J) (grown_plain F J) (ups (suc Q)) (pack (suc Q) J) (reads Q n qs ss os g) input r)
    known r =
        enough F J (grown_of F J) (ups (suc Q)) (pack (suc Q) J) (reads Q n qs ss os g) (fit Q n qs ss os g) (λ c. get_or ms c 0) input given r

    abbrev X : Settled F
    X =
        settle F n qs ss ms g.four g.mesh g.sound (suc Q) os g.owners (slot_of n qs ss) (slots_on n qs ss)
        (split_slots Q n qs ss os g) (nth_part Q) number_of (named Q)
        (before_totals (suc Q) J (grown_of F J) (grown_plain F J) (ups (suc Q)) (pack (suc Q) J) (reads Q n qs ss os g) input) known

    totals_told : told_of (total (at (suc (suc (J.top + J.top))) p).total (at (suc (suc (J.top + J.top))) p).high)
        ≡ tell_totals n qs ss os ms p'
    unfolding tell_totals entry_code entry_value grown_of
    totals_told =
        let (a, b) =
        sized_last (suc Q) J (grown_of F J) (grown_plain F J) (ups (suc Q)) (pack (suc Q) J) (reads Q n qs ss os g) input p in
        ap₂ (λ (h m : ℕ). (totals_code + h, m)) (b ∙ masters_top X (suc Q) number_of (named Q) g.owners p)
        (a ∙ ap (λ (m : ℕ). min m too_many) (masters_many X (suc Q) number_of (named Q) g.owners p))

    -- round by round: by the tests of a round and its level
    told_by : Bool → Bool → Bool → ℕ → List (ℕ × ℕ)
    told_by low even last k =
        elim low [
          | true ↦ elim even [ true ↦ tell_marks n qs ss os ms k p' q' | false ↦ tell_counts n qs ss os ms k p' q' ] ++ (round_end ∷ [])
          | false ↦ elim last [ true ↦ tell_totals n qs ss os ms p' ∷ round_end ∷ [] | false ↦ [] ]
        ]

    told_by_lem : (r : ℕ) → told_in n qs ss os ms r p' q' ≡ told_by (ltb r (2 * length (levels_of n qs ss))) (eqb (r % 2) 0)
        (eqb r (2 * length (levels_of n qs ss))) (J.top - r / 2)
    unfolding told_in told_by
    told_by_lem r = refl

    told_marks : (i : ℕ) → i ≤ J.top → told_in n qs ss os ms (i + i) p' q' ≡ tell_marks n qs ss os ms (J.top - i) p' q' ++ (round_end ∷ [])
    unfolding told_by
    told_marks i h =
        let y : (i + i) % 2 ≡ 0 = omega arith in
        let z : (i + i) / 2 ≡ i = omega arith in
        told_by_lem (i + i)
        ∙ ap₂ (λ (a b : Bool). told_by a b (eqb (i + i) (2 * length (levels_of n qs ss))) (J.top - (i + i) / 2))
        (lt-ltb (i + i) (2 * length (levels_of n qs ss)) (omega (arith, top_is))) (eq-eqb ((i + i) % 2) 0 y)
        ∙ ap (λ (x : ℕ). tell_marks n qs ss os ms (J.top - x) p' q' ++ (round_end ∷ [])) z

    told_counts : (i : ℕ) → i ≤ J.top
        → told_in n qs ss os ms (suc (i + i)) p' q' ≡ tell_counts n qs ss os ms (J.top - i) p' q' ++ (round_end ∷ [])
    unfolding told_by
    told_counts i h =
        let z : suc (i + i) / 2 ≡ i = omega arith in
        told_by_lem (suc (i + i))
        ∙ ap₂ (λ (a b : Bool). told_by a b (eqb (suc (i + i)) (2 * length (levels_of n qs ss))) (J.top - suc (i + i) / 2))
        (lt-ltb (suc (i + i)) (2 * length (levels_of n qs ss)) (omega (arith, top_is))) (ne_eqb (suc (i + i) % 2) 0 (λ y. omega (arith, y)))
        ∙ ap (λ (x : ℕ). tell_counts n qs ss os ms (J.top - x) p' q' ++ (round_end ∷ [])) z

    told_totals : told_in n qs ss os ms (suc (suc (J.top + J.top))) p' q' ≡ tell_totals n qs ss os ms p' ∷ round_end ∷ []
    unfolding told_by
    told_totals =
        let r = suc (suc (J.top + J.top)) in
        told_by_lem (suc (suc (J.top + J.top)))
        ∙ ap₂ (λ (a c : Bool). told_by a (eqb (r % 2) 0) c (J.top - r / 2))
        (le-ltb (suc (suc (J.top + J.top))) (2 * length (levels_of n qs ss)) (omega (arith, top_is)))
        (eq-eqb (suc (suc (J.top + J.top))) (2 * length (levels_of n qs ss)) (omega (arith, top_is)))

    told_over : told_in n qs ss os ms (suc (suc (suc (J.top + J.top)))) p' q' ≡ []
    unfolding told_by
    told_over =
        let r = suc (suc (suc (J.top + J.top))) in
        told_by_lem (suc (suc (suc (J.top + J.top))))
        ∙ ap₂ (λ (a c : Bool). told_by a (eqb (r % 2) 0) c (J.top - r / 2))
        (le-ltb (suc (suc (suc (J.top + J.top)))) (2 * length (levels_of n qs ss)) (omega (arith, top_is)))
        (ne_eqb (suc (suc (suc (J.top + J.top)))) (2 * length (levels_of n qs ss)) (λ e. omega (arith, top_is, e)))

    mail_told : (r : ℕ) → r ≤ R.rounds → map told_of (mail F R input r p q) ≡ told_in n qs ss os ms r p' q'
    unfolding says entry_code entry_value
    mail_told r h = go (turn_of J.top r h)
      where
        says_it : (r : ℕ) (f : Phase) → phase J.top r ≡ f → map told_of (mail F R input r p q) ≡ map told_of (says F J f p q (at r p))
        says_it r f e =
            ap (λ (f : Phase). map told_of (writing F J f p q (at r p))) e ∙ ap (map told_of) (other_writes F J f p q (at r p) differ)

        go : Turn J.top r → map told_of (mail F R input r p q) ≡ told_in n qs ss os ms r p' q'
        go (in_marks i a e) = subst (λ (r : ℕ). map told_of (mail F R input r p q) ≡ told_in n qs ss os ms r p' q') (sym e)
            (says_it (i + i) (marks i) (phase_marks J.top i a)
            ∙ map-append told_of (ghost_marks F J (J.top - i) p q (at (i + i) p)) (end ∷ [])
            ∙ ap (λ (l : List (ℕ × ℕ)). l ++ (round_end ∷ [])) (marks_told i a) ∙ sym (told_marks i a))
        go (in_counts i a e) = subst (λ (r : ℕ). map told_of (mail F R input r p q) ≡ told_in n qs ss os ms r p' q') (sym e)
            (says_it (suc (i + i)) (counts i) (phase_counts J.top i a)
            ∙ map-append told_of (edge_counts F J (J.top - i) p q (at (suc (i + i)) p)) (end ∷ [])
            ∙ ap (λ (l : List (ℕ × ℕ)). l ++ (round_end ∷ [])) (counts_told i a) ∙ sym (told_counts i a))
        go (in_totals e) = subst (λ (r : ℕ). map told_of (mail F R input r p q) ≡ told_in n qs ss os ms r p' q') (sym e)
            (says_it (suc (suc (J.top + J.top))) totals (phase_totals J.top)
            ∙ ap (λ (t : ℕ × ℕ). t ∷ round_end ∷ []) totals_told ∙ sym told_totals)
        go (in_over e) = subst (λ (r : ℕ). map told_of (mail F R input r p q) ≡ told_in n qs ss os ms r p' q') (sym e)
            (ap (map told_of) (silent F J p q (at (suc (suc (suc (J.top + J.top)))) p)) ∙ sym told_over)

    -- with their counts, where all that an exchange leads to has room
    module _ (room : (p : Fin (suc Q)) (r : ℕ) (k : Fin (suc Q) → ℕ) (f : ℕ) → Can F R input p r k f
        → Fitted (suc Q) J p (local F R input p r k f)) where
      abbrev many : ℕ → ℕ
      many r = mail_count F R input r p q

      many_on : (r : ℕ) (s t : Fin (suc Q)) → mail_count F R input (suc r) s t ≡ mail_count F R input r s t + length (mail F R input r s t)
      unfolding mail_count
      many_on r s t = refl

      body_room : (r : ℕ) → r ≤ R.rounds → (i : ℕ) → i < length (mail F R input r p q) → T (bodyb (get_or (mail F R input r p q) i end))
      body_room r h i l =
          let k : Fin (suc Q) → ℕ = λ s. min (mail_count F R input r s q + suc i) (mail_count F R input (suc r) s q) in
          let can : Can F R input q r (λ s. min (mail_count F R input r s q + suc i) (mail_count F R input (suc r) s q)) 0 = record {
            in_rounds = h;
            low = λ s. omega (arith, many_on r s q);
            high = λ s. omega arith;
            sent = omega arith;
          } in
          let z : min (many r + suc i) (mail_count F R input (suc r) p q) - many r ≡ suc i = omega (arith, many_on r p q, l) in
          can_room (suc Q) J q (get_or (mail F R input r p q) i end)
          ((room q r (λ s. min (mail_count F R input r s q + suc i) (mail_count F R input (suc r) s q)) 0 can).good.fits p
          (get_or (mail F R input r p q) i end) (take i (mail F R input r p q))
          (ap (λ (j : ℕ). take j (mail F R input r p q)) z ∙ take-suc (mail F R input r p q) i end l))

      count_room : (r : ℕ) → r ≤ R.rounds → mail_count F R input (suc r) p q < 65536
      count_room r h =
          let can : Can F R input p r (λ s. mail_count F R input r s p) 0 = record {
            in_rounds = h;
            low = λ s. omega arith;
            high = λ s. omega (arith, many_on r s p);
            sent = omega arith;
          } in
          (room p r (λ s. mail_count F R input r s p) 0 can).sent q

      addressed_is : (k : ℕ) (l : List Body) → k + length l ≤ 65536 → ((i : ℕ) → i < length l → T (bodyb (get_or l i end)))
          → addressed F R input p q k l ≡ numbered_from p' q' k (map told_of l)
      unfolding addressed numbered_from packed
      addressed_is k [] h a = refl
      addressed_is k (b ∷ l) h a =
          let u : bodyb b ≡ true = is_true (bodyb b) (a 0 (omega arith)) in
          let v : packed p.0 q.0 k b ≡ message_of p' q' k (entry_code b) (entry_value b) =
          rw (lt-ltb k 65536 (omega arith), u, packed) in
          ap₂ ◌∷◌ v (addressed_is (suc k) l (omega arith) (λ i m. a (suc i) (omega arith)))

      pub letters_are : (r : ℕ) → r ≤ suc R.rounds → (letters F R input r p q ≡ messages_to n qs ss os ms r p' q')
          × (mail_count F R input r p q ≡ length (told_before n qs ss os ms r p' q'))
      unfolding letters told_before mail_count numbered_from
      letters_are zero h = (refl, refl)
      letters_are (suc r) h =
          let (a, b) = letters_are r (omega arith) in
          let t = told_before n qs ss os ms r p' q' in
          let m = mail_told r (omega arith) in
          let few = count_room r (omega arith) in
          let e : addressed F R input p q (mail_count F R input r p q) (mail F R input r p q)
          ≡ numbered_from p' q' (0 + length (told_before n qs ss os ms r p' q')) (told_in n qs ss os ms r p' q') =
          addressed_is (mail_count F R input r p q) (mail F R input r p q) (omega (arith, few, many_on r p q)) (body_room r (omega arith))
          ∙ ap₂ (numbered_from p' q') (b ∙ omega arith) m in (
            ap₂ ◌++◌ a e ∙ sym (numbered_append p' q' 0 (told_before n qs ss os ms r p' q') (told_in n qs ss os ms r p' q')),
            omega (
              arith,
              b,
              length-append (told_before n qs ss os ms r p' q') (told_in n qs ss os ms r p' q'),
              ap length m,
              length-map (mail F R input r p q) told_of,
            ),
          )
