-- The counts of edges are no more than the cells: what a part counts of a slot (own_few), what it knows of one (sum_few, own_sum).
use Rattle.std.specs.Prelude.{◌≡◌, ◌≢◌, Bool, ◌&&◌, eqb, take}
use Rattle.std.proofs.Math.Path.{refl, sym, ap, subst}
use Rattle.std.proofs.Common.{◌∙◌, eq-eqb, ne_eqb}
use Rattle.std.proofs.Math.Bool.{true, false, not}
use mathlib.Core.List.{List, [], ◌∷◌, ◌++◌, map}
use Prim.Native.Nat.{ℕ, zero, suc, ◌+◌, ◌-◌, ◌*◌, ◌≤◌, ◌<◌, Fin}
use native.Mathlib.Omega.{arith}
use Rattle.std.proofs.Math.Decide.{ℕ_discrete, dec_lt}
use Rattle.std.proofs.Math.ListN.{length}
use Rattle.base.specs.Bools.{one_if, one_most}
use Rattle.base.specs.Lists.{filterb}
use Rattle.exchange.specs.Finite.{Finite, parts, sum_over, sum_le, sum_change, upd, upd_same, upd_other}
use Rattle.exchange.specs.Lockstep.{lock}
use Rattle.base.specs.Member.{Member}
use Rattle.rounds.specs.Task.{Task, Fit, has, red_at}
use Rattle.rounds.specs.Rounds.{Body, count, end, Phase, marks, counts, totals, over, phase, State, worth, is_part, holdsb, tally}
use Rattle.rounds.specs.Rounds.{starting, added, red_told, sum_told, edge_counts, says, writing, sized, taking}
use Rattle.rounds.specs.Among.{is_self, is_not}
use Rattle.rounds.specs.Enough.{Marking, Counting, from, own_writes, other_writes, none_added}
use Rattle.rounds.proofs.Enough.{tally_else}
use Rattle.rounds.specs.Rounded.{protocol, phase_marks, phase_counts, phase_totals, phase_over, lock_on}
use Rattle.rounds.proofs.Rounded.{marking, to_counts}
use Rattle.rounds.specs.Bound.{sum_to}
use Rattle.base.specs.Each.{filter_few}
use Rattle.rounds.specs.Said.{taken, uncounted, marks_count, totals_count, over_count}
use Rattle.rounds.specs.Turns.{Turn, in_marks, in_counts, in_totals, in_over, turn_of, same_counts, marks_counts, totals_counts}
use Rattle.rounds.specs.Turns.{over_counts}
use Rattle.rounds.specs.Sums.{cells_down, SlotsOnce}

-- sums of lists
sum-take : (f : Body → ℕ) (n : ℕ) (l : List Body) → sum_over f (take n l) ≤ sum_over f l
unfolding sum_over
sum-take f zero l = omega arith
sum-take f (suc n) [] = omega arith
sum-take f (suc n) (x ∷ l) = omega (arith, sum-take f n l)

sum_end : (x : ℕ) (l : List Body) → sum_over (worth x) (l ++ (end ∷ [])) ≡ sum_over (worth x) l
unfolding sum_over worth
sum_end x [] = refl
sum_end x (b ∷ l) = ap (λ (n : ℕ). worth x b + n) (sum_end x l)

-- what counts say of a slot that stands once
counted : (own : ℕ → ℕ) (g : ℕ → Bool) (x : ℕ) (l : List ℕ)
    → sum_over (worth x) (map (λ y. count y (own y)) (filterb g l)) ≤ length (filterb (eqb x) l) * own x
unfolding sum_over worth filterb
counted own g x [] = omega arith
counted own g x (y ∷ l) = go (g y) refl (ℕ_discrete x y) (counted own g x l)
  where
    go : (b : Bool) → g y ≡ b → Dec (x ≡ y)
        → sum_over (worth x) (map (λ y. count y (own y)) (filterb g l)) ≤ length (filterb (eqb x) l) * own x
        → sum_over (worth x) (map (λ y. count y (own y)) (filterb g (y ∷ l))) ≤ length (filterb (eqb x) (y ∷ l)) * own x
    go true e (yes d) i =
        let z : own y ≡ own x = ap own (sym d) in
        rw (e, eq-eqb x y d, filterb, worth) (omega (arith, z, i))
    go true e (no n) i = rw (e, ne_eqb x y n, filterb, worth) (omega (arith, i))
    go false e (yes d) i = rw (e, eq-eqb x y d, filterb) (omega (arith, i))
    go false e (no n) i = rw (e, ne_eqb x y n, filterb) i

once_most : (a n : ℕ) → a ≤ 1 → a * n ≤ n
once_most zero n h = omega arith
once_most (suc zero) n h = omega arith
once_most (suc (suc a)) n h = absurd (omega arith)

tally_few : {Part : Type 0} (F : Finite Part) (J : Task Part) (p : Part) (red : ℕ → Bool) (k x : ℕ) → tally F J p red k x
    ≤ length (J.cells k)
unfolding tally
tally_few F J p red k x = filter_few (λ c. is_part F (J.owner c) p && (red c && has J c x)) (J.cells k)

module _ (P : ℕ) (J : Task (Fin P)) where
  abbrev F : Finite (Fin P)
  F = parts P

  -- the tallies of all parts
  sum_zero : (l : List (Fin P)) → sum_over (λ (q : Fin P). 0) l ≡ 0
  unfolding sum_over
  sum_zero [] = refl
  sum_zero (q ∷ l) = ap (λ (n : ℕ). 0 + n) (sum_zero l)

  sum_both : (f g : Fin P → ℕ) (l : List (Fin P)) → sum_over (λ q. f q + g q) l ≡ sum_over f l + sum_over g l
  unfolding sum_over
  sum_both f g [] = refl
  sum_both f g (q ∷ l) = omega (arith, sum_both f g l)

  one_owner : (o : Fin P) (b : Bool) → sum_over (λ q. one_if (is_part F o q && b)) F.list ≤ 1
  unfolding one_if
  one_owner o b =
      omega (
        arith,
        sum_change P (λ q. 0) (λ q. one_if (is_part F o q && b)) o (λ q n. sym (ap (λ (t : Bool). one_if (t && b))
            (is_not F o q (λ e. n (sym e))))),
        sum_zero F.list,
        one_most (is_part F o o && b),
      )

  module _ (t : ℕ → Bool) where
    abbrev owned_by : Fin P → ℕ → Bool
    owned_by q c = is_part F (J.owner c) q && t c

    filter_on : (q : Fin P) (c : ℕ) (l : List ℕ) → length (filterb (owned_by q) (c ∷ l))
        ≤ one_if (owned_by q c) + length (filterb (owned_by q) l)
    unfolding filterb one_if
    filter_on q c l = go (owned_by q c) refl
      where
        go : (b : Bool) → owned_by q c ≡ b → length (filterb (owned_by q) (c ∷ l)) ≤ one_if (owned_by q c) + length (filterb (owned_by q) l)
        go true e = rw (e, filterb, one_if) (omega arith)
        go false e = rw (e, filterb, one_if) (omega arith)

    owned_few : (l : List ℕ) → sum_over (λ q. length (filterb (owned_by q) l)) F.list ≤ length l
    unfolding filterb
    owned_few [] = omega (arith, sum_zero F.list)
    owned_few (c ∷ l) =
        omega (
          arith,
          sum_le (λ q. length (filterb (owned_by q) (c ∷ l))) (λ q. one_if (owned_by q c) + length (filterb (owned_by q) l))
              (λ q. filter_on q c l) F.list,
          sum_both (λ q. one_if (owned_by q c)) (λ q. length (filterb (owned_by q) l)) F.list,
          one_owner (J.owner c) (t c),
          owned_few l,
        )

  tallies_few : (red : ℕ → Bool) (k x : ℕ) → sum_over (λ q. tally F J q red k x) F.list ≤ length (J.cells k)
  unfolding tally
  tallies_few red k x = owned_few (λ c. red c && has J c x) (J.cells k)

  -- the own number and smaller ones of the others are no more than all numbers
  sum_others : (f g : Fin P → ℕ) (p : Fin P) → f p ≡ 0 → ((q : Fin P) → f q ≤ g q) → g p + sum_over f F.list ≤ sum_over g F.list
  sum_others f g p z h =
      omega (
        arith,
        z,
        sum_change P f (upd F f p (g p)) p (λ q n. sym (upd_other F f p (g p) q n)),
        upd_same F f p (g p),
        sum_le (upd F f p (g p)) g (λ q. upd_most q (F.same? q p)) F.list,
      )
    where
      upd_most : (q : Fin P) → Dec (q ≡ p) → upd F f p (g p) q ≤ g q
      upd_most q (yes e) = subst (λ r. upd F f p (g p) r ≤ g r) (sym e) (omega (arith, upd_same F f p (g p)))
      upd_most q (no n) = omega (arith, upd_other F f p (g p) q n, h q)

  module _ (fit : Fit J) (once : SlotsOnce J) where
    -- what is taken in a round of counts
    module _ (ms : ℕ → ℕ) (i : ℕ) (h : i ≤ J.top) (st : Fin P → State) (w : (q : Fin P) → Counting F J ms i q (st q)) (p : Fin P)
        (got : Fin P → List Body) (x : ℕ)
        (less : (q : Fin P) → sum_over (worth x) (got q) ≤ sum_over (worth x) (from F J (counts i) st p q)) where
      abbrev full : Fin P → ℕ
      full q = sum_over (worth x) (from F J (counts i) st p q)

      full_own : full p ≡ 0
      unfolding sum_over
      full_own = ap (sum_over (worth x)) (own_writes F J (counts i) p p (st p) (is_self F p))

      says_few : (q : Fin P) → sum_over (worth x) (says F J (counts i) q p (st q)) ≤ (st q).own x
      unfolding says edge_counts
      says_few q =
          omega (
            arith,
            sum_end x (edge_counts F J (J.top - i) q p (st q)),
            counted (st q).own (λ x. holdsb F J q (J.top - i) x && (holdsb F J p (J.top - i) x && not (eqb ((st q).own x) 0))) x
                (J.slots (J.top - i)),
            once_most (length (filterb (eqb x) (J.slots (J.top - i)))) ((st q).own x) (once (J.top - i) x (omega arith)),
          )

      full_few : (q : Fin P) → full q ≤ (st q).own x
      unfolding sum_over
      full_few q = go (is_part F q p) refl
        where
          go : (b : Bool) → is_part F q p ≡ b → full q ≤ (st q).own x
          go true e = omega (arith, ap (sum_over (worth x)) (own_writes F J (counts i) q p (st q) e))
          go false e = omega (arith, ap (sum_over (worth x)) (other_writes F J (counts i) q p (st q) e), says_few q)

      added_less : added F got x ≤ added F (from F J (counts i) st p) x
      unfolding added
      added_less = sum_le (λ q. sum_over (worth x) (got q)) full less F.list

      full_is : added F (from F J (counts i) st p) x ≡ sum_over full F.list
      unfolding added
      full_is = refl

      added_few : Member x (J.slots (J.top - i)) → (st p).sum x + added F got x ≤ cells_down J i
      added_few m =
          let own : (q : Fin P) → (st q).own x ≡ tally F J q (red_at J ms i) (J.top - i) x = (λ q. (w q).own_is x m) in
          let s = sum_others full (λ q. tally F J q (red_at J ms i) (J.top - i) x) p full_own
          (λ q. omega (arith, full_few q, own q)) in
          let t = tallies_few (red_at J ms i) (J.top - i) x in
          omega (arith, (w p).same x m, own p, full_is, added_less, s, t)

      added_none : (k : ℕ) → k ≢ J.top - i → Member x (J.slots k) → added F got x ≡ 0
      added_none k d m = omega (arith, added_less, none_added F J ms fit i h st w p k x d m)

    -- the rounds in lockstep
    module _ (grown : Fin P → State → ℕ × ℕ) (ps : List (Fin P)) {Msg In : Type 0} (pack : Fin P → Fin P → ℕ → Body → Msg)
        (reads : Fin P → In → ℕ → ℕ) (input : Fin P → In) where
      abbrev at : ℕ → Fin P → State
      at r p = lock F (protocol F J grown ps pack reads) input r p

      -- the marks of all parts put together
      ms : ℕ → ℕ
      ms c = reads (J.owner c) (input (J.owner c)) c

      given : (p : Fin P) (c : ℕ) → J.owner c ≡ p → reads p (input p) c ≡ ms c
      unfolding ms
      given p c e = subst (λ q. reads q (input q) c ≡ ms c) e refl

      marked : (i : ℕ) → i ≤ J.top → (p : Fin P) → Marking F J ms i p (at (i + i) p)
      marked = marking F J grown ps pack reads fit ms input given

      summed : (i : ℕ) → i ≤ J.top → (p : Fin P) → Counting F J ms i p (at (suc (i + i)) p)
      summed i h = to_counts F J grown ps pack reads fit ms input given i h (marked i h)

      on : (r : ℕ) (f : Phase) → phase J.top r ≡ f → (p : Fin P)
          → at (suc r) p ≡ taking F J grown f p (at r p) (λ q. writing F J f q p (at r q))
      on = lock_on F J grown ps pack reads fit ms input given

      module _ (p : Fin P) (x : ℕ) where
        -- what a round does to the own count and to the sum
        own_marks : (i : ℕ) → i ≤ J.top → (at (suc (i + i)) p).own x ≤ (at (i + i) p).own x + cells_down J i
        unfolding taking
        own_marks i h =
            let s = at (i + i) p in
            rw (on (i + i) (marks i) (phase_marks J.top i h) p)
            (omega (
              arith,
              tally_few F J p (red_told F (at (i + i) p) (λ q. writing F J (marks i) q p (at (i + i) q))) (J.top - i) x,
            ))

        own_counts : (i : ℕ) → i ≤ J.top → (at (suc (suc (i + i))) p).own x ≡ (at (suc (i + i)) p).own x
        unfolding taking sized
        own_counts i h = ap (λ (s : State). s.own x) (on (suc (i + i)) (counts i) (phase_counts J.top i h) p)

        own_totals : (at (suc (suc (suc (J.top + J.top)))) p).own x ≡ (at (suc (suc (J.top + J.top))) p).own x
        unfolding taking
        own_totals = ap (λ (s : State). s.own x) (on (suc (suc (J.top + J.top))) totals (phase_totals J.top) p)

        own_first : (at 0 p).own x ≡ 0
        unfolding lock starting
        own_first = refl

        own_levels : (i : ℕ) → i ≤ suc J.top → (at (i + i) p).own x ≤ sum_to (cells_down J) i
        unfolding sum_to
        own_levels zero h = omega (arith, own_first)
        own_levels (suc i) h =
            let z : suc i + suc i ≡ suc (suc (i + i)) = omega arith in
            rw z (omega (arith, own_counts i (omega arith), own_marks i (omega arith), own_levels i (omega arith)))

        sum_more : (i n : ℕ) → i + n ≡ suc J.top → sum_to (cells_down J) i ≤ sum_to (cells_down J) (suc J.top)
        unfolding sum_to
        sum_more i zero e = let z : i ≡ suc J.top = omega arith in omega (arith, ap (sum_to (cells_down J)) z)
        sum_more i (suc n) e = omega (arith, sum_more (suc i) n (omega arith))

        own_before : (i : ℕ) → i ≤ suc J.top → (at (i + i) p).own x ≤ sum_to (cells_down J) (suc J.top)
        own_before i h = omega (arith, own_levels i h, sum_more i (suc J.top - i) (omega arith))

        -- THE OWN COUNT of any slot
        pub own_few : (r : ℕ) → r ≤ suc (suc (suc (J.top + J.top))) → (at r p).own x ≤ sum_to (cells_down J) (suc J.top)
        own_few r h = go (turn_of J.top r h)
          where
            last : (at (suc (suc (J.top + J.top))) p).own x ≤ sum_to (cells_down J) (suc J.top)
            last =
                let z : suc J.top + suc J.top ≡ suc (suc (J.top + J.top)) = omega arith in
                subst (λ (r : ℕ). (at r p).own x ≤ sum_to (cells_down J) (suc J.top)) z (own_before (suc J.top) (omega arith))

            go : Turn J.top r → (at r p).own x ≤ sum_to (cells_down J) (suc J.top)
            go (in_marks i l e) = rw e (own_before i (omega arith))
            go (in_counts i l e) =
                let z : suc i + suc i ≡ suc (suc (i + i)) = omega arith in
                let b : (at (suc (suc (i + i))) p).own x ≤ sum_to (cells_down J) (suc J.top) =
                subst (λ (r : ℕ). (at r p).own x ≤ sum_to (cells_down J) (suc J.top)) z (own_before (suc i) (omega arith)) in
                rw e (omega (arith, b, own_counts i l))
            go (in_totals e) = rw e last
            go (in_over e) = rw e (omega (arith, last, own_totals))

        -- what a round does to the sum
        sum_marks : (i : ℕ) → i ≤ J.top → (k : ℕ) → k ≢ J.top - i → Member x (J.slots k)
            → (at (suc (i + i)) p).sum x ≡ (at (i + i) p).sum x
        unfolding taking
        sum_marks i h k d m =
            rw (on (i + i) (marks i) (phase_marks J.top i h) p)
            (omega (
              arith,
              tally_else F J fit p (red_told F (at (i + i) p) (λ q. writing F J (marks i) q p (at (i + i) q))) k (J.top - i) x m d,
            ))

        sum_counts : (i : ℕ) → i ≤ J.top → (at (suc (suc (i + i))) p).sum x
            ≡ (at (suc (i + i)) p).sum x + added F (from F J (counts i) (at (suc (i + i))) p) x
        unfolding taking sized sum_told
        sum_counts i h = ap (λ (s : State). s.sum x) (on (suc (i + i)) (counts i) (phase_counts J.top i h) p)

        sum_totals : (at (suc (suc (suc (J.top + J.top)))) p).sum x ≡ (at (suc (suc (J.top + J.top))) p).sum x
        unfolding taking
        sum_totals = ap (λ (s : State). s.sum x) (on (suc (suc (J.top + J.top))) totals (phase_totals J.top) p)

        sum_levels : (i : ℕ) → i ≤ suc J.top → (j : ℕ) → j < i → Member x (J.slots (J.top - j)) → (at (i + i) p).sum x ≤ cells_down J j
        sum_levels zero h j l m = absurd (omega arith)
        sum_levels (suc i) h j l m =
            let z : suc i + suc i ≡ suc (suc (i + i)) = omega arith in
            rw z (omega (arith, sum_counts i (omega arith), go (ℕ_discrete j i) (λ g. sum_levels i (omega arith) j g m)))
          where
            st : Fin P → State
            st = at (suc (i + i))

            got : Fin P → List Body
            got = from F J (counts i) (at (suc (i + i))) p

            go : Dec (j ≡ i) → (j < i → (at (i + i) p).sum x ≤ cells_down J j)
                → (at (suc (i + i)) p).sum x + added F (from F J (counts i) (at (suc (i + i))) p) x ≤ cells_down J j
            go (yes e) r =
                let n : Member x (J.slots (J.top - i)) = rw e at m in
                rw e (added_few ms i (omega arith) (at (suc (i + i))) (summed i (omega arith)) p
                (from F J (counts i) (at (suc (i + i))) p) x (λ q. omega arith) n)
            go (no d) r =
                let k : J.top - j ≢ J.top - i = (λ e. omega arith) in
                omega (
                  arith,
                  r (omega arith),
                  sum_marks i (omega arith) (J.top - j) k m,
                  added_none ms i (omega arith) (at (suc (i + i))) (summed i (omega arith)) p
                      (from F J (counts i) (at (suc (i + i))) p) x (λ q. omega arith) (J.top - j) k m,
                )

        -- THE SUM of a slot of a level, whatever was taken in the round
        module _ (n : Fin P → ℕ) (k : ℕ) (low : k ≤ J.top) (m : Member x (J.slots k)) where
          abbrev level : ℕ
          level = J.top - k

          level_is : J.top - (J.top - k) ≡ k
          level_is = omega arith

          there : Member x (J.slots (J.top - level))
          there = subst (λ (k : ℕ). Member x (J.slots k)) (sym level_is) m

          many_is : cells_down J level ≡ length (J.cells k)
          many_is = ap (λ (k : ℕ). length (J.cells k)) level_is

          Few : ℕ → Phase → Type 0
          Few r f = (at r p).sum x + added F (taken F J f (at r) p n) x ≤ length (J.cells k)

          in_round : (r : ℕ) (f : Phase) → phase J.top r ≡ f → Few r f → Few r (phase J.top r)
          in_round r f e h = rw e h

          last : (at (suc (suc (J.top + J.top))) p).sum x ≤ length (J.cells k)
          last =
              let z : suc J.top + suc J.top ≡ suc (suc (J.top + J.top)) = omega arith in
              subst (λ (r : ℕ). (at r p).sum x ≤ length (J.cells k)) z
              (omega (arith, sum_levels (suc J.top) (omega arith) level (omega arith) there, many_is))

          few_marks : (i : ℕ) → i ≤ J.top → Few (i + i) (marks i)
          unfolding Few
          few_marks i h =
              let a = uncounted F J (marks i) (at (i + i)) p n x (λ q. marks_count F J i q p (at (i + i) q) x) in
              elim (dec_lt level i) [
                | yes l ↦ omega (arith, a, sum_levels i (omega arith) level l there, many_is)
                | no l ↦ omega (arith, a, (marked i h p).zero_sum k x (omega arith) m)
              ]

          few_counts : (i : ℕ) → i ≤ J.top → Few (suc (i + i)) (counts i)
          unfolding Few
          few_counts i h =
              elim (ℕ_discrete k (J.top - i)) [
                | yes e ↦
                    let s : Member x (J.slots (J.top - i)) = subst (λ (k : ℕ). Member x (J.slots k)) e m in
                    omega (
                      arith,
                      added_few ms i h (at (suc (i + i))) (summed i h) p (taken F J (counts i) (at (suc (i + i))) p n) x less s,
                      ap (λ (k : ℕ). length (J.cells k)) e,
                    )
                | no d ↦
                    let a = added_none ms i h (at (suc (i + i))) (summed i h) p (taken F J (counts i) (at (suc (i + i))) p n) x
                    less k d m in
                    elim (dec_lt level i) [
                      | yes l ↦ omega (arith, a, sum_levels i (omega arith) level l there, many_is, sum_marks i h k d m)
                      | no l ↦ omega (arith, a, (summed i h p).zero_sum k x (omega arith) m)
                    ]
              ]
            where
              less : (q : Fin P) → sum_over (worth x) (taken F J (counts i) (at (suc (i + i))) p n q)
                  ≤ sum_over (worth x) (from F J (counts i) (at (suc (i + i))) p q)
              less q = sum-take (worth x) (n q) (writing F J (counts i) q p (at (suc (i + i)) q))

          few_totals : Few (suc (suc (J.top + J.top))) totals
          unfolding Few
          few_totals =
              let r = suc (suc (J.top + J.top)) in
              omega (
                arith,
                last,
                uncounted F J totals (at (suc (suc (J.top + J.top)))) p n x
                    (λ q. totals_count F J q p (at (suc (suc (J.top + J.top))) q) x),
              )

          few_over : Few (suc (suc (suc (J.top + J.top)))) over
          unfolding Few
          few_over =
              omega (
                arith,
                last,
                sum_totals,
                uncounted F J over (at (suc (suc (suc (J.top + J.top))))) p n x
                    (λ q. over_count F J q p (at (suc (suc (suc (J.top + J.top)))) q) x),
              )

          pub sum_few : (r : ℕ) → r ≤ suc (suc (suc (J.top + J.top)))
              → sum_told F (at r p) (taken F J (phase J.top r) (at r) p n) x ≤ length (J.cells k)
          unfolding sum_told Few
          sum_few r h = go (turn_of J.top r h)
            where
              go : Turn J.top r → Few r (phase J.top r)
              go (in_marks i l e) = rw e (in_round (i + i) (marks i) (phase_marks J.top i l) (few_marks i l))
              go (in_counts i l e) = rw e (in_round (suc (i + i)) (counts i) (phase_counts J.top i l) (few_counts i l))
              go (in_totals e) = rw e (in_round (suc (suc (J.top + J.top))) totals (phase_totals J.top) few_totals)
              go (in_over e) = rw e (in_round (suc (suc (suc (J.top + J.top)))) over (phase_over J.top) few_over)

        -- in a round of counts
        pub own_sum : (r : ℕ) → r ≤ suc (suc (suc (J.top + J.top))) → (i : ℕ) → phase J.top r ≡ counts i
            → Member x (J.slots (J.top - i)) → (at r p).own x ≡ (at r p).sum x
        own_sum r h i f m = go (turn_of J.top r h)
          where
            go : Turn J.top r → (at r p).own x ≡ (at r p).sum x
            go (in_marks j l e) = marks_counts j i (sym (phase_marks J.top j l) ∙ ap (phase J.top) (sym e) ∙ f)
            go (in_counts j l e) =
                let z : j ≡ i = same_counts j i (sym (phase_counts J.top j l) ∙ ap (phase J.top) (sym e) ∙ f) in
                let s : Member x (J.slots (J.top - j)) = subst (λ (i : ℕ). Member x (J.slots (J.top - i))) (sym z) m in
                rw e (sym ((summed j l p).same x s))
            go (in_totals e) = totals_counts i (sym (phase_totals J.top) ∙ ap (phase J.top) (sym e) ∙ f)
            go (in_over e) = over_counts i (sym (phase_over J.top) ∙ ap (phase J.top) (sym e) ∙ f)
