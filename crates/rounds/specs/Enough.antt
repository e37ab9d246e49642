-- Enough arrives: after the rounds of a level each part knows of its masters and ghosts whether they will be red, and of their
-- edges whether a cell that will be red has them.
--   Known ms n p s    the part p knows this of the n highest levels
--   Marking, Counting ms i p s   what p knows at the beginning of the two rounds of the level i below the highest
-- Laws: at_start_lem, marks_known (after the round of marks; proofs/Enough), counts_known (after the round of counts, one level down),
-- last_known (after the last).
use Rattle.std.specs.Prelude.{◌≡◌, ◌≢◌, ◌&&◌}
use Rattle.std.proofs.Math.Path.{refl, sym, ap, ap₂, subst}
use Rattle.std.proofs.Common.{◌∙◌, ltb→lt}
use Rattle.std.proofs.Math.Logic.{⊎_elim}
use Rattle.std.proofs.Math.Bool.{Bool, true, false, ◌||◌, not, or-false}
use Rattle.base.specs.Bools.{is_true, is_false, and_left, and_right, and_both, or_first, same_test}
use mathlib.Core.List.{List, [], ◌∷◌, ◌++◌, map}
use Prim.Native.Nat.{ℕ, suc, ◌+◌, ◌-◌, ◌≤◌, ◌<◌}
use Rattle.std.proofs.Math.Decide.{ℕ_discrete}
use native.Mathlib.Omega.{arith}
use Rattle.std.proofs.Math.Dec.{T, eqb, ltb, eqb→eq}
use borrow.Author.Tests.{eq-eqb, ne_eqb, eqb-false, lt-ltb}
use Rattle.base.specs.Lists.{filterb, memberb}
use Rattle.mesh.specs.Layout.{edge_numbers}
use Rattle.exchange.specs.Finite.{Finite, sum_over}
use Rattle.base.specs.Member.{Member, member_head, member_tail, member_cases, any_member, member_any, filtered_member}
use Rattle.base.specs.Member.{member_filtered}
use Rattle.rounds.specs.Task.{Task, Fit, has, rule, red_at, hit_at, rule_same}
use Rattle.rounds.specs.Rounds.{Body, count, end, Phase, counts, State, worth, is_part, mine, holdsb, decides}
use Rattle.rounds.specs.Rounds.{tally}
use Rattle.rounds.specs.Rounds.{added, starting, edge_counts, says, writing, sum_told, red_down, sized}
use Rattle.rounds.specs.Rounds.{taking}
use Rattle.rounds.specs.Among.{sum_part, part_sum, is_self, is_eq, is_same}

module _ {Part : Type 0} (F : Finite Part) (J : Task Part) where
  worth_from : (f : ℕ → Body) (z : ℕ) (l : List ℕ) → sum_over (worth z) (map f l ++ (end ∷ [])) ≢ 0 → (x : ℕ) × Member x l
      × (worth z (f x) ≢ 0)
  unfolding sum_over worth
  worth_from f z [] t = absurd (t refl)
  worth_from f z (y ∷ l) t =
      elim (ℕ_discrete (worth z (f y)) 0) [
        | no n ↦ (y, member_head y l, n)
        | yes e ↦ let (x, m, v) = worth_from f z l (λ w. t (omega arith)) in (x, member_tail x y l m, v)
      ]

  worth_by : (f : ℕ → Body) (z : ℕ) (l : List ℕ) (x : ℕ) → Member x l → worth z (f x) ≢ 0 → sum_over (worth z) (map f l ++ (end ∷ [])) ≢ 0
  unfolding sum_over memberb
  worth_by f z [] x m t e = absurd m
  worth_by f z (y ∷ l) x m t e =
      ⊎_elim (λ (q : x ≡ y). t (ap (λ (y : ℕ). worth z (f y)) q ∙ omega arith)) (λ (n : Member x l). worth_by f z l x n t (omega arith))
      (member_cases x y l m)

  -- what is written for another part
  abbrev pub from : Phase → (Part → State) → Part → Part → List Body
  from f st p q = writing F J f q p (st q)

  pub other_writes : (f : Phase) (q p : Part) (s : State) → is_part F q p ≡ false → writing F J f q p s ≡ says F J f q p s
  unfolding writing
  other_writes f q p s e = rw (e, writing)

  pub own_writes : (f : Phase) (q p : Part) (s : State) → is_part F q p ≡ true → writing F J f q p s ≡ []
  unfolding writing
  own_writes f q p s e = rw (e, writing)

  pub holds_by : (p : Part) (k x c : ℕ) → Member c (J.cells k) → T (mine F J p c) → T (has J c x) → T (holdsb F J p k x)
  unfolding holdsb
  holds_by p k x c m o h = member_any (λ c. mine F J p c && has J c x) (J.cells k) c m (and_both (mine F J p c) (has J c x) o h)

  -- the tally of a slot of another level
  module _ (fit : Fit J) where
    pub has_slot_lem : (k c x : ℕ) → Member c (J.cells k) → T (has J c x) → Member x (J.slots k)
    unfolding has
    has_slot_lem k c x m h =
        let (e, n, q) = any_member (λ e. eqb (J.slot c e) x) edge_numbers h in
        subst (λ (y : ℕ). Member y (J.slots k)) (eqb→eq (J.slot c e) x q) (fit.slot_level k c e m n)

    -- what is told in a round of marks
    module _ (i : ℕ) (st : Part → State) (p : Part) where
      abbrev k : ℕ
      k = J.top - i

    worth_same : (x y n : ℕ) → worth x (count y n) ≢ 0 → x ≡ y
    unfolding worth
    worth_same x y n v = elim (ℕ_discrete x y) [ yes e ↦ e | no d ↦ absurd (v (rw (ne_eqb x y d, worth))) ]

    -- what is told in a round of counts
    module _ (i : ℕ) (st : Part → State) (p : Part) where
      count_one_lem : (q : Part) (x : ℕ) → sum_over (worth x) (from (counts i) st p q) ≢ 0 → Member x (J.slots (J.top - i)) × ((st q).own x ≢ 0)
      unfolding says edge_counts sum_over worth
      count_one_lem q x t = go (is_part F q p) refl
        where
          go : (b : Bool) → is_part F q p ≡ b → Member x (J.slots (J.top - i)) × ((st q).own x ≢ 0)
          go true e = absurd (t (ap (sum_over (worth x)) (own_writes (counts i) q p (st q) e)))
          go false e =
              let f : ℕ → Bool = λ x. holdsb F J q (J.top - i) x && (holdsb F J p (J.top - i) x && not (eqb ((st q).own x) 0)) in
              let (y, m, v) = worth_from (λ x. count x ((st q).own x)) x (filterb f (J.slots (J.top - i)))
              (λ w. t (ap (sum_over (worth x)) (other_writes (counts i) q p (st q) e) ∙ w)) in
              let (n, g) = filtered_member f (J.slots (J.top - i)) y m in
              let h = and_right (holdsb F J p (J.top - i) y) (not (eqb ((st q).own y) 0))
              (and_right (holdsb F J q (J.top - i) y) (holdsb F J p (J.top - i) y && not (eqb ((st q).own y) 0)) g) in
              let w : x ≡ y = worth_same x y ((st q).own y) v in
              (rw w n, rw w (eqb-false ((st q).own y) 0 (is_false (eqb ((st q).own y) 0) h)))

      count_from : (x : ℕ) → added F (from (counts i) st p) x ≢ 0 → (q : Part) × Member x (J.slots (J.top - i)) × ((st q).own x ≢ 0)
      unfolding added
      count_from x t = let (q, u) = sum_part (λ q. sum_over (worth x) (from (counts i) st p q)) F.list t in
          let (a, b) = count_one_lem q x u in
          (q, a, b)

      count_by : (q : Part) (x : ℕ) → Member x (J.slots (J.top - i)) → is_part F q p ≡ false → T (holdsb F J q (J.top - i) x)
          → T (holdsb F J p (J.top - i) x) → (st q).own x ≢ 0
          → added F (from (counts i) st p) x ≢ 0
      unfolding added says edge_counts worth
      count_by q x m e a b o =
          let f : ℕ → Bool = λ x. holdsb F J q (J.top - i) x && (holdsb F J p (J.top - i) x && not (eqb ((st q).own x) 0)) in
          let n : Member x (filterb f (J.slots (J.top - i))) =
          member_filtered f (J.slots (J.top - i)) x m
          (and_both (holdsb F J q (J.top - i) x) (holdsb F J p (J.top - i) x && not (eqb ((st q).own x) 0)) a
          (and_both (holdsb F J p (J.top - i) x) (not (eqb ((st q).own x) 0)) b (rw (ne_eqb ((st q).own x) 0 o) tt))) in
          let u : sum_over (worth x) (map (λ x. count x ((st q).own x)) (filterb f (J.slots (J.top - i))) ++ (end ∷ [])) ≢ 0 =
          worth_by (λ x. count x ((st q).own x)) x (filterb f (J.slots (J.top - i))) x n (λ w. o (rw (eq-eqb x x refl, worth) at w)) in
          part_sum (λ q. sum_over (worth x) (from (counts i) st p q)) F.list q (F.all q)
          (λ w. u (sym (ap (sum_over (worth x)) (other_writes (counts i) q p (st q) e)) ∙ w))

-- what a part knows
module _ {Part : Type 0} (F : Finite Part) (J : Task Part) (ms : ℕ → ℕ) where
  -- of the n highest levels
  pub record Known (n : ℕ) (p : Part) (s : State) : Type 0 where
    pub given : (c : ℕ) → J.owner c ≡ p → s.given c ≡ ms c
    pub red : (j c : ℕ) → j < n → Member c (J.cells (J.top - j)) → T (mine F J p c) → s.red c ≡ red_at J ms j c
    pub hit : (j x : ℕ) → j < n → Member x (J.slots (J.top - j)) → T (holdsb F J p (J.top - j) x)
        → not (eqb (s.sum x) 0) ≡ hit_at J ms j x
    pub own : (j x : ℕ) → j < n → Member x (J.slots (J.top - j)) → s.own x ≡ tally F J p (red_at J ms j) (J.top - j) x

  pub record Marking (i : ℕ) (p : Part) (s : State) : Type 0 where
    pub known : Known i p s
    pub here : (c : ℕ) → Member c (J.cells (J.top - i)) → s.red c ≡ (is_part F (J.family c) p && red_at J ms i c)
    pub dark : (k c : ℕ) → k < J.top - i → Member c (J.cells k) → s.red c ≡ false
    pub zero_own : (k x : ℕ) → k ≤ J.top - i → Member x (J.slots k) → s.own x ≡ 0
    pub zero_sum : (k x : ℕ) → k ≤ J.top - i → Member x (J.slots k) → s.sum x ≡ 0

  pub record Counting (i : ℕ) (p : Part) (s : State) : Type 0 where
    pub known : Known i p s
    pub here : (c : ℕ) → Member c (J.cells (J.top - i)) → T (mine F J p c) → s.red c ≡ red_at J ms i c
    pub dark : (k c : ℕ) → k < J.top - i → Member c (J.cells k) → s.red c ≡ false
    pub own_is : (x : ℕ) → Member x (J.slots (J.top - i)) → s.own x ≡ tally F J p (red_at J ms i) (J.top - i) x
    pub own_from : (x : ℕ) → Member x (J.slots (J.top - i)) → s.own x ≢ 0 → (c : ℕ) × Member c (J.cells (J.top - i))
        × T (red_at J ms i c) × T (has J c x)
    pub own_by : (x c : ℕ) → Member c (J.cells (J.top - i)) → J.owner c ≡ p → T (red_at J ms i c) → T (has J c x) → s.own x ≢ 0
    pub same : (x : ℕ) → Member x (J.slots (J.top - i)) → s.sum x ≡ s.own x
    pub zero_own : (k x : ℕ) → k < J.top - i → Member x (J.slots k) → s.own x ≡ 0
    pub zero_sum : (k x : ℕ) → k < J.top - i → Member x (J.slots k) → s.sum x ≡ 0

  module _ (fit : Fit J) where
    -- the start
    abbrev none_hit : ℕ → Bool
    none_hit s = false

    decided : (p : Part) (k c : ℕ) → Member c (J.cells k) → decides F J p k c ≡ is_part F (J.family c) p
    unfolding decides
    decided p k c m = rw (is_true (memberb c (J.cells k)) m)

    undecided : (p : Part) (j k c : ℕ) → Member c (J.cells j) → j ≢ k → decides F J p k c ≡ false
    unfolding decides
    undecided p j k c m d = go (memberb c (J.cells k)) refl
      where
        go : (b : Bool) → memberb c (J.cells k) ≡ b → (b && is_part F (J.family c) p) ≡ false
        go true e = absurd (d (fit.one_level j k c m (rw e tt)))
        go false e = refl

    -- a part that decides on a cell knows the marks that the rule looks at
    module _ (p : Part) (given : ℕ → ℕ) (known : (c : ℕ) → J.owner c ≡ p → given c ≡ ms c) (h g : ℕ
        → Bool) (k c : ℕ) (there : Member c (J.cells k))
        (hits : J.family c ≡ p → (j e : ℕ) → Member j (J.kids c) → Member e edge_numbers → h (J.slot j e) ≡ g (J.slot j e)) where
      rule_known : J.family c ≡ p → rule J h given c ≡ rule J g ms c
      rule_known f =
          rule_same J h g given ms c (λ z. known c (sym (fit.leaf_family k c there z) ∙ f))
          (λ j m. known j (fit.kid_owner k c j there m ∙ f)) (hits f)

      rule_decided : (is_part F (J.family c) p && rule J h given c) ≡ (is_part F (J.family c) p && rule J g ms c)
      rule_decided = go (is_part F (J.family c) p) refl
        where
          go : (b : Bool) → is_part F (J.family c) p ≡ b → (b && rule J h given c) ≡ (b && rule J g ms c)
          go true e = rule_known (is_eq F (J.family c) p (rw e tt))
          go false e = refl

    pub at_start_lem : (p : Part) (given : ℕ → ℕ) → ((c : ℕ) → J.owner c ≡ p → given c ≡ ms c) → Marking 0 p (starting F J p given)
    unfolding starting red_at
    at_start_lem p given known =
        let z : J.top - 0 ≡ J.top = omega arith in
        record {
          known = record {
            given = known;
            red = λ j c l. absurd (omega arith);
            hit = λ j x l. absurd (omega arith);
            own =
                λ j x l. absurd (omega arith);
          };
          here = λ c m.
              let n : Member c (J.cells J.top) = rw z at m in
              ap (λ (b : Bool). b && rule J none_hit given c) (decided p J.top c n)
              ∙ rule_decided p given known none_hit none_hit J.top c n (λ f j e a b. refl);
          dark = λ k c l m. ap (λ (b : Bool). b && rule J none_hit given c) (undecided p k J.top c m (λ e. omega arith));
          zero_own = λ k x l m. refl;
          zero_sum = λ k x l m. refl;
        }

    pub member_has : (j e : ℕ) → Member e edge_numbers → T (has J j (J.slot j e))
    unfolding has
    member_has j e b = member_any (λ y. eqb (J.slot j y) (J.slot j e)) edge_numbers e b (rw (eq-eqb (J.slot j e) (J.slot j e) refl) tt)

    -- after the round of counts
    module _ (i : ℕ) (h : i ≤ J.top) (st : Part → State) (w : (q : Part) → Counting i q (st q)) (p : Part) where
      abbrev adds : Part → List Body
      adds = from F J (counts i) st p

      pub none_added : (k x : ℕ) → k ≢ J.top - i → Member x (J.slots k) → added F adds x ≡ 0
      none_added k x d m =
          elim (ℕ_discrete (added F adds x) 0) [
            | yes e ↦ e
            | no n ↦ let (q, a, b) = count_from F J fit i st p x n in absurd (d (fit.one_slot k (J.top - i) x m a))
          ]

      sum_kept : (k x : ℕ) → k ≢ J.top - i → Member x (J.slots k) → sum_told F (st p) adds x ≡ (st p).sum x
      unfolding sum_told
      sum_kept k x d m = omega (arith, none_added k x d m)

      hit_from : (x : ℕ) → Member x (J.slots (J.top - i)) → (q : Part) → (st q).own x ≢ 0 → T (hit_at J ms i x)
      hit_from x m q n =
          let (c, a, b, d) = (w q).own_from x m n in
          member_any (λ d. red_at J ms i d && has J d x) (J.cells (J.top - i)) c a (and_both (red_at J ms i c) (has J c x) b d)

      hit_here : (x : ℕ) → Member x (J.slots (J.top - i)) → T (holdsb F J p (J.top - i) x)
          → not (eqb (sum_told F (st p) adds x) 0) ≡ hit_at J ms i x
      unfolding sum_told
      hit_here x m o = same_test (not (eqb (sum_told F (st p) adds x) 0)) (hit_at J ms i x) up down
        where
          up : T (not (eqb ((st p).sum x + added F adds x) 0)) → T (hit_at J ms i x)
          up t =
              let z : (st p).sum x + added F adds x ≢ 0 =
              eqb-false ((st p).sum x + added F adds x) 0 (is_false (eqb ((st p).sum x + added F adds x) 0) t) in
              elim (ℕ_discrete (added F adds x) 0) [
                | yes e ↦ hit_from x m p (λ y. z (omega (arith, (w p).same x m)))
                | no n ↦ let (q, a, b) = count_from F J fit i st p x n in hit_from x m q b
              ]

          down : T (hit_at J ms i x) → T (not (eqb ((st p).sum x + added F adds x) 0))
          down t =
              let (c, a, b) = any_member (λ d. red_at J ms i d && has J d x) (J.cells (J.top - i)) t in
              let r = and_left (red_at J ms i c) (has J c x) b in
              let g = and_right (red_at J ms i c) (has J c x) b in
              let q = J.owner c in
              let own : (st q).own x ≢ 0 = (w q).own_by x c a refl r g in
              let some : (st p).sum x + added F adds x ≢ 0 = go q own (is_part F q p) refl
              (holds_by F J q (J.top - i) x c a (or_first (is_part F (J.owner c) q) (is_part F (J.family c) q) (rw (is_self F q) tt)) g) in
              rw (ne_eqb ((st p).sum x + added F adds x) 0 some) tt
            where
              go : (q : Part) → (st q).own x ≢ 0 → (b : Bool) → is_part F q p ≡ b → T (holdsb F J q (J.top - i) x)
                  → (st p).sum x + added F adds x ≢ 0
              go q n true e l y =
                  let z : (st p).own x ≢ 0 = subst (λ q. (st q).own x ≢ 0) (is_eq F q p (rw e tt)) n in
                  z (omega (arith, (w p).same x m))
              go q n false e l y = count_by F J fit i st p q x m e l o n (omega arith)

      -- flags stay on levels that were treated
      red_stays : (k c : ℕ) → (T (ltb i J.top) → k ≢ J.top - suc i) → Member c (J.cells k)
          → red_down F J i p (st p) adds c ≡ (st p).red c
      unfolding red_down
      red_stays k c d m = ap (λ (b : Bool). (st p).red c || b) (go (ltb i J.top) refl) ∙ or-false ((st p).red c)
        where
          go : (b : Bool) → ltb i J.top ≡ b → (b
              && (decides F J p (J.top - suc i) c && rule J (λ x. not (eqb (sum_told F (st p) adds x) 0)) (st p).given c)) ≡ false
          go true e = ap (λ (b : Bool). b && rule J (λ x. not (eqb (sum_told F (st p) adds x) 0)) (st p).given c)
              (undecided p k (J.top - suc i) c m (d (rw e tt)))
          go false e = refl

      upper : (j : ℕ) → j < suc i → T (ltb i J.top) → J.top - j ≢ J.top - suc i
      upper j l t e = let g = ltb→lt i J.top t in omega arith

      known_next : (grown : Part → State → ℕ × ℕ) → Known (suc i) p (taking F J grown (counts i) p (st p) adds)
      unfolding taking sized
      known_next grown =
          record {
            given = (w p).known.given;
            red = λ j c l m o. red_stays (J.top - j) c (upper j l) m ∙ red_here j c l m o (ℕ_discrete j i);
            hit = λ j x l m o. hit_there j x l m o (ℕ_discrete j i);
            own = λ j x l m. own_there j x l m (ℕ_discrete j i);
          }
        where
          red_here : (j c : ℕ) → j < suc i → Member c (J.cells (J.top - j)) → T (mine F J p c) → Dec (j ≡ i)
              → (st p).red c ≡ red_at J ms j c
          red_here j c l m o (yes e) = let n : Member c (J.cells (J.top - i)) = rw e at m in rw e ((w p).here c n o)
          red_here j c l m o (no n) = (w p).known.red j c (omega arith) m o

          own_there : (j x : ℕ) → j < suc i → Member x (J.slots (J.top - j)) → Dec (j ≡ i)
              → (st p).own x ≡ tally F J p (red_at J ms j) (J.top - j) x
          own_there j x l m (yes e) = let n : Member x (J.slots (J.top - i)) = rw e at m in rw e ((w p).own_is x n)
          own_there j x l m (no n) = (w p).known.own j x (omega arith) m

          hit_there : (j x : ℕ) → j < suc i → Member x (J.slots (J.top - j)) → T (holdsb F J p (J.top - j) x) → Dec (j ≡ i)
              → not (eqb (sum_told F (st p) adds x) 0) ≡ hit_at J ms j x
          hit_there j x l m o (yes e) =
              let n : Member x (J.slots (J.top - i)) = rw e at m in
              let g : T (holdsb F J p (J.top - i) x) = rw e at o in rw e (hit_here x n g)
          hit_there j x l m o (no n) =
              ap (λ (n : ℕ). not (eqb n 0)) (sum_kept (J.top - j) x (λ e. omega arith) m) ∙ (w p).known.hit j x (omega arith) m o

      pub counts_known : (grown : Part → State → ℕ × ℕ) → i < J.top → Marking (suc i) p (taking F J grown (counts i) p (st p) adds)
      unfolding taking red_down red_at sized
      counts_known grown g =
          record {
            known = known_next grown;
            here = λ c m.
                let z : suc (J.top - suc i) ≡ J.top - i = omega arith in
                let test : ℕ → Bool = λ x. not (eqb (sum_told F (st p) adds x) 0) in
                let e : rule_is c ≡ (is_part F (J.family c) p && red_at J ms (suc i) c) =
                rule_decided p (st p).given (w p).known.given (λ x. not (eqb (sum_told F (st p) adds x) 0)) (hit_at J ms i)
                (J.top - suc i) c m (λ f j e a b.
                let u : Member j (J.cells (J.top - i)) =
                subst (λ (k : ℕ). Member j (J.cells k)) z (fit.kid_level (J.top - suc i) c j m a) in
                hit_here (J.slot j e) (fit.slot_level (J.top - i) j e u b)
                (holds_by F J p (J.top - i) (J.slot j e) j u
                (or_first (is_part F (J.owner j) p) (is_part F (J.family j) p)
                (rw (is_same F (J.owner j) p (fit.kid_owner (J.top - suc i) c j m a ∙ f)) tt))
                (has_own j e b))) in
                ap₂ ◌||◌ ((w p).dark (J.top - suc i) c (omega arith) m)
                (ap₂ (λ (a b : Bool). a && (b && rule J (λ x. not (eqb (sum_told F (st p) adds x) 0)) (st p).given c)) (lt-ltb i J.top g)
                (decided p (J.top - suc i) c m))
                ∙ e;
            dark = λ k c l m. red_stays k c (λ t e. omega arith) m ∙ (w p).dark k c (omega arith) m;
            zero_own = λ k x l m. (w p).zero_own k x (omega arith) m;
            zero_sum = λ k x l m. sum_kept k x (λ e. omega arith) m ∙ (w p).zero_sum k x (omega arith) m;
          }
        where
          rule_is : ℕ → Bool
          rule_is c = is_part F (J.family c) p && rule J (λ x. not (eqb (sum_told F (st p) adds x) 0)) (st p).given c

          has_own : (j e : ℕ) → Member e edge_numbers → T (has J j (J.slot j e))
          has_own j e b = member_has j e b

      pub last_known : (grown : Part → State → ℕ × ℕ) → Known (suc i) p (taking F J grown (counts i) p (st p) adds)
      last_known = known_next
