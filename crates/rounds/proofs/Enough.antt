-- Enough arrives in a round of marks: a tally over masters and ghosts is at most the marks that come (tally_else), and what is known after it (marks_known).
use Rattle.std.specs.Prelude.{◌≡◌, ◌≢◌, ◌&&◌}
use Rattle.std.proofs.Math.Path.{refl, sym, ap, ap₂, subst}
use Rattle.std.proofs.Common.{◌∙◌}
use Rattle.std.proofs.Math.Logic.{⊎_elim}
use Rattle.std.proofs.Math.Bool.{Bool, true, false, ◌||◌, not, or-false}
use Rattle.base.specs.Bools.{not_both, and_left, and_right, and_both, or_first, or_second, or_either, same_test}
use mathlib.Core.List.{List, [], ◌∷◌, ◌++◌, map}
use Prim.Native.Nat.{ℕ, ◌+◌, ◌-◌, ◌≤◌, ◌<◌}
use Rattle.std.proofs.Math.Decide.{ℕ_discrete}
use native.Mathlib.Omega.{arith}
use Rattle.std.proofs.Math.Dec.{T, eqb, eqb→eq}
use Rattle.std.proofs.Math.ListN.{length}
use borrow.Author.Tests.{eq-eqb}
use Rattle.base.specs.Lists.{anyb, filterb, memberb}
use Rattle.exchange.specs.Finite.{Finite}
use Rattle.base.specs.Member.{Member, member_head, member_tail, member_cases, filtered_member}
use Rattle.base.specs.Member.{member_filtered, filter_agree}
use Rattle.rounds.specs.Task.{Task, Fit, has, red_at}
use Rattle.rounds.specs.Rounds.{Body, mark, end, Phase, marks, State, tells, is_part, mine}
use Rattle.rounds.specs.Rounds.{tally}
use Rattle.rounds.specs.Rounds.{told, ghost_marks, says, red_told}
use Rattle.rounds.specs.Rounds.{taking}
use Rattle.rounds.specs.Among.{any_part, part_any, is_self, is_eq, is_same}
use Rattle.rounds.specs.Enough.{other_writes, own_writes, has_slot_lem}

-- a list of bodies that a rule makes of numbers
module _ (f : ℕ → Body) where
  told_from : (c : ℕ) (l : List ℕ) → T (anyb (tells c) (map f l ++ (end ∷ []))) → (x : ℕ) × Member x l × T (tells c (f x))
  unfolding anyb tells
  told_from c [] t = absurd t
  told_from c (y ∷ l) t =
      ⊎_elim (λ (u : T (tells c (f y))). (y, member_head y l, u))
      (λ (u : T (anyb (tells c) (map f l ++ (end ∷ [])))). let (x, m, v) = told_from c l u in (x, member_tail x y l m, v))
      (or_either (tells c (f y)) (anyb (tells c) (map f l ++ (end ∷ []))) t)

  told_by_lem : (c : ℕ) (l : List ℕ) (x : ℕ) → Member x l → T (tells c (f x)) → T (anyb (tells c) (map f l ++ (end ∷ [])))
  unfolding anyb memberb
  told_by_lem c [] x m t = absurd m
  told_by_lem c (y ∷ l) x m t =
      ⊎_elim (λ (e : x ≡ y). or_first (tells c (f y)) (anyb (tells c) (map f l ++ (end ∷ []))) (rw e at t))
      (λ (n : Member x l). or_second (tells c (f y)) (anyb (tells c) (map f l ++ (end ∷ []))) (told_by_lem c l x n t)) (member_cases x y l m)

module _ {Part : Type 0} (F : Finite Part) (J : Task Part) where
  abbrev from : Phase → (Part → State) → Part → Part → List Body
  from = Rattle.rounds.specs.Enough.from F J

  -- the tally of a slot
  length_some : (l : List ℕ) → length l ≢ 0 → (x : ℕ) × Member x l
  length_some [] t = absurd (t refl)
  length_some (x ∷ l) t = (x, member_head x l)

  some-length : (l : List ℕ) (x : ℕ) → Member x l → length l ≢ 0
  unfolding memberb
  some-length [] x m e = absurd m
  some-length (y ∷ l) x m e = omega arith

  tally_from : (p : Part) (red : ℕ → Bool) (k x : ℕ) → tally F J p red k x ≢ 0 → (c : ℕ) × Member c (J.cells k) × (J.owner c ≡ p)
      × T (red c) × T (has J c x)
  unfolding tally
  tally_from p red k x t =
      let f : ℕ → Bool = λ c. is_part F (J.owner c) p && (red c && has J c x) in
      let (c, m) = length_some (filterb f (J.cells k)) t in
      let (n, u) = filtered_member f (J.cells k) c m in
      let v = and_right (is_part F (J.owner c) p) (red c && has J c x) u in (
        c,
        n,
        is_eq F (J.owner c) p (and_left (is_part F (J.owner c) p) (red c && has J c x) u),
        and_left (red c) (has J c x) v,
        and_right (red c) (has J c x) v,
      )

  tally_by : (p : Part) (red : ℕ → Bool) (k x c : ℕ) → Member c (J.cells k) → J.owner c ≡ p → T (red c) → T (has J c x)
      → tally F J p red k x ≢ 0
  unfolding tally
  tally_by p red k x c m o r h =
      let f : ℕ → Bool = λ c. is_part F (J.owner c) p && (red c && has J c x) in
      some-length (filterb f (J.cells k)) c
      (member_filtered f (J.cells k) c m (and_both (is_part F (J.owner c) p) (red c
      && has J c x) (rw (is_same F (J.owner c) p o) tt) (and_both (red c) (has J c x) r h)))

  -- the tally of a slot of another level
  module _ (fit : Fit J) where
    pub tally_else : (p : Part) (red : ℕ → Bool) (j k x : ℕ) → Member x (J.slots j) → j ≢ k → tally F J p red k x ≡ 0
    tally_else p red j k x m d =
        elim (ℕ_discrete (tally F J p red k x) 0) [
          | yes e ↦ e
          | no n ↦ let (c, i, o, r, h) = tally_from p red k x n in absurd (d (fit.one_slot j k x m (has_slot_lem F J fit k c x i h)))
        ]

    -- what is told in a round of marks
    module _ (i : ℕ) (st : Part → State) (p : Part) where
      abbrev k : ℕ
      k = J.top - i

      told_one : (q : Part) (c : ℕ) → T (anyb (tells c) (from (marks i) st p q)) → Member c (J.cells k) × (J.family c ≡ q)
          × (J.owner c ≡ p) × T ((st q).red c) × (is_part F q p ≡ false)
      unfolding says ghost_marks tells anyb
      told_one q c t = go (is_part F q p) refl
        where
          go : (b : Bool) → is_part F q p ≡ b → Member c (J.cells k) × (J.family c ≡ q) × (J.owner c ≡ p) × T ((st q).red c)
              × (is_part F q p ≡ false)
          go true e = absurd (rw (own_writes F J (marks i) q p (st q) e) at t)
          go false e =
              let f : ℕ → Bool = λ c. is_part F (J.family c) q && is_part F (J.owner c) p in
              let u : T (anyb (tells c) (map (λ c. mark c ((st q).red c)) (filterb f (J.cells k)) ++ (end ∷ []))) =
              rw (other_writes F J (marks i) q p (st q) e) at t in
              let (x, m, v) = told_from (λ c. mark c ((st q).red c)) c (filterb f (J.cells k)) u in
              let w : c ≡ x = eqb→eq c x (and_left (eqb c x) ((st q).red x) v) in
              let (n, g) = filtered_member f (J.cells k) x m in (
                rw w n,
                rw w (is_eq F (J.family x) q (and_left (is_part F (J.family x) q) (is_part F (J.owner x) p) g)),
                rw w (is_eq F (J.owner x) p (and_right (is_part F (J.family x) q) (is_part F (J.owner x) p) g)),
                rw w (and_right (eqb c x) ((st q).red x) v),
                e,
              )

      told_from_one : (c : ℕ) → T (told F (from (marks i) st p) c) → (q : Part) × Member c (J.cells k) × (J.family c ≡ q)
          × (J.owner c ≡ p) × T ((st q).red c) × (is_part F q p ≡ false)
      unfolding told
      told_from_one c t = let (q, u) = any_part (λ q. anyb (tells c) (from (marks i) st p q)) F.list t in
          let (a, b, d, e, g) = told_one q c u in (q, a, b, d, e, g)

      told_by_one : (c : ℕ) → Member c (J.cells k) → J.owner c ≡ p → is_part F (J.family c) p ≡ false → T ((st (J.family c)).red c)
          → T (told F (from (marks i) st p) c)
      unfolding told says ghost_marks tells
      told_by_one c m o e r =
          let q = J.family c in
          let f : ℕ → Bool = λ c. is_part F (J.family c) q && is_part F (J.owner c) p in
          let n : Member c (filterb f (J.cells k)) =
          member_filtered f (J.cells k) c m (and_both (is_part F (J.family c) q) (is_part F (J.owner c) p) (rw (is_self F q) tt)
          (rw (is_same F (J.owner c) p o) tt)) in
          let u : T (anyb (tells c) (map (λ c. mark c ((st q).red c)) (filterb f (J.cells k)) ++ (end ∷ []))) =
          told_by_lem (λ c. mark c ((st q).red c)) c (filterb f (J.cells k)) c n
          (and_both (eqb c c) ((st q).red c) (rw (eq-eqb c c refl) tt) r) in
          part_any (λ q. anyb (tells c) (from (marks i) st p q)) F.list q (F.all q) (rw (other_writes F J (marks i) q p (st q) e) u)

-- what a part knows
module _ {Part : Type 0} (F : Finite Part) (J : Task Part) (ms : ℕ → ℕ) where
  abbrev Marking : (i : ℕ) (p : Part) (s : State) → Type 0
  Marking = Rattle.rounds.specs.Enough.Marking F J ms

  abbrev Counting : (i : ℕ) (p : Part) (s : State) → Type 0
  Counting = Rattle.rounds.specs.Enough.Counting F J ms

  module _ (fit : Fit J) where
    none_told : (i : ℕ) → i ≤ J.top → (st : Part → State) (p : Part) (j c : ℕ) → j < i → Member c (J.cells (J.top - j))
        → told F (from F J (marks i) st p) c ≡ false
    none_told i h st p j c l m = go (told F (from F J (marks i) st p) c) refl
      where
        go : (b : Bool) → told F (from F J (marks i) st p) c ≡ b → b ≡ false
        go true e =
            let (q, n, f, o, r, d) = told_from_one F J fit i st p c (rw e tt) in
            let z : J.top - j ≡ J.top - i = fit.one_level (J.top - j) (J.top - i) c m n in absurd (omega arith)
        go false e = refl

    none_low : (i : ℕ) (st : Part → State) (p : Part) (k c : ℕ) → k < J.top - i → Member c (J.cells k)
        → told F (from F J (marks i) st p) c ≡ false
    none_low i st p k c l m = go (told F (from F J (marks i) st p) c) refl
      where
        go : (b : Bool) → told F (from F J (marks i) st p) c ≡ b → b ≡ false
        go true e =
            let (q, n, f, o, r, d) = told_from_one F J fit i st p c (rw e tt) in
            let z : k ≡ J.top - i = fit.one_level k (J.top - i) c m n in absurd (omega arith)
        go false e = refl

    -- after the round of marks
    module _ (i : ℕ) (h : i ≤ J.top) (st : Part → State) (w : (q : Part) → Marking i q (st q)) (p : Part) where
      abbrev tells_me : Part → List Body
      tells_me = from F J (marks i) st p

      red_told_lem : (c : ℕ) → Member c (J.cells (J.top - i)) → T (mine F J p c) → red_told F (st p) tells_me c ≡ red_at J ms i c
      unfolding red_told
      red_told_lem c m o = go (is_part F (J.family c) p) refl
        where
          go : (b : Bool) → is_part F (J.family c) p ≡ b → ((st p).red c || told F tells_me c) ≡ red_at J ms i c
          go true e =
              let quiet : told F tells_me c ≡ false =
              no_true (told F tells_me c) (λ t. let (q, n, f, a, r, d) = told_from_one F J fit i st p c t in
              not_both (is_part F q p) (ap (λ x. is_part F x p) (sym f) ∙ e) d) in
              ap₂ ◌||◌ ((w p).here c m ∙ ap (λ (b : Bool). b && red_at J ms i c) e) quiet ∙ or-false (red_at J ms i c)
            where
              no_true : (b : Bool) → (T b → ⊥) → b ≡ false
              no_true true f = absurd (f tt)
              no_true false f = refl
          go false e =
              let own : J.owner c ≡ p = is_eq F (J.owner c) p
              (⊎_elim (λ (t : T (is_part F (J.owner c) p)). t) (λ (t : T (is_part F (J.family c) p)). absurd (rw e at t))
              (or_either (is_part F (J.owner c) p) (is_part F (J.family c) p) o)) in
              let q = J.family c in
              let there : (st q).red c ≡ red_at J ms i c = (w q).here c m ∙ ap (λ (b : Bool). b && red_at J ms i c) (is_self F q) in
              ap (λ (b : Bool). b || told F tells_me c) ((w p).here c m ∙ ap (λ (b : Bool). b && red_at J ms i c) e)
              ∙ same_test (told F tells_me c) (red_at J ms i c)
              (λ t. let (q', n, f, a, r, d) = told_from_one F J fit i st p c t in
              let r' : T ((st q).red c) = subst (λ x. T ((st x).red c)) (sym f) r in rw there at r')
              (λ t. told_by_one F J fit i st p c m own e (rw there t))

      red_kept : (j c : ℕ) → j < i → Member c (J.cells (J.top - j)) → red_told F (st p) tells_me c ≡ (st p).red c
      unfolding red_told
      red_kept j c l m = ap (λ (b : Bool). (st p).red c || b) (none_told i h st p j c l m) ∙ or-false ((st p).red c)

      apart_level : (j x : ℕ) → j < i → Member x (J.slots (J.top - j)) → tally F J p (red_told F (st p) tells_me) (J.top - i) x ≡ 0
      apart_level j x l m = tally_else F J fit p (red_told F (st p) tells_me) (J.top - j) (J.top - i) x m (λ e. omega arith)

      low_level : (k x : ℕ) → k < J.top - i → Member x (J.slots k) → tally F J p (red_told F (st p) tells_me) (J.top - i) x ≡ 0
      low_level k x l m = tally_else F J fit p (red_told F (st p) tells_me) k (J.top - i) x m (λ e. omega arith)

      tally_told : (x : ℕ) → tally F J p (red_told F (st p) tells_me) (J.top - i) x ≡ tally F J p (red_at J ms i) (J.top - i) x
      unfolding tally
      tally_told x =
          ap length (filter_agree (λ c. is_part F (J.owner c) p && (red_told F (st p) tells_me c && has J c x)) (λ c. is_part F (J.owner c) p
          && (red_at J ms i c && has J c x)) (J.cells (J.top - i)) (λ c m. go c m (is_part F (J.owner c) p) refl))
        where
          go : (c : ℕ) → Member c (J.cells (J.top - i)) → (b : Bool) → is_part F (J.owner c) p ≡ b
              → (b && (red_told F (st p) tells_me c && has J c x)) ≡ (b && (red_at J ms i c && has J c x))
          go c m true e = ap (λ (r : Bool). r && has J c x)
              (red_told_lem c m (or_first (is_part F (J.owner c) p) (is_part F (J.family c) p) (rw e tt)))
          go c m false e = refl

      pub marks_known : (grown : Part → State → ℕ × ℕ) → Counting i p (taking F J grown (marks i) p (st p) tells_me)
      unfolding taking red_told
      marks_known grown =
          record {
            known =
                record {
                  given = (w p).known.given;
                  red = λ j c l m o. red_kept j c l m ∙ (w p).known.red j c l m o;
                  hit = λ j x l m o.
                      ap (λ (n : ℕ). not (eqb n 0)) (ap (λ (n : ℕ). (st p).sum x + n) (apart_level j x l m) ∙ add_none ((st p).sum x))
                      ∙ (w p).known.hit j x l m o;
                  own = λ j x l m. ap (λ (n : ℕ). (st p).own x + n) (apart_level j x l m) ∙ add_none ((st p).own x) ∙ (w p).known.own j x l m;
                };
            here = red_told_lem;
            own_is = λ x m. ap₂ (λ (a b : ℕ). a + b) ((w p).zero_own (J.top - i) x (omega arith) m) (tally_told x)
                ∙ zero_plus (tally F J p (red_at J ms i) (J.top - i) x);
            dark = λ k c l m. ap₂ ◌||◌ ((w p).dark k c l m) (none_low i st p k c l m);
            own_from = λ x m n.
                let z = (w p).zero_own (J.top - i) x (omega arith) m in
                let (c, a, b, d, e) = tally_from F J p (red_told F (st p) tells_me) (J.top - i) x (λ y. n (omega arith)) in (
                  c,
                  a,
                  rw (red_told_lem c a (or_first (is_part F (J.owner c) p) (is_part F (J.family c) p) (rw (is_same F (J.owner c) p b) tt))) at
                      d,
                  e,
                );
            own_by = λ x c m o r t.
                let y : tally F J p (red_told F (st p) tells_me) (J.top - i) x ≢ 0 =
                tally_by F J p (red_told F (st p) tells_me) (J.top - i) x c m o
                (rw (red_told_lem c m (or_first (is_part F (J.owner c) p) (is_part F (J.family c) p) (rw (is_same F (J.owner c) p o) tt))) r)
                t in
                (λ e. y (omega arith));
            same = λ x m.
                ap (λ (n : ℕ). n + tally F J p (red_told F (st p) tells_me) (J.top - i) x)
                ((w p).zero_sum (J.top - i) x (omega arith) m ∙ sym ((w p).zero_own (J.top - i) x (omega arith) m));
            zero_own = λ k x l m. omega (arith, (w p).zero_own k x (omega arith) m, low_level k x l m);
            zero_sum = λ k x l m. omega (arith, (w p).zero_sum k x (omega arith) m, low_level k x l m);
          }
        where
          add_none : (n : ℕ) → n + 0 ≡ n
          add_none n = omega arith

          zero_plus : (n : ℕ) → 0 + n ≡ n
          zero_plus n = omega arith
