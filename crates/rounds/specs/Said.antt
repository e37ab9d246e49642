-- What the messages of a round say: each kind of round has its own.
--   Said f q p s b     the body b is one that q, which knows s, can write for p in a round of the kind f
--   taken f st p n     the first messages of the parts for p in such a round, n q of the part q
-- Laws: said_all (whatever is written is so), taken_last (and so the last message taken), untold, uncounted (where no message tells of a
-- cell, of a slot), and which kinds of round tell nothing: counts_tell, totals_tell, over_tell, marks_count, totals_count, over_count.
use Rattle.std.specs.Prelude.{◌≡◌, ◌≢◌, ◌&&◌, T, eqb, take}
use Rattle.std.proofs.Math.Path.{refl, ap₂}
use Rattle.std.proofs.Common.{subst}
use Rattle.std.proofs.Math.Bool.{Bool, true, false, ◌||◌, not}
use mathlib.Core.List.{List, [], ◌∷◌, ◌++◌, map}
use Prim.Native.Nat.{ℕ, zero, suc, ◌+◌, ◌-◌}
use borrow.Author.Tests.{eqb-false}
use Rattle.base.specs.Lists.{anyb, filterb}
use Rattle.base.specs.Bools.{is_false, and_left, and_right}
use Rattle.base.specs.Every.{All, all_append, all_more}
use Rattle.exchange.specs.Finite.{Finite, sum_over}
use Rattle.base.specs.Member.{Member, member_head, member_tail}
use Rattle.rounds.specs.Task.{Task}
use Rattle.rounds.specs.Rounds.{Body, mark, count, total, end, Phase, marks, counts, totals, over, State, tells, worth, is_part}
use Rattle.rounds.specs.Rounds.{holdsb, told, added, ghost_marks, edge_counts, says, writing}
use Rattle.rounds.specs.Among.{is_eq}

-- lists of which a beginning is taken
module _ {A : Type 0} (P : A → Type 0) where
  all_take : (n : ℕ) (l : List A) → All P l → All P (take n l)
  all_take zero l t = tt
  all_take (suc n) [] t = tt
  all_take (suc n) (x ∷ l) t = (t.0, all_take n l t.1)

  all_last : (l : List A) (x : A) → All P (l ++ (x ∷ [])) → P x
  all_last [] x t = t.0
  all_last (y ∷ l) x t = all_last l x t.1

-- bodies that a rule makes of the numbers that pass a test
all_made : (P : Body → Type 0) (f : ℕ → Body) (g : ℕ → Bool) (l : List ℕ) → ((x : ℕ) → Member x l → T (g x) → P (f x))
    → All P (map f (filterb g l))
unfolding filterb
all_made P f g [] h = tt
all_made P f g (x ∷ l) h = go (g x) refl (all_made P f g l (λ y m t. h y (member_tail y x l m) t))
  where
    go : (b : Bool) → g x ≡ b → All P (map f (filterb g l)) → All P (map f (filterb g (x ∷ l)))
    go true e r = rw (e, filterb) (h x (member_head x l) (rw e tt), r)
    go false e r = rw (e, filterb) r

module _ {Part : Type 0} (F : Finite Part) (J : Task Part) where
  unfoldable pub Said : Phase → Part → Part → State → Body → Type 0
  Said (marks i) q p s (mark c v) = Member c (J.cells (J.top - i)) × (J.family c ≡ q) × (J.owner c ≡ p)
  Said (marks i) q p s (count x n) = ⊥
  Said (marks i) q p s (total n h) = ⊥
  Said (marks i) q p s end = Unit {0}
  Said (counts i) q p s (mark c v) = ⊥
  Said (counts i) q p s (count x n) = Member x (J.slots (J.top - i)) × T (holdsb F J p (J.top - i) x) × (n ≡ s.own x) × (n ≢ 0)
  Said (counts i) q p s (total n h) = ⊥
  Said (counts i) q p s end = Unit {0}
  Said totals q p s (mark c v) = ⊥
  Said totals q p s (count x n) = ⊥
  Said totals q p s (total n h) = (n ≡ s.total) × (h ≡ s.high)
  Said totals q p s end = Unit {0}
  Said over q p s b = ⊥

  says_all : (f : Phase) (q p : Part) (s : State) → All (Said f q p s) (says F J f q p s)
  unfolding Said says ghost_marks edge_counts
  says_all (marks i) q p s =
      let g : ℕ → Bool = λ c. is_part F (J.family c) q && is_part F (J.owner c) p in
      all_append (Said (marks i) q p s) (ghost_marks F J (J.top - i) q p s) (end ∷ [])
      (all_made (Said (marks i) q p s) (λ c. mark c (s.red c)) g (J.cells (J.top - i)) (λ c m t. (
        m,
        is_eq F (J.family c) q (and_left (is_part F (J.family c) q) (is_part F (J.owner c) p) t),
        is_eq F (J.owner c) p (and_right (is_part F (J.family c) q) (is_part F (J.owner c) p) t),
      ))) (tt, tt)
  says_all (counts i) q p s =
      let k = J.top - i in
      let g : ℕ → Bool = λ x. holdsb F J q (J.top - i) x && (holdsb F J p (J.top - i) x && not (eqb (s.own x) 0)) in
      all_append (Said (counts i) q p s) (edge_counts F J (J.top - i) q p s) (end ∷ [])
      (all_made (Said (counts i) q p s) (λ x. count x (s.own x)) g (J.slots (J.top - i)) (λ x m t.
      let u = and_right (holdsb F J q (J.top - i) x) (holdsb F J p (J.top - i) x && not (eqb (s.own x) 0)) t in (
        m,
        and_left (holdsb F J p (J.top - i) x) (not (eqb (s.own x) 0)) u,
        refl,
        eqb-false (s.own x) 0 (is_false (eqb (s.own x) 0) (and_right (holdsb F J p (J.top - i) x) (not (eqb (s.own x) 0)) u)),
      ))) (tt, tt)
  says_all totals q p s = ((refl, refl), (tt, tt))
  says_all over q p s = tt

  said_all : (f : Phase) (q p : Part) (s : State) → All (Said f q p s) (writing F J f q p s)
  unfolding writing
  said_all f q p s = go (is_part F q p) refl
    where
      go : (b : Bool) → is_part F q p ≡ b → All (Said f q p s) (writing F J f q p s)
      go true e = rw (e, writing) tt
      go false e = rw (e, writing) (says_all f q p s)

  -- which kinds of round tell of no cell
  pub counts_tell : (i : ℕ) (q p : Part) (s : State) (c : ℕ) (b : Body) → Said (counts i) q p s b → tells c b ≡ false
  unfolding Said tells
  counts_tell i q p s c (mark d v) t = absurd t
  counts_tell i q p s c (count x n) t = refl
  counts_tell i q p s c (total n h) t = refl
  counts_tell i q p s c end t = refl

  pub totals_tell : (q p : Part) (s : State) (c : ℕ) (b : Body) → Said totals q p s b → tells c b ≡ false
  unfolding Said tells
  totals_tell q p s c (mark d v) t = absurd t
  totals_tell q p s c (count x n) t = refl
  totals_tell q p s c (total n h) t = refl
  totals_tell q p s c end t = refl

  -- which kinds of round count no slot
  pub marks_count : (i : ℕ) (q p : Part) (s : State) (x : ℕ) (b : Body) → Said (marks i) q p s b → worth x b ≡ 0
  unfolding Said worth
  marks_count i q p s x (mark d v) t = refl
  marks_count i q p s x (count y n) t = absurd t
  marks_count i q p s x (total n h) t = refl
  marks_count i q p s x end t = refl

  pub totals_count : (q p : Part) (s : State) (x : ℕ) (b : Body) → Said totals q p s b → worth x b ≡ 0
  unfolding Said worth
  totals_count q p s x (mark d v) t = refl
  totals_count q p s x (count y n) t = absurd t
  totals_count q p s x (total n h) t = refl
  totals_count q p s x end t = refl

  pub over_tell : (q p : Part) (s : State) (c : ℕ) (b : Body) → Said over q p s b → tells c b ≡ false
  unfolding Said
  over_tell q p s c b t = absurd t

  pub over_count : (q p : Part) (s : State) (x : ℕ) (b : Body) → Said over q p s b → worth x b ≡ 0
  unfolding Said
  over_count q p s x b t = absurd t

-- where no message tells anything
module _ {A : Type 0} where
  any_none : (f : A → Bool) (l : List A) → All (λ x. f x ≡ false) l → anyb f l ≡ false
  unfolding anyb
  any_none f [] t = refl
  any_none f (x ∷ l) t = ap₂ ◌||◌ t.0 (any_none f l t.1)

  any_never : (f : A → Bool) (l : List A) → ((x : A) → f x ≡ false) → anyb f l ≡ false
  unfolding anyb
  any_never f [] h = refl
  any_never f (x ∷ l) h = ap₂ ◌||◌ (h x) (any_never f l h)

  sum_none : (f : A → ℕ) (l : List A) → All (λ x. f x ≡ 0) l → sum_over f l ≡ 0
  unfolding sum_over
  sum_none f [] t = refl
  sum_none f (x ∷ l) t = ap₂ ◌+◌ t.0 (sum_none f l t.1)

  sum_never : (f : A → ℕ) (l : List A) → ((x : A) → f x ≡ 0) → sum_over f l ≡ 0
  unfolding sum_over
  sum_never f [] h = refl
  sum_never f (x ∷ l) h = ap₂ ◌+◌ (h x) (sum_never f l h)

module _ {Part : Type 0} (F : Finite Part) (got : Part → List Body) where
  none_told : (c : ℕ) → ((q : Part) → All (λ b. tells c b ≡ false) (got q)) → told F got c ≡ false
  unfolding told
  none_told c h = any_never (λ q. anyb (tells c) (got q)) F.list (λ q. any_none (tells c) (got q) (h q))

  none_added : (x : ℕ) → ((q : Part) → All (λ b. worth x b ≡ 0) (got q)) → added F got x ≡ 0
  unfolding added
  none_added x h = sum_never (λ q. sum_over (worth x) (got q)) F.list (λ q. sum_none (worth x) (got q) (h q))

-- the first messages of a round
module _ {Part : Type 0} (F : Finite Part) (J : Task Part) (f : Phase) (st : Part → State) (p : Part) (n : Part → ℕ) where
  abbrev pub taken : Part → List Body
  taken q = take (n q) (writing F J f q p (st q))

  taken_said : (q : Part) → All (Said F J f q p (st q)) (taken q)
  taken_said q = all_take (Said F J f q p (st q)) (n q) (writing F J f q p (st q)) (said_all F J f q p (st q))

  pub taken_last : (q : Part) (b : Body) (w : List Body) → taken q ≡ w ++ (b ∷ []) → Said F J f q p (st q) b
  taken_last q b w e = all_last (Said F J f q p (st q)) w b (subst (All (Said F J f q p (st q))) e (taken_said q))

  pub untold : (c : ℕ) → ((q : Part) (b : Body) → Said F J f q p (st q) b → tells c b ≡ false) → told F taken c ≡ false
  untold c h = none_told F taken c
      (λ q. all_more (Said F J f q p (st q)) (λ b. tells c b ≡ false) (h q) (taken q) (taken_said q))

  pub uncounted : (x : ℕ) → ((q : Part) (b : Body) → Said F J f q p (st q) b → worth x b ≡ 0) → added F taken x ≡ 0
  uncounted x h = none_added F taken x (λ q. all_more (Said F J f q p (st q)) (λ b. worth x b ≡ 0) (h q) (taken q) (taken_said q))
