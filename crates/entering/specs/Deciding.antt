-- On entering a round of marks a part decides on the cells of a level whose families it has.
--   decided_at x k    the store with the flags of the level decided
-- Laws: rule_agrees (the rule by the store is the rule of the task), decided (the flags after), decided_else, decided-length, decided_but
-- (the rest).
use Rattle.std.specs.Prelude.{◌≡◌, ◌⊎◌, Bool, ◌||◌, leb, length}
use Rattle.std.proofs.Math.Path.{refl, sym, ap, ap₂}
use Rattle.std.proofs.Common.{◌∙◌, inl, inr, arith, eq-eqb, ne_eqb, eqb-true}
use Rattle.std.proofs.Math.Bool.{true, false, ◌&&◌, not}
use mathlib.Core.List.{List, [], ◌∷◌}
use Prim.Native.Nat.{ℕ, suc, ◌+◌, ◌-◌, ◌*◌, ◌≤◌, ◌<◌, Fin, min}
use Rattle.std.proofs.Math.Dec.{eqb, ltb}
use Rattle.std.proofs.Math.ListN.{set}
use Rattle.base.specs.Limits.{most_cells, most_slots}
use Rattle.mesh.specs.Laws.{six_below}
use Rattle.base.specs.Bools.{one_if, eqb_one, not_both}
use Rattle.base.specs.Lists.{allb, anyb, memberb}
use Rattle.base.specs.Range.{range}
use Rattle.mesh.specs.Table.{size_of}
use Rattle.mesh.specs.Layout.{edge_numbers}
use Rattle.exchange.specs.Finite.{parts}
use Rattle.base.specs.Member.{Member, any_agree}
use Rattle.rounds.specs.Task.{Task, Fit, idle, pulled, rule}
use Rattle.rounds.specs.Rounds.{is_part, mine, decides}
use Rattle.rounds.specs.Among.{is_same, is_eq}
use Rattle.store.specs.Fields.{field, PART, CELLS, FAMILY, STATUS, REGULAR, CHILD, INNER, MARK, RED, SLOT, SUM}
use Rattle.store.specs.Fetch.{bitb}
use Rattle.standing.specs.Busy.{HoldsCell, HoldsSlot}
use Rattle.turns.specs.Loops.{some_from, each_from}
use Rattle.turns.specs.Decide.{slot_at, hitb, hit_of, pull_of, idle_kid, pulled_kid, kid_count, busyb, ruleb, decide_one}
use Rattle.turns.specs.Start.{level_from}
use Rattle.places.specs.Fresh.{some_same}
use Rattle.entering.specs.Columns.{Columns, MarksIn}
use Rattle.entering.specs.Within.{six_range, kids_in, own_held, family_held, slot_held, member_low, cell_low}
use Rattle.entering.specs.Within.{level_inside, cells_of_level, level_member}
use Rattle.entering.specs.Blocks.{SameBut, but_self, but_set, but_each, each_flag, some_range}

abbrev pub decided_at : List ℕ → ℕ → List ℕ
decided_at x k = each_from decide_one (level_from x (k + 1) - level_from x k) (level_from x k) x

some_not : (f : ℕ → Bool) (l : List ℕ) → anyb (λ d. not (f d)) l ≡ not (allb f l)
unfolding anyb allb
some_not f [] = refl
some_not f (x ∷ l) = go (f x) refl (some_not f l)
  where
    go : (b : Bool) → f x ≡ b → anyb (λ d. not (f d)) l ≡ not (allb f l) → anyb (λ d. not (f d)) (x ∷ l) ≡ not (allb f (x ∷ l))
    go true e r = rw (e, anyb, allb) r
    go false e r = rw (e, anyb, allb) refl

not_some : (f : ℕ → Bool) (l : List ℕ) → allb (λ d. not (f d)) l ≡ not (anyb f l)
unfolding anyb allb
not_some f [] = refl
not_some f (x ∷ l) = go (f x) refl (not_some f l)
  where
    go : (b : Bool) → f x ≡ b → allb (λ d. not (f d)) l ≡ not (anyb f l) → allb (λ d. not (f d)) (x ∷ l) ≡ not (anyb f (x ∷ l))
    go true e r = rw (e, anyb, allb) refl
    go false e r = rw (e, anyb, allb) r

and_on : (a b c : Bool) → a && (b && c) ≡ (a && b) && c
and_on true b c = refl
and_on false b c = refl

-- the definitions as functions of the numbers that they look at
count_of : ℕ → ℕ → ℕ → ℕ
count_of s n f = min (elim (leb s 64) [ true ↦ size_of s | false ↦ 0 ]) (n - f)

count_of_lem : (x : List ℕ) (c : ℕ) → kid_count x c ≡ count_of (field x (STATUS + c)) (field x CELLS) (field x (CHILD + c))
unfolding kid_count count_of
count_of_lem x c = refl

rule_of : ℕ → Bool → Bool → Bool → Bool
rule_of s a b c = elim (eqb s 64) [ true ↦ a | false ↦ elim (eqb s 0) [ true ↦ b | false ↦ c ] ]

rule_of_lem : (x : List ℕ) (c : ℕ) → ruleb x c ≡ rule_of (field x (STATUS + c)) (some_from (busyb x) (kid_count x c) (field x (CHILD + c)))
    (eqb (field x (REGULAR + c)) 1 && eqb (field x (MARK + c)) 1) (some_from (pulled_kid x) (kid_count x c) (field x (CHILD + c)))
unfolding ruleb rule_of
rule_of_lem x c = refl

-- the rule does not look at flags
module _ (x y : List ℕ) (s : SameBut RED most_cells x y) where
  hit_keeps : (n : ℕ) → hitb y n ≡ hitb x n
  unfolding hitb
  hit_keeps n = ap (λ (i : ℕ). ltb n most_slots && not (eqb i 0)) (s.rest (SUM + n) (inr (omega arith)))

  edge_keeps : (d e : ℕ) → hit_of y d e ≡ hit_of x d e
  unfolding hit_of
  edge_keeps d e = hit_keeps (slot_at y d e) ∙ ap (hitb x) (s.rest (SLOT + (6 * d + e)) (inr (omega arith)))

  idle_keeps : (d : ℕ) → d < most_cells → idle_kid y d ≡ idle_kid x d
  unfolding idle_kid
  idle_keeps d l = rw (
    s.rest (STATUS + d) (inl (omega arith)),
    s.rest (MARK + d) (inl (omega arith)),
    some_same (hit_of y d) (hit_of x d) 6 0 (λ e a b. edge_keeps d e),
  ) refl

  busy_keeps : (d : ℕ) → d < most_cells → busyb y d ≡ busyb x d
  unfolding busyb
  busy_keeps d l = ap not (idle_keeps d l)

  pull_keeps : (d e : ℕ) → d < most_cells → pull_of y d e ≡ pull_of x d e
  unfolding pull_of
  pull_keeps d e l = ap₂ (λ (i : ℕ) (b : Bool). bitb i e && b) (s.rest (INNER + d) (inl (omega arith))) (edge_keeps d e)

  pulled_keeps : (d : ℕ) → d < most_cells → pulled_kid y d ≡ pulled_kid x d
  unfolding pulled_kid
  pulled_keeps d l = ap₂ (λ (i : ℕ) (b : Bool). eqb i 1 || b) (s.rest (MARK + d) (inl (omega arith)))
      (some_same (pull_of y d) (pull_of x d) 6 0 (λ e a b. pull_keeps d e l))

  count_keeps : (c : ℕ) → c < most_cells → kid_count y c ≡ kid_count x c
  count_keeps c l =
      let e : count_of (field y (STATUS + c)) (field y CELLS) (field y (CHILD + c))
      ≡ count_of (field x (STATUS + c)) (field x CELLS) (field x (CHILD + c)) =
      rw (s.rest (STATUS + c) (inl (omega arith)), s.rest CELLS (inl (omega arith)), s.rest (CHILD + c) (inl (omega arith))) refl in
      count_of_lem y c ∙ e ∙ sym (count_of_lem x c)

  kids_keep : (f g : ℕ → Bool) (c : ℕ) → c < most_cells → field x CELLS ≤ most_cells → ((d : ℕ) → d < most_cells → f d ≡ g d)
      → some_from f (kid_count y c) (field y (CHILD + c)) ≡ some_from g (kid_count x c) (field x (CHILD + c))
  kids_keep f g c l few h =
      ap₂ (λ (n e : ℕ). some_from f n e) (count_keeps c l) (s.rest (CHILD + c) (inl (omega arith)))
      ∙ some_same f g (kid_count x c) (field x (CHILD + c)) (λ d a b. h d (omega (arith, a, b, kids_in x c, few)))

  rule_keeps : (c : ℕ) → c < most_cells → field x CELLS ≤ most_cells → ruleb y c ≡ ruleb x c
  rule_keeps c l few =
      let leaf : eqb (field y (REGULAR + c)) 1 && eqb (field y (MARK + c)) 1 ≡ eqb (field x (REGULAR + c)) 1 && eqb (field x (MARK + c)) 1 =
      rw (s.rest (REGULAR + c) (inl (omega arith)), s.rest (MARK + c) (inl (omega arith))) refl in
      rule_of_lem y c ∙ ap₂ (λ (n : ℕ) (b : Bool). rule_of n b (eqb (field y (REGULAR + c)) 1 && eqb (field y (MARK + c)) 1)
      (some_from (pulled_kid y) (kid_count y c) (field y (CHILD + c)))) (s.rest (STATUS + c) (inl (omega arith)))
      (kids_keep (busyb y) (busyb x) c l few busy_keeps)
      ∙ ap₂ (λ (a b : Bool). rule_of (field x (STATUS + c)) (some_from (busyb x) (kid_count x c) (field x (CHILD + c))) a b) leaf
      (kids_keep (pulled_kid y) (pulled_kid x) c l few pulled_keeps)
      ∙ sym (rule_of_lem x c)

decide_but : (y : List ℕ) (c : ℕ) → c < most_cells → SameBut RED most_cells y (decide_one y c)
unfolding decide_one
decide_but y c l = go (eqb (field y (FAMILY + c)) (field y PART) && ruleb y c) refl
  where
    go : (b : Bool) → eqb (field y (FAMILY + c)) (field y PART) && ruleb y c ≡ b → SameBut RED most_cells y (decide_one y c)
    go true e = rw (e, decide_one) (but_set RED most_cells y (RED + c) 1 (omega arith) (omega arith))
    go false e = rw (e, decide_one) (but_self RED most_cells y)

module _ (P : ℕ) (J : Task (Fin P)) (p : Fin P) (x : List ℕ) (u : Columns P J p x) (k : ℕ) where
  decided_but : SameBut RED most_cells x (decided_at x k)
  decided_but = but_each RED most_cells decide_one most_cells decide_but (level_from x (k + 1) - level_from x k) (level_from x k)
      (level_inside P J p x u k) x

  pub decided_else : (i : ℕ) → (i < RED) ⊎ (RED + most_cells ≤ i) → field (decided_at x k) i ≡ field x i
  decided_else = decided_but.rest

  pub decided-length : length (decided_at x k) ≡ length x
  decided-length = decided_but.size

-- the rule, of a store that holds the task
module _ (P : ℕ) (J : Task (Fin P)) (fit : Fit J) (p : Fin P) (x : List ℕ) (u : Columns P J p x) (h : ℕ → Bool)
    (hits : (s : ℕ) → HoldsSlot P J p s → hitb x s ≡ h s) (g : ℕ → ℕ) (marked : MarksIn P J p g x) where
  hit_is : (d e : ℕ) → HoldsCell P J p d → Member e edge_numbers → hit_of x d e ≡ h (J.slot d e)
  unfolding hit_of
  hit_is d e held m = ap (hitb x) (u.slot d e held (six_below e m)) ∙ hits (J.slot d e) (slot_held P J p d e held m)

  idle_is : (d : ℕ) → HoldsCell P J p d → J.owner d ≡ p → idle_kid x d ≡ idle J h g d
  unfolding idle_kid idle
  idle_is d held own =
      let hit : not (some_from (hit_of x d) 6 0) ≡ allb (λ e. not (h (J.slot d e))) edge_numbers =
      ap not (some_range (hit_of x d) 6 0 ∙ ap (anyb (hit_of x d)) six_range
      ∙ any_agree (hit_of x d) (λ e. h (J.slot d e)) edge_numbers (λ e m. hit_is d e held m))
      ∙ sym (not_some (λ e. h (J.slot d e)) edge_numbers) in
      rw (u.status d held, marked d held own, hit)
      (and_on (eqb (J.status d) 0) (eqb (g d) 2) (allb (λ e. not (h (J.slot d e))) edge_numbers))

  pulled_is : (k c d : ℕ) → Member c (J.cells k) → J.family c ≡ p → Member d (J.kids c) → HoldsCell P J p d → J.owner d ≡ p
      → pulled_kid x d ≡ pulled J h g d
  unfolding pulled_kid pulled pull_of
  pulled_is k c d m f n held own =
      let pull : some_from (pull_of x d) 6 0 ≡ anyb (λ e. J.inner d e && h (J.slot d e)) edge_numbers =
      some_range (pull_of x d) 6 0 ∙ ap (anyb (pull_of x d)) six_range
      ∙ any_agree (pull_of x d) (λ e. J.inner d e && h (J.slot d e)) edge_numbers
      (λ e i. ap₂ ◌&&◌ (u.inner k c d e m f n (six_below e i)) (hit_is d e held i)) in
      ap₂ (λ (i : ℕ) (b : Bool). eqb i 1 || b) (marked d held own) pull

  module _ (k c : ℕ) (m : Member c (J.cells k)) (f : J.family c ≡ p) where
    held_c : HoldsCell P J p c
    held_c = family_held P J p k c m f

    kid_own : (d : ℕ) → Member d (J.kids c) → J.owner d ≡ p
    kid_own d n = fit.kid_owner k c d m n ∙ f

    kid_held : (d : ℕ) → Member d (J.kids c) → HoldsCell P J p d
    kid_held d n = own_held P J p (suc k) d (fit.kid_level k c d m n) (kid_own d n)

    kids_are : (t : ℕ → Bool) → some_from t (kid_count x c) (field x (CHILD + c)) ≡ anyb t (J.kids c)
    kids_are t = some_range t (kid_count x c) (field x (CHILD + c)) ∙ ap (anyb t) (sym (u.kids k c m f))

    busy_is : (d : ℕ) → Member d (J.kids c) → busyb x d ≡ not (idle J h g d)
    unfolding busyb
    busy_is d n = ap not (idle_is d (kid_held d n) (kid_own d n))

    status_at : (n : ℕ) → eqb (field x (STATUS + c)) n ≡ eqb (J.status c) n
    status_at n = ap (λ (i : ℕ). eqb i n) (u.status c held_c)

    rule_agrees : ruleb x c ≡ rule J h g c
    unfolding ruleb rule
    rule_agrees = go (eqb (J.status c) 64) refl (eqb (J.status c) 0) refl
      where
        go : (a : Bool) → eqb (J.status c) 64 ≡ a → (b : Bool) → eqb (J.status c) 0 ≡ b → ruleb x c ≡ rule J h g c
        go true e b i = rw (status_at 64 ∙ e, e, ruleb, rule) (kids_are (busyb x)
            ∙ any_agree (busyb x) (λ d. not (idle J h g d)) (J.kids c) busy_is ∙ some_not (idle J h g) (J.kids c))
        go false e true i = rw (
          status_at 64 ∙ e,
          status_at 0 ∙ i,
          e,
          i,
          ruleb,
          rule,
          u.regular c held_c,
          eqb_one (J.regular c),
          marked c held_c (sym (fit.leaf_family k c m (eqb-true (J.status c) 0 i)) ∙ f),
        ) refl
        go false e false i = rw (status_at 64 ∙ e, status_at 0 ∙ i, e, i, ruleb, rule) (kids_are (pulled_kid x)
            ∙ any_agree (pulled_kid x) (pulled J h g) (J.kids c) (λ d n. pulled_is k c d m f n (kid_held d n) (kid_own d n)))

    -- the test of a cell in the loop, by a store that differs in flags only
    turn_here : (y : List ℕ) → SameBut RED most_cells x y → eqb (field y (FAMILY + c)) (field y PART) && ruleb y c ≡ rule J h g c
    turn_here y s =
        let l : c < most_cells = cell_low P J p x u c held_c in
        let e : field y (FAMILY + c) ≡ field y PART =
        s.rest (FAMILY + c) (inl (omega arith)) ∙ u.family c held_c ∙ ap (λ (q : Fin P). suc q.0) f ∙ sym u.part
        ∙ sym (s.rest PART (inl (omega arith))) in
        rw (eq-eqb (field y (FAMILY + c)) (field y PART) e) (rule_keeps x y s c l u.cells_few ∙ rule_agrees)

  family_not : (k c : ℕ) → Member c (J.cells k) → ¬ (J.family c ≡ p) → ¬ (field x (FAMILY + c) ≡ field x PART)
  family_not k c m f e = go (mine (parts P) J p c) refl
    where
      go : (b : Bool) → mine (parts P) J p c ≡ b → ⊥
      go true i =
          let held : HoldsCell P J p c = (k, m, rw i tt) in
          f (native.Mathlib.Fin.val_path (omega (arith, u.family c held, u.part, e)))
      go false i = absurd (omega (arith, u.no_family k c m i, u.part, e))

  -- what the loop does at a cell of the level
  test_is : (k c : ℕ) → Member c (J.cells k) → (y : List ℕ) → SameBut RED most_cells x y
      → eqb (field y (FAMILY + c)) (field y PART) && ruleb y c ≡ is_part (parts P) (J.family c) p && rule J h g c
  test_is k c m y s = go (is_part (parts P) (J.family c) p) refl
    where
      l : c < most_cells
      l = omega (arith, member_low P J p x u k c m, u.cells_few)

      same : eqb (field y (FAMILY + c)) (field y PART) ≡ eqb (field x (FAMILY + c)) (field x PART)
      same = ap₂ eqb (s.rest (FAMILY + c) (inl (omega (arith, l)))) (s.rest PART (inl (omega arith)))

      go : (b : Bool) → is_part (parts P) (J.family c) p ≡ b
          → eqb (field y (FAMILY + c)) (field y PART) && ruleb y c ≡ is_part (parts P) (J.family c) p && rule J h g c
      go true e = rw e (turn_here k c m (is_eq (parts P) (J.family c) p (rw e tt)) y s)
      go false e =
          let n : ¬ (J.family c ≡ p) = λ i. not_both (is_part (parts P) (J.family c) p) (is_same (parts P) (J.family c) p i) e in
          rw (same ∙ ne_eqb (field x (FAMILY + c)) (field x PART) (family_not k c m n), e) refl

  module _ (k : ℕ) (low : k ≤ J.top) (red : ℕ → Bool) (flags : (c : ℕ) → HoldsCell P J p c → field x (RED + c) ≡ one_if (red c)) where
    first : ℕ
    first = level_from x k

    many : ℕ
    many = level_from x (k + 1) - level_from x k

    test : ℕ → Bool
    test c = is_part (parts P) (J.family c) p && rule J h g c

    turn : (y : List ℕ) (c : ℕ) → SameBut RED most_cells x y → first ≤ c → c < first + many
        → decide_one y c ≡ elim (test c) [ true ↦ set y (RED + c) 1 | false ↦ y ]
    unfolding first many test decide_one
    turn y c s a b =
        ap (λ (t : Bool). elim t [ true ↦ set y (RED + c) 1 | false ↦ y ]) (test_is k c (level_member P J p x u k c low a b) y s)

    join : (a b c d : Bool) (n : ℕ) → n ≡ one_if a
        → ◌≡◌ {A = ℕ} (elim (b && (c && d)) [ true ↦ 1 | false ↦ n ]) (one_if (a || ((b && c) && d)))
    unfolding one_if
    join true true true true n e = refl
    join false true true true n e = refl
    join true true true false n e = e
    join false true true false n e = e
    join true true false d n e = e
    join false true false d n e = e
    join true false c d n e = e
    join false false c d n e = e

    pub decided : (c : ℕ) → HoldsCell P J p c
        → field (decided_at x k) (RED + c) ≡ one_if (red c || (decides (parts P) J p k c && rule J h g c))
    unfolding first many test decides
    decided c held =
        each_flag RED most_cells decide_one test x (omega (arith, u.long)) first many (level_inside P J p x u k) turn many first x
        (but_self RED most_cells x) (omega arith) (omega arith) c
        ∙ join (red c) (memberb c (range first many)) (is_part (parts P) (J.family c) p) (rule J h g c) (field x (RED + c)) (flags c held)
        ∙ ap (λ (l : List ℕ). one_if (red c || ((memberb c l && is_part (parts P) (J.family c) p) && rule J h g c)))
        (sym (cells_of_level P J p x u k low))
