-- The tests and the work of a start, as the code makes them.
use mathlib.Core.Path.{◌≡◌, refl, sym, ◌∙◌, ap, ap₂, subst}
use mathlib.Core.Bool.{Bool, true, false, ◌&&◌}
use mathlib.Core.List.{List}
use Prim.Native.Nat.{ℕ, zero, suc, ◌+◌, ◌-◌, ◌*◌, ◌^◌, ◌≤◌, ◌<◌}
use native.Mathlib.Omega.{arith}
use native.Mathlib.Nat.{pow-suc}
use native.Mathlib.Decide.{le_ind}
use lib.Dec.{eqb, ltb}
use lib.ListN.{length, get_or, set, length-set}
use lib.Seq.{get_or-set_other}
use borrow.Author.Tests.{eq-eqb, lt-ltb}
use Rattle.store.specs.Fields.{field, full, STAGE, PART, PARTS, OWNER, MARK, TOTAL}
use Rattle.store.specs.Header.{headerb}
use Rattle.store.specs.Headed.{header_is}
use Rattle.turns.specs.Loops.{each_from, SameHead, head_self, head_on, head-set}
use Rattle.turns.specs.Usable.{Usable}
use Rattle.turns.specs.Decide.{decide_one}
use Rattle.turns.specs.Post.{mark_one, others_of, post_end}
use Rattle.turns.specs.Start.{ownb, mark_at, next_mark, marks_due, mark_set, marked_from, level_from, enter_marks}

-- the mark that is due at a cell
module _ (x ms : List ℕ) (c j : ℕ) where
  pub next_few : next_mark x c j ≤ suc j
  unfolding next_mark
  next_few = go (ownb x c) refl
    where
      go : (t : Bool) → ownb x c ≡ t → next_mark x c j ≤ suc j
      go true e = rw (e, next_mark) (omega arith)
      go false e = rw (e, next_mark) (omega arith)

  pub fit_stop : (n : ℕ) → c < n → mark_at x ms c j ≡ false → marks_due x ms (n - c) c j ≡ false
  unfolding marks_due
  fit_stop n h e = let z : n - c ≡ suc (n - suc c) = omega arith in rw (z, e, marks_due)

  pub fit_on : (n : ℕ) → c < n → mark_at x ms c j ≡ true → marks_due x ms (n - c) c j ≡ marks_due x ms (n - suc c) (suc c) (next_mark x c j)
  unfolding marks_due
  fit_on n h e = let z : n - c ≡ suc (n - suc c) = omega arith in rw (z, e, marks_due)

  pub fit_out : (n : ℕ) → n ≤ c → marks_due x ms (n - c) c j ≡ eqb (length ms) j
  unfolding marks_due
  fit_out n h = let z : n - c ≡ 0 = omega arith in rw (z, marks_due)

  pub set_here : field x (OWNER + c) ≡ field x PART → j < length ms → set x (MARK + c) (get_or ms j 0) ≡ mark_set x ms c j
  unfolding mark_set ownb
  set_here o h = rw (eq-eqb (field x (OWNER + c)) (field x PART) o, lt-ltb j (length ms) h, mark_set)

  set-head : SameHead x (mark_set x ms c j)
  unfolding mark_set
  set-head = go (ownb x c && ltb j (length ms)) refl
    where
      go : (t : Bool) → (ownb x c && ltb j (length ms)) ≡ t → SameHead x (mark_set x ms c j)
      go true e = rw (e, mark_set) (head-set x (MARK + c) (get_or ms j 0) (omega arith))
      go false e = rw (e, mark_set) (head_self x)

  marked_on : (n : ℕ) → c < n → marked_from x ms (n - c) c j ≡ marked_from (mark_set x ms c j) ms (n - suc c) (suc c) (next_mark x c j)
  unfolding marked_from
  marked_on n h = let z : n - c ≡ suc (n - suc c) = omega arith in rw (z, marked_from)

  pub marked_out : (n : ℕ) → n ≤ c → marked_from x ms (n - c) c j ≡ x
  unfolding marked_from
  marked_out n h = let z : n - c ≡ 0 = omega arith in rw (z, marked_from)

  -- one turn of the loop
  pub marked_again : (n : ℕ) (x₀ y w : List ℕ) (k : ℕ) → SameHead x₀ x × (j ≤ c) × (marked_from x ms (n - c) c j ≡ w) → c < n
      → y ≡ mark_set x ms c j → k ≡ next_mark x c j
      → SameHead x₀ y × (k ≤ suc c) × (marked_from y ms (n - suc c) (suc c) k ≡ w)
  marked_again n x₀ y w k (a, l, i) h e f = (
    head_on x₀ x y a (subst (SameHead x) (sym e) set-head),
    omega (arith, f, next_few),
    ap₂ (λ (z : List ℕ) (m : ℕ). marked_from z ms (n - suc c) (suc c) m) e f ∙ sym (marked_on n h) ∙ i,
  )

pub fit_begin : (x ms : List ℕ) (n : ℕ) → marks_due x ms (n - 0) 0 0 ≡ marks_due x ms n 0 0
fit_begin x ms n = let z : n - 0 ≡ n = omega arith in ap (λ (k : ℕ). marks_due x ms k 0 0) z

marked_head : (x ms : List ℕ) (n c j : ℕ) → SameHead x (marked_from x ms n c j)
unfolding marked_from
marked_head x ms zero c j = head_self x
marked_head x ms (suc n) c j =
    head_on x (mark_set x ms c j) (marked_from (mark_set x ms c j) ms n (suc c) (next_mark x c j)) (set-head x ms c j)
    (marked_head (mark_set x ms c j) ms n (suc c) (next_mark x c j))

-- the others
power_on : (j k : ℕ) → j ≤ k → 2 ^ j ≤ 2 ^ k
power_on j k h = le_ind {n = j} (λ m. 2 ^ j ≤ 2 ^ m) (omega arith) (λ m _ i. omega (arith, i, pow-suc 2 m)) k h

pub record Others (x : List ℕ) (t o : ℕ) : Type 0 where
  pub room : 1 + o ≤ 2 * t
  pub is : 2 * t - 1 - o ≡ others_of x
  pub few : 2 * t - 1 - o < 65536

pub others_is : (x : List ℕ) (t o : ℕ) → Usable x → t ≡ 2 ^ (field x PARTS - 1) → o ≡ 2 ^ (field x PART - 1) → Others x t o
unfolding others_of
others_is x t o u e f =
    let z : suc (field x PARTS - 1) ≡ field x PARTS = omega (arith, u.part_least, u.part_most) in
    let a : 2 ^ suc (field x PARTS - 1) ≡ 2 ^ field x PARTS = ap (λ (k : ℕ). 2 ^ k) z in
    let b = pow-suc 2 (field x PARTS - 1) in
    let d = power_on (field x PART - 1) (field x PARTS - 1) (omega (arith, u.part_most)) in
    let g = power_on 0 (field x PARTS - 1) (omega arith) in
    let h : 2 ^ field x PARTS ≤ 65536 = power_on (field x PARTS) 16 u.parts_most in
    record {
      room = omega (arith, e, f, d, g);
      is = omega (arith, e, f, a, b);
      few =
          omega (arith, e, f, a, b, h, power_on 0 (field x PART - 1) (omega arith));
    }

-- a level
module _ (x : List ℕ) (k : ℕ) where
  module _ (first last : ℕ) (y z : List ℕ) (i : first ≡ level_from x k) (j : last ≡ level_from x (k + 1))
      (d : y ≡ each_from decide_one (last - first) first x) (p : z ≡ each_from mark_one (last - first) first y) where
    pub enter_is : (w : List ℕ) → w ≡ post_end z → w ≡ enter_marks x k
    unfolding enter_marks
    enter_is w e =
        e ∙ ap post_end (p ∙ ap (each_from mark_one (last - first) first) d
        ∙ ap₂ (λ (l f : ℕ). each_from mark_one (l - f) f (each_from decide_one (l - f) f x)) j i)

-- a store whose header fits
pub usable_of : (x : List ℕ) → full ≤ length x → headerb x ≡ true → Usable x
usable_of x long header =
    let h = header_is x (rw header tt) in
    record {
      long = long;
      part_least = h.part_least;
      part_most = h.part_most;
      parts_most = h.parts_most;
      cells_most = h.cells_most;
      levels_least = h.levels_least;
      levels_most = h.levels_most;
    }

-- the store that enters its first round
begun_usable : (x y : List ℕ) → Usable x → SameHead x y → Usable (set y STAGE 1)
begun_usable x y u h =
    let at : (i : ℕ) → PART ≤ i → i < TOTAL → field (set y STAGE 1) i
    ≡ field x i = λ i l m. get_or-set_other y STAGE i 1 0 (λ z. absurd (omega (arith, z)))
    ∙ h.head i m in
    record {
      long = omega (arith, length-set y STAGE 1, h.size, u.long);
      part_least = omega (arith, at 1 (omega arith) (omega arith), u.part_least);
      part_most = omega (arith, at 1 (omega arith) (omega arith), at 2 (omega arith) (omega arith), u.part_most);
      parts_most = omega (arith, at 2 (omega arith) (omega arith), u.parts_most);
      cells_most = omega (arith, at 5 (omega arith) (omega arith), u.cells_most);
      levels_least = omega (arith, at 6 (omega arith) (omega arith), u.levels_least);
      levels_most = omega (arith, at 6 (omega arith) (omega arith), u.levels_most);
    }

pub begun_by : (x ms y : List ℕ) (n : ℕ) → Usable x → y ≡ marked_from x ms n 0 0 → Usable (set y STAGE 1)
begun_by x ms y n u e = begun_usable x y u (subst (SameHead x) (sym e) (marked_head x ms n 0 0))
