-- The cases of the tests on one cell.
--   touch_test t held g e   the edge e is held and none of the cell g
-- Laws: idle_status, idle_mark, idle_pattern; touched_is, untouched; pulled_mark, pulled_touch; red_old, red_green, red_irregular,
-- red_leaf.
-- Assumes nothing.
use mathlib.Core.Path.{◌≡◌, refl, sym, ◌∙◌, ap}
use mathlib.Core.Bool.{Bool, true, false, ◌&&◌, ◌||◌, not, and-false}
use mathlib.Core.List.{List, [], ◌∷◌, map}
use Prim.Native.Nat.{ℕ, ◌+◌, ◌-◌, ◌*◌}
use native.Mathlib.Numerals.{add-one}
use native.Mathlib.Decide.{ℕ_discrete}
use native.Mathlib.Omega.{arith}
use lib.Dec.{eqb}
use lib.ListN.{get_or}
use borrow.Author.Tests.{eq-eqb, ne_eqb}
use Rattle.base.specs.Lists.{allb, anyb}
use Rattle.base.specs.Bools.{one_if}
use Rattle.base.specs.Places.{hasb}
use Rattle.mesh.specs.Cells.{edges, heldb, bits_of}
use Rattle.edges.specs.Pairs.{Pair, sorted, isb, pairs_of}
use Rattle.pairs.specs.declared.PairTable.{PairTable}
use Rattle.edges.specs.Table.{entries}
use Rattle.rows.specs.Numbered.{cell_at}
use Rattle.closure.specs.Listed.{listed_pattern}
use Rattle.separation.specs.Scan.{apart_test}
use Rattle.flagging.specs.Flags.{kids_of, listedb, idleb, touchedb, pulledb, red_atb}
use Rattle.base.specs.Range.{range}

-- no bit
double : (x : ℕ) → eqb (0 + 2 * x) 0 ≡ eqb x 0
double x =
    elim (ℕ_discrete x 0) [
      | yes e ↦ eq-eqb (0 + 2 * x) 0 (omega arith) ∙ sym (eq-eqb x 0 e)
      | no e ↦ ne_eqb (0 + 2 * x) 0 (λ z. e (omega arith)) ∙ sym (ne_eqb x 0 e)
    ]

bits_none : (f : Pair → Bool) (l : List Pair) → eqb (bits_of (map f l)) 0 ≡ allb (λ e. not (f e)) l
unfolding bits_of allb one_if
bits_none f [] = refl
bits_none f (e ∷ l) = go (f e) (bits_none f l)
  where
    go : (b : Bool) → eqb (bits_of (map f l)) 0 ≡ allb (λ e. not (f e)) l
        → eqb (one_if b + 2 * bits_of (map f l)) 0 ≡ (not b && allb (λ e. not (f e)) l)
    go true i = ne_eqb (1 + 2 * bits_of (map f l)) 0 (λ z. omega arith)
    go false i = double (bits_of (map f l)) ∙ i

module _ (t ss ms : List ℕ) (held : Pair → Bool) (j : ℕ) where
  pub idle_status : (get_or ss j 0 ≡ 0 → ⊥) → idleb t ss ms held j ≡ false
  unfolding idleb
  idle_status h = rw (ne_eqb (get_or ss j 0) 0 h)

  pub idle_mark : (get_or ms j 0 ≡ 2 → ⊥) → idleb t ss ms held j ≡ false
  unfolding idleb
  idle_mark h = rw (ne_eqb (get_or ms j 0) 2 h, and-false (eqb (get_or ss j 0) 0))

pub idle_pattern : (t ss ms : List ℕ) (es : List Pair) (j : ℕ) → get_or ss j 0 ≡ 0 → get_or ms j 0 ≡ 2
    → eqb (listed_pattern es (cell_at t j)) 0 ≡ idleb t ss ms (λ e. hasb isb es (sorted e)) j
unfolding idleb listed_pattern
idle_pattern t ss ms es j p q =
    bits_none (λ e. hasb isb es (sorted e)) (edges 0 (cell_at t j)) ∙ sym (rw (eq-eqb (get_or ss j 0) 0 p, eq-eqb (get_or ms j 0) 2 q))

-- an edge that is not kept apart
touch_edge : (own held r : Bool) → r ≡ (own || not held) → (not own && held) ≡ not r
touch_edge own held r e = rw e (go own held)
  where
    go : (a b : Bool) → (not a && b) ≡ not (a || not b)
    go true b = refl
    go false true = refl
    go false false = refl

abbrev touch_test : List ℕ → (Pair → Bool) → ℕ → Pair → Bool
touch_test t held g e = not (heldb eqb (edges 0 (cell_at t g)) e) && held e

-- a cell is touched where it is not apart
touched_list : (t : List ℕ) (es : List Pair) (g : ℕ) (l : List Pair)
    → anyb (touch_test t (λ e. hasb isb es (sorted e)) g) l ≡ not (allb (apart_test es t g) l)
unfolding anyb allb
touched_list t es g [] = refl
touched_list t es g (d ∷ l) =
    let own = heldb eqb (edges 0 (cell_at t g)) d in
    let held = hasb isb es (sorted d) in
    rw (touch_edge own held (own || not held) refl, touched_list t es g l) (both (own || not held) (allb (apart_test es t g) l))
  where
    both : (a b : Bool) → (not a || not b) ≡ not (a && b)
    both true b = refl
    both false b = refl

pub touched_is : {N H : ℕ} (t : List ℕ) (table : PairTable N H) (g j : ℕ)
    → not (allb (apart_test (entries table) t g) (edges 0 (cell_at t j))) ≡ touchedb t (listedb table) g j
unfolding touchedb
touched_is t table g j = sym (touched_list t (entries table) g (edges 0 (cell_at t j)))

-- where no edge is listed, none is touched
none_free : {N H : ℕ} (table : PairTable N H) → table.from ≡ table.n → (d : Pair) → listedb table d ≡ false
unfolding pairs_of hasb
none_free table e d = let w : table.n - table.from ≡ 0 = omega arith in rw w

none_touched : (t : List ℕ) (held : Pair → Bool) (g : ℕ) → ((d : Pair) → held d ≡ false) → (l : List Pair)
    → anyb (touch_test t held g) l ≡ false
unfolding anyb
none_touched t held g f [] = refl
none_touched t held g f (d ∷ l) = rw (f d, and-false (not (heldb eqb (edges 0 (cell_at t g)) d))) (none_touched t held g f l)

pub untouched : {N H : ℕ} (t : List ℕ) (table : PairTable N H) (g j : ℕ) → table.from ≡ table.n
    → touchedb t (listedb table) g j ≡ false
unfolding touchedb
untouched t table g j e = none_touched t (listedb table) g (none_free table e) (edges 0 (cell_at t j))

module _ (t ms : List ℕ) (held : Pair → Bool) (g j : ℕ) where
  pub pulled_mark : get_or ms j 0 ≡ 1 → pulledb t ms held g j ≡ true
  unfolding pulledb
  pulled_mark h = rw (eq-eqb (get_or ms j 0) 1 h)

  pub pulled_touch : (get_or ms j 0 ≡ 1 → ⊥) → pulledb t ms held g j ≡ touchedb t held g j
  unfolding pulledb
  pulled_touch h = rw (ne_eqb (get_or ms j 0) 1 h)

-- the four cases of a new red cell
module _ (t ss ms ks : List ℕ) (held : Pair → Bool) (k : ℕ) where
  abbrev between : List ℕ
  between = range (get_or ks k 0) (get_or ks (k + 1) 0 - get_or ks k 0)

  kids_are : between ≡ kids_of ks k
  unfolding kids_of
  kids_are = rw (add-one k)

  pub red_old : get_or ss k 0 ≡ 64 → (r : Bool) → r ≡ allb (idleb t ss ms held) between → not r ≡ red_atb t ss ms ks held k
  unfolding red_atb
  red_old h r e = ap not (e ∙ ap (allb (idleb t ss ms held)) kids_are) ∙ sym (rw (eq-eqb (get_or ss k 0) 64 h, red_atb))

  pub red_green : (get_or ss k 0 ≡ 64 → ⊥) → (get_or ss k 0 ≡ 0 → ⊥) → (r : Bool) → r ≡ anyb (pulledb t ms held k) between
      → r ≡ red_atb t ss ms ks held k
  unfolding red_atb
  red_green h g r e = e ∙ ap (anyb (pulledb t ms held k)) kids_are ∙ sym (rw (ne_eqb (get_or ss k 0) 64 h, ne_eqb (get_or ss k 0) 0 g, red_atb))

  leaf : get_or ss k 0 ≡ 0 → red_atb t ss ms ks held k ≡ ((cell_at t k).regular && eqb (get_or ms k 0) 1)
  unfolding red_atb
  leaf h = let n : eqb (get_or ss k 0) 64 ≡ false = ne_eqb (get_or ss k 0) 64 (λ e. omega arith) in rw (n, eq-eqb (get_or ss k 0) 0 h, red_atb)

  pub red_irregular : get_or ss k 0 ≡ 0 → (cell_at t k).regular ≡ false → red_atb t ss ms ks held k ≡ false
  red_irregular h r = leaf h ∙ ap (λ (b : Bool). b && eqb (get_or ms k 0) 1) r

  pub red_leaf : get_or ss k 0 ≡ 0 → (cell_at t k).regular ≡ true → red_atb t ss ms ks held k ≡ eqb (get_or ms k 0) 1
  red_leaf h r = leaf h ∙ ap (λ (b : Bool). b && eqb (get_or ms k 0) 1) r
