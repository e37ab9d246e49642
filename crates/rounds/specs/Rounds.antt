-- The rounds of a split step (rules 15.4, 15.7): what a part decides, writes and takes, from its own cells and ghosts alone.
--   Body                    a message without its heading: a ghost's mark, an edge's count, cell totals and top level, a round's end
--   Phase, phase r          what a round exchanges
--   State                   what a part knows: marks of its masters, flags of its masters and ghosts, counts of their edges, totals
--   capped n                n, but 4,097 for all that is more
--   red_told, sum_told, masters_told, top_told   what the messages of a round say of a cell, of a slot, and of the totals
--   starting, writing, taking   what a part knows at the start, writes in a round, and knows after it
use Rattle.std.specs.Prelude.{Bool, ◌&&◌, ◌||◌, eqb, ltb}
use Rattle.std.proofs.Math.Bool.{true, false, not}
use mathlib.Core.List.{List, [], ◌∷◌, ◌++◌, map}
use Prim.Native.Nat.{ℕ, zero, suc, ◌+◌, ◌-◌, min, max}
use Rattle.std.proofs.Math.ListN.{length}
use Rattle.base.specs.Limits.{too_many}
use Rattle.base.specs.Lists.{anyb, filterb, memberb}
use Rattle.exchange.specs.Finite.{Finite, sum_over}
use Rattle.rounds.specs.Task.{Task, has, rule}

-- Rule 15.4.
pub data Body : Type 0 where
  mark : ℕ → Bool → Body
  count : ℕ → ℕ → Body
  total : ℕ → ℕ → Body
  end : Body

-- Rule 15.7.
pub data Phase : Type 0 where
  marks : ℕ → Phase
  counts : ℕ → Phase
  totals : Phase
  over : Phase

-- Rule 7.2: from the highest level down: marks, then counts; last the totals
unfoldable pub after : ℕ → Phase → Phase
after top (marks i) = counts i
after top (counts i) = elim (ltb i top) [ true ↦ marks (suc i) | false ↦ totals ]
after top totals = over
after top over = over

unfoldable pub phase : ℕ → ℕ → Phase
unfolding after
phase top zero = marks 0
phase top (suc r) = after top (phase top r)

pub record State : Type 0 where
  pub given : ℕ → ℕ  -- the marks of the masters
  pub red : ℕ → Bool  -- the cells that will be red
  pub own : ℕ → ℕ  -- how many of the masters that will be red have a slot
  pub sum : ℕ → ℕ  -- the same for all parts that have told
  pub total : ℕ  -- the masters after the step: the own ones, then those of all parts
  pub high : ℕ  -- their top level

-- what one message says of a cell, of a slot, and of the totals
unfoldable pub tells : ℕ → Body → Bool
tells c (mark d v) = eqb c d && v
tells c (count x n) = false
tells c (total n h) = false
tells c end = false

unfoldable pub worth : ℕ → Body → ℕ
worth x (mark d v) = 0
worth x (count y n) = elim (eqb x y) [ true ↦ n | false ↦ 0 ]
worth x (total n h) = 0
worth x end = 0

unfoldable pub masters_in : Body → ℕ
masters_in (mark d v) = 0
masters_in (count x n) = 0
masters_in (total n h) = n
masters_in end = 0

unfoldable pub top_in : Body → ℕ
top_in (mark d v) = 0
top_in (count x n) = 0
top_in (total n h) = h
top_in end = 0

abbrev pub capped : ℕ → ℕ
capped n = min n too_many

unfoldable pub largest : {A : Type 0} → (A → ℕ) → List A → ℕ
largest f [] = 0
largest f (x ∷ l) = max (f x) (largest f l)

module _ {Part : Type 0} (F : Finite Part) where
  unfoldable pub is_part : Part → Part → Bool
  is_part p q = elim (F.same? p q) [ yes e ↦ true | no e ↦ false ]

  module _ (got : Part → List Body) where
    unfoldable pub told : ℕ → Bool
    unfolding anyb tells
    told c = anyb (λ q. anyb (tells c) (got q)) F.list

    unfoldable pub added : ℕ → ℕ
    unfolding worth sum_over
    added x = sum_over (λ q. sum_over (worth x) (got q)) F.list

    unfoldable pub masters_told : ℕ
    unfolding masters_in sum_over
    masters_told = sum_over (λ q. sum_over masters_in (got q)) F.list

    unfoldable pub top_told : ℕ
    unfolding top_in largest
    top_told = largest (λ q. largest top_in (got q)) F.list

  unfoldable pub red_told : State → (Part → List Body) → ℕ → Bool
  unfolding told
  red_told s got c = s.red c || told got c

  unfoldable pub sum_told : State → (Part → List Body) → ℕ → ℕ
  unfolding added
  sum_told s got x = s.sum x + added got x

-- the state with other flags and sums; with the totals of the own masters
abbrev pub counting : State → (ℕ → Bool) → (ℕ → ℕ) → State
counting s r n = record { given = s.given; red = r; own = s.own; sum = n; total = s.total; high = s.high }

unfoldable pub sized : ℕ × ℕ → State → State
sized g s = record { given = s.given; red = s.red; own = s.own; sum = s.sum; total = capped g.0; high = g.1 }

module _ {Part : Type 0} (F : Finite Part) (J : Task Part) where
  -- Rule 15.2.
  abbrev pub mine : Part → ℕ → Bool
  mine p c = is_part F (J.owner c) p || is_part F (J.family c) p

  -- the part has a cell with this slot, as master or ghost
  unfoldable pub holdsb : Part → ℕ → ℕ → Bool
  unfolding is_part has anyb
  holdsb p k x = anyb (λ c. mine p c && has J c x) (J.cells k)

  -- a part decides on the cells whose family it has, and on its leaves
  unfoldable pub decides : Part → ℕ → ℕ → Bool
  unfolding is_part memberb
  decides p k c = memberb c (J.cells k) && is_part F (J.family c) p

  -- Rule 15.4: a ghost is not counted beside its master
  unfoldable pub tally : Part → (ℕ → Bool) → ℕ → ℕ → ℕ
  unfolding is_part has filterb
  tally p red k x = length (filterb (λ c. is_part F (J.owner c) p && (red c && has J c x)) (J.cells k))

  -- Rule 15.6.
  unfoldable pub starting : Part → (ℕ → ℕ) → State
  unfolding decides rule
  starting p ms = record {
    given = ms;
    red = λ c. decides p J.top c
        && rule J (λ s. false) ms c;
    own = λ x. 0;
    sum = λ x. 0;
    total = 0;
    high = 0;
  }

  -- Rule 15.4.
  unfoldable pub ghost_marks : ℕ → Part → Part → State → List Body
  unfolding is_part filterb
  ghost_marks k p q s = map (λ c. mark c (s.red c)) (filterb (λ c. is_part F (J.family c) p && is_part F (J.owner c) q) (J.cells k))

  -- Rule 15.4.
  unfoldable pub edge_counts : ℕ → Part → Part → State → List Body
  unfolding holdsb filterb
  edge_counts k p q s = map (λ x. count x (s.own x)) (filterb (λ x. holdsb p k x && (holdsb q k x && not (eqb (s.own x) 0))) (J.slots k))

  unfoldable pub says : Phase → Part → Part → State → List Body
  unfolding ghost_marks edge_counts
  says (marks i) p q s = ghost_marks (J.top - i) p q s ++ (end ∷ [])
  says (counts i) p q s = edge_counts (J.top - i) p q s ++ (end ∷ [])
  says totals p q s = total s.total s.high ∷ end ∷ []
  says over p q s = []

  -- Rule 15.4.
  unfoldable pub writing : Phase → Part → Part → State → List Body
  unfolding says is_part
  writing f p q s = elim (is_part F p q) [ true ↦ [] | false ↦ says f p q s ]

  unfoldable pub red_down : ℕ → Part → State → (Part → List Body) → ℕ → Bool
  unfolding decides rule sum_told
  red_down i p s got c = s.red c || (ltb i J.top
      && (decides p (J.top - suc i) c && rule J (λ x. not (eqb (sum_told F s got x) 0)) s.given c))

  -- grown p s: how many masters p will have, and their top level, from what it knows when all levels are counted
  module _ (grown : Part → State → ℕ × ℕ) where
    -- Rule 15.7.
    unfoldable pub taking : Phase → Part → State → (Part → List Body) → State
    unfolding red_told sum_told red_down tally sized masters_told top_told
    taking (marks i) p s got =
        record {
          given = s.given;
          red = red_told F s got;
          own = λ x. s.own x + tally p (red_told F s got) (J.top - i) x;
          sum = λ x. s.sum x + tally p (red_told F s got) (J.top - i) x;
          total = s.total;
          high = s.high;
        }
    taking (counts i) p s got = sized (grown p (counting s (red_down i p s got) (sum_told F s got)))
        (counting s (red_down i p s got) (sum_told F s got))
    taking totals p s got =
        record {
          given = s.given;
          red = s.red;
          own = s.own;
          sum = s.sum;
          total = capped (s.total + masters_told F got);
          high = max s.high (top_told F got);
        }
    taking over p s got = s
