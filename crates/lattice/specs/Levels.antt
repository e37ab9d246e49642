-- Regular cells level by level: the coarse cells are regular of level 0, and each level hands it on to the next.
--   IfRegular n k c    c is regular of level k where its table says that it is regular
--   RedRegular cs ss   only regular cells are red, where ss are the statuses of the cells cs
--   level_cells ls i       the cells of the level i; none above the top level (no_level)
use Rattle.std.specs.Prelude.{◌≡◌, refl, Bool, true, false, ◌&&◌, List, [], ◌∷◌, map, ℕ, zero, suc, ◌+◌, ◌-◌, ◌≤◌, ◌<◌, min, T, eqb, leb, length, get_or, take, drop}
use Rattle.std.proofs.Common.{sym, ◌∙◌, subst, add-zero, add-suc, suc-add, arith, eqb→eq, leb→le, ltb→lt, eqb-true}
use Rattle.std.proofs.lemmas.List.{length-map}
use Rattle.std.proofs.Math.ListN.{get_or-eq_default}
use Rattle.base.specs.Limits.{most_cells, most_levels}
use Rattle.base.specs.Lists.{allb, sameb}
use Rattle.base.specs.Bools.{and_left, and_right}
use Rattle.base.specs.Fours.{fours}
use Rattle.cutting.specs.Rule.{family}
use Rattle.mesh.specs.Cells.{Cell, redb, status_of, closed_from, red_edges, children, children_from, pattern_of}
use Rattle.mesh.specs.Weights.{Point, point, coarse, coarse_from, coarse_cells}
use Rattle.mesh.specs.Coarse.{cellb, cellsb}
use Rattle.mesh.specs.Table.{Level, next, levels, levels_of, cells_of, closedb, apartb, soundb}
use Rattle.base.specs.Every.{All, all_append, all_more, below_at, get_d_map}
use Rattle.lattice.specs.Tails.{tail_sum_coarse, sized_coarse}
use Rattle.lattice.specs.Regular.{Regular, children_regular}

-- Coarse cells: a coarse corner's coordinates are 1 up to its own place and 0 behind it.
record Rising (n : ℕ) (q : List ℕ) : Type 0 where
  ab : get_or q 0 0 < get_or q 1 0
  bc : get_or q 1 0 < get_or q 2 0
  cd : get_or q 2 0 < get_or q 3 0
  dn : get_or q 3 0 < n

rising_of : (n : ℕ) (q : List ℕ) → T (cellb n q) → Rising n q
unfolding cellb
rising_of n q t = search (and_left, and_right, ltb→lt)

coarse_cell : (n : ℕ) (q : List ℕ) → length q ≡ 4 → Rising n q → (path : List ℕ) (parent : ℕ)
    → Regular n 0 (record { path = path; parent = parent; regular = true; points = map (coarse n) q })
coarse_cell n q e r path parent =
    record {
      four = length-map q (coarse n) ∙ e;
      coordinates = λ i j. min 1 (suc (get_or q i 0) - j);
      kuhn =
          record {
            chain = λ j. omega (arith, r);
            step01 = (get_or q 1 0, omega (arith, r));
            step12 = (get_or q 2 0, omega (arith, r));
            step23 = (get_or q 3 0, omega (arith, r));
          };
      sized = λ i l. rw (at i l) (sized_coarse n (get_or q i 0) (below i l));
      tails = λ i l j. rw (at i l) (tail_sum_coarse n (get_or q i 0) j (below i l));
    }
  where
    below : (i : ℕ) → i < 4 → get_or q i 0 < n
    below = below_at (λ i. get_or q i 0 < n) 4 (omega (arith, r))

    at : (i : ℕ) → i < 4 → get_or (map (coarse n) q) i [] ≡ coarse n (get_or q i 0)
    at i l = get_d_map (coarse n) q i 0 [] (rw e l)

coarse_from_lem : (n i : ℕ) (qs : List (List ℕ)) → All (λ q. length q ≡ 4) qs → T (cellsb n qs) → All (Regular n 0) (coarse_from n i qs)
unfolding coarse_from cellsb allb
coarse_from_lem n i [] e t = tt
coarse_from_lem n i (q ∷ qs) e t = (
  coarse_cell n q e.0 (rising_of n q (and_left (cellb n q) (allb (cellb n) qs) t)) _ _,
  coarse_from_lem n (suc i) qs e.1 (and_right (cellb n q) (allb (cellb n) qs) t),
)

pub coarse_cells_regular : (n : ℕ) (qs : List (List ℕ)) → All (λ q. length q ≡ 4) qs → T (cellsb n qs)
    → All (Regular n 0) (coarse_cells n qs)
unfolding coarse_cells
coarse_cells_regular n qs = coarse_from_lem n 0 qs

pub fours_four : (l : List ℕ) → All (λ q. length q ≡ 4) (fours l)
unfolding fours
fours_four [] = tt
fours_four (a ∷ []) = tt
fours_four (a ∷ b ∷ []) = tt
fours_four (a ∷ b ∷ c ∷ []) = tt
fours_four (a ∷ b ∷ c ∷ d ∷ l) = (refl, fours_four l)

-- One level up. Only the children of red cells are called regular.
abbrev pub IfRegular : ℕ → ℕ → Cell Point → Type 0
IfRegular n k c = T c.regular → Regular n k c

abbrev pub RedRegular : List (Cell Point) → List ℕ → Type 0
RedRegular [] ss = Unit {0}
RedRegular (c ∷ cs) [] = Unit {0}
RedRegular (c ∷ cs) (s ∷ ss) = (s ≡ 64 → T c.regular) × RedRegular cs ss

green_children : (n k j i : ℕ) (c : Cell Point) (f : ℕ → Point) (fs : List (List ℕ)) → All (IfRegular n k) (children_from j c false f i fs)
unfolding children_from
green_children n k j i c f [] = tt
green_children n k j i c f (d ∷ fs) = (λ t. absurd t, green_children n k j (suc i) c f fs)

family_regular : (n k j : ℕ) (c : Cell Point) → k < 10 → IfRegular n k c → (s : ℕ) → (s ≡ 64 → T c.regular)
    → All (IfRegular n (suc k)) (children j c s (point c))
unfolding children
family_regular n k j c h g s e = go (redb s) refl (eqb s 0) refl
  where
    go : (r : Bool) → redb s ≡ r → (z : Bool) → eqb s 0 ≡ z → All (IfRegular n (suc k)) (children j c s (point c))
    go true p z q =
        let w : s ≡ 64 = eqb-true s 64 p in
        rw w (all_more (Regular n (suc k)) (IfRegular n (suc k)) (λ c r t. r) (children j c 64 (point c))
        (children_regular n k c h (g (e w)) j))
    go false p true q = rw (q, children) tt
    go false p false q = rw (q, p, children) (green_children n (suc k) j 0 c (point c) (family (pattern_of s)))

pub next_regular : (n k j : ℕ) (cs : List (Cell Point)) (ss : List ℕ) → k < 10 → All (IfRegular n k) cs → RedRegular cs ss
    → All (IfRegular n (suc k)) (next j cs ss)
unfolding next
next_regular n k j [] ss h g e = tt
next_regular n k j (c ∷ cs) [] h g e = tt
next_regular n k j (c ∷ cs) (s ∷ ss) h g e =
    all_append (IfRegular n (suc k)) (children j c s (point c)) (next (suc j) cs ss) (family_regular n k j c h g.0 s e.0)
    (next_regular n k (suc j) cs ss h g.1 e.1)

-- Only regular cells are red where statuses follow the rule, in a closed level and in the level that a step makes.
pub status_red : {A : Type 0} (o : A) (same : A → A → Bool) (es : List (A × A)) (r : Bool) (c : Cell A) → status_of o same es r c ≡ 64
    → T c.regular
unfolding status_of
status_red o same es r c e = go c.regular refl
  where
    go : (b : Bool) → c.regular ≡ b → T c.regular
    go true q = rw q tt
    go false q = let z : ◌≡◌ {A = ℕ} 0 64 = rw (q, status_of) at e in absurd (omega arith)

pub map-red_regular : (f : Cell Point → ℕ) → ((c : Cell Point) → f c ≡ 64 → T c.regular) → (cs : List (Cell Point))
    → RedRegular cs (map f cs)
map-red_regular f u [] = tt
map-red_regular f u (c ∷ cs) = (u c, map-red_regular f u cs)

closed_from_lem : (es : List (Point × Point)) (cs : List (Cell Point)) (ss : List ℕ) → T (closed_from [] sameb es cs ss) → RedRegular cs ss
unfolding closed_from
closed_from_lem es [] ss t = tt
closed_from_lem es (c ∷ cs) [] t = tt
closed_from_lem es (c ∷ cs) (s ∷ ss) t = (
  λ e. status_red [] sameb es (redb s) c
      (sym (eqb→eq s (status_of [] sameb es (redb s) c) (and_left (eqb s (status_of [] sameb es (redb s) c)) (closed_from [] sameb es cs ss)
      t)) ∙ e),
  closed_from_lem es cs ss (and_right (eqb s (status_of [] sameb es (redb s) c)) (closed_from [] sameb es cs ss) t),
)

pub closed_red_regular : (l : Level) → T (closedb l) → RedRegular l.cells l.statuses
unfolding closedb
closed_red_regular l t = closed_from_lem (red_edges [] l.cells l.statuses) l.cells l.statuses t

-- Level after level, from any level on.
abbrev pub no_level : Level
no_level = record { first = 0; cells = []; statuses = [] }

abbrev pub level_cells : List Level → ℕ → List (Cell Point)
level_cells ls i = (get_or ls i no_level).cells

pub levels_regular : (n k m j : ℕ) (cs : List (Cell Point)) (ss : List ℕ) → All (IfRegular n k) cs
    → All (λ l. RedRegular l.cells l.statuses) (levels m j cs ss)
    → (i : ℕ) → k + i ≤ 10 → All (IfRegular n (k + i)) (level_cells (levels m j cs ss) i)
unfolding levels
levels_regular n k zero j cs ss g e i h = tt
levels_regular n k (suc m) j [] ss g e i h = tt
levels_regular n k (suc m) j (c ∷ cs) ss g e zero h =
    subst (λ (z : ℕ). All (IfRegular n z) (c ∷ cs)) (sym (add-zero k)) g
levels_regular n k (suc m) j (c ∷ cs) ss g e (suc i) h =
    rw (add-suc k i, ← suc-add k i) (levels_regular n (suc k) m (j + length (c ∷ cs)) (next j (c ∷ cs) (take (length (c ∷ cs)) ss))
    (drop (length (c ∷ cs)) ss)
    (next_regular n k j (c ∷ cs) (take (length (c ∷ cs)) ss) (omega arith) g e.0) e.1 i (omega arith))

-- A sound table has closed levels, at most eleven.
pub above_none : (n : ℕ) (ls : List Level) (i : ℕ) → length ls ≤ i → All (IfRegular n i) (level_cells ls i)
above_none n ls i h = subst (λ (l : Level). All (IfRegular n i) l.cells) (sym (get_or-eq_default ls no_level h)) tt

pub sound_levels : (n : ℕ) (qs : List (List ℕ)) (ss : List ℕ) → T (soundb n qs ss)
    → (length (levels_of n qs ss) ≤ most_levels) × T (allb closedb (levels_of n qs ss))
unfolding soundb
sound_levels n qs ss t =
    let ls = levels_of n qs ss in
    let m = length (cells_of ls) in
    let (few, closed) = parts (eqb (length ss) m) (leb (length ls) most_levels) (leb m most_cells) (allb closedb ls)
    (apartb (cells_of ls) ss) t in
    (leb→le (length ls) most_levels few, closed)
  where
    parts : (a b c d e : Bool) → T ((a && (b && c)) && (d && e)) → T b × T d
    parts a b c d e t = search (and_left, and_right)
