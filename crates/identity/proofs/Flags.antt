-- Without marks the new red cells of a sound table are the old ones: the flags, level by level (flags_own).
use Rattle.std.specs.Prelude.{◌≡◌, ◌≢◌, ◌&&◌, ◌||◌, drop}
use Rattle.std.proofs.Math.Path.{refl, sym, ap, ap₂}
use Rattle.std.proofs.Common.{◌∙◌, length-append, get_or-append-add}
use Rattle.std.proofs.Math.Bool.{Bool, true, false, not, and-false, or-true}
use mathlib.Core.List.{List, [], ◌∷◌, ◌++◌, map, flat_map, append_assoc}
use Prim.Native.Nat.{ℕ, zero, suc, ◌+◌, ◌<◌}
use native.Mathlib.Omega.{arith}
use Rattle.std.proofs.Math.Dec.{T, eqb}
use borrow.Author.Tests.{eqb-true, eq-eqb}
use Rattle.std.proofs.Math.ListN.{length, get_or, take, get_or-append}
use Rattle.base.specs.Lists.{allb, anyb, filterb, sameb, allb_at}
use Rattle.base.specs.Bools.{and_left, and_right, is_true, not_both}
use Rattle.cutting.specs.Rule.{family}
use Rattle.mesh.specs.Cells.{Cell, redb, pattern_of, edges, heldb, red_edges, closed_from, no_cell}
use Rattle.mesh.specs.Weights.{Point}
use Rattle.mesh.specs.Table.{Level, next, levels, cells_of, closedb, sizes}
use Rattle.mesh.specs.Step.{Row, rows_from, rows, kids, deletedb, turnedb, new_redb, rows_up, edges_up, new_reds, red_afterb}
use Rattle.mesh.specs.Laws.{held_append}
use Rattle.rows.specs.Many.{closed_many}
use Rattle.lineage.specs.Olds.{flag_of, flags_of, flags}
use Rattle.lineage.specs.Flags.{no_row, rows_from_lem, length-rows_from}
use Rattle.lineage.specs.Born.{born, born_at, born_below}
use Rattle.identity.specs.Again.{flags_in, red_edges_flags}
use Rattle.base.specs.Each.{default_free, allb_failing}
use Rattle.lineage.specs.Deep.{red_some}
use Rattle.identity.specs.Flags.{Unmarked, red_levels, Within}

-- Rows by their place in the level.
abbrev row_at : ℕ → List (Cell Point) → List ℕ → List ℕ → ℕ → Row
row_at k cs ss ms t = record { number = k + t; cell = get_or cs t no_cell; status = get_or ss t 0; mark = get_or ms (k + t) 0 }

-- tests on the rows that pass another
module _ {A : Type 0} (o : A) (f q : A → Bool) where
  any_fails : (l : List A) → ((u : ℕ) → u < length l → q (get_or l u o) ≡ true → f (get_or l u o) ≡ false) → anyb f (filterb q l) ≡ false
  unfolding anyb filterb
  any_fails [] h = refl
  any_fails (x ∷ l) h = go (q x) refl (any_fails l (λ u g. h (suc u) (omega arith)))
    where
      go : (z : Bool) → q x ≡ z → anyb f (filterb q l) ≡ false → anyb f (filterb q (x ∷ l)) ≡ false
      go true e i = rw (e, filterb, h 0 (omega arith) e) i
      go false e i = rw (e, filterb) i

-- The edges of the new red cells of a level, by their flags.
red_rows_lem : (f : Row → Bool) (k : ℕ) (cs : List (Cell Point)) (ss ms : List ℕ) → length cs ≡ length ss
    → flat_map (λ (r : Row). edges [] r.cell) (filterb f (rows_from k cs ss ms)) ≡ red_edges [] cs
    (map (λ r. flag_of (f r)) (rows_from k cs ss ms))
unfolding rows_from filterb red_edges flat_map flag_of
red_rows_lem f k [] ss ms e = refl
red_rows_lem f k (c ∷ cs) [] ms e = absurd (omega arith)
red_rows_lem f k (c ∷ cs) (s ∷ ss) ms e = go (f r) refl (red_rows_lem f (suc k) cs ss ms (omega arith))
  where
    r : Row
    r = record { number = k; cell = c; status = s; mark = get_or ms k 0 }

    rs : List Row
    rs = rows_from (suc k) cs ss ms

    go : (b : Bool) → f r ≡ b → flat_map (λ (r : Row). edges [] r.cell) (filterb f rs) ≡ red_edges [] cs (map (λ r. flag_of (f r)) rs)
        → flat_map (λ (r : Row). edges [] r.cell) (filterb f (r ∷ rs)) ≡ red_edges [] (c ∷ cs) (flag_of (f r) ∷ map (λ r. flag_of (f r)) rs)
    go true b i = rw (b, filterb, flag_of, red_edges) (ap (λ (l : List (Point × Point)). edges [] c ++ l) i)
    go false b i = rw (b, filterb, flag_of, red_edges) i

-- flags that are those of the statuses
rows_own : (f : Row → Bool) (k : ℕ) (cs : List (Cell Point)) (ss ms : List ℕ) → length cs ≡ length ss
    → ((t : ℕ) → t < length cs → f (row_at k cs ss ms t) ≡ redb (get_or ss t 0)) → map (λ r. flag_of (f r)) (rows_from k cs ss ms) ≡ flags_in ss
unfolding rows_from
rows_own f k [] [] ms e h = refl
rows_own f k [] (s ∷ ss) ms e h = absurd (omega arith)
rows_own f k (c ∷ cs) [] ms e h = absurd (omega arith)
rows_own f k (c ∷ cs) (s ∷ ss) ms e h =
    ap₂ (λ (x : ℕ) (l : List ℕ). x ∷ l) (let w : k + 0 ≡ k = omega arith in ap flag_of (rw w at (h 0 (omega arith))))
    (rows_own f (suc k) cs ss ms (omega arith) (λ t g. let w : k + suc t ≡ suc k + t = omega arith in rw w at (h (suc t) (omega arith))))

any_none : {A : Type 0} (f g : A → Bool) (l : List A) → allb (λ e. f e || not (g e)) l ≡ true → anyb (λ e. not (f e) && g e) l ≡ false
unfolding allb anyb
any_none f g [] a = refl
any_none f g (x ∷ l) a = go (f x) (g x) a (any_none f g l)
  where
    go : (b c : Bool) → ((b || not c) && allb (λ e. f e || not (g e)) l) ≡ true
        → (allb (λ e. f e || not (g e)) l ≡ true → anyb (λ e. not (f e) && g e) l ≡ false)
        → ((not b && c) || anyb (λ e. not (f e) && g e) l) ≡ false
    go true c a i = i a
    go false true a i = not_both false a refl
    go false false a i = i a

-- A level cs, numbered from k, with statuses ts, and the rows above it: those of the next level, or none where that is empty.
module _ (ms : List ℕ) (unmarked : Unmarked ms) (k : ℕ) (cs : List (Cell Point)) (ts us : List ℕ) (es : List (Point × Point))
    (many : length cs ≡ length ts) (more : length (next k cs ts) ≡ length us) where
  up : List Row
  up = rows_from (k + length cs) (next k cs ts) us ms

  up_long : length up ≡ length (next k cs ts)
  unfolding up
  up_long = length-rows_from (k + length cs) (next k cs ts) us ms (sym more)

  up_row : (u : ℕ) → u < length up → get_or up u no_row ≡ row_at (k + length cs) (next k cs ts) us ms u
  unfolding up
  up_row u h = rows_from_lem (k + length cs) (next k cs ts) us ms (sym more) u (omega (arith, up_long))

  -- a red cell keeps its family
  kept : (t : ℕ) → t < length cs → get_or ts t 0 ≡ 64 → deletedb (kids up (k + t)) es ≡ false
  unfolding deletedb kids
  kept t h e =
      let z : get_or ts t 0 ≢ 0 = λ x. omega arith in
      let i : 0 < length (family (pattern_of (get_or ts t 0))) = rw e red_some in
      let b = born_below k cs ts t 0 h (omega arith) z i in
      let u = sizes (take t ts) + 0 in
      let r = up_row u (omega (arith, up_long)) in
      let p : (get_or (next k cs ts) u no_cell).parent ≡ k + t = ap (λ (c : Cell Point). c.parent) (born_at k cs ts t 0 h (omega arith) z i) in
      allb_failing (λ r. eqb r.cell.parent (k + t)) _ no_row up u (omega (arith, up_long))
      (rw r (eq-eqb (get_or (next k cs ts) u no_cell).parent (k + t) p))
      (rw (r, unmarked (k + length cs + u)) (left_false (eqb (get_or us u 0) 0) _))
    where
      left_false : (a c : Bool) → ((a && false) && c) ≡ false
      left_false true c = refl
      left_false false c = refl

  -- a green cell's child is irregular, and its parent is the green cell
  green_child : (t u : ℕ) → redb (get_or ts t 0) ≡ false → u < length (next k cs ts) → (get_or (next k cs ts) u no_cell).parent ≡ k + t
      → (get_or (next k cs ts) u no_cell).regular ≡ false
  green_child t u e h g =
      let (b, _) = born k cs ts u h in
      let q : k + b.p ≡ k + t = sym (ap (λ (c : Cell Point). c.parent) b.is) ∙ g in
      let x : b.p ≡ t = omega arith in
      ap (λ (c : Cell Point). c.regular) b.is ∙ rw x e

  -- a green cell is not turned: apart says that the edges of the next level are own or held by no red cell
  module _ (apart : (t u : ℕ) → t < length cs → u < length (next k cs ts) → (get_or (next k cs ts) u no_cell).regular ≡ false
      → (get_or (next k cs ts) u no_cell).parent ≡ k + t
      → allb (λ e. heldb sameb (edges [] (get_or cs t no_cell)) e || not (heldb sameb es e)) (edges [] (get_or (next k cs ts) u no_cell)) ≡ true)
    where
      stays : (t : ℕ) → t < length cs → redb (get_or ts t 0) ≡ false → turnedb (edges [] (get_or cs t no_cell)) (kids up (k + t)) es ≡ false
      unfolding turnedb kids
      stays t h e =
          any_fails no_row _ (λ r. eqb r.cell.parent (k + t)) up (λ u g q.
          let r = up_row u g in
          let i : u < length (next k cs ts) = omega (arith, up_long) in
          let p : (get_or (next k cs ts) u no_cell).parent ≡ k + t = eqb-true (get_or (next k cs ts) u no_cell).parent (k + t) (rw r at q) in
          rw (r, unmarked (k + length cs + u))
          (none_of (edges [] (get_or (next k cs ts) u no_cell)) (apart t u h i (green_child t u e i p) p)))
        where
          none_of : (l : List (Point × Point)) → allb (λ e. heldb sameb (edges [] (get_or cs t no_cell)) e || not (heldb sameb es e)) l ≡ true
              → anyb (λ e. not (heldb sameb (edges [] (get_or cs t no_cell)) e) && heldb sameb es e) l ≡ false
          none_of l a = any_none (heldb sameb (edges [] (get_or cs t no_cell))) (heldb sameb es) l a

      -- so the new red cells are the old ones
      row_own : (t : ℕ) → t < length cs → new_redb up es (row_at k cs ts ms t) ≡ redb (get_or ts t 0)
      unfolding red_afterb
      row_own t h = go (redb (get_or ts t 0)) refl (eqb (get_or ts t 0) 0) refl
        where
          go : (r : Bool) → redb (get_or ts t 0) ≡ r → (z : Bool) → eqb (get_or ts t 0) 0 ≡ z
              → new_redb up es (row_at k cs ts ms t) ≡ redb (get_or ts t 0)
          go true e z f = rw (e, red_afterb, kept t h (eqb-true (get_or ts t 0) 64 e))
          go false e true f = rw (e, f, red_afterb, unmarked (k + t)) (and-false (get_or cs t no_cell).regular)
          go false e false f = rw (e, f, red_afterb) (stays t h e)

all_less : {A : Type 0} (f g g' : A → Bool) → ((x : A) → g' x ≡ true → g x ≡ true) → (l : List A) → allb (λ x. f x || not (g x)) l ≡ true
    → allb (λ x. f x || not (g' x)) l ≡ true
unfolding allb
all_less f g g' w [] a = refl
all_less f g g' w (x ∷ l) a = go (f x) (g x) (g' x) (w x) a (all_less f g g' w l)
  where
    go : (b c d : Bool) → (d ≡ true → c ≡ true) → ((b || not c) && allb (λ x. f x || not (g x)) l) ≡ true
        → (allb (λ x. f x || not (g x)) l ≡ true → allb (λ x. f x || not (g' x)) l ≡ true)
        → ((b || not d) && allb (λ x. f x || not (g' x)) l) ≡ true
    go true c d w a i = i a
    go false true d w a i = not_both false a refl
    go false false true w a i = not_both false (w refl) refl
    go false false false w a i = i a

-- What lies above a level: the rows of the next one, and the edges of its new red cells.
record Above (ls : List Level) (k : ℕ) (cs : List (Cell Point)) (ms : List ℕ) (reds : List (Point × Point)) : Type 0 where
  us : List ℕ
  many : length cs ≡ length us
  rows_up_lem : rows_up ls ms ≡ rows_from k cs us ms
  tail : List (Cell Point)
  cells_up : cells_of ls ≡ cs ++ tail
  within : Within (edges_up (new_reds ls ms)) reds

module _ (ms : List ℕ) (unmarked : Unmarked ms) (all : List (Cell Point)) (reds : List (Point × Point))
    (apart : T (allb (λ c. c.regular || allb (λ e. heldb sameb (edges [] (get_or all c.parent c)) e || not (heldb sameb reds e))
    (edges [] c)) all)) where
  above : (h k : ℕ) (cs : List (Cell Point)) (rest : List ℕ) → length (levels h k cs rest) < h → T (allb closedb (levels h k cs rest))
      → Within (red_levels (levels h k cs rest)) reds → flags (levels h k cs rest) ms ≡ map (λ (l : Level). flags_in l.statuses)
      (levels h k cs rest)
      → Above (levels h k cs rest) k cs ms reds
  unfolding levels rows_up rows_from edges_up new_reds allb closedb flat_map rows flags flags_of cells_of
  above zero k cs rest h u w f = absurd (omega arith)
  above (suc n) k [] rest h u w f = record {
    us = [];
    many = refl;
    rows_up_lem = refl;
    tail = [];
    cells_up = refl;
    within = λ e t. not_both
        false t refl;
  }
  above (suc n) k (c ∷ cs) rest h u w f =
      let cs' = c ∷ cs in
      let us = take (length cs') rest in
      let l : Level = record { first = k; cells = cs'; statuses = us } in
      let ls : List Level = levels n (k + length cs') (next k cs' us) (drop (length cs') rest) in
      let v : T (closed_from [] sameb (red_edges [] cs' us) cs' us) = and_left (closedb l) (allb closedb ls) u in
      let m : length cs' ≡ length us = sym (closed_many (red_edges [] cs' us) cs' us v) in
      let test : Row → Bool = new_redb (rows_up ls ms) (edges_up (new_reds ls ms)) in
      let g : map (λ r. flag_of (test r)) (rows_from k cs' us ms) ≡ flags_in us = ap (λ (x : List (List ℕ)). get_or x 0 []) f in
      let q : flat_map (λ (r : Row). edges [] r.cell) (filterb test (rows_from k cs' us ms)) ≡ red_edges [] cs' us =
      red_rows_lem test k cs' us ms m ∙ ap (red_edges [] cs') g ∙ red_edges_flags cs' us in
      record {
        us = us;
        many = m;
        rows_up_lem = refl;
        tail = cells_of ls;
        cells_up = refl;
        within = λ e t. w e (held_append sameb (red_edges [] cs' us) (red_levels ls) e ∙ ap (λ (b : Bool). b || heldb sameb (red_levels ls) e)
            (rw q at t));
      }

  -- the third condition of soundness, at a child of the level cs
  module _ (k : ℕ) (cs : List (Cell Point)) (done : List (Cell Point)) (ts : List ℕ) (tail : List (Cell Point))
      (parts : all ≡ done ++ (cs ++ (next k cs ts ++ tail))) (first : length done ≡ k) where
    cell_here : (t : ℕ) (d : Cell Point) → t < length cs → get_or all (k + t) d ≡ get_or cs t d
    cell_here t d h =
        ap (λ (l : List (Cell Point)). get_or l (k + t) d) parts
        ∙ ap (λ (x : ℕ). get_or (done ++ (cs ++ (next k cs ts ++ tail))) (x + t) d) (sym first)
        ∙ get_or-append-add done (cs ++ (next k cs ts ++ tail)) t d ∙ get_or-append cs (next k cs ts ++ tail) d t h

    cell_above : (u : ℕ) (d : Cell Point) → u < length (next k cs ts) → get_or all (k + length cs + u) d ≡ get_or (next k cs ts) u d
    cell_above u d h =
        let x : k + length cs + u ≡ length done + (length cs + u) = omega arith in
        rw x (ap (λ (l : List (Cell Point)). get_or l (length done + (length cs + u)) d) parts
        ∙ get_or-append-add done (cs ++ (next k cs ts ++ tail)) (length cs + u) d
        ∙ get_or-append-add cs (next k cs ts ++ tail) u d ∙ get_or-append (next k cs ts) tail d u h)

    inside : (u : ℕ) → u < length (next k cs ts) → k + length cs + u < length all
    inside u h =
        omega (
          arith,
          ap length parts ∙ length-append done (cs ++ (next k cs ts ++ tail)),
          length-append cs (next k cs ts ++ tail),
          length-append (next k cs ts) tail,
        )

    level_apart : (es : List (Point × Point)) → Within es reds → (t u : ℕ) → t < length cs → u < length (next k cs ts)
        → (get_or (next k cs ts) u no_cell).regular ≡ false → (get_or (next k cs ts) u no_cell).parent ≡ k + t
        → allb (λ e. heldb sameb (edges [] (get_or cs t no_cell)) e || not (heldb sameb es e)) (edges [] (get_or (next k cs ts) u no_cell)) ≡ true
    level_apart es w t u ht hu r p =
        let c = get_or (next k cs ts) u no_cell in
        let test : Cell Point → Bool = λ c. c.regular || allb
        (λ e. heldb sameb (edges [] (get_or all c.parent c)) e || not (heldb sameb reds e)) (edges [] c) in
        let a : T (test (get_or all (k + length cs + u) no_cell)) = allb_at test no_cell all apart (k + length cs + u) (inside u hu) in
        let b : T (test c) = rw (cell_above u no_cell hu) at a in
        let d : T (allb (λ e. heldb sameb (edges [] (get_or all c.parent c)) e || not (heldb sameb reds e)) (edges [] c)) = rw r at b in
        let g : get_or all c.parent c ≡ get_or cs t no_cell = ap (λ (x : ℕ). get_or all x c) p ∙ cell_here t c ht
        ∙ default_free cs t c no_cell ht in
        let f : T (allb (λ e. heldb sameb (edges [] (get_or cs t no_cell)) e || not (heldb sameb reds e)) (edges [] c)) = rw g at d in
        all_less (heldb sameb (edges [] (get_or cs t no_cell))) (heldb sameb reds) (heldb sameb es) w (edges [] c)
        (is_true (allb (λ e. heldb sameb (edges [] (get_or cs t no_cell)) e || not (heldb sameb reds e)) (edges [] c)) f)

  pub flags_own : (h k : ℕ) (cs : List (Cell Point)) (rest : List ℕ) (done : List (Cell Point)) → all ≡ done ++ cells_of (levels h k cs rest)
      → length done ≡ k
      → length (levels h k cs rest) < h → T (allb closedb (levels h k cs rest)) → Within (red_levels (levels h k cs rest)) reds
      → flags (levels h k cs rest) ms ≡ map (λ (l : Level). flags_in l.statuses) (levels h k cs rest)
  unfolding levels allb closedb flat_map flags flags_of cells_of rows up
  flags_own zero k cs rest done p f h u w = absurd (omega arith)
  flags_own (suc n) k [] rest done p f h u w = refl
  flags_own (suc n) k (c ∷ cs) rest done p f h u w =
      let cs' = c ∷ cs in
      let ts = take (length cs') rest in
      let k' = k + length cs' in
      let l : Level = record { first = k; cells = cs'; statuses = ts } in
      let ls : List Level = levels n k' (next k cs' ts) (drop (length cs') rest) in
      let v : T (closed_from [] sameb (red_edges [] cs' ts) cs' ts) = and_left (closedb l) (allb closedb ls) u in
      let v' : T (allb closedb ls) = and_right (closedb l) (allb closedb ls) u in
      let m : length cs' ≡ length ts = sym (closed_many (red_edges [] cs' ts) cs' ts v) in
      let w' : Within (red_levels ls) reds = λ e t. w e (held_append sameb (red_edges [] cs' ts) (red_levels ls) e
      ∙ rw t (or-true (heldb sameb (red_edges [] cs' ts) e))) in
      let p' : all ≡ (done ++ cs') ++ cells_of ls = p ∙ sym (append_assoc done cs' (cells_of ls)) in
      let i : flags ls ms ≡ map (λ (l : Level). flags_in l.statuses) ls =
      flags_own n k' (next k cs' ts) (drop (length cs') rest) (done ++ cs') p' (length-append done cs' ∙ omega (arith, f)) (omega arith) v'
      w' in
      let a : Above ls k' (next k cs' ts) ms reds = above n k' (next k cs' ts) (drop (length cs') rest) (omega arith) v' w' i in
      let es = edges_up (new_reds ls ms) in
      let q : all ≡ done ++ (cs' ++ (next k cs' ts ++ a.tail)) = p ∙ ap (λ (x : List (Cell Point)). done ++ (cs' ++ x)) a.cells_up in
      let x : flags_of ls ms (rows_from k cs' ts ms) ≡ flags_in ts =
      rows_own (new_redb (rows_up ls ms) es) k cs' ts ms m (λ t g. rw a.rows_up_lem
      (row_own ms unmarked k cs' ts a.us es m a.many (level_apart k cs' done ts a.tail q f es a.within) t g)) in
      ap₂ (λ (x : List ℕ) (y : List (List ℕ)). x ∷ y) x i
