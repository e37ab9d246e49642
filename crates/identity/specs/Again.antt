-- Where the new red cells are the old ones, the step gives the old table again.
--   own_olds k cs   the old numbers of the cells cs, numbered from k, in a table that is its own old one
-- Laws: olds_own (one level up), reds_own (their flags), closed_own (their statuses), grow_own (all levels).
use Rattle.std.specs.Prelude.{◌≡◌, Bool, drop}
use Rattle.std.proofs.Math.Path.{refl, sym, ap, ap₂}
use Rattle.std.proofs.Common.{◌∙◌, eqb→eq, take-append-drop}
use Rattle.std.proofs.Math.Bool.{true, false}
use mathlib.Core.List.{List, [], ◌∷◌, ◌++◌, map, append_assoc}
use Prim.Native.Nat.{ℕ, zero, suc, ◌+◌, ◌≤◌, ◌<◌}
use native.Mathlib.Omega.{arith}
use Rattle.std.proofs.Math.Dec.{T, eqb}
use borrow.Author.Tests.{eqb-true}
use Rattle.std.proofs.Math.ListN
use Rattle.std.proofs.Math.ListN.{length, get_or, take, length-append, get_or-eq_default}
use Rattle.std.proofs.Math.Seq.{take-append_seam, get_or-append_seam, ext_get_or}
use Rattle.base.specs.Lists.{allb, sameb}
use Rattle.base.specs.Bools.{and_left, and_right, is_true, not_both}
use Rattle.cutting.specs.Rule.{family}
use Rattle.mesh.specs.Cells.{Cell, none, redb, pattern_of, edges, red_edges, status_of, closed_from, children, children_from}
use Rattle.mesh.specs.Weights.{Point, point}
use Rattle.mesh.specs.Table.{Level, next, levels, closedb, size_of, sizes}
use Rattle.base.specs.Every.{get_d_map}
use Rattle.numbering.specs.Refined.{Refined, Follows, closed_follows}
use Rattle.lineage.specs.Olds.{flag_of, first_child, old_child, up_to, olds_of, olds_next, reds_by, closed_by, statuses_by, grow_by}
use Rattle.rows.specs.Many.{length-children, length-next, closed_many}
use Rattle.lineage.specs.Paths.{length_upto, upto_at}
use Rattle.lineage.specs.Same.{length-olds_of}
use Rattle.mesh.specs.Laws.{sizes_append, sizes_one}
use Rattle.lineage.specs.Flags.{flag_red}

unfoldable pub or_none : Bool → ℕ → ℕ
or_none true k = k
or_none false k = none

unfoldable pub own_olds : ℕ → List (Cell Point) → List ℕ
unfolding or_none
own_olds k [] = []
own_olds k (c ∷ cs) = or_none c.regular k ∷ own_olds (suc k) cs

-- Lists of numbers.
up_at : (f : ℕ → ℕ) (n j : ℕ) → j < n → get_or (map f (up_to n)) j none ≡ f j
up_at f n j h = get_d_map f (up_to n) j 0 none (omega (arith, length_upto n)) ∙ ap f (upto_at n j h)

own_append : (k : ℕ) (cs ds : List (Cell Point)) → own_olds k (cs ++ ds) ≡ own_olds k cs ++ own_olds (k + length cs) ds
unfolding own_olds
own_append k [] ds = let e : k + 0 ≡ k = omega arith in rw e
own_append k (c ∷ cs) ds =
    let e : k + suc (length cs) ≡ suc k + length cs = omega arith in
    rw e (ap (λ (l : List ℕ). or_none c.regular k ∷ l) (own_append (suc k) cs ds))

pub length-own_olds : (k : ℕ) (cs : List (Cell Point)) → length (own_olds k cs) ≡ length cs
unfolding own_olds
length-own_olds k [] = refl
length-own_olds k (c ∷ cs) = ap suc (length-own_olds (suc k) cs)

-- One family.
from_own : (a k : ℕ) (c : Cell Point) (r : Bool) (f : ℕ → Point) (i : ℕ) (ds : List (List ℕ)) (j : ℕ) → j < length ds
    → get_or (own_olds a (children_from k c r f i ds)) j none ≡ or_none r (a + j)
unfolding own_olds children_from
from_own a k c r f i [] j h = absurd (omega arith)
from_own a k c r f i (d ∷ ds) zero h = let e : a + 0 ≡ a = omega arith in rw e
from_own a k c r f i (d ∷ ds) (suc j) h = let e : a + suc j ≡ suc a + j = omega arith in
    rw e (from_own (suc a) k c r f (suc i) ds j (omega arith))

module _ (m : ℕ) (pre post : List ℕ) where
  -- the old child of the cell behind the front part
  child_own : (t i : ℕ) → t ≡ 64 → old_child m (pre ++ (t ∷ post)) (length pre) i ≡ m + sizes pre + i
  unfolding old_child first_child
  child_own t i e = rw (get_or-append_seam pre t post 0, e, take-append_seam pre (t ∷ post), old_child)

  module _ (k : ℕ) (c : Cell Point) (t : ℕ) (w : Follows c t) where
    ss : List ℕ
    ss = pre ++ (t ∷ post)

    o : ℕ
    o = or_none c.regular (length pre)

    same : length (olds_of m ss t o) ≡ length (own_olds (m + sizes pre) (children k c t (point c)))
    same = length-olds_of m ss t o ∙ sym (length-own_olds (m + sizes pre) (children k c t (point c)) ∙ length-children k c t (point c))

    regular : t ≡ 64 → c.regular ≡ true
    regular e = is_true c.regular (w.regular (λ z. omega arith))

    at : (i : ℕ) → i < size_of t → get_or (olds_of m ss t o) i none ≡ or_none (redb t) (m + sizes pre + i)
    unfolding olds_of or_none ss o
    at i h = up_at (λ i. elim (redb t) [ true ↦ old_child m ss o i | false ↦ none ]) (size_of t) i h ∙ go (redb t) refl
      where
        go : (r : Bool) → redb t ≡ r → (elim (redb t) [ true ↦ old_child m ss o i | false ↦ none ]) ≡ or_none (redb t) (m + sizes pre + i)
        go true e = let f : t ≡ 64 = eqb-true t 64 e in rw (e, regular f) (child_own t i f)
        go false e = rw e refl

    at_next : (i : ℕ) → i < size_of t → get_or (own_olds (m + sizes pre) (children k c t (point c))) i none ≡ or_none (redb t)
        (m + sizes pre + i)
    unfolding children size_of
    at_next i h = go (eqb t 0) refl
      where
        go : (z : Bool) → eqb t 0 ≡ z → get_or (own_olds (m + sizes pre) (children k c t (point c))) i none ≡ or_none (redb t)
            (m + sizes pre + i)
        go true e = let n : i < 0 = rw (e, size_of) at h in absurd (omega arith)
        go false e =
            let n : i < length (family (pattern_of t)) = rw (e, size_of) at h in
            rw (e, children) (from_own (m + sizes pre) k c (redb t) (point c) 0 (family (pattern_of t)) i n)

    family_own : olds_of m (pre ++ (t ∷ post)) t (or_none c.regular (length pre)) ≡ own_olds (m + sizes pre) (children k c t (point c))
    unfolding ss o
    family_own =
        ext_get_or none (olds_of m ss t o) (own_olds (m + sizes pre) (children k c t (point c))) same
        (λ i h. let n : i < size_of t = omega (arith, length-olds_of m ss t o) in at i n ∙ sym (at_next i n))

-- One level up.
olds_own : (m : ℕ) (pre ts post : List ℕ) (cs : List (Cell Point)) → length cs ≡ length ts → Refined cs ts
    → olds_next m (pre ++ (ts ++ post)) ts (own_olds (length pre) cs) ≡ own_olds (m + sizes pre) (next (length pre) cs ts)
unfolding olds_next own_olds next
olds_own m pre [] post [] e w = refl
olds_own m pre [] post (c ∷ cs) e w = absurd (omega arith)
olds_own m pre (t ∷ ts) post [] e w = absurd (omega arith)
olds_own m pre (t ∷ ts) post (c ∷ cs) e w =
    let pre' = pre ++ (t ∷ []) in
    let a : pre ++ (t ∷ (ts ++ post)) ≡ pre' ++ (ts ++ post) = sym (append_assoc pre (t ∷ []) (ts ++ post)) in
    let n : suc (length pre) ≡ length pre' = omega (arith, length-append pre (t ∷ [])) in
    let z : m + sizes pre' ≡ m + sizes pre + size_of t = omega (arith, sizes_append pre (t ∷ []), sizes_one t) in
    let l : length (children (length pre) c t (point c)) ≡ size_of t = length-children (length pre) c t (point c) in
    let i : olds_next m (pre' ++ (ts ++ post)) ts (own_olds (length pre') cs) ≡ own_olds (m + sizes pre') (next (length pre') cs ts) = olds_own
    m pre' ts post cs (omega arith) w.1 in
    let f : olds_of m (pre ++ (t ∷ (ts ++ post))) t (or_none c.regular (length pre)) ≡ own_olds (m + sizes pre)
    (children (length pre) c t (point c)) =
    family_own m pre (ts ++ post) (length pre) c t w.0 in
    let g : olds_next m (pre ++ (t ∷ (ts ++ post))) ts (own_olds (suc (length pre)) cs)
    ≡ own_olds (m + sizes pre + length (children (length pre) c t (point c))) (next (suc (length pre)) cs ts) = rw (a, n, l, ← z) i in
    ap₂ ◌++◌ f g ∙ sym (own_append (m + sizes pre) (children (length pre) c t (point c)) (next (suc (length pre)) cs ts))

abbrev pub flags_in : List ℕ → List ℕ
flags_in ss = map (λ s. flag_of (redb s)) ss

zero_of : (t : ℕ) → ((t ≡ 0 → ⊥) → ⊥) → t ≡ 0
zero_of zero h = refl
zero_of (suc t) h = absurd (h (λ e. omega arith))

module _ (ss : List ℕ) (small : length ss ≤ 65535) where
  flag_at : (o : ℕ) → redb (get_or (flags_in ss) o 0) ≡ redb (get_or ss o 0)
  unfolding flag_of
  flag_at o = ap redb (ListN.get_or-map (λ s. flag_of (redb s)) ss o 0) ∙ flag_red (redb (get_or ss o 0))

  one_own : (pre post : List ℕ) (c : Cell Point) (t : ℕ) → ss ≡ pre ++ (t ∷ post) → Follows c t
      → redb (get_or (flags_in ss) (or_none c.regular (length pre)) 0) ≡ redb t
  unfolding or_none
  one_own pre post c t e w = flag_at (or_none c.regular (length pre)) ∙ go c.regular refl
    where
      go : (b : Bool) → c.regular ≡ b → redb (get_or ss (or_none c.regular (length pre)) 0) ≡ redb t
      go true f = rw (f, e, get_or-append_seam pre t post 0)
      go false f = rw (f, get_or-eq_default ss 0 small, zero_of t (λ z. not_both c.regular (is_true c.regular (w.regular z)) f))

  reds_own : (pre ts post : List ℕ) (cs : List (Cell Point)) → ss ≡ pre ++ (ts ++ post) → length cs ≡ length ts → Refined cs ts
      → reds_by (flags_in ss) (own_olds (length pre) cs) ≡ flags_in ts
  unfolding reds_by own_olds
  reds_own pre [] post [] e l w = refl
  reds_own pre [] post (c ∷ cs) e l w = absurd (omega arith)
  reds_own pre (t ∷ ts) post [] e l w = absurd (omega arith)
  reds_own pre (t ∷ ts) post (c ∷ cs) e l w =
      let pre' = pre ++ (t ∷ []) in
      let a : ss ≡ pre' ++ (ts ++ post) = e ∙ sym (append_assoc pre (t ∷ []) (ts ++ post)) in
      let n : suc (length pre) ≡ length pre' = omega (arith, length-append pre (t ∷ [])) in
      let i : reds_by (flags_in ss) (own_olds (length pre') cs) ≡ flags_in ts = reds_own pre' ts post cs a (omega arith) w.1 in
      ap₂ (λ (x : ℕ) (l : List ℕ). x ∷ l) (ap flag_of (one_own pre (ts ++ post) c t e w.0)) (rw n i)

pub red_edges_flags : (cs : List (Cell Point)) (ts : List ℕ) → red_edges [] cs (flags_in ts) ≡ red_edges [] cs ts
unfolding red_edges
red_edges_flags [] ts = refl
red_edges_flags (c ∷ cs) [] = refl
red_edges_flags (c ∷ cs) (t ∷ ts) = go (redb t) refl (red_edges_flags cs ts)
  where
    go : (b : Bool) → redb t ≡ b → red_edges [] cs (flags_in ts) ≡ red_edges [] cs ts → red_edges [] (c ∷ cs) (flags_in (t ∷ ts)) ≡ red_edges []
        (c ∷ cs) (t ∷ ts)
    go true e i = rw (e, flag_red true, red_edges) (ap (λ (l : List (Point × Point)). edges [] c ++ l) i)
    go false e i = rw (e, flag_red false, red_edges) i

closed_own : (es : List (Point × Point)) (cs : List (Cell Point)) (ts : List ℕ) → T (closed_from [] sameb es cs ts)
    → closed_by es cs (flags_in ts) ≡ ts
unfolding closed_from closed_by
closed_own es [] [] u = refl
closed_own es [] (t ∷ ts) u = absurd u
closed_own es (c ∷ cs) [] u = absurd u
closed_own es (c ∷ cs) (t ∷ ts) u =
    let s = status_of [] sameb es (redb t) c in
    let e : t ≡ s = eqb→eq t s (and_left (eqb t s) (closed_from [] sameb es cs ts) u) in
    ap₂ (λ (x : ℕ) (l : List ℕ). x ∷ l) (rw (flag_red (redb t)) (sym e))
    (closed_own es cs ts (and_right (eqb t s) (closed_from [] sameb es cs ts) u))

abbrev pub status_lists : List Level → List (List ℕ)
status_lists ls = map (λ (l : Level). l.statuses) ls

-- All levels, from the cells cs behind the front part of the table on.
module _ (m : ℕ) (ss : List ℕ) (small : length ss ≤ 65535) where
  module _ (pre rest : List ℕ) (cs : List (Cell Point)) (e : ss ≡ pre ++ rest) (counted : m + sizes pre ≡ length pre + length cs)
      (u : T (closed_from [] sameb (red_edges [] cs (take (length cs) rest)) cs (take (length cs) rest))) where
    ts : List ℕ
    ts = take (length cs) rest

    post : List ℕ
    post = drop (length cs) rest

    whole : ss ≡ pre ++ (ts ++ post)
    unfolding ts post
    whole = e ∙ ap (λ (l : List ℕ). pre ++ l) (sym (take-append-drop (length cs) rest))

    many : length cs ≡ length ts
    unfolding ts
    many = sym (closed_many (red_edges [] cs ts) cs ts u)

    refined : Refined cs ts
    unfolding ts
    refined = closed_follows [] sameb (red_edges [] cs ts) cs ts u

    statuses_own : statuses_by (flags_in ss) cs (own_olds (length pre) cs) ≡ take (length cs) rest
    unfolding statuses_by ts
    statuses_own = rw (reds_own ss small pre ts post cs whole many refined, red_edges_flags cs ts) (closed_own (red_edges [] cs ts) cs ts u)

    next_own : olds_next m ss (take (length cs) rest) (own_olds (length pre) cs) ≡ own_olds (length pre + length cs)
        (next (length pre) cs (take (length cs) rest))
    unfolding ts
    next_own =
        ap (λ (l : List ℕ). olds_next m l ts (own_olds (length pre) cs)) whole ∙ olds_own m pre ts post cs many refined
        ∙ ap (λ (x : ℕ). own_olds x (next (length pre) cs ts)) counted

    abbrev front : List ℕ
    front = pre ++ take (length cs) rest

    front_long : length front ≡ length pre + length cs
    unfolding ts
    front_long = length-append pre (take (length cs) rest) ∙ omega (arith, many)

    front_whole : ss ≡ front ++ drop (length cs) rest
    unfolding ts post
    front_whole = whole ∙ sym (append_assoc pre (take (length cs) rest) (drop (length cs) rest))

    front_counted : m + sizes front ≡ length front + length (next (length pre) cs (take (length cs) rest))
    unfolding ts
    front_counted = omega (
      arith,
      counted,
      front_long,
      sizes_append pre (take (length cs) rest),
      length-next (length pre) cs
          (take (length cs) rest) many,
    )

  pub grow_own : (h k : ℕ) (pre rest : List ℕ) (cs : List (Cell Point)) → length pre ≡ k → ss ≡ pre ++ rest
      → m + sizes pre ≡ length pre + length cs
      → T (allb closedb (levels h k cs rest)) → grow_by m ss (flags_in ss) h k cs (own_olds k cs) ≡ status_lists (levels h k cs rest)
  unfolding grow_by levels allb closedb
  grow_own zero k pre rest cs a e n u = refl
  grow_own (suc h) k pre rest [] a e n u = refl
  grow_own (suc h) k pre rest (c ∷ cs) a e n u =
      let cs' = c ∷ cs in
      let ts = take (length cs') rest in
      let os = own_olds k cs' in
      let k' = k + length cs' in
      let l : Level = record { first = k; cells = cs'; statuses = ts } in
      let up : List Level = levels h k' (next k cs' ts) (drop (length cs') rest) in
      let v : T (closed_from [] sameb (red_edges [] cs' ts) cs' ts) = and_left (closedb l) (allb closedb up) u in
      let w : T (allb closedb up) = and_right (closedb l) (allb closedb up) u in
      let x : statuses_by (flags_in ss) cs' os ≡ ts = rw (← a) (statuses_own pre rest cs' e n v) in
      let y : olds_next m ss ts os ≡ own_olds k' (next k cs' ts) = rw (← a) (next_own pre rest cs' e n v) in
      let b : length (front pre rest cs' e n v) ≡ k' = rw (← a) (front_long pre rest cs' e n v) in
      let z : m + sizes (front pre rest cs' e n v) ≡ length (front pre rest cs' e n v) + length (next k cs' ts) = rw (← a)
      (front_counted pre rest cs' e n v) in
      let i : grow_by m ss (flags_in ss) h k' (next k cs' ts) (own_olds k' (next k cs' ts)) ≡ status_lists up =
      grow_own h k' (front pre rest cs' e n v) (drop (length cs') rest) (next k cs' ts) b (front_whole pre rest cs' e n v) z w in
      ap (λ (t : List ℕ). t ∷ grow_by m ss (flags_in ss) h k' (next k cs' t) (olds_next m ss t os)) x
      ∙ ap (λ (o : List ℕ). ts ∷ grow_by m ss (flags_in ss) h k' (next k cs' ts) o) y
      ∙ ap (λ (q : List (List ℕ)). ts ∷ q) i
