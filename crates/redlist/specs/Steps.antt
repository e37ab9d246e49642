-- Inserting edges one after the other: how insertions go on, and what room they leave.
-- Assumes nothing.
use Rattle.std.specs.Prelude.{◌≡◌, refl, Bool, true, false, List, [], ◌∷◌, ◌++◌, ℕ, zero, suc, ◌+◌, ◌*◌, ◌-◌, ◌≤◌, ◌<◌, length, get_or, take, drop}
use Rattle.std.proofs.Math.Path.{sym}
use Rattle.std.proofs.Common.{◌∙◌, ap, append-nil, append_assoc, zero-add, length-append, take-append-drop, take-suc, take-take, eq-eqb, ne_eqb}
use native.Mathlib.Omega.{arith}
use Rattle.pairs.specs.declared.PairTable.{PairTable}
use Rattle.mesh.specs.Cells.{Cell, redb, edge, edges, red_edges}
use Rattle.base.specs.Bools.{one_if}
use Rattle.rows.specs.Numbered.{cell_at, cells_at, part}
use Rattle.edges.specs.Pairs.{Pair}
use Rattle.edges.specs.Table.{Space, Grown, grown_both}
use Rattle.redlist.specs.Ready.{red_of, red_count, count_one_lem}
use Rattle.rows.specs.Laws.{length-cells, length_part, part_more}

pub space_left : {N H : ℕ} {t : PairTable N H} {es : List Pair} {t' : PairTable N H} → Grown t es t' → (j k : ℕ) → Space t k
    → length es + j ≤ k → Space t' j
space_left g j k s h = record { small = omega (arith, s.small, g.most); inside = omega (arith, s.inside, g.most) }

-- the edges of a cell, one after the other
edge_at_lem : (c : Cell ℕ) (e : ℕ) → e < 6 → get_or (edges 0 c) e (0, 0) ≡ edge 0 c e
unfolding edges
edge_at_lem c zero h = refl
edge_at_lem c (suc zero) h = refl
edge_at_lem c (suc (suc zero)) h = refl
edge_at_lem c (suc (suc (suc zero))) h = refl
edge_at_lem c (suc (suc (suc (suc zero)))) h = refl
edge_at_lem c (suc (suc (suc (suc (suc zero))))) h = refl
edge_at_lem c (suc (suc (suc (suc (suc (suc e)))))) h = absurd (omega arith)

pub six : (c : Cell ℕ) → length (edges 0 c) ≡ 6
unfolding edges
six c = refl

next_edge : (c : Cell ℕ) (e : ℕ) → e < 6 → take (suc e) (edges 0 c) ≡ take e (edges 0 c) ++ (edge 0 c e ∷ [])
next_edge c e h = take-suc (edges 0 c) e (0, 0) (rw (six c) h) ∙ ap (λ (p : Pair). take e (edges 0 c) ++ (p ∷ [])) (edge_at_lem c e h)

pub all_edges : (c : Cell ℕ) → take 6 (edges 0 c) ≡ edges 0 c
unfolding edges
all_edges c = refl

-- the edges of a cell below e are inserted, and edge e: then those below e + 1 are
pub grown_edge : {N H : ℕ} {t t₁ t₂ : PairTable N H} (c : Cell ℕ) (e : ℕ) → e < 6 → Grown t (take e (edges 0 c)) t₁
    → Grown t₁ (edge 0 c e ∷ []) t₂ → Grown t (take (suc e) (edges 0 c)) t₂
grown_edge c e h g k = rw (next_edge c e h) (grown_both g k)

-- the red cells of a range, one cell more
red_snoc : (cs : List (Cell ℕ)) (ss : List ℕ) (c : Cell ℕ) (s : ℕ) → length cs ≡ length ss
    → red_edges 0 (cs ++ (c ∷ [])) (ss ++ (s ∷ [])) ≡ red_edges 0 cs ss ++ red_of s c
unfolding red_edges red_of
red_snoc [] [] c s e = go (redb s)
  where
    go : (b : Bool) → ◌≡◌ {A = List Pair} (elim b [ true ↦ edges 0 c ++ [] | false ↦ [] ]) (elim b [ true ↦ edges 0 c | false ↦ [] ])
    go true = append-nil (edges 0 c)
    go false = refl
red_snoc [] (t ∷ ss) c s e = absurd (omega arith)
red_snoc (d ∷ cs) [] c s e = absurd (omega arith)
red_snoc (d ∷ cs) (t ∷ ss) c s e = go (redb t) (red_snoc cs ss c s (omega arith))
  where
    go : (b : Bool) → red_edges 0 (cs ++ (c ∷ [])) (ss ++ (s ∷ [])) ≡ red_edges 0 cs ss ++ red_of s c
        → ◌≡◌ {A = List Pair} (elim b [
          | true ↦ edges 0 d ++ red_edges 0 (cs ++ (c ∷ [])) (ss ++ (s ∷ []))
          | false ↦ red_edges 0
              (cs ++ (c ∷ [])) (ss ++ (s ∷ []))
        ])
        (◌++◌ {A = Pair} (elim b [ true ↦ edges 0 d ++ red_edges 0 cs ss | false ↦ red_edges 0 cs ss ]) (red_of s c))
    go true i = rw i (sym (append_assoc (edges 0 d) (red_edges 0 cs ss) (red_of s c)))
    go false i = i

pub red_is : (s : ℕ) (c : Cell ℕ) → s ≡ 64 → red_of s c ≡ edges 0 c
unfolding red_of
red_is s c e = rw (eq-eqb s 64 e, red_of)

pub red_not : (s : ℕ) (c : Cell ℕ) → (s ≡ 64 → ⊥) → red_of s c ≡ []
unfolding red_of
red_not s c e = rw (ne_eqb s 64 e, red_of)

length-red : (s : ℕ) (c : Cell ℕ) → length (red_of s c) ≡ 6 * one_if (redb s)
unfolding red_of edges one_if
length-red s c = go (redb s)
  where
    go : (b : Bool) → length {A = Pair} (elim b [ true ↦ edges 0 c | false ↦ [] ]) ≡ 6 * one_if b
    go true = refl
    go false = refl

pub length-reds : (cs : List (Cell ℕ)) (ss : List ℕ) → length cs ≡ length ss → length (red_edges 0 cs ss) ≡ 6 * red_count ss
unfolding red_edges red_count
length-reds [] [] e = refl
length-reds [] (t ∷ ss) e = absurd (omega arith)
length-reds (d ∷ cs) [] e = absurd (omega arith)
length-reds (d ∷ cs) (t ∷ ss) e = go (redb t) (length-reds cs ss (omega arith))
  where
    go : (b : Bool) → length (red_edges 0 cs ss) ≡ 6 * red_count ss
        → length {A = Pair} (elim b [ true ↦ edges 0 d ++ red_edges 0 cs ss | false ↦ red_edges 0 cs ss ]) ≡ 6 * (one_if b + red_count ss)
    go true i = length-append (edges 0 d) (red_edges 0 cs ss) ∙ omega (arith, six d)
    go false i = i ∙ omega arith

pub count_append : (ss ts : List ℕ) → red_count (ss ++ ts) ≡ red_count ss + red_count ts
unfolding red_count
count_append [] ts = sym (zero-add (red_count ts))
count_append (s ∷ ss) ts = omega (arith, count_append ss ts)

module _ (t l : List ℕ) (first : ℕ) where
  reds_more : (m : ℕ) → first + m < length l
      → red_edges 0 (cells_at t first (suc m)) (part l first (suc m)) ≡ red_edges 0 (cells_at t first m) (part l first m) ++ red_of
      (get_or l (first + m) 0) (cell_at t (first + m))
  unfolding cells_at
  reds_more m h =
      rw (part_more l first m h)
      (red_snoc (cells_at t first m) (part l first m) (cell_at t (first + m)) (get_or l (first + m) 0)
      (length-cells t first m ∙ sym (length_part l first m (omega arith))))

  -- the red edges of the cells so far and the next one's are within those of the whole range
  reds_within : (m k : ℕ) → m < k → first + k ≤ length l
      → length (red_edges 0 (cells_at t first m) (part l first m)) + length (red_of (get_or l (first + m) 0) (cell_at t (first + m))) ≤ 6
      * red_count (part l first k)
  reds_within m k h g =
      let e : part l first k ≡ part l first (suc m) ++ drop (suc m) (part l first k) =
      sym (take-append-drop (suc m) (part l first k)) ∙ ap (λ (x : List ℕ). x ++ drop (suc m) (part l first k))
      (take-take (suc m) k (drop first l) (omega arith)) in
      omega (
        arith,
        ap red_count e ∙ count_append (part l first (suc m)) (drop (suc m) (part l first k)),
        ap red_count (part_more l first m (omega arith)) ∙ count_append (part l first m) (get_or l (first + m) 0 ∷ []),
        count_one_lem (get_or l (first + m) 0),
        length-red (get_or l (first + m) 0) (cell_at t (first + m)),
        length-reds (cells_at t first m) (part l first m) (length-cells t first m ∙ sym (length_part l first m (omega arith))),
      )

  -- the same by the cell's number
  module _ (c : ℕ) (h : first ≤ c) where
    pub reds_step : c < length l
        → red_edges 0 (cells_at t first (c + 1 - first)) (part l first (c + 1 - first)) ≡ red_edges 0 (cells_at t first (c - first))
        (part l first (c - first)) ++ red_of (get_or l c 0) (cell_at t c)
    reds_step g =
        let e : c + 1 - first ≡ suc (c - first) = omega arith in
        let w : first + (c - first) ≡ c = omega arith in
        rw e (rw w at (reds_more (c - first) (omega arith)))

    pub reds_fit : (last : ℕ) → c < last → last ≤ length l
        → length (red_edges 0 (cells_at t first (c - first)) (part l first (c - first))) + length (red_of (get_or l c 0) (cell_at t c)) ≤ 6
        * red_count (part l first (last - first))
    reds_fit last k g =
        let w : first + (c - first) ≡ c = omega arith in
        rw w at (reds_within (c - first) (last - first) (omega arith) (omega arith))

  pub none_yet : red_edges 0 (cells_at t first (first - first)) (part l first (first - first)) ≡ []
  unfolding red_edges cells_at
  none_yet = let e : first - first ≡ 0 = omega arith in rw e
