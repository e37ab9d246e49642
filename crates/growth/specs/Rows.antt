-- The rows of all children of a level, in cell order.
--   rows_all l n es k cs ss   the rows, on level l, of the families of the cells cs, numbered from k, with statuses ss, where
--                            the corners behind the n coarse ones have the ends es
-- Laws: rows_next (they are the rows of the cells one level up), length-rows_of, rows_snoc (one cell more).
use Rattle.std.proofs.Math.Path.{◌≡◌, refl, sym, ap₂, fun_ext}
use Rattle.std.proofs.Common.{◌∙◌, ap, add-zero, arith, leb→le}
use Rattle.std.specs.Prelude.{Bool, leb}
use Rattle.std.proofs.Math.Bool.{true, false}
use mathlib.Core.List.{List, [], ◌∷◌, ◌++◌, map, flat_map, append_assoc, append-nil}
use Prim.Native.Nat.{ℕ, suc, ◌+◌, ◌*◌, pred, ◌≤◌}
use Rattle.std.proofs.Math.Dec.{T, eqb, eqb→eq}
use Rattle.std.proofs.Math.ListN.{length, length-append}
use Rattle.std.proofs.lemmas.List.{length-map}
use Rattle.base.specs.Lists.{allb}
use Rattle.base.specs.Bools.{and_left, and_right}
use Rattle.cutting.specs.Rule.{family}
use Rattle.cutting.proofs.Rows.{family_fours}
use Rattle.mesh.specs.Cells.{Cell, redb, pattern_of, children, children_from}
use Rattle.mesh.specs.Layout.{child_number, row_of}
use Rattle.edges.specs.Pairs.{Pair}
use Rattle.rows.specs.Numbered.{point_at, next_of, child_rows, rows_of}
use Rattle.mesh.specs.Table.{size_of, sizes}
use Rattle.mesh.specs.Laws.{pattern_below}

-- Rules 3.2, 9.2: the rows of a level's families.
unfoldable pub rows_all : ℕ → ℕ → List Pair → ℕ → List (Cell ℕ) → List ℕ → List ℕ
unfolding rows_of point_at
rows_all l n es k [] ss = []
rows_all l n es k (c ∷ cs) [] = []
rows_all l n es k (c ∷ cs) (s ∷ ss) = rows_of l k s (point_at n es c) ++ rows_all l n es (suc k) cs ss

-- the child number of a path is its last
child_number_lem : (path : List ℕ) (i : ℕ) → 1 ≤ length path → child_number (path ++ (i ∷ [])) ≡ i
unfolding child_number
child_number_lem [] i h = absurd (omega arith)
child_number_lem (a ∷ []) i h = refl
child_number_lem (a ∷ b ∷ []) i h = refl
child_number_lem (a ∷ b ∷ c ∷ path) i h = child_number_lem (b ∷ c ∷ path) i (omega arith)

pub flat_append : (l m : List (Cell ℕ)) → flat_map row_of (l ++ m) ≡ flat_map row_of l ++ flat_map row_of m
unfolding flat_map
flat_append [] m = refl
flat_append (c ∷ l) m = rw (flat_append l m) (sym (append_assoc (row_of c) (flat_map row_of l) (flat_map row_of m)))

-- one family
module _ (l k : ℕ) (c : Cell ℕ) (deep : length c.path ≡ l) (up : 1 ≤ l) (f : ℕ → ℕ) where
  from_children : (r : Bool) (i : ℕ) (ds : List (List ℕ)) → child_rows l k r f i ds ≡ flat_map row_of (children_from k c r f i ds)
  unfolding child_rows children_from row_of flat_map
  from_children r i [] = refl
  from_children r i (d ∷ ds) =
      let e : pred (length (c.path ++ (i ∷ []))) ≡ l = omega (arith, length-append c.path (i ∷ [])) in
      rw (e, child_number_lem c.path i (omega arith), from_children r (suc i) ds)

  of_children : (s : ℕ) → rows_of l k s f ≡ flat_map row_of (children k c s f)
  unfolding rows_of children flat_map
  of_children s = go (eqb s 0) refl
    where
      go : (b : Bool) → eqb s 0 ≡ b → rows_of l k s f ≡ flat_map row_of (children k c s f)
      go true e = rw (e, rows_of, children)
      go false e = rw (e, rows_of, children) (from_children (redb s) 0 (family (pattern_of s)))

-- the number of a point goes by the cell's points alone
point_at_same : (n : ℕ) (es : List Pair) (c c' : Cell ℕ) → c.points ≡ c'.points → point_at n es c ≡ point_at n es c'
unfolding point_at
point_at_same n es c c' e = fun_ext at
  where
    at : (d : ℕ) → point_at n es c d ≡ point_at n es c' d
    at d = rw e

module _ (l n : ℕ) (es : List Pair) (up : 1 ≤ l) where
  pub rows_next : (k : ℕ) (cs cs' : List (Cell ℕ)) (ss : List ℕ) → map (λ c. c.points) cs ≡ map (λ c. c.points) cs'
      → T (allb (λ c. eqb (length c.path) l) cs') → rows_all l n es k cs ss ≡ flat_map row_of (next_of n es k cs' ss)
  unfolding rows_all next_of flat_map allb
  rows_next k [] [] ss e t = refl
  rows_next k [] (c' ∷ cs') ss e t = let z : ◌≡◌ {A = ℕ} 0 1 = cc in absurd (omega arith)
  rows_next k (c ∷ cs) [] ss e t = let z : ◌≡◌ {A = ℕ} 0 1 = cc in absurd (omega arith)
  rows_next k (c ∷ cs) (c' ∷ cs') [] e t = refl
  rows_next k (c ∷ cs) (c' ∷ cs') (s ∷ ss) e t =
      let deep : length c'.path ≡ l = eqb→eq (length c'.path) l
      (and_left (eqb (length c'.path) l) (allb (λ c. eqb (length c.path) l) cs') t) in
      let rest : T (allb (λ c. eqb (length c.path) l) cs') = and_right (eqb (length c'.path) l)
      (allb (λ c. eqb (length c.path) l) cs') t in
      let p : c.points ≡ c'.points = cc in
      let q : map (λ c. c.points) cs ≡ map (λ c. c.points) cs' = cc in
      ap₂ ◌++◌ (ap (rows_of l k s) (point_at_same n es c c' p) ∙ of_children l k c' deep up (point_at n es c') s)
      (rows_next (suc k) cs cs' ss q rest)
      ∙ sym (flat_append (children k c' s (point_at n es c')) (next_of n es (suc k) cs' ss))

-- eight numbers a child
pub length-child_rows : (l k : ℕ) (r : Bool) (f : ℕ → ℕ) (i : ℕ) (ds : List (List ℕ)) → T (allb (λ c. eqb (length c) 4) ds)
    → length (child_rows l k r f i ds) ≡ 8 * length ds
unfolding child_rows allb
length-child_rows l k r f i [] t = refl
length-child_rows l k r f i (d ∷ ds) t =
    let e : length d ≡ 4 = eqb→eq (length d) 4 (and_left (eqb (length d) 4) (allb (λ c. eqb (length c) 4) ds) t) in
    let h = length-child_rows l k r f (suc i) ds (and_right (eqb (length d) 4) (allb (λ c. eqb (length c) 4) ds) t) in
    simp (length-append, length-map) (omega arith)

length-family : (l k : ℕ) (f : ℕ → ℕ) (s : ℕ) → s ≤ 64 → length (rows_of l k s f) ≡ 8 * size_of s
unfolding rows_of size_of
length-family l k f s h = go (eqb s 0) refl
  where
    go : (b : Bool) → eqb s 0 ≡ b → length (rows_of l k s f) ≡ 8 * size_of s
    go true e = rw (e, rows_of, size_of)
    go false e = rw (e, rows_of, size_of)
        (length-child_rows l k (redb s) f 0 (family (pattern_of s)) (family_fours (pattern_of s) (pattern_below s h)))

pub length-rows_of : (l n : ℕ) (es : List Pair) (k : ℕ) (cs : List (Cell ℕ)) (ss : List ℕ) → length cs ≡ length ss
    → T (allb (λ s. leb s 64) ss)
    → length (rows_all l n es k cs ss) ≡ 8 * sizes ss
unfolding rows_all sizes allb
length-rows_of l n es k [] [] e t = refl
length-rows_of l n es k [] (s ∷ ss) e t = absurd (omega arith)
length-rows_of l n es k (c ∷ cs) [] e t = absurd (omega arith)
length-rows_of l n es k (c ∷ cs) (s ∷ ss) e t =
    let h : s ≤ 64 = leb→le s 64 (and_left (leb s 64) (allb (λ s. leb s 64) ss) t) in
    omega (
      arith,
      length-append (rows_of l k s (point_at n es c)) (rows_all l n es (suc k) cs ss),
      length-family l k (point_at n es c) s h,
      length-rows_of l n es (suc k) cs ss (omega arith) (and_right (leb s 64) (allb (λ s. leb s 64) ss) t),
    )

-- one cell more
pub rows_snoc : (l n : ℕ) (es : List Pair) (k : ℕ) (cs : List (Cell ℕ)) (ss : List ℕ) (c : Cell ℕ) (s : ℕ) → length cs ≡ length ss
    → rows_all l n es k (cs ++ (c ∷ [])) (ss ++ (s ∷ [])) ≡ rows_all l n es k cs ss ++ rows_of l (k + length cs) s (point_at n es c)
unfolding rows_all
rows_snoc l n es k [] [] c s e = rw (add-zero, append-nil)
rows_snoc l n es k [] (t ∷ ss) c s e = absurd (omega arith)
rows_snoc l n es k (d ∷ cs) [] c s e = absurd (omega arith)
rows_snoc l n es k (d ∷ cs) (t ∷ ss) c s e =
    let w : k + suc (length cs) ≡ suc k + length cs = omega arith in
    rw (rows_snoc l n es (suc k) cs ss c s (omega arith), w)
    (sym (append_assoc (rows_of l k t (point_at n es d)) (rows_all l n es (suc k) cs ss) (rows_of l (suc k + length cs) s (point_at n es c))))

pub sizes_snoc : (ss : List ℕ) (s : ℕ) → sizes (ss ++ (s ∷ [])) ≡ sizes ss + size_of s
unfolding sizes
sizes_snoc [] s = omega arith
sizes_snoc (t ∷ ss) s = omega (arith, sizes_snoc ss s)
