-- Laws of the definitions: what the counts of a mesh are, how many children lists of statuses make, how many coarse cells and coarse
-- corners there are, the middle of two points, patterns below 64, edges held by one of two lists, the first edges of a cell, how many cells
-- a sound table has, the numbers of the six edges. Of the answer to a mesh, which proofs take apart by these:
--   AcceptedMesh ps ts   what an accepted mesh passes, a field for each test
-- mesh_accepted (it passes them), mesh_code (an answer's number tells it), answer_1 to answer_5 and answer_0 (the answer from the tests in
-- their order).
use Rattle.std.specs.Prelude.{◌≡◌, refl, ℕ, ◌+◌, ◌%◌, suc, zero, ◌≤◌, ◌<◌, length, get_or, take, ℤ, Bool, true, false, ◌&&◌, ◌||◌, T, eqb, leb}
use Rattle.std.proofs.Common.{sym, ap, ap₂, ◌∙◌, zero-add, arith, length-append, take-suc, eqb→eq, leb→le, ne_eqb}
use mathlib.Core.List.{List, [], ◌∷◌, ◌++◌, zip_with}
use Rattle.std.proofs.Math.Decide.{dec_lt}
use Rattle.base.specs.Member.{Member}
use Rattle.base.specs.Every.{below_at}
use Rattle.base.specs.Limits.{most_levels, most_cells}
use Rattle.base.specs.Lists.{allb, belowb, belowb_at, memberb}
use Rattle.base.specs.Bools.{one_most, and_left, and_right}
use Rattle.base.specs.Append.{anyb_append}
use Rattle.base.specs.Fours.{fours}
use Rattle.base.specs.Refuse.{refuse, passed, code_of, answer_of}
use Rattle.base.specs.Answer.{Answer}
use Rattle.base.specs.Answer.{Accepted, Refused}
use Rattle.mesh.specs.Coarse.{coarse_corner_count, cell_count, countsb, positionsb, cellsb, solidb, singleb, mesh_answer}
use Rattle.mesh.specs.Table.{levels_of, cells_of, closedb, apartb, soundb, size_of, sizes}
use Rattle.mesh.specs.Layout.{coarse_corners_to, edge_numbers}
use Rattle.mesh.specs.Weights.{coarse_from, coarse_cells, Point, mid}
use Rattle.std.proofs.lemmas.Bool.{eqb-false}
use Rattle.mesh.specs.Cells.{Cell, edge, edges, bits_of, joinsb, heldb, pattern, pattern_of}

-- Rule 1.2: what a mesh that is not refused with 1 has.
pub record MeshCounts (ps : List ℤ) (ts : List ℕ) : Type 0 where
  pub threes : length ps % 3 ≡ 0
  pub fours : length ts % 4 ≡ 0
  pub corners_some : 4 ≤ coarse_corner_count ps
  pub corners_few : coarse_corner_count ps ≤ 512
  pub some : 1 ≤ cell_count ts
  pub few : cell_count ts ≤ 256

pub mesh_counts : (ps : List ℤ) (ts : List ℕ) → T (countsb ps ts) → MeshCounts ps ts
unfolding countsb
mesh_counts ps ts t = search (and_left, and_right, eqb→eq, leb→le)

-- Rule 12.5: what an accepted mesh passes, in the order of the refusals.
pub record AcceptedMesh (ps : List ℤ) (ts : List ℕ) : Type 0 where
  -- Rule 1.2, else 1: whole corners and cells, and how many.
  pub counts : T (countsb ps ts)
  -- Rule 1.3, else 2: no coordinate too far out.
  pub positions : T (positionsb ps)
  -- Rule 1.4, else 3: ascending numbers of corners that are there.
  pub cells : T (cellsb (coarse_corner_count ps) (fours ts))
  -- Rule 1.5, else 4: no cell is flat.
  pub solid : T (solidb ps (fours ts))
  -- Rule 1.6, else 5: no cell twice, no face in three cells.
  pub single : T (singleb (fours ts))

-- a refusal's number tells it, and so the answer's
coded : (n : ℕ) (b : Bool) (a : Answer) → a ≡ answer_of (code_of a) → refuse (suc n) b a ≡ answer_of (code_of (refuse (suc n) b a))
unfolding refuse code_of answer_of
coded n true a e = e
coded n false a e = refl

module _ (ps : List ℤ) (ts : List ℕ) where
  abbrev n : ℕ
  n = coarse_corner_count ps

  abbrev qs : List (List ℕ)
  qs = fours ts

  -- the answers from each test on
  abbrev five : Answer
  five = refuse 5 (singleb qs) Accepted

  abbrev four : Answer
  four = refuse 4 (solidb ps qs) five

  abbrev three : Answer
  three = refuse 3 (cellsb n qs) four

  abbrev two : Answer
  two = refuse 2 (positionsb ps) three

  pub mesh_accepted : mesh_answer ps ts ≡ Accepted → AcceptedMesh ps ts
  unfolding mesh_answer
  mesh_accepted e =
      let (a, p) = passed 1 (countsb ps ts) two e in
      let (b, q) = passed 2 (positionsb ps) three p in
      let (c, r) = passed 3 (cellsb n qs) four q in
      let (d, s) = passed 4 (solidb ps qs) five r in
      record { counts = a; positions = b; cells = c; solid = d; single = (passed 5 (singleb qs) Accepted s).0 }

  pub mesh_code : mesh_answer ps ts ≡ answer_of (code_of (mesh_answer ps ts))
  unfolding mesh_answer code_of answer_of
  mesh_code =
      coded 0 (countsb ps ts) two
      (coded 1 (positionsb ps) three (coded 2 (cellsb n qs) four (coded 3 (solidb ps qs) five (coded 4 (singleb qs) Accepted refl))))

  -- the answer, where the tests before are passed
  pub answer_1 : countsb ps ts ≡ false → Refused 1 ≡ mesh_answer ps ts
  unfolding mesh_answer
  answer_1 a = rw a

  module _ (a : countsb ps ts ≡ true) where
    pub answer_2 : positionsb ps ≡ false → Refused 2 ≡ mesh_answer ps ts
    unfolding mesh_answer
    answer_2 b = rw (a, b)

    module _ (b : positionsb ps ≡ true) where
      pub answer_3 : cellsb (coarse_corner_count ps) (fours ts) ≡ false → Refused 3 ≡ mesh_answer ps ts
      unfolding mesh_answer
      answer_3 c = rw (a, b, c)

      module _ (c : cellsb (coarse_corner_count ps) (fours ts) ≡ true) where
        pub answer_4 : solidb ps (fours ts) ≡ false → Refused 4 ≡ mesh_answer ps ts
        unfolding mesh_answer
        answer_4 d = rw (a, b, c, d)

        module _ (d : solidb ps (fours ts) ≡ true) where
          pub answer_5 : singleb (fours ts) ≡ false → Refused 5 ≡ mesh_answer ps ts
          unfolding mesh_answer
          answer_5 e = rw (a, b, c, d, e)

          pub answer_0 : singleb (fours ts) ≡ true → Accepted ≡ mesh_answer ps ts
          unfolding mesh_answer
          answer_0 e = rw (a, b, c, d, e)

pub sizes_append : (ss ts : List ℕ) → sizes (ss ++ ts) ≡ sizes ss + sizes ts
unfolding sizes
sizes_append [] ts = sym (zero-add (sizes ts))
sizes_append (s ∷ ss) ts = omega (arith, sizes_append ss ts)

pub sizes_one : (s : ℕ) → sizes (s ∷ []) ≡ size_of s
unfolding sizes
sizes_one s = omega arith

pub length_from : (n i : ℕ) (qs : List (List ℕ)) → length (coarse_from n i qs) ≡ length qs
unfolding coarse_from
length_from n i [] = refl
length_from n i (q ∷ qs) = ap suc (length_from n (suc i) qs)

pub length-coarse : (n : ℕ) (qs : List (List ℕ)) → length (coarse_cells n qs) ≡ length qs
unfolding coarse_cells
length-coarse n qs = length_from n 0 qs

pub length-corners : (n i : ℕ) → length (coarse_corners_to n i) ≡ i
unfolding coarse_corners_to
length-corners n zero = refl
length-corners n (suc i) = simp length-append (omega (arith, length-corners n i))

pub length-mid : (n : ℕ) (p q : Point) → length p ≡ n → length q ≡ n → length (mid p q) ≡ n
unfolding mid zip_with
length-mid n [] q e f = e
length-mid n (x ∷ p) [] e f = absurd (omega arith)
length-mid zero (x ∷ p) (y ∷ q) e f = absurd (omega arith)
length-mid (suc n) (x ∷ p) (y ∷ q) e f = ap suc (length-mid n p q (omega arith) (omega arith))

-- A point is the midpoint of itself and itself.
pub mid_self : (p : Point) → mid p p ≡ p
unfolding mid
mid_self [] = refl
mid_self (x ∷ p) = ap₂ ◌∷◌ (omega arith) (mid_self p)

pub pattern_below : (s : ℕ) → s ≤ 64 → pattern_of s < 64
unfolding pattern_of
pattern_below s h = go (eqb s 64) refl
  where
    go : (b : Bool) → eqb s 64 ≡ b → pattern_of s < 64
    go true e = rw (e, pattern_of) (omega arith)
    go false e = rw (e, pattern_of) (omega (arith, eqb-false s 64 e))

-- Rule 2.2: six tests give a pattern.
pub bits_small : (a b c d e f : Bool) → bits_of (a ∷ b ∷ c ∷ d ∷ e ∷ f ∷ []) < 64
unfolding bits_of
bits_small a b c d e f = omega (arith, one_most a, one_most b, one_most c, one_most d, one_most e, one_most f)

module _ {A : Type 0} (o : A) (same : A → A → Bool) (es : List (A × A)) where
  pub pattern_small : (c : Cell A) → pattern o same es c < 64
  unfolding pattern edges
  pattern_small c =
      bits_small (heldb same es (edge o c 0)) (heldb same es (edge o c 1)) (heldb same es (edge o c 2)) (heldb same es (edge o c 3))
      (heldb same es (edge o c 4)) (heldb same es (edge o c 5))

-- Rule 5.4: an edge of one list or of the other.
pub held_append : {A : Type 0} (same : A → A → Bool) (es fs : List (A × A)) (e : A × A)
    → heldb same (es ++ fs) e ≡ (heldb same es e || heldb same fs e)
unfolding heldb
held_append same es fs e = anyb_append (joinsb same e) es fs

-- Rule 2.1: one edge more.
pub edges_more : (e : ℕ) → e < 6 → take (suc e) edge_numbers ≡ take e edge_numbers ++ (e ∷ [])
unfolding belowb
edges_more e h =
    take-suc edge_numbers e 0 h
    ∙ ap (λ (x : ℕ). take e edge_numbers ++ (x ∷ []))
    (eqb→eq (get_or edge_numbers e 0) e (belowb_at (λ e. eqb (get_or edge_numbers e 0) e) 6 tt e h))

-- Rule 6.1: a sound table has as many statuses as cells.
pub sound_count : (n : ℕ) (qs : List (List ℕ)) (ss : List ℕ) → T (soundb n qs ss) → length ss ≡ length (cells_of (levels_of n qs ss))
unfolding soundb
sound_count n qs ss t =
    let ls = levels_of n qs ss in
    let cs = cells_of ls in
    let a = eqb (length ss) (length cs) in
    let b = leb (length ls) most_levels && leb (length cs) most_cells in
    eqb→eq (length ss) (length cs) (and_left a b (and_left (a && b) (allb closedb ls && apartb cs ss) t))

-- Rule 2.1: the six numbers.
pub below_six : (e : ℕ) → e < 6 → Member e edge_numbers
unfolding memberb
below_six e h = below_at (λ e. Member e edge_numbers) 6 ((((((tt, tt), tt), tt), tt), tt), tt) e h

pub six_below : (e : ℕ) → Member e edge_numbers → e < 6
unfolding memberb
six_below e m = elim (dec_lt e 6) [ yes h ↦ h | no h ↦ absurd (beyond h m) ]
  where
    beyond : (e < 6 → ⊥) → Member e edge_numbers → ⊥
    beyond h t =
        rw (
          ne_eqb e 0 (λ q. h (omega arith)),
          ne_eqb e 1 (λ q. h (omega arith)),
          ne_eqb e 2 (λ q. h (omega arith)),
          ne_eqb e 3 (λ q. h (omega arith)),
          ne_eqb e 4 (λ q. h (omega arith)),
          ne_eqb e 5 (λ q. h (omega arith)),
        ) at t
