-- What holds of every family (rules 2.6, 2.7), by one computed test over the 64 rows and a lemma for each fact. The statements speak of
-- `family` alone, so that a caller never looks at the table.
use Rattle.std.specs.Prelude.{◌≡◌, refl, ◌≢◌, Bool, true, false, ◌&&◌, ◌||◌, not, ℕ, zero, suc, ◌+◌, ◌*◌, ◌/◌, ◌%◌, ◌<◌, T, eqb, ltb, length, get_or, ℤ, pos, negsuc, nat_abs}
use Rattle.std.proofs.Common.{◌∙◌, sym, ap, eqb→eq, ltb→lt, ne_eqb}
use Rattle.std.specs.Bool.{beq}
use mathlib.Core.List.{List, [], ◌∷◌, foldr}
use Rattle.base.specs.Lists.{allb, belowb, memberb, samesb, samesb_eq, allb_at, belowb_at}
use Rattle.base.specs.Bools.{impb, is_true, is_false, and_left, and_right, impb_use}
use Rattle.base.specs.Fours.{holders}
use Rattle.cutting.specs.Rule.{digit, edge_of, split, present, volume, zerob, rise, family}
use Rattle.cutting.specs.Rows.{family_rows, row}
use Rattle.cutting.proofs.Rows.{family_row}
use Rattle.families.specs.Faces.{faces_of, on_faceb, innerb, joinedb, bits, side}

-- a test over every row, carried to the family of each pattern
every : (f : ℕ → List (List ℕ) → Bool) → T (belowb (λ p. f p (row p)) 64) → (p : ℕ) → p < 64 → T (f p (family p))
every f t p h = rw (family_row p h) (belowb_at (λ p. f p (row p)) 64 t p h)

zerob_not : (v : ℤ) → v ≢ pos 0 → zerob v ≡ false
unfolding zerob
zerob_not (pos zero) h = absurd (h refl)
zerob_not (pos (suc n)) h = refl
zerob_not (negsuc n) h = refl

nonzero : (v : ℤ) → T (not (zerob v)) → v ≢ pos 0
unfolding zerob
nonzero v t e = let z : T (not (zerob (pos 0))) = rw e at t in z

-- 1. Rules 2.6, 2.7: each child has four different present points in rising order and is not flat.
pub record ChildFacts (p : ℕ) (c : List ℕ) : Type 0 where
  pub four : length c ≡ 4
  pub rise01 : get_or c 0 0 < get_or c 1 0
  pub rise12 : get_or c 1 0 < get_or c 2 0
  pub rise23 : get_or c 2 0 < get_or c 3 0
  pub present : T (allb (λ d. memberb d (present p)) c)
  pub solid : volume (get_or c 0 0) (get_or c 1 0) (get_or c 2 0) (get_or c 3 0) ≢ pos 0

abbrev child_test : ℕ → List ℕ → Bool
child_test p c =
    eqb (length c) 4 && (ltb (get_or c 0 0) (get_or c 1 0) && (ltb (get_or c 1 0) (get_or c 2 0) && (ltb (get_or c 2 0) (get_or c 3 0)
    && (allb (λ d. memberb d (present p)) c && not (zerob (volume (get_or c 0 0) (get_or c 1 0) (get_or c 2 0) (get_or c 3 0)))))))

children_test : T (belowb (λ p. allb (child_test p) (row p)) 64)
unfolding belowb allb memberb present volume zerob row family_rows
children_test = tt

child_of_lem : (p : ℕ) (c : List ℕ) → T (child_test p c) → ChildFacts p c
child_of_lem p c t = search (and_left, and_right, eqb→eq, ltb→lt, nonzero)

pub child_at : (p k : ℕ) → p < 64 → k < length (family p) → ChildFacts p (get_or (family p) k [])
child_at p k h l = child_of_lem p (get_or (family p) k [])
    (allb_at (child_test p) [] (family p) (every (λ p f. allb (child_test p) f) children_test p h) k l)

-- 2. The children's volumes add up to the cell's: nothing is missing, nothing is there twice.
unfoldable pub volumes : List (List ℕ) → ℕ
unfolding volume
volumes f = foldr (λ c n. nat_abs (volume (get_or c 0 0) (get_or c 1 0) (get_or c 2 0) (get_or c 3 0)) + n) 0 f

volumes_test : T (belowb (λ p. eqb (volumes (row p)) (nat_abs (volume 0 4 7 9))) 64)
unfolding belowb volumes row family_rows
volumes_test = tt

pub volumes_add_up : (p : ℕ) → p < 64 → volumes (family p) ≡ nat_abs (volume 0 4 7 9)
volumes_add_up p h = eqb→eq (volumes (family p)) (nat_abs (volume 0 4 7 9))
    (every (λ p f. eqb (volumes f) (nat_abs (volume 0 4 7 9))) volumes_test p h)

-- 3, 4. A face of a child that lies on no face of the cell is in exactly two children; one that lies on a face of the cell
-- is in exactly one.
abbrev face_test : List (List ℕ) → List ℕ → Bool
face_test f t =
    let n = holders f t in
    impb (innerb t) (eqb n 2) && belowb (λ s. impb (on_faceb s t) (eqb n 1)) 4

faces_test : T (belowb (λ p. allb (face_test (row p)) (faces_of (row p))) 64)
unfolding belowb allb impb innerb on_faceb holders faces_of row family_rows
faces_test = tt

module _ (f : List (List ℕ)) (t : List ℕ) (r : T (face_test f t)) where
  inner_twice : T (innerb t) → holders f t ≡ 2
  inner_twice i = eqb→eq (holders f t) 2 (impb_use (innerb t) (eqb (holders f t) 2)
      (and_left (impb (innerb t) (eqb (holders f t) 2)) (belowb (λ n. impb (on_faceb n t) (eqb (holders f t) 1)) 4) r) i)

  side_once : (n : ℕ) → n < 4 → T (on_faceb n t) → holders f t ≡ 1
  side_once n g i = eqb→eq (holders f t) 1 (impb_use (on_faceb n t) (eqb (holders f t) 1)
      (belowb_at (λ n. impb (on_faceb n t) (eqb (holders f t) 1)) 4
      (and_right (impb (innerb t) (eqb (holders f t) 2)) (belowb (λ n. impb (on_faceb n t) (eqb (holders f t) 1)) 4) r) n g) i)

-- the k-th face of the family p
abbrev pub face_digits : ℕ → ℕ → List ℕ
face_digits p k = get_or (faces_of (family p)) k []

module _ (p k : ℕ) (h : p < 64) (l : k < length (faces_of (family p))) where
  face_right : T (face_test (family p) (face_digits p k))
  face_right = allb_at (face_test (family p)) [] (faces_of (family p)) (every (λ p f. allb (face_test f) (faces_of f)) faces_test p h) k l

  pub inner_face_twice : T (innerb (face_digits p k)) → holders (family p) (face_digits p k) ≡ 2
  inner_face_twice = inner_twice (family p) (face_digits p k) face_right

  pub side_face_once : (n : ℕ) → n < 4 → T (on_faceb n (face_digits p k)) → holders (family p) (face_digits p k) ≡ 1
  side_face_once = side_once (family p) (face_digits p k) face_right

-- 5. How a face of the cell is cut depends only on which of its own three edges are split: as face 3 with those bits is.
abbrev alike : ℕ → ℕ
alike b = b % 4 + 8 * (b / 4)

side_test : T (belowb (λ p. belowb (λ n. samesb (side (row p) n) (side (row (alike (bits p n))) 3) && ltb (alike (bits p n)) 64) 4) 64)
unfolding belowb samesb side bits row family_rows
side_test = tt

side_alike : (p n : ℕ) → p < 64 → n < 4 → side (family p) n ≡ side (row (alike (bits p n))) 3
side_alike p n h g =
    ap (λ (f : List (List ℕ)). side f n) (family_row p h)
    ∙ samesb_eq (side (row p) n) (side (row (alike (bits p n))) 3)
    (and_left (samesb (side (row p) n) (side (row (alike (bits p n))) 3)) (ltb (alike (bits p n)) 64)
    (belowb_at (λ n. samesb (side (row p) n) (side (row (alike (bits p n))) 3) && ltb (alike (bits p n)) 64) 4
    (belowb_at (λ p. belowb (λ n. samesb (side (row p) n) (side (row (alike (bits p n))) 3) && ltb (alike (bits p n)) 64) 4) 64 side_test p
    h) n g))

pub side_by_bits : (p q n m : ℕ) → p < 64 → q < 64 → n < 4 → m < 4 → bits p n ≡ bits q m → side (family p) n ≡ side (family q) m
side_by_bits p q n m hp hq hn hm e =
    side_alike p n hp hn ∙ ap (λ (b : ℕ). side (row (alike b)) 3) e ∙ sym (side_alike q m hq hm)

-- Rule 2.9: with two edges of a face split, the line starts at the lower end of the third: where x < y are the
-- corners of that edge and z is the third corner, from x to the midpoint of y and z, and not from y to that of x and z.
abbrev apart : ℕ → ℕ → ℕ → Bool
apart x y z = not (eqb x z) && not (eqb y z)

abbrev two_split : ℕ → ℕ → ℕ → ℕ → Bool
two_split p x y z = not (split p (edge_of (digit x y))) && (split p (edge_of (digit x z)) && split p (edge_of (digit y z)))

abbrev line_test : ℕ → List (List ℕ) → ℕ → ℕ → ℕ → Bool
line_test p f x y z =
    impb (apart x y z && two_split p x y z) (joinedb f (digit x x) (digit y z) && not (joinedb f (digit y y) (digit x z)))

abbrev lines_test : ℕ → List (List ℕ) → Bool
lines_test p f = belowb (λ y. belowb (λ x. belowb (λ z. line_test p f x y z) 4) y) 4

line_test_lem : T (belowb (λ p. lines_test p (row p)) 64)
unfolding belowb impb split edge_of digit joinedb row family_rows
line_test_lem = tt

line_right : (p x y z : ℕ) → p < 64 → x < y → y < 4 → z < 4 → T (line_test p (family p) x y z)
line_right p x y z h l m n =
    belowb_at (λ z. line_test p (family p) x y z) 4
    (belowb_at (λ x. belowb (λ z. line_test p (family p) x y z) 4) y
    (belowb_at (λ y. belowb (λ x. belowb (λ z. line_test p (family p) x y z) 4) y) 4 (every lines_test line_test_lem p h) y m) x l) z n

module _ (p x y z : ℕ) (h : p < 64) (l : x < y) (m : y < 4) (n : z < 4) (hx : x ≢ z) (hy : y ≢ z)
    (whole : split p (edge_of (digit x y)) ≡ false) (first : split p (edge_of (digit x z)) ≡ true)
    (second : split p (edge_of (digit y z)) ≡ true) where
  drawn : T (joinedb (family p) (digit x x) (digit y z) && not (joinedb (family p) (digit y y) (digit x z)))
  drawn =
      impb_use (apart x y z && two_split p x y z)
      (joinedb (family p) (digit x x) (digit y z) && not (joinedb (family p) (digit y y) (digit x z)))
      (line_right p x y z h l m n) (rw (ne_eqb x z hx, ne_eqb y z hy, whole, first, second) tt)

  pub line_from_lower : joinedb (family p) (digit x x) (digit y z) ≡ true
  line_from_lower = is_true (joinedb (family p) (digit x x) (digit y z))
      (and_left (joinedb (family p) (digit x x) (digit y z)) (not (joinedb (family p) (digit y y) (digit x z))) drawn)

  pub no_line_from_upper : joinedb (family p) (digit y y) (digit x z) ≡ false
  no_line_from_upper = is_false (joinedb (family p) (digit y y) (digit x z))
      (and_right (joinedb (family p) (digit x x) (digit y z)) (not (joinedb (family p) (digit y y) (digit x z))) drawn)

-- 6. Of a child's edges those between two corners are the cell's own, and they are the cell's unsplit edges: two corners
-- are joined in some child exactly where the edge between them is not split.
abbrev own_test : ℕ → List (List ℕ) → ℕ → ℕ → Bool
own_test p f i j = beq (joinedb f (digit i i) (digit j j)) (not (split p (edge_of (digit i j))))

abbrev owns_test : ℕ → List (List ℕ) → Bool
owns_test p f = belowb (λ j. belowb (λ i. own_test p f i j) j) 4

own_test_lem : T (belowb (λ p. owns_test p (row p)) 64)
unfolding belowb split edge_of digit joinedb row family_rows
own_test_lem = tt

beq_eq : (a b : Bool) → T (beq a b) → a ≡ b
beq_eq true true t = refl
beq_eq true false t = absurd t
beq_eq false true t = absurd t
beq_eq false false t = refl

pub own_edges : (p i j : ℕ) → p < 64 → i < j → j < 4 → joinedb (family p) (digit i i) (digit j j) ≡ not (split p (edge_of (digit i j)))
own_edges p i j h l m =
    beq_eq (joinedb (family p) (digit i i) (digit j j)) (not (split p (edge_of (digit i j))))
    (belowb_at (λ i. own_test p (family p) i j) j
    (belowb_at (λ j. belowb (λ i. own_test p (family p) i j) j) 4 (every owns_test own_test_lem p h) j m) i l)

-- 7. Rule 2.6: 0 never comes, of any four points not in one plane and any other point, whatever is present.
abbrev tie_test : ℕ → ℕ → ℕ → ℕ → ℕ → Bool
tie_test a b c d x = memberb x (a ∷ b ∷ c ∷ d ∷ []) || (zerob (volume a b c d) || not (zerob (rise a b c d x)))

tie_test_lem : T (belowb (λ d. belowb (λ c. belowb (λ b. belowb (λ a. belowb (tie_test a b c d) 10) b) c) d) 10)
unfolding belowb memberb zerob volume rise
tie_test_lem = tt

tie_right : (a b c d x : ℕ) → a < b → b < c → c < d → d < 10 → x < 10 → T (tie_test a b c d x)
tie_right a b c d x ha hb hc hd hx =
    belowb_at (tie_test a b c d) 10
    (belowb_at (λ a. belowb (tie_test a b c d) 10) b
    (belowb_at (λ b. belowb (λ a. belowb (tie_test a b c d) 10) b) c
    (belowb_at (λ c. belowb (λ b. belowb (λ a. belowb (tie_test a b c d) 10) b) c) d
    (belowb_at (λ d. belowb (λ c. belowb (λ b. belowb (λ a. belowb (tie_test a b c d) 10) b) c) d) 10 tie_test_lem d hd) c hc) b hb) a ha) x hx

pub no_tie : (a b c d x : ℕ) → a < b → b < c → c < d → d < 10 → x < 10 → memberb x (a ∷ b ∷ c ∷ d ∷ []) ≡ false → volume a b c d ≢ pos 0
    → rise a b c d x ≢ pos 0
no_tie a b c d x ha hb hc hd hx o v = nonzero (rise a b c d x)
    (rw (o, zerob_not (volume a b c d) v) at (tie_right a b c d x ha hb hc hd hx))
