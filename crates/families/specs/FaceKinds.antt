-- What holds of every family's children and their faces, by computed tests (Digits).
--   Inside ds f     f uses every corner, and two children of ds have it
--   OnSide ds f     f uses the corners of one face and lies on it, and one child of ds has it
--   Present p x     x is a corner's digit, or lies on an edge that p splits
--   midb f          some digit of f is a midpoint
-- Laws: face_kind (each face of a child is one or the other), transfer (a face's triangle is there as often as its split edges say),
-- family_present (the digits of children), whole_face (a face with no split edge is whole in one child), red_whole (a red child uses every
-- corner, and is there once), pattern_sum (a pattern by its edges), family_leaf (the pattern 0 leaves the cell whole), inside_mid, red_mid
-- (a face inside and a red child have a midpoint).
use Rattle.std.specs.Prelude.{◌≡◌, ◌⊎◌, Bool, true, false, ◌&&◌, ◌||◌, not, List, [], ◌∷◌, map, ℕ, ◌+◌, ◌*◌, ◌<◌, T, eqb, ltb, length, get_or}
use Rattle.std.proofs.Common.{sym, ◌∙◌, inl, inr, ⊎_elim, arith, eqb→eq, ltb→lt, ne_eqb}
use Rattle.base.specs.Lists.{allb, anyb, filterb, belowb, belowb_at, allb_at, memberb, sameb, sameb_eq}
use Rattle.base.specs.Bools.{impb, one_if, impb_use, and_left, and_right, or_either, and_both}
use Rattle.cutting.specs.Rule.{low, high, digit, edge_of, split, family}
use Rattle.cutting.specs.Rows.{family_rows, row}
use Rattle.cutting.proofs.Rows.{family_row}
use Rattle.base.specs.Every.{All, all_of, below_at, any_place}
use Rattle.families.specs.Kuhn.{reds, family_red}
use Rattle.families.specs.Digits.{corners_at, lift, digit_triples, without, usesb, holds, insideb, side_part, sideb, alike, transferb}
use Rattle.families.specs.Digits.{kind_test, transfer_test}

pub record Inside (ds : List (List ℕ)) (f : List ℕ) : Type 0 where
  pub uses : (m : ℕ) → m < 4 → T (usesb f m)
  pub twice : holds ds f ≡ 2

pub record OnSide (ds : List (List ℕ)) (f : List ℕ) : Type 0 where
  pub z : ℕ
  pub face : z < 4
  -- the triangle, by its number among the triples
  pub t : ℕ
  pub below : t < 20
  pub is : f ≡ map (lift (corners_at z)) (get_or digit_triples t [])
  pub uses : T (allb (usesb f) (corners_at z))
  pub once : holds ds f ≡ 1

module _ (ds : List (List ℕ)) (f : List ℕ) where
  inside_of : T (insideb ds f) → Inside ds f
  inside_of w =
      record {
        uses = λ m h. belowb_at (usesb f) 4 (and_left (belowb (usesb f) 4) (eqb (holds ds f) 2) w) m h;
        twice = eqb→eq (holds ds f) 2 (and_right (belowb (usesb f) 4) (eqb (holds ds f) 2) w);
      }

  side_part_lem : (z t : ℕ) → z < 4 → t < 20 → T (side_part ds f z (get_or digit_triples t [])) → OnSide ds f
  side_part_lem z t hz ht w =
      let s = get_or digit_triples t [] in
      let a = and_left (sameb f (map (lift (corners_at z)) s)) (allb (usesb f) (corners_at z) && eqb (holds ds f) 1) w in
      let b = and_right (sameb f (map (lift (corners_at z)) s)) (allb (usesb f) (corners_at z) && eqb (holds ds f) 1) w in
      record {
        z = z;
        face = hz;
        t = t;
        below = ht;
        is = sameb_eq f (map (lift (corners_at z)) s) a;
        uses = and_left (allb (usesb f) (corners_at z)) (eqb (holds ds f) 1) b;
        once = eqb→eq (holds ds f) 1 (and_right (allb (usesb f) (corners_at z)) (eqb (holds ds f) 1) b);
      }

  four : (z : ℕ) → z < 4 → get_or (0 ∷ 1 ∷ 2 ∷ 3 ∷ []) z 0 ≡ z
  four = below_at (λ z. get_or (0 ∷ 1 ∷ 2 ∷ 3 ∷ []) z 0 ≡ z) 4 (omega arith)

  side_of : T (sideb ds f) → OnSide ds f
  side_of w =
      let (z, hz, v) = any_place (λ z. anyb (side_part ds f z) digit_triples) 0 (0 ∷ 1 ∷ 2 ∷ 3 ∷ []) w in
      let v' : T (anyb (side_part ds f z) digit_triples) = rw (four z hz) at v in
      let (t, ht, x) = any_place (side_part ds f z) [] digit_triples v' in
      side_part_lem z t hz ht x

abbrev kindb : List (List ℕ) → List ℕ → Bool
kindb ds d = belowb (λ i. insideb ds (without d i) || sideb ds (without d i)) 4

pub face_kind : (p k i : ℕ) → p < 64 → k < length (family p) → i < 4
    → Inside (family p) (without (get_or (family p) k []) i) ⊎ OnSide (family p) (without (get_or (family p) k []) i)
face_kind p k i hp hk hi =
    let ds = family p in
    let d = get_or ds k [] in
    let w : T (allb (kindb ds) ds) = rw (family_row p hp) (belowb_at (λ p. allb (kindb (row p)) (row p)) 64 kind_test p hp) in
    let v : T (insideb ds (without d i) || sideb ds (without d i)) = belowb_at (λ i. insideb ds (without d i) || sideb ds (without d i)) 4
    (allb_at (kindb ds) [] ds w k hk) i hi in
    ⊎_elim (λ (x : T (insideb ds (without d i))). inl (inside_of ds (without d i) x))
    (λ (x : T (sideb ds (without d i))). inr (side_of ds (without d i) x))
    (or_either (insideb ds (without d i)) (sideb ds (without d i)) v)

pub transfer : (p z t : ℕ) → p < 64 → z < 4 → t < 20
    → holds (family p) (map (lift (corners_at z)) (get_or digit_triples t [])) ≡ holds (row (alike p (corners_at z)))
    (map (lift (corners_at 3)) (get_or digit_triples t []))
transfer p z t hp hz ht =
    let s = get_or digit_triples t [] in
    let w : T (transferb p z s) = allb_at (transferb p z) [] digit_triples
    (belowb_at (λ z. allb (transferb p z) digit_triples) 4
    (belowb_at (λ p. belowb (λ z. allb (transferb p z) digit_triples) 4) 64 transfer_test p hp) z hz) t ht in
    rw (family_row p hp) (eqb→eq (holds (row p) (map (lift (corners_at z)) s))
    (holds (row (alike p (corners_at z))) (map (lift (corners_at 3)) s)) w)

-- digits of children
abbrev presentb : ℕ → ℕ → Bool
presentb p x = ltb x 10 && (eqb (low x) (high x) || split p (edge_of x))

present_test : T (belowb (λ p. allb (allb (presentb p)) (row p)) 64)
unfolding belowb allb low high edge_of split row family_rows
present_test = tt

pub record Present (p x : ℕ) : Type 0 where
  pub small : x < 10
  pub on : (low x ≡ high x) ⊎ T (split p (edge_of x))

present_of : (p x : ℕ) → T (presentb p x) → Present p x
present_of p x t =
    let w = and_right (ltb x 10) (eqb (low x) (high x) || split p (edge_of x)) t in
    record {
      small = ltb→lt x 10 (and_left (ltb x 10) (eqb (low x) (high x) || split p (edge_of x)) t);
      on = ⊎_elim (λ (u : T (eqb (low x) (high x))). inl (eqb→eq (low x) (high x) u)) (λ (u : T (split p (edge_of x))). inr u)
          (or_either (eqb (low x) (high x)) (split p (edge_of x)) w);
    }

pub family_present : (p : ℕ) → p < 64 → All (All (Present p)) (family p)
family_present p hp =
    rw (family_row p hp) (all_of (All (Present p)) (allb (presentb p)) (λ d t. all_of (Present p) (presentb p) (present_of p) d t) (row p)
    (belowb_at (λ p. allb (allb (presentb p)) (row p)) 64 present_test p hp))

-- a face with no split edge
abbrev apartb : ℕ → ℕ → ℕ → ℕ → Bool
apartb p a b c =
    (not (eqb a b) && (not (eqb a c) && not (eqb b c)))
    && (not (split p (edge_of (digit a b))) && (not (split p (edge_of (digit a c))) && not (split p (edge_of (digit b c)))))

abbrev wholeb : ℕ → ℕ → ℕ → ℕ → Bool
wholeb p a b c = impb (apartb p a b c) (eqb (holds (row p) (digit a a ∷ digit b b ∷ digit c c ∷ [])) 1)

whole_test : T (belowb (λ p. belowb (λ a. belowb (λ b. belowb (λ c. wholeb p a b c) 4) 4) 4) 64)
unfolding belowb impb digit edge_of split holds allb memberb one_if row family_rows
whole_test = tt

pub whole_face : (p a b c : ℕ) → p < 64 → a < 4 → b < 4 → c < 4 → (a ≡ b → ⊥) → (a ≡ c → ⊥) → (b ≡ c → ⊥)
    → split p (edge_of (digit a b)) ≡ false → split p (edge_of (digit a c)) ≡ false → split p (edge_of (digit b c)) ≡ false
    → holds (family p) (digit a a ∷ digit b b ∷ digit c c ∷ []) ≡ 1
whole_face p a b c hp ha hb hc ab ac bc x y z =
    let w : T (wholeb p a b c) =
    belowb_at (λ c. wholeb p a b c) 4
    (belowb_at (λ b. belowb (λ c. wholeb p a b c) 4) 4 (belowb_at (λ a. belowb (λ b. belowb (λ c. wholeb p a b c) 4) 4) 4
    (belowb_at (λ p. belowb (λ a. belowb (λ b. belowb (λ c. wholeb p a b c) 4) 4) 4) 64 whole_test p hp) a ha) b hb) c hc in
    rw (family_row p hp) (eqb→eq (holds (row p) (digit a a ∷ digit b b ∷ digit c c ∷ [])) 1
    (impb_use (apartb p a b c) (eqb (holds (row p) (digit a a ∷ digit b b ∷ digit c c ∷ [])) 1) w
    (rw (ne_eqb a b ab, ne_eqb a c ac, ne_eqb b c bc, x, y, z) tt)))

-- red children
abbrev redb : List ℕ → Bool
redb d = belowb (usesb d) 4 && eqb (holds reds d) 1

red_test : T (allb redb reds)
unfolding belowb allb anyb low high holds memberb one_if
red_test = tt

pub red_whole : (k : ℕ) → k < length (family 63) → ((m : ℕ) → m < 4 → T (usesb (get_or (family 63) k []) m))
    × (holds (family 63) (get_or (family 63) k []) ≡ 1)
red_whole k h =
    let h' : k < length reds = rw family_red at h in
    let d = get_or reds k [] in
    let w : T (redb d) = allb_at redb [] reds red_test k h' in
    rw family_red (
      λ m g. belowb_at (usesb d) 4 (and_left (belowb (usesb d) 4) (eqb (holds reds d) 1) w) m g,
      eqb→eq (holds reds d) 1
          (and_right (belowb (usesb d) 4) (eqb (holds reds d) 1) w),
    )

-- a pattern by its edges
abbrev bit : ℕ → ℕ → ℕ
bit p y = one_if (split p y)

abbrev sum_of : ℕ → ℕ
sum_of p = bit p 0 + (2 * bit p 1 + (4 * bit p 2 + (8 * bit p 3 + (16 * bit p 4 + 32 * bit p 5))))

sum_test : T (belowb (λ p. eqb p (sum_of p)) 64)
unfolding belowb split one_if
sum_test = tt

pub pattern_sum : (p q : ℕ) → p < 64 → q < 64 → ((y : ℕ) → y < 6 → split p y ≡ split q y) → p ≡ q
pattern_sum p q hp hq e =
    let a = eqb→eq p (sum_of p) (belowb_at (λ p. eqb p (sum_of p)) 64 sum_test p hp) in
    let b = eqb→eq q (sum_of q) (belowb_at (λ p. eqb p (sum_of p)) 64 sum_test q hq) in
    a ∙ rw (e 0 (omega arith), e 1 (omega arith), e 2 (omega arith), e 3 (omega arith), e 4 (omega arith), e 5 (omega arith)) (sym b)

pub family_leaf : family 0 ≡ (0 ∷ 4 ∷ 7 ∷ 9 ∷ []) ∷ []
unfolding row family_rows
family_leaf = family_row 0 (omega arith)

-- a face inside, and a red child, have a midpoint among their points
abbrev pub midb : List ℕ → Bool
midb f = anyb (λ x. ltb (low x) (high x)) f

inside_mid_test : T (belowb (λ p. allb (λ d. belowb (λ i. impb (belowb (usesb (without d i)) 4) (midb (without d i))) 4) (row p)) 64)
unfolding belowb allb anyb filterb impb low high row family_rows
inside_mid_test = tt

pub inside_mid : (p k i : ℕ) → p < 64 → k < length (family p) → i < 4 → Inside (family p) (without (get_or (family p) k []) i)
    → T (midb (without (get_or (family p) k []) i))
unfolding belowb
inside_mid p k i hp hk hi o =
    let ds = family p in
    let d = get_or ds k [] in
    let w : T (allb (λ d. belowb (λ i. impb (belowb (usesb (without d i)) 4) (midb (without d i))) 4) ds) =
    rw (family_row p hp) (belowb_at (λ p. allb (λ d. belowb (λ i. impb (belowb (usesb (without d i)) 4) (midb (without d i))) 4) (row p)) 64
    inside_mid_test p hp) in
    let v = belowb_at (λ i. impb (belowb (usesb (without d i)) 4) (midb (without d i))) 4
    (allb_at (λ d. belowb (λ i. impb (belowb (usesb (without d i)) 4) (midb (without d i))) 4) [] ds w k hk) i hi in
    impb_use (belowb (usesb (without d i)) 4) (midb (without d i)) v
    (four_below (usesb (without d i)) (o.uses 0 (omega arith)) (o.uses 1 (omega arith)) (o.uses 2 (omega arith))
    (o.uses 3 (omega arith)))
  where
    four_below : (t : ℕ → Bool) → T (t 0) → T (t 1) → T (t 2) → T (t 3) → T (belowb t 4)
    four_below t a b c d = and_both (((true && t 0) && t 1) && t 2) (t 3)
        (and_both ((true && t 0) && t 1) (t 2) (and_both (true && t 0) (t 1) a b) c) d

red_mid_test : T (allb midb reds)
unfolding allb anyb low high
red_mid_test = tt

pub red_mid : (k : ℕ) → k < length (family 63) → T (midb (get_or (family 63) k []))
red_mid k h = let h' : k < length reds = rw family_red at h in rw family_red (allb_at midb [] reds red_mid_test k h')
