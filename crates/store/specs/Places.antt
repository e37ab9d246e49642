-- A cell's place under its coarse cell, as three numbers.
--   place_level p         the level of a place
--   coarse_place c     the place of the coarse cell c; child_place p i that of the child i of the cell at p
--   place_of l         the place of the cell with the path l: its coarse cell, then child numbers down to it
--   eights n x        n digits of x to the base 8, the lowest first
--   path_of p          the path that a place stands for
-- Laws: place_child (one child number more), path_place (of a path that has room the place stands for it).
use Rattle.std.specs.Prelude.{◌≡◌, refl, true, false, List, [], ◌∷◌, ◌++◌, ℕ, zero, suc, ◌+◌, ◌-◌, ◌*◌, ◌/◌, ◌%◌, ◌^◌, ◌≤◌, ◌<◌, ltb, take, drop, replicate}
use Rattle.std.proofs.Common.{sym, ◌∙◌, ap, ap₂, append_assoc, append-nil, mul_left_comm, arith, pow-add, length-drop, drop_of_length-le, take-append-drop, take_all, length-take-le, lt-ltb, le-ltb}
use Rattle.std.proofs.Math.Decide.{dec_lt}
use Rattle.std.proofs.Math.Nat.{pow-le-pow_right}
use Rattle.std.proofs.Math.ListN.{length, length-append}
use Rattle.std.proofs.lemmas.List.{take-append-le, drop-append-le}
use Rattle.std.proofs.Math.Seq.{take-append_seam}
use Rattle.base.specs.Every.{All, all_append}
use Rattle.store.specs.declared.Place.{Place}

-- Rule 3.3.
abbrev pub place_level : Place → ℕ
place_level p = p.head / 256

-- Rule 3.3.
abbrev pub coarse_place : ℕ → Place
coarse_place c = record { head = c; digits = 0; more = 0 }

-- Rule 3.3: child numbers 1 to 5 stand in `digits`, 6 to 10 in `more`; an eleventh has no room
unfoldable pub child_place : Place → ℕ → Place
child_place p i =
    record {
      head = (p.head + 256) % 65536;
      digits = elim (ltb (place_level p) 5) [ true ↦ (p.digits + i * 2 ^ (3 * place_level p)) % 65536 | false ↦ p.digits ];
      more = elim (ltb (place_level p) 5) [
        | true ↦ p.more
        | false ↦ elim (ltb (place_level p) 10) [ true ↦ (p.more + i * 2 ^ (3 * (place_level p - 5))) % 65536 | false ↦ p.more ]
      ];
    }

unfoldable pub place_down : Place → List ℕ → Place
unfolding child_place
place_down p [] = p
place_down p (i ∷ l) = place_down (child_place p i) l

-- Rule 3.3.
unfoldable pub place_of : List ℕ → Place
unfolding place_down
place_of [] = coarse_place 0
place_of (c ∷ l) = place_down (coarse_place c) l

unfoldable pub eights : ℕ → ℕ → List ℕ
eights zero x = []
eights (suc n) x = x % 8 ∷ eights n (x / 8)

-- Rule 3.3.
unfoldable pub path_of : Place → List ℕ
unfolding eights
path_of p = p.head % 256 ∷ take (place_level p) (eights 5 p.digits ++ eights 5 p.more)

place_down_lem : (p : Place) (l : List ℕ) (i : ℕ) → place_down p (l ++ (i ∷ [])) ≡ child_place (place_down p l) i
unfolding place_down
place_down_lem p [] i = refl
place_down_lem p (j ∷ l) i = place_down_lem (child_place p j) l i

pub place_child : (c : ℕ) (l : List ℕ) (i : ℕ) → place_of ((c ∷ l) ++ (i ∷ [])) ≡ child_place (place_of (c ∷ l)) i
unfolding place_of
place_child c l i = place_down_lem (coarse_place c) l i

-- a path's child numbers as one number
eights_of : List ℕ → ℕ
eights_of [] = 0
eights_of (i ∷ l) = i + 8 * eights_of l

abbrev Small : List ℕ → Type 0
Small l = All (λ i. i < 8) l

pub eight_more : (n : ℕ) → 2 ^ (3 * suc n) ≡ 8 * 2 ^ (3 * n)
eight_more n = let z : 3 * suc n ≡ 3 + 3 * n = omega arith in rw z (pow-add 2 3 (3 * n))

of_below : (l : List ℕ) → Small l → eights_of l < 2 ^ (3 * length l)
unfolding eights_of
of_below [] a = omega arith
of_below (i ∷ l) a = let w = of_below l a.1 in let h : i < 8 = a.0 in omega (arith, eight_more (length l))

of_snoc : (l : List ℕ) (i : ℕ) → eights_of (l ++ (i ∷ [])) ≡ eights_of l + i * 2 ^ (3 * length l)
unfolding eights_of
of_snoc [] i = omega arith
of_snoc (j ∷ l) i =
    let z : i * 2 ^ (3 * suc (length l)) ≡ 8 * (i * 2 ^ (3 * length l)) =
    ap (λ (x : ℕ). i * x) (eight_more (length l)) ∙ mul_left_comm i 8 (2 ^ (3 * length l)) in
    omega (arith, of_snoc l i)

eights_of_lem : (n : ℕ) (l : List ℕ) → length l ≤ n → Small l → eights n (eights_of l) ≡ l ++ replicate (n - length l) 0
unfolding eights eights_of
eights_of_lem zero [] h a = refl
eights_of_lem zero (i ∷ l) h a = absurd (omega arith)
eights_of_lem (suc n) [] h a = let z : suc n - 0 ≡ suc (n - 0) = omega arith in rw z (ap (◌∷◌ 0) (eights_of_lem n [] (omega arith) tt))
eights_of_lem (suc n) (i ∷ l) h a =
    let low : i < 8 = a.0 in
    let e : (i + 8 * eights_of l) % 8 ≡ i = omega arith in
    let f : (i + 8 * eights_of l) / 8 ≡ eights_of l = omega arith in
    let z : suc n - suc (length l) ≡ n - length l = omega arith in
    rw (e, f, z) (ap (◌∷◌ i) (eights_of_lem n l (omega arith) a.1))

small-mod : (x : ℕ) → x < 65536 → x % 65536 ≡ x
small-mod x h = omega arith

all_take : (n : ℕ) (l : List ℕ) → Small l → Small (take n l)
all_take zero l a = tt
all_take (suc n) [] a = tt
all_take (suc n) (i ∷ l) a = (a.0, all_take n l a.1)

all_drop : (n : ℕ) (l : List ℕ) → Small l → Small (drop n l)
all_drop zero l a = a
all_drop (suc n) [] a = tt
all_drop (suc n) (i ∷ l) a = all_drop n l a.1

-- a place that stands for a path
record Stands (c : ℕ) (l : List ℕ) (p : Place) : Type 0 where
  pub head : p.head ≡ c + 256 * length l
  pub digits : p.digits ≡ eights_of (take 5 l)
  pub more : p.more ≡ eights_of (drop 5 l)
  pub small : Small l

path_is : (p : Place) → path_of p ≡ p.head % 256 ∷ take (place_level p) (eights 5 p.digits ++ eights 5 p.more)
unfolding path_of
path_is p = refl

digits_read : (l : List ℕ) → Small l → length l ≤ 10
    → take (length l) (eights 5 (eights_of (take 5 l)) ++ eights 5 (eights_of (drop 5 l))) ≡ l
digits_read l a g = elim (dec_lt 5 (length l)) [
  | yes k ↦
      let z : 5 - length (take 5 l) ≡ 0 = omega (arith, length-take-le 5 l (omega arith)) in
      let e : eights 5 (eights_of (take 5 l)) ≡ take 5 l =
      eights_of_lem 5 (take 5 l) (omega (arith, length-take-le 5 l (omega arith))) (all_take 5 l a)
      ∙ ap (λ (n : ℕ). take 5 l ++ replicate n 0) z ∙ append-nil (take 5 l) in
      let f : eights 5 (eights_of (drop 5 l)) ≡ drop 5 l ++ replicate (5 - length (drop 5 l)) 0 =
      eights_of_lem 5 (drop 5 l) (omega (arith, length-drop 5 l)) (all_drop 5 l a) in
      rw (e, f, ← append_assoc, take-append-drop 5 l) (take-append_seam l (replicate (5 - length (drop 5 l)) 0))
  | no k ↦
      let d : take 5 l ≡ l = take_all 5 l (omega arith) in
      let e : eights 5 (eights_of (take 5 l)) ≡ l ++ replicate (5 - length l) 0 =
      ap (λ (m : List ℕ). eights 5 (eights_of m)) d ∙ eights_of_lem 5 l (omega arith) a in
      rw (e, append_assoc) (take-append_seam l (replicate (5 - length l) 0 ++ eights 5 (eights_of (drop 5 l))))
]

module _ (c : ℕ) (low : c < 256) (l : List ℕ) (p : Place) (s : Stands c l p) where
  level : place_level p ≡ length l
  level = omega (arith, s.head)

  -- one child number more
  stands_child : (i : ℕ) → i < 8 → length l < 10 → Stands c (l ++ (i ∷ [])) (child_place p i)
  unfolding child_place
  stands_child i h g = elim (dec_lt (length l) 5) [ yes k ↦ short k | no k ↦ long (omega arith) ]
    where
      head_more : (p.head + 256) % 65536 ≡ c + 256 * length (l ++ (i ∷ []))
      head_more = omega (arith, s.head, length-append l (i ∷ []))

      below : (m : List ℕ) → Small m → length m < 5 → eights_of m + i * 2 ^ (3 * length m) < 65536
      below m a k =
          let v = of_below (m ++ (i ∷ [])) (all_append (λ i. i < 8) m (i ∷ []) a (h, tt)) in
          let u : 2 ^ (3 * length (m ++ (i ∷ []))) ≤ 2 ^ 15 =
          pow-le-pow_right (omega arith) {i = 3 * length (m ++ (i ∷ []))} {j = 15} (omega (arith, length-append m (i ∷ []))) in
          omega (arith, of_snoc m i)

      few : Small (l ++ (i ∷ []))
      few = all_append (λ i. i < 8) l (i ∷ []) s.small (h, tt)

      short : length l < 5 → Stands c (l ++ (i ∷ [])) (child_place p i)
      short k =
          let a : take 5 (l ++ (i ∷ [])) ≡ l ++ (i ∷ []) = take_all 5 (l ++ (i ∷ [])) (omega (arith, length-append l (i ∷ []))) in
          let b : drop 5 (l ++ (i ∷ [])) ≡ [] = drop_of_length-le (l ++ (i ∷ [])) {i = 5} (omega (arith, length-append l (i ∷ []))) in
          let d : take 5 l ≡ l = take_all 5 l (omega arith) in
          let e : drop 5 l ≡ [] = drop_of_length-le l {i = 5} (omega arith) in
          let f : p.digits ≡ eights_of l = s.digits ∙ ap eights_of d in
          let m : p.digits + i * 2 ^ (3 * place_level p) ≡ eights_of (l ++ (i ∷ [])) =
          ap₂ (λ (x n : ℕ). x + i * 2 ^ (3 * n)) f level ∙ sym (of_snoc l i) in
          let n : eights_of (l ++ (i ∷ [])) < 65536 = rw (of_snoc l i) (below l s.small k) in
          rw (lt-ltb (place_level p) 5 (rw level k)) (record {
            head = head_more;
            digits = ap (λ (x : ℕ). x % 65536) m ∙ small-mod (eights_of (l ++ (i ∷ []))) n ∙ ap eights_of (sym a);
            more = s.more ∙ ap eights_of (e ∙ sym b);
            small = few;
          })

      long : 5 ≤ length l → Stands c (l ++ (i ∷ [])) (child_place p i)
      long k =
          let a : take 5 (l ++ (i ∷ [])) ≡ take 5 l = take-append-le 5 l (i ∷ []) k in
          let b : drop 5 (l ++ (i ∷ [])) ≡ drop 5 l ++ (i ∷ []) = drop-append-le 5 l (i ∷ []) k in
          let n : length (drop 5 l) ≡ place_level p - 5 = length-drop 5 l ∙ omega (arith, level) in
          let m : p.more + i * 2 ^ (3 * (place_level p - 5)) ≡ eights_of (drop 5 l ++ (i ∷ [])) =
          ap₂ (λ (x n : ℕ). x + i * 2 ^ (3 * n)) s.more (sym n) ∙ sym (of_snoc (drop 5 l) i) in
          let r : eights_of (drop 5 l ++ (i ∷ [])) < 65536 =
          rw (of_snoc (drop 5 l) i) (below (drop 5 l) (all_drop 5 l s.small) (omega (arith, n, level))) in
          rw (le-ltb (place_level p) 5 (rw level k), lt-ltb (place_level p) 10 (rw level g)) (record {
            head = head_more;
            digits = s.digits ∙ ap eights_of (sym a);
            more = ap (λ (x : ℕ). x % 65536) m ∙ small-mod (eights_of (drop 5 l ++ (i ∷ []))) r ∙ ap eights_of (sym b);
            small = few;
          })

  -- THE PATH of a place
  stands_path : length l ≤ 10 → path_of p ≡ c ∷ l
  stands_path g =
      let h : p.head % 256 ≡ c = omega (arith, s.head) in
      path_is p ∙ ap₂ (λ (a n : ℕ). a ∷ take n (eights 5 p.digits ++ eights 5 p.more)) h level
      ∙ ap₂ (λ (a b : ℕ). c ∷ take (length l) (eights 5 a ++ eights 5 b)) s.digits s.more
      ∙ ap (◌∷◌ c) (digits_read l s.small g)

down_stands : (c : ℕ) → c < 256 → (l : List ℕ) (p : Place) → Stands c l p → (m : List ℕ) → Small m → length l + length m ≤ 10
    → Stands c (l ++ m) (place_down p m)
unfolding place_down
down_stands c low l p s [] a h = rw (append-nil l) s
down_stands c low l p s (i ∷ m) a h =
    let w = down_stands c low (l ++ (i ∷ [])) (child_place p i) (stands_child c low l p s i a.0 (omega arith)) m a.1
    (omega (arith, length-append l (i ∷ []))) in
    rw (append_assoc l (i ∷ []) m) at w

-- THE PLACE of a path stands for it
pub path_place : (c : ℕ) (l : List ℕ) → c < 256 → length l ≤ 10 → All (λ i. i < 8) l → path_of (place_of (c ∷ l)) ≡ c ∷ l
unfolding place_of eights_of
path_place c l low h a =
    let s : Stands c [] (coarse_place c) = record { head = omega arith; digits = refl; more = refl; small = tt } in
    stands_path c low l (place_down (coarse_place c) l) (down_stands c low [] (coarse_place c) s l a (omega arith)) h
