-- Elements of lists, and lists without repetition.
--   NoDup l      no element stands twice in l
-- Laws: in_flat, flat_in, in_map, map_in, only_one (elements of lists that are mapped and joined), no_more (a list without repetition,
-- all of whose elements stand in another, is not longer), place_of and mem_at (elements and places), no_dup_by, no_dup_append and
-- no_dup_chosen (lists without repetition).
use Rattle.std.specs.Prelude.{◌≡◌, Bool, length, get_or}
use Rattle.std.proofs.Math.Path.{refl}
use Rattle.std.proofs.Common.{sym, ap, subst, arith, length-append}
use Rattle.std.proofs.Math.Logic.{⊎_elim}
use Rattle.std.proofs.Math.Bool.{true, false}
use mathlib.Core.List.{List, [], ◌∷◌, ◌++◌, map, flat_map, Memᴰ}
use Prim.Native.Nat.{ℕ, zero, suc, ◌+◌, ◌≤◌, ◌<◌}
use Rattle.base.specs.Lists.{memberb, filterb}
use Rattle.base.specs.Range.{range, member_range}
use Rattle.base.specs.Member.{Member, member_head, member_tail, member_cases, filtered_member}

module _ {A : Type 0} where
  pub in_flat : (f : ℕ → List A) (l : List ℕ) (x : ℕ) (a : A) → Member x l → Memᴰ a (f x) → Memᴰ a (flat_map f l)
  unfolding flat_map memberb
  in_flat f [] x a m t = absurd m
  in_flat f (y ∷ l) x a m t =
      ⊎_elim (λ (e : x ≡ y). mathlib.Core.List.Memᴰ.append_left (flat_map f l) (subst (λ (z : ℕ). Memᴰ a (f z)) e t))
      (λ (n : Member x l). mathlib.Core.List.Memᴰ.append_right (f y) (in_flat f l x a n t)) (member_cases x y l m)

  pub flat_in : (f : ℕ → List A) (l : List ℕ) (a : A) → Memᴰ a (flat_map f l) → (x : ℕ) × Member x l × Memᴰ a (f x)
  unfolding flat_map
  flat_in f [] a t = absurd (mathlib.Core.List.Memᴰ.not-nil t)
  flat_in f (y ∷ l) a t =
      ⊎_elim (λ (u : Memᴰ a (f y)). (y, member_head y l, u))
      (λ (u : Memᴰ a (flat_map f l)). let (x, m, v) = flat_in f l a u in (x, member_tail x y l m, v)) (mathlib.Core.List.Memᴰ.append_cases (f y) t)

  pub in_map : (f : ℕ → A) (l : List ℕ) (x : ℕ) → Member x l → Memᴰ (f x) (map f l)
  unfolding memberb
  in_map f [] x m = absurd m
  in_map f (y ∷ l) x m =
      ⊎_elim (λ (e : x ≡ y). mathlib.Core.List.Memᴰ.head (ap f e)) (λ (n : Member x l). mathlib.Core.List.Memᴰ.tail (in_map f l x n)) (member_cases x y l m)

  pub map_in : (f : ℕ → A) (l : List ℕ) (a : A) → Memᴰ a (map f l) → (x : ℕ) × Member x l × (a ≡ f x)
  map_in f [] a t = absurd (mathlib.Core.List.Memᴰ.not-nil t)
  map_in f (y ∷ l) a t =
      ⊎_elim (λ (e : a ≡ f y). (y, member_head y l, e))
      (λ (u : Memᴰ a (map f l)). let (x, m, v) = map_in f l a u in (x, member_tail x y l m, v)) (mathlib.Core.List.Memᴰ.cases_cons t)

  pub only_one : (a x : A) → Memᴰ a (x ∷ []) → a ≡ x
  only_one a x m = ⊎_elim (λ (q : a ≡ x). q) (λ (q : Memᴰ a []). absurd (mathlib.Core.List.Memᴰ.not-nil q)) (mathlib.Core.List.Memᴰ.cases_cons m)

module _ {A : Type 0} where
  abbrev pub NoDup : List A → Type 0
  NoDup [] = Unit {0}
  NoDup (x ∷ l) = (Memᴰ x l → ⊥) × NoDup l

  record Parted (a : A) (l : List A) : Type 0 where
    pub front : List A
    pub back : List A
    pub whole : l ≡ front ++ (a ∷ back)

  parted : {a : A} {l : List A} → Memᴰ a l → Parted a l
  parted (mathlib.Core.List.Memᴰ.head {x = x} {xs = xs} e) = record { front = []; back = xs; whole = ap (λ y. y ∷ xs) (sym e) }
  parted (mathlib.Core.List.Memᴰ.tail {x = x} {xs = xs} m) = let w =
      parted m in record { front = x ∷ w.front; back = w.back; whole = ap (λ l. x ∷ l) w.whole }

  without : (a b : A) (f g : List A) → Memᴰ b (f ++ (a ∷ g)) → (b ≡ a → ⊥) → Memᴰ b (f ++ g)
  without a b f g m d =
      ⊎_elim (λ (u : Memᴰ b f). mathlib.Core.List.Memᴰ.append_left g u)
      (λ (u : Memᴰ b (a ∷ g)). ⊎_elim (λ (e : b ≡ a). absurd (d e)) (λ (v : Memᴰ b g). mathlib.Core.List.Memᴰ.append_right f v)
      (mathlib.Core.List.Memᴰ.cases_cons u)) (mathlib.Core.List.Memᴰ.append_cases f m)

  pub no_more : (l m : List A) → NoDup l → ((a : A) → Memᴰ a l → Memᴰ a m) → length l ≤ length m
  no_more [] m n h = omega arith
  no_more (x ∷ l) m n h =
      let w = parted (h x (mathlib.Core.List.Memᴰ.head refl)) in
      let sub : (a : A) → Memᴰ a l → Memᴰ a (w.front ++ w.back) =
      (λ a u. without x a w.front w.back (subst (λ k. Memᴰ a k) w.whole (h a (mathlib.Core.List.Memᴰ.tail u)))
      (λ e. n.0 (subst (λ y. Memᴰ y l) e u))) in
      let r = no_more l (w.front ++ w.back) n.1 sub in
      omega (arith, ap length w.whole, length-append w.front (x ∷ w.back), length-append w.front w.back)

  pub place_of : (d : A) {a : A} {l : List A} → Memᴰ a l → (j : ℕ) × (j < length l) × (get_or l j d ≡ a)
  place_of d (mathlib.Core.List.Memᴰ.head e) = (0, omega arith, sym e)
  place_of d (mathlib.Core.List.Memᴰ.tail m) = let r = place_of d m in (suc r.0, omega (arith, r.1), r.2)

  pub mem_at : (d : A) (l : List A) (j : ℕ) → j < length l → Memᴰ (get_or l j d) l
  mem_at d [] j h = absurd (omega arith)
  mem_at d (x ∷ l) zero h = mathlib.Core.List.Memᴰ.head refl
  mem_at d (x ∷ l) (suc j) h = mathlib.Core.List.Memᴰ.tail (mem_at d l j (omega arith))

  pub no_dup_by : (d : A) (l : List A) → ((i j : ℕ) → i < length l → j < length l → get_or l i d ≡ get_or l j d → i ≡ j) → NoDup l
  no_dup_by d [] h = tt
  no_dup_by d (x ∷ l) h = (
    (λ m. let r = place_of d m in let z : 0 ≡ suc r.0 = h 0 (suc r.0) (omega arith) (omega (arith, r.1))
        (sym r.2) in omega arith),
    no_dup_by d l (λ i j a b e. let z : suc i ≡ suc j = h (suc i) (suc j) (omega arith) (omega arith) e in omega arith),
  )

  pub no_dup_append : (a b : List A) → NoDup a → NoDup b → ((x : A) → Memᴰ x a → Memᴰ x b → ⊥) → NoDup (a ++ b)
  no_dup_append [] b n m h = m
  no_dup_append (x ∷ a) b n m h = (
    (λ u. ⊎_elim (λ (v : Memᴰ x a). n.0 v) (λ (v : Memᴰ x b). h x (mathlib.Core.List.Memᴰ.head refl) v) (mathlib.Core.List.Memᴰ.append_cases a u)),
    no_dup_append a b n.1 m (λ y u. h y (mathlib.Core.List.Memᴰ.tail u)),
  )

  -- the values of chosen numbers of a range
  pub no_dup_chosen : (g : ℕ → A) (f : ℕ → Bool) (k n : ℕ)
      → ((x y : ℕ) → k ≤ x → x < k + n → k ≤ y → y < k + n → g x ≡ g y → x ≡ y) → NoDup (map g (filterb f (range k n)))
  unfolding filterb range
  no_dup_chosen g f k zero h = tt
  no_dup_chosen g f k (suc n) h =
      go (f k) refl (no_dup_chosen g f (suc k) n (λ x y a b c d e. h x y (omega arith) (omega arith) (omega arith) (omega arith) e))
    where
      go : (b : Bool) → f k ≡ b → NoDup (map g (filterb f (range (suc k) n))) → NoDup (map g (filterb f (range k (suc n))))
      go true e i =
          rw (e, filterb) (
            (λ m.
                let (x, q, w) = map_in g (filterb f (range (suc k) n)) (g k) m in
                let (a, b) = member_range (suc k) n x (filtered_member f (range (suc k) n) x q).0 in
                let z : k ≡ x = h k x (omega arith) (omega arith) (omega arith) (omega arith) w in
                omega arith),
            i,
          )
      go false e i = rw (e, filterb) i
