-- Regions of a store written one behind the other.
-- Laws: put_is, put-length, zeros_put (one region, as a call leaves it), by_on, by_three, by_four, by_front (one behind the other),
-- front_written, columns_written, slots_written (what the calls leave), store_is (the whole store).
use mathlib.Core.Path.{◌≡◌, refl, sym, ◌∙◌, ap, ap₂}
use mathlib.Core.List.{List, ◌++◌, append_assoc}
use Prim.Native.Nat.{ℕ, ◌+◌, ◌-◌, ◌/◌, ◌≤◌}
use native.Mathlib.Omega.{arith}
use lib.ListN.{length, take, drop, replicate, length-append, length-drop}
use lib.Seq.{length-take-le, take_at, drop_at, drop-drop}
use borrow.Rule.Slice.PartMut.{put_mid}
use Rattle.base.specs.Limits.{full_coarse, most_slots}
use Rattle.store.specs.Fields.{CORNER, FIRST_CELL, FIRST_SLOT, FREE, FRONT, HOLDERS, MARK, OWNER, SLOT, SUM, columns_length, firsts_length, flags_length, free_length, full}
use Rattle.filling.specs.Regions.{Tabled, zeros, tab, put_by, head_by, column_by, corner_by, slot_by, holder_by, regions}
use Rattle.filling.specs.Laws.{tab-length, zero-length, tabled_is, between}

-- one region, as a call leaves it
put_is : (x y z : List ℕ) (a k : ℕ) → y ≡ z → put_mid a (a + k - a) x y ≡ put_by a (a + k) x z
unfolding put_by
put_is x y z a k e =
    let w : a + k - a ≡ k = omega arith in
    rw w (ap₂ (λ (u v : List ℕ). take a x ++ (u ++ v)) e (drop-drop k a x))

-- a region behind another
by_on : (x y z : List ℕ) (a c d : ℕ) → a + length y ≡ c → c ≤ d → c ≤ length x
    → put_by c d (put_by a c x y) z ≡ put_by a d x (y ++ z)
unfolding put_by
by_on x y z a c d e h l =
    let m : length (take a x) ≡ a = length-take-le a x (omega arith) in
    let n : length (take a x ++ y) ≡ c = length-append (take a x) y ∙ ap (λ (k : ℕ). k + length y) m ∙ e in
    let p : take a x ++ (y ++ drop c x) ≡ (take a x ++ y) ++ drop c x = sym (append_assoc (take a x) y (drop c x)) in
    let t : take c (take a x ++ (y ++ drop c x)) ≡ take a x ++ y = ap (take c) p ∙ take_at (take a x ++ y) (drop c x) c n in
    let w : d ≡ c + (d - c) = omega arith in
    let u : drop d (take a x ++ (y ++ drop c x)) ≡ drop d x =
    ap₂ drop w p ∙ sym (drop-drop (d - c) c ((take a x ++ y) ++ drop c x))
    ∙ ap (drop (d - c)) (drop_at (take a x ++ y) (drop c x) c n) ∙ drop-drop (d - c) c x ∙ ap (λ (k : ℕ). drop k x) (sym w) in
    ap₂ (λ (q r : List ℕ). q ++ (z ++ r)) t u ∙ regroup (take a x) y z (drop d x)
  where
    regroup : (b c d e : List ℕ) → (b ++ c) ++ (d ++ e) ≡ b ++ ((c ++ d) ++ e)
    regroup b c d e = simp append_assoc

put-length : (x y z : List ℕ) (a b : ℕ) → a + length y ≡ b → b ≤ length x → z ≡ put_by a b x y → length z ≡ length x
unfolding put_by
put-length x y z a b e h q = rw q (simp (length-append, length-drop) (omega (arith, length-take-le a x (omega arith))))

-- zeros, as a call leaves them
zeros_put : (x y : List ℕ) (a k : ℕ) → a + k ≤ length x → y ≡ replicate (length (take (a + k - a) (drop a x))) 0
    → put_mid a (a + k - a) x y ≡ put_by a (a + k) x (zeros k)
unfolding zeros
zeros_put x y a k h e = put_is x y (replicate k 0) a k (e ∙ ap (λ (n : ℕ). replicate n 0) (between x a k h))

-- three and four regions
by_three : (x₀ x₁ x₂ x₃ y₁ y₂ y₃ : List ℕ) (a b c d : ℕ) → a + length y₁ ≡ b → b + length y₂ ≡ c → c ≤ d → d ≤ length x₀
    → x₁ ≡ put_by a b x₀ y₁ → x₂ ≡ put_by b c x₁ y₂ → x₃ ≡ put_by c d x₂ y₃ → x₃ ≡ put_by a d x₀ (y₁ ++ y₂ ++ y₃)
by_three x₀ x₁ x₂ x₃ y₁ y₂ y₃ a b c d p q h l e₁ e₂ e₃ =
    let f : x₂ ≡ put_by a c x₀ (y₁ ++ y₂) =
    e₂ ∙ ap (λ (u : List ℕ). put_by b c u y₂) e₁ ∙ by_on x₀ y₁ y₂ a b c p (omega arith) (omega arith) in
    e₃ ∙ ap (λ (u : List ℕ). put_by c d u y₃) f
    ∙ by_on x₀ (y₁ ++ y₂) y₃ a c d (ap (λ (k : ℕ). a + k) (length-append y₁ y₂) ∙ omega arith) h (omega arith)

by_four : (x₀ x₁ x₂ x₃ x₄ y₁ y₂ y₃ y₄ : List ℕ) (a b c d e : ℕ) → a + length y₁ ≡ b → b + length y₂ ≡ c → c + length y₃ ≡ d → d ≤ e
    → e ≤ length x₀ → x₁ ≡ put_by a b x₀ y₁ → x₂ ≡ put_by b c x₁ y₂ → x₃ ≡ put_by c d x₂ y₃ → x₄ ≡ put_by d e x₃ y₄
    → x₄ ≡ put_by a e x₀ (y₁ ++ y₂ ++ y₃ ++ y₄)
by_four x₀ x₁ x₂ x₃ x₄ y₁ y₂ y₃ y₄ a b c d e p q r h l e₁ e₂ e₃ e₄ =
    let f = by_three x₀ x₁ x₂ x₃ y₁ y₂ y₃ a b c d p q (omega arith) (omega arith) e₁ e₂ e₃ in
    let n : length (y₁ ++ y₂ ++ y₃) ≡ length y₁ + length y₂ + length y₃ = simp length-append in
    e₄ ∙ ap (λ (u : List ℕ). put_by d e u y₄) f
    ∙ by_on x₀ (y₁ ++ y₂ ++ y₃) y₄ a d e (ap (λ (k : ℕ). a + k) n ∙ omega arith) h (omega arith)

by_front : (x y : List ℕ) (d : ℕ) → put_by 0 d x y ≡ y ++ drop d x
unfolding put_by
by_front x y d = refl

-- what stands before the columns, the columns and the slots, as the calls leave them
pub front_written : (x h h' fs fs' st st' z : List ℕ) → length x ≡ full → h ≡ h' → length h' ≡ FIRST_CELL → fs ≡ fs' → length fs' ≡ firsts_length
    → st ≡ st' → length st' ≡ firsts_length
    → z ≡ replicate (length (take free_length (drop FREE (put_mid FIRST_SLOT firsts_length (put_mid FIRST_CELL firsts_length (h ++ drop FIRST_CELL x) fs) st)))) 0
    → put_mid FREE free_length (put_mid FIRST_SLOT firsts_length (put_mid FIRST_CELL firsts_length (h ++ drop FIRST_CELL x) fs) st) z ≡ put_by 0 OWNER x (h' ++ fs' ++ st' ++ zeros free_length)
front_written x h h' fs fs' st st' z l e n f nf g ng o =
    let e₁ : h ++ drop FIRST_CELL x ≡ put_by 0 FIRST_CELL x h' = ap (λ (u : List ℕ). u ++ drop FIRST_CELL x) e ∙ sym (by_front x h' FIRST_CELL) in
    let x₁ = h ++ drop FIRST_CELL x in
    let l₁ : length x₁ ≡ length x = put-length x h' x₁ 0 FIRST_CELL (omega arith) (omega arith) e₁ in
    let e₂ : put_mid FIRST_CELL firsts_length x₁ fs ≡ put_by FIRST_CELL FIRST_SLOT x₁ fs' = put_is x₁ fs fs' FIRST_CELL firsts_length f in
    let x₂ = put_mid FIRST_CELL firsts_length x₁ fs in
    let l₂ : length x₂ ≡ length x₁ = put-length x₁ fs' x₂ FIRST_CELL FIRST_SLOT (omega arith) (omega arith) e₂ in
    let e₃ : put_mid FIRST_SLOT firsts_length x₂ st ≡ put_by FIRST_SLOT FREE x₂ st' = put_is x₂ st st' FIRST_SLOT firsts_length g in
    let x₃ = put_mid FIRST_SLOT firsts_length x₂ st in
    let l₃ : length x₃ ≡ length x₂ = put-length x₂ st' x₃ FIRST_SLOT FREE (omega arith) (omega arith) e₃ in
    by_four x x₁ x₂ x₃ (put_mid FREE free_length x₃ z) h' fs' st' (zeros free_length) 0 FIRST_CELL FIRST_SLOT FREE OWNER (omega arith) (omega arith) (omega arith) (omega arith)
    (omega arith) e₁ e₂ e₃ (zeros_put x₃ z FREE free_length (omega arith) o)

pub columns_written : (x u z v : List ℕ) (f g : ℕ → ℕ) → length x ≡ full → Tabled columns_length f u
    → z ≡ replicate (length (take flags_length (drop MARK (put_mid OWNER columns_length x u)))) 0 → Tabled full_coarse g v
    → put_mid CORNER full_coarse (put_mid MARK flags_length (put_mid OWNER columns_length x u) z) v
    ≡ put_by OWNER SLOT x (tab columns_length f ++ zeros flags_length ++ tab full_coarse g)
columns_written x u z v f g l a o b =
    let x₁ = put_mid OWNER columns_length x u in
    let e₁ : put_mid OWNER columns_length x u ≡ put_by OWNER MARK x (tab columns_length f) = put_is x u (tab columns_length f) OWNER columns_length (tabled_is columns_length f u a) in
    let l₁ : length x₁ ≡ length x =
    put-length x (tab columns_length f) x₁ OWNER MARK (omega (arith, tab-length columns_length f)) (omega arith) e₁ in
    let x₂ = put_mid MARK flags_length x₁ z in
    let e₂ : put_mid MARK flags_length x₁ z ≡ put_by MARK CORNER x₁ (zeros flags_length) = zeros_put x₁ z MARK flags_length (omega arith) o in
    by_three x x₁ x₂ (put_mid CORNER full_coarse x₂ v) (tab columns_length f) (zeros flags_length) (tab full_coarse g) OWNER MARK CORNER SLOT
    (omega (arith, tab-length columns_length f)) (omega (arith, zero-length flags_length)) (omega arith) (omega arith) e₁ e₂
    (put_is x₂ v (tab full_coarse g) CORNER full_coarse (tabled_is full_coarse g v b))

pub slots_written : (x u v z : List ℕ) (f g : ℕ → ℕ) → length x ≡ full → Tabled most_slots f u → Tabled most_slots g v
    → z ≡ replicate (length (take most_slots (drop SUM (put_mid HOLDERS most_slots (put_mid SLOT most_slots x u) v)))) 0
    → put_mid SUM most_slots (put_mid HOLDERS most_slots (put_mid SLOT most_slots x u) v) z
    ≡ put_by SLOT FRONT x (tab most_slots f ++ tab most_slots g ++ zeros most_slots)
slots_written x u v z f g l a b o =
    let x₁ = put_mid SLOT most_slots x u in
    let e₁ : put_mid SLOT most_slots x u ≡ put_by SLOT HOLDERS x (tab most_slots f) = put_is x u (tab most_slots f) SLOT most_slots (tabled_is most_slots f u a) in
    let l₁ : length x₁ ≡ length x = put-length x (tab most_slots f) x₁ SLOT HOLDERS (omega (arith, tab-length most_slots f)) (omega arith) e₁ in
    let x₂ = put_mid HOLDERS most_slots x₁ v in
    let e₂ : put_mid HOLDERS most_slots x₁ v ≡ put_by HOLDERS SUM x₁ (tab most_slots g) = put_is x₁ v (tab most_slots g) HOLDERS most_slots (tabled_is most_slots g v b) in
    let l₂ : length x₂ ≡ length x₁ = put-length x₁ (tab most_slots g) x₂ HOLDERS SUM (omega (arith, tab-length most_slots g)) (omega arith) e₂ in
    by_three x x₁ x₂ (put_mid SUM most_slots x₂ z) (tab most_slots f) (tab most_slots g) (zeros most_slots) SLOT HOLDERS SUM FRONT
    (omega (arith, tab-length most_slots f)) (omega (arith, tab-length most_slots g)) (omega arith) (omega arith) e₁ e₂
    (zeros_put x₂ z SUM most_slots (omega arith) o)

-- the whole store
module _ (cols mesh sl ms fs st : List ℕ) (m p P n l : ℕ) where
  abbrev front : List ℕ
  front = head_by p P n (length mesh / 4) m l ++ fs ++ st ++ zeros free_length

  abbrev columns : List ℕ
  columns = tab columns_length (column_by cols m p) ++ zeros flags_length ++ tab full_coarse (corner_by cols mesh p)

  abbrev slots : List ℕ
  slots = tab most_slots (slot_by cols m p sl) ++ tab most_slots (holder_by cols m p sl ms) ++ zeros most_slots

  front_length : (x₀ x₁ : List ℕ) → length x₀ ≡ full → length x₁ ≡ length x₀ → x₁ ≡ put_by 0 OWNER x₀ front → length front ≡ OWNER
  front_length x₀ x₁ long same e =
      let h : length x₁ ≡ length front + (length x₀ - OWNER) =
      ap length (e ∙ by_front x₀ front OWNER) ∙ length-append front (drop OWNER x₀) ∙ ap (λ (k : ℕ). length front + k) (length-drop OWNER x₀) in
      omega (arith, h)

  columns-length : length columns ≡ SLOT - OWNER
  columns-length =
      simp length-append (omega (
        arith,
        tab-length columns_length (column_by cols m p),
        zero-length flags_length,
        tab-length full_coarse
            (corner_by cols mesh p),
      ))

  pub store_is : (x₀ x₁ x₂ x₃ : List ℕ) → length x₀ ≡ full → length x₁ ≡ length x₀ → x₁ ≡ put_by 0 OWNER x₀ front
      → x₂ ≡ put_by OWNER SLOT x₁ columns → x₃ ≡ put_by SLOT FRONT x₂ slots → x₃ ≡ regions cols mesh sl ms fs st m p P n l ++ drop
      FRONT x₀
  unfolding regions
  store_is x₀ x₁ x₂ x₃ long same e₁ e₂ e₃ =
      by_three x₀ x₁ x₂ x₃ front columns slots 0 OWNER SLOT FRONT (omega (arith, front_length x₀ x₁ long same e₁)) (omega (arith, columns-length))
      (omega arith)
      (omega arith) e₁ e₂ e₃
      ∙ by_front x₀ (front ++ columns ++ slots) FRONT
