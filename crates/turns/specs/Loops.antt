-- Loops over numbers that follow each other.
--   some_from f n e       some of the n numbers from e on passes f
--   each_from f n c x     x, changed by f at each of the n numbers from c on
-- Laws: one turn and the end of each: some_here, some_on, some_out, each_on, each_turn, each_out.
--   SameHead x y         y has the length and the header of x
-- Laws: head_self, head_on, head-set, each_head, each_again.
use Rattle.std.specs.Prelude.{◌≡◌, refl, Bool, true, false, ◌||◌, List, length, get_or, set}
use Rattle.std.proofs.Common.{sym, ◌∙◌, ap, subst, arith, length-set, get_or-set_other}
use Prim.Native.Nat.{ℕ, zero, suc, ◌-◌, ◌≤◌, ◌<◌}
use Rattle.store.specs.Fields.{TOTAL}

unfoldable pub some_from : (ℕ → Bool) → ℕ → ℕ → Bool
some_from f zero e = false
some_from f (suc n) e = f e || some_from f n (suc e)

unfoldable pub each_from : (List ℕ → ℕ → List ℕ) → ℕ → ℕ → List ℕ → List ℕ
each_from f zero c x = x
each_from f (suc n) c x = each_from f n (suc c) (f x c)

-- one turn, where m - e are left
one_turn : (m e : ℕ) → e < m → m - e ≡ suc (m - suc e)
one_turn m e h = omega arith

none_left : (m e : ℕ) → m ≤ e → m - e ≡ 0
none_left m e h = omega arith

module _ (f : ℕ → Bool) (m e : ℕ) where
  pub some_here : e < m → f e ≡ true → some_from f (m - e) e ≡ true
  unfolding some_from
  some_here h t = rw (one_turn m e h, t, some_from)

  pub some_on : e < m → f e ≡ false → some_from f (m - e) e ≡ some_from f (m - suc e) (suc e)
  unfolding some_from
  some_on h t = rw (one_turn m e h, t, some_from)

  pub some_out : m ≤ e → some_from f (m - e) e ≡ false
  unfolding some_from
  some_out h = rw (none_left m e h, some_from)

module _ (f : List ℕ → ℕ → List ℕ) where
  each_on : (m c : ℕ) (x : List ℕ) → c < m → each_from f (m - c) c x ≡ each_from f (m - suc c) (suc c) (f x c)
  unfolding each_from
  each_on m c x h = rw (one_turn m c h, each_from)

  -- one turn of a loop that keeps what is left to do
  pub each_turn : (m c : ℕ) (x y w : List ℕ) → c < m → y ≡ f x c → each_from f (m - c) c x ≡ w → each_from f (m - suc c) (suc c) y ≡ w
  each_turn m c x y w h e i = ap (each_from f (m - suc c) (suc c)) e ∙ sym (each_on m c x h) ∙ i

  pub each_out : (m c : ℕ) (x : List ℕ) → m ≤ c → each_from f (m - c) c x ≡ x
  unfolding each_from
  each_out m c x h = rw (none_left m c h, each_from)

-- a store of the same length with the same header
pub record SameHead (x y : List ℕ) : Type 0 where
  pub size : length y ≡ length x
  pub head : (i : ℕ) → i < TOTAL → get_or y i 0 ≡ get_or x i 0

pub head_self : (x : List ℕ) → SameHead x x
head_self x = record { size = refl; head = λ i h. refl }

pub head_on : (x y z : List ℕ) → SameHead x y → SameHead y z → SameHead x z
head_on x y z a b = record { size = b.size ∙ a.size; head = λ i h. b.head i h ∙ a.head i h }

pub head-set : (x : List ℕ) (i n : ℕ) → TOTAL ≤ i → SameHead x (set x i n)
head-set x i n h = record { size = length-set x i n; head = λ j l. get_or-set_other x i j n 0 (λ z. absurd (omega (arith, z))) }

module _ (f : List ℕ → ℕ → List ℕ) (keeps : (x : List ℕ) (c : ℕ) → SameHead x (f x c)) where
  pub each_head : (n c : ℕ) (x : List ℕ) → SameHead x (each_from f n c x)
  unfolding each_from
  each_head zero c x = head_self x
  each_head (suc n) c x = head_on x (f x c) (each_from f n (suc c) (f x c)) (keeps x c) (each_head n (suc c) (f x c))

  -- one turn of a loop that changes a store: the header, and what is left to do
  pub each_again : (m c : ℕ) (x₀ x y w : List ℕ) → SameHead x₀ x × (each_from f (m - c) c x ≡ w) → c < m → y ≡ f x c
      → SameHead x₀ y × (each_from f (m - suc c) (suc c) y ≡ w)
  each_again m c x₀ x y w (a, i) h e =
      (head_on x₀ x y a (subst (SameHead x) (sym e) (keeps x c)), each_turn f m c x y w h e i)
