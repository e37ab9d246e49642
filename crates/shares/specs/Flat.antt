-- Lists of entries with each path once.
--   NoTwice l     no path stands twice among the entries l
--   Disjoint f l  the lists that f gives for different numbers of l share no path
-- Laws: once_append, once_range, once-map (NoTwice of lists that are put together).
use Rattle.std.specs.Prelude.{◌≡◌, refl, ◌≢◌, ℕ, zero, suc}
use Rattle.std.proofs.Common.{sym, ◌∙◌, ap, ⊎_elim, arith}
use mathlib.Core.List.Memᴰ
use mathlib.Core.List.{List, [], ◌∷◌, ◌++◌, map, flat_map, Memᴰ}
use Rattle.base.specs.Distinct.{flat_in, map_in}
use Rattle.base.specs.Range.{range, member_range}
use Rattle.parts.specs.Held.{Entry}
use Rattle.base.specs.Member.{Member, member_head, member_tail}

-- Rule 15.18.
abbrev pub NoTwice : List Entry → Type 0
NoTwice [] = Unit {0}
NoTwice (e ∷ l) = ((f : Entry) → Memᴰ f l → f.path ≡ e.path → ⊥) × NoTwice l

pub once_append : (a b : List Entry) → NoTwice a → NoTwice b → ((e f : Entry) → Memᴰ e a → Memᴰ f b → f.path ≡ e.path → ⊥)
    → NoTwice (a ++ b)
once_append [] b x y d = y
once_append (e ∷ a) b x y d = (
  (λ f m q. ⊎_elim (λ (u : Memᴰ f a). x.0 f u q) (λ (u : Memᴰ f b). d e f (Memᴰ.head refl) u q)
      (Memᴰ.append_cases a m)),
  once_append a b x.1 y (λ e f m. d e f (Memᴰ.tail m)),
)

-- the lists of different numbers share no path
abbrev pub Disjoint : (ℕ → List Entry) → List ℕ → Type 0
Disjoint f l =
    (x y : ℕ) → Member x l → Member y l → x ≢ y → (e g : Entry) → Memᴰ e (f x) → Memᴰ g (f y) → g.path ≡ e.path → ⊥

pub once_range : (f : ℕ → List Entry) (k m : ℕ) → ((x : ℕ) → Member x (range k m) → NoTwice (f x)) → Disjoint f (range k m)
    → NoTwice (flat_map f (range k m))
unfolding range flat_map
once_range f k zero o d = tt
once_range f k (suc m) o d =
    let r = range (suc k) m in
    once_append (f k) (flat_map f r) (o k (member_head k r))
    (once_range f (suc k) m (λ x h. o x (member_tail x k r h)) (λ x y h g. d x y (member_tail x k r h) (member_tail y k r g)))
    (λ e g m' q'.
    let (y, h, w) = flat_in f (range (suc k) m) g q' in
    let (a, b) = member_range (suc k) m y h in
    d k y (member_head k r) (member_tail y k r h) (λ z. omega arith) e g m' w)

pub once-map : (f : ℕ → Entry) (k m : ℕ) → ((x y : ℕ) → (f x).path ≡ (f y).path → x ≡ y) → NoTwice (map f (range k m))
unfolding range
once-map f k zero d = tt
once-map f k (suc m) d = (
  (λ e h q.
      let (y, g, w) = map_in f (range (suc k) m) e h in
      let (a, b) = member_range (suc k) m y g in
      let z : k ≡ y = d k y (sym q ∙ ap (λ (e : Entry). e.path) w) in
      omega arith),
  once-map f (suc k) m d,
)
