-- The loops that count keys: after i elements each key's count is how many of them have it, and none is above the bound.
-- Assumes nothing.
use mathlib.Core.Path.{◌≡◌, refl, sym, ◌∙◌}
use mathlib.Core.Bool.{Bool, true, false, ◌&&◌}
use mathlib.Core.List.{List, []}
use Prim.Native.Nat.{ℕ, ◌+◌, ◌≤◌, ◌<◌}
use native.Mathlib.Numerals.{add-one}
use native.Mathlib.Omega.{arith}
use lib.Dec.{eqb, eqb→eq}
use lib.ListN.{length, get_or, take}
use lib.Seq.{take_all}
use borrow.Author.Tests.{eq-eqb}
use Rattle.base.specs.Bools.{one_if, and_left, and_right}
use Rattle.coarse.specs.declared.tally.Tally.{Tally}
use Rattle.coarse.specs.Tally.{times_in, Fresh, Open, Tallied}
use Rattle.coarse.proofs.Count.{count, count_next, count-take}

-- an element has the key x, y
unfoldable pub keyb : (List ℕ → ℕ) → (List ℕ → ℕ) → ℕ → ℕ → List ℕ → Bool
keyb kx ky x y t = eqb (kx t) x && eqb (ky t) y

module _ (kx ky : List ℕ → ℕ) (x y : ℕ) (t : List ℕ) where
  pub key_is : kx t ≡ x → ky t ≡ y → keyb kx ky x y t ≡ true
  unfolding keyb
  key_is p q = rw (eq-eqb (kx t) x p, eq-eqb (ky t) y q)

  pub key_x : keyb kx ky x y t ≡ true → kx t ≡ x
  unfolding keyb
  key_x e = eqb→eq (kx t) x (and_left (eqb (kx t) x) (eqb (ky t) y) (rw e tt))

  pub key_y : keyb kx ky x y t ≡ true → ky t ≡ y
  unfolding keyb
  key_y e = eqb→eq (ky t) y (and_right (eqb (kx t) x) (eqb (ky t) y) (rw e tt))

  pub key_not : (kx t ≡ x → ky t ≡ y → ⊥) → keyb kx ky x y t ≡ false
  key_not ne = go (keyb kx ky x y t) refl
    where
      go : (b : Bool) → keyb kx ky x y t ≡ b → b ≡ false
      go true e = absurd (ne (key_x e) (key_y e))
      go false e = refl

module _ (kx ky : List ℕ → ℕ) (most : ℕ) (fs : List (List ℕ)) where
  -- how many of the first i have the key x, y
  abbrev met : ℕ → ℕ → ℕ → ℕ
  met i x y = count (keyb kx ky x y) (take i fs)

  pub record Sofar {N : ℕ} (t : Tally N) (i : ℕ) : Type 0 where
    pub inside : t.pairs.n ≤ i
    pub right : (x y : ℕ) → times_in t x y ≡ met i x y
    pub few : (x y : ℕ) → met i x y ≤ most

  pub meets_start : {N : ℕ} {t : Tally N} → Fresh t → Sofar t 0
  unfolding count
  meets_start f = record { inside = omega (arith, f.empty); right = λ x y. f.none x y; few = λ x y. omega arith }

  module _ {N : ℕ} {t : Tally N} {i : ℕ} (s : Sofar t i) where
    pub meets_end : length fs ≤ i → (x y : ℕ) → count (keyb kx ky x y) fs ≤ most
    meets_end h x y = rw (take_all i fs h) at (s.few x y)

    pub meets_open : i < N → most < 255 → (x y : ℕ) → Open t x y
    meets_open h low x y = record { room = omega (arith, s.inside); low = omega (arith, s.right x y, s.few x y) }

    module _ (h : i < length fs) {x y : ℕ} (ex : x ≡ kx (get_or fs i [])) (ey : y ≡ ky (get_or fs i []))
        {t' : Tally N} {c : ℕ} (a : Tallied t x y t' c) where
      next : (v w : ℕ) → met (i + 1) v w ≡ met i v w + one_if (keyb kx ky v w (get_or fs i []))
      next v w = rw (add-one i) (count_next (keyb kx ky v w) [] fs i h)

      own : met (i + 1) x y ≡ c
      unfolding one_if
      own =
          let b : keyb kx ky x y (get_or fs i []) ≡ true = key_is kx ky x y (get_or fs i []) (sym ex) (sym ey) in
          let e : met (i + 1) x y ≡ met i x y + 1 = next x y ∙ rw b in
          omega (arith, s.right x y, a.count_is)

      -- the keys that the element i does not have keep their counts
      kept : (v w : ℕ) → keyb kx ky v w (get_or fs i []) ≡ false → (met (i + 1) v w ≡ met i v w) × (times_in t' v w ≡ met i v w)
      unfolding one_if
      kept v w b =
          let e : met (i + 1) v w ≡ met i v w + 0 = next v w ∙ rw b in
          let ne : x ≡ v → y ≡ w → ⊥ = λ p q. let z : ◌≡◌ {A = ℕ} 0 1 = cc (key_is kx ky v w (get_or fs i []) (sym ex ∙ p) (sym ey ∙ q)) in
          omega arith in
          (omega arith, a.others v w ne ∙ s.right v w)

      own_key : (v w : ℕ) → keyb kx ky v w (get_or fs i []) ≡ true → (x ≡ v) × (y ≡ w)
      own_key v w b = (ex ∙ key_x kx ky v w (get_or fs i []) b, ey ∙ key_y kx ky v w (get_or fs i []) b)

      grows : (v w : ℕ) → times_in t' v w ≡ met (i + 1) v w
      grows v w = go (keyb kx ky v w (get_or fs i [])) refl
        where
          go : (b : Bool) → keyb kx ky v w (get_or fs i []) ≡ b → times_in t' v w ≡ met (i + 1) v w
          go true b = let (p, q) = own_key v w b in rw (← p, ← q) (omega (arith, own, a.same, a.count_is))
          go false b = let k = kept v w b in k.1 ∙ sym k.0

      stays : c ≤ most → (v w : ℕ) → met (i + 1) v w ≤ most
      stays l v w = go (keyb kx ky v w (get_or fs i [])) refl
        where
          go : (b : Bool) → keyb kx ky v w (get_or fs i []) ≡ b → met (i + 1) v w ≤ most
          go true b = let (p, q) = own_key v w b in rw (← p, ← q) (omega (arith, own))
          go false b = omega (arith, (kept v w b).0, s.few v w)

      pub meets_turn : c ≤ most → Sofar t' (i + 1)
      meets_turn l = record {
        inside = omega (arith, s.inside, a.grown);
        right = grows;
        few = stays l;
      }

      pub meets_over : most < c → most < count (keyb kx ky (kx (get_or fs i [])) (ky (get_or fs i []))) fs
      meets_over l = rw (← ex, ← ey) (omega (arith, own, count-take (keyb kx ky x y) fs (i + 1)))
