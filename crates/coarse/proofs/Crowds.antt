-- What the counts of face keys say: a face in three cells is a key of three faces and the other way round, since the keys of
-- corner numbers below 512 are one to one and the four faces of a cell differ.
-- Assumes nothing.
use mathlib.Core.Path.{◌≡◌, refl, sym, ◌∙◌}
use mathlib.Core.Bool.{Bool, true, false, ◌||◌}
use mathlib.Core.List.{List, [], ◌∷◌, flat_map}
use Prim.Native.Nat.{ℕ, zero, suc, ◌+◌, ◌*◌, ◌≤◌, ◌<◌}
use native.Mathlib.Omega.{arith}
use lib.Dec.{leb}
use lib.ListN.{length, get_or}
use borrow.Author.Tests.{eq-eqb, le-leb, lt-leb}
use Rattle.base.specs.Lists.{anyb, sameb}
use Rattle.base.specs.Bools.{one_if}
use Rattle.base.specs.Fours.{faces, holders}
use Rattle.coarse.specs.Cells.{crowdedb}
use Rattle.coarse.specs.Tally.{lead, low_face}
use Rattle.coarse.proofs.Rows.{Rising}
use Rattle.coarse.proofs.Count.{count, count_filter, count_append, count_le, one_le, or_right, any_at, any_never, any_le_count}
use Rattle.coarse.proofs.Meets.{keyb, key_x, key_y, key_not}
use Rattle.coarse.proofs.Repeats.{Cells, none, cell, same_key}

-- the faces of cells in order have three corners, the middle one below 512
data Shape : List ℕ → Type 0 where
  shape : {p q r : ℕ} → q < 512 → Shape (p ∷ q ∷ r ∷ [])

face_shape : {qs : List (List ℕ)} → Cells qs → (i : ℕ) → i < length (flat_map faces qs) → Shape (get_or (flat_map faces qs) i [])
unfolding flat_map faces
face_shape none i h = absurd (omega arith)
face_shape (cell {c = c} r cs) zero h = shape {q = c} (omega (arith, r))
face_shape (cell {c = c} r cs) (suc zero) h = shape {q = c} (omega (arith, r))
face_shape (cell {b = b} r cs) (suc (suc zero)) h = shape {q = b} (omega (arith, r))
face_shape (cell {b = b} r cs) (suc (suc (suc zero))) h = shape {q = b} (omega (arith, r))
face_shape (cell r cs) (suc (suc (suc (suc i)))) h = face_shape cs i (omega arith)

-- how many cells have a face, by counts
holders_count : (qs : List (List ℕ)) (t : List ℕ) → holders qs t ≡ count (λ q. anyb (sameb t) (faces q)) qs
unfolding holders
holders_count qs t = count_filter (λ q. anyb (sameb t) (faces q)) qs

-- a cell that has a face has it at least once among its four
holders_le : (t : List ℕ) (qs : List (List ℕ)) → count (λ q. anyb (sameb t) (faces q)) qs ≤ count (sameb t) (flat_map faces qs)
unfolding count flat_map
holders_le t [] = omega arith
holders_le t (q ∷ qs) =
    omega (arith, count_append (sameb t) (faces q) (flat_map faces qs), any_le_count (sameb t) (faces q), holders_le t qs)

pub crowd_none : (qs : List (List ℕ)) → ((x y : ℕ) → count (keyb lead low_face x y) (flat_map faces qs) ≤ 2) → crowdedb qs ≡ false
unfolding crowdedb
crowd_none qs h =
    any_never (λ t. leb 3 (holders qs t))
    (λ t. lt-leb 3 (holders qs t) (omega (
      arith,
      holders_count qs t,
      holders_le t qs,
      count_le (sameb t) (keyb lead low_face (lead t) (low_face t)) (same_key lead low_face t)
          (flat_map faces qs),
      h (lead t) (low_face t),
    )))
    (flat_map faces qs)

-- a test that passes at most one of a list
module _ {A : Type 0} (f : A → Bool) (x : A) (l : List A) where
  none_more : f x ≡ false → count f l ≡ 0 → count f (x ∷ l) ≡ 0
  unfolding count one_if
  none_more e z = let o : one_if (f x) ≡ 0 = rw e in omega arith

  once_more : (f x ≡ true → count f l ≡ 0) → count f l ≤ one_if (anyb f l) → count f (x ∷ l) ≤ one_if (anyb f (x ∷ l))
  unfolding count anyb one_if
  once_more z h = go (f x) z
    where
      go : (b : Bool) → (b ≡ true → count f l ≡ 0) → one_if b + count f l ≤ one_if (b || anyb f l)
      go true z = omega (arith, z refl)
      go false z = omega arith

-- the four faces of a cell have different keys
module _ (x y a b c d : ℕ) (r : Rising 512 a b c d) where
  abbrev k : List ℕ → Bool
  k t = keyb lead low_face x y t

  another : (p q s u v w : ℕ) → keyb lead low_face x y (p ∷ q ∷ s ∷ []) ≡ true → ((p * 512 + q ≡ u * 512 + v) → s ≡ w → ⊥)
      → keyb lead low_face x y (u ∷ v ∷ w ∷ []) ≡ false
  unfolding lead low_face
  another p q s u v w e ne =
      key_not lead low_face x y (u ∷ v ∷ w ∷ [])
      (λ i j. ne (key_x lead low_face x y (p ∷ q ∷ s ∷ []) e ∙ sym i) (key_y lead low_face x y (p ∷ q ∷ s ∷ []) e ∙ sym j))

  faces_once : count (keyb lead low_face x y) (faces (a ∷ b ∷ c ∷ d ∷ [])) ≤ one_if
      (anyb (keyb lead low_face x y) (faces (a ∷ b ∷ c ∷ d ∷ [])))
  unfolding faces count anyb
  faces_once =
      once_more k (b ∷ c ∷ d ∷ []) ((a ∷ c ∷ d ∷ []) ∷ (a ∷ b ∷ d ∷ []) ∷ (a ∷ b ∷ c ∷ []) ∷ [])
      (λ e.
      none_more k (a ∷ c ∷ d ∷ []) ((a ∷ b ∷ d ∷ []) ∷ (a ∷ b ∷ c ∷ []) ∷ []) (another b c d a c d e (λ i j. omega (arith, r)))
      (none_more k (a ∷ b ∷ d ∷ []) ((a ∷ b ∷ c ∷ []) ∷ []) (another b c d a b d e (λ i j. omega (arith, r)))
      (none_more k (a ∷ b ∷ c ∷ []) [] (another b c d a b c e (λ i j. omega (arith, r))) refl)))
      (once_more k (a ∷ c ∷ d ∷ []) ((a ∷ b ∷ d ∷ []) ∷ (a ∷ b ∷ c ∷ []) ∷ [])
      (λ e.
      none_more k (a ∷ b ∷ d ∷ []) ((a ∷ b ∷ c ∷ []) ∷ []) (another a c d a b d e (λ i j. omega (arith, r)))
      (none_more k (a ∷ b ∷ c ∷ []) [] (another a c d a b c e (λ i j. omega (arith, r))) refl))
      (once_more k (a ∷ b ∷ d ∷ []) ((a ∷ b ∷ c ∷ []) ∷ [])
      (λ e. none_more k (a ∷ b ∷ c ∷ []) [] (another a b d a b c e (λ i j. omega (arith, r))) refl)
      (once_more k (a ∷ b ∷ c ∷ []) [] (λ e. refl) (omega arith))))

or_imp : (a b a' b' : Bool) → (a ≡ true → a' ≡ true) → (b ≡ true → b' ≡ true) → a || b ≡ true → a' || b' ≡ true
or_imp true b a' b' f g e = rw (f refl)
or_imp false b a' b' f g e = or_right a' b' (g e)

-- a face with the key of t is t
module _ (p q r : ℕ) (h : q < 512) where
  face_same : (u v w : ℕ) → v < 512 → keyb lead low_face (lead (p ∷ q ∷ r ∷ [])) (low_face (p ∷ q ∷ r ∷ [])) (u ∷ v ∷ w ∷ []) ≡ true
      → sameb (p ∷ q ∷ r ∷ []) (u ∷ v ∷ w ∷ []) ≡ true
  unfolding lead low_face sameb
  face_same u v w l e =
      let i : u * 512 + v ≡ p * 512 + q = key_x lead low_face (p * 512 + q) r (u ∷ v ∷ w ∷ []) e in
      let j : w ≡ r = key_y lead low_face (p * 512 + q) r (u ∷ v ∷ w ∷ []) e in
      rw (eq-eqb p u (omega arith), eq-eqb q v (omega arith), eq-eqb r w (omega arith))

  abbrev key : List ℕ → Bool
  key t = keyb lead low_face (lead (p ∷ q ∷ r ∷ [])) (low_face (p ∷ q ∷ r ∷ [])) t

  abbrev same : List ℕ → Bool
  same t = sameb (p ∷ q ∷ r ∷ []) t

  has_face : {a b c d : ℕ} → Rising 512 a b c d → anyb key (faces (a ∷ b ∷ c ∷ d ∷ [])) ≡ true
      → anyb same (faces (a ∷ b ∷ c ∷ d ∷ [])) ≡ true
  unfolding anyb faces
  has_face {a} {b} {c} {d} s =
      or_imp (key (b ∷ c ∷ d ∷ [])) (anyb key ((a ∷ c ∷ d ∷ []) ∷ (a ∷ b ∷ d ∷ []) ∷ (a ∷ b ∷ c ∷ []) ∷ []))
      (same (b ∷ c ∷ d ∷ [])) (anyb same ((a ∷ c ∷ d ∷ []) ∷ (a ∷ b ∷ d ∷ []) ∷ (a ∷ b ∷ c ∷ []) ∷ [])) (face_same b c d (omega (arith, s)))
      (or_imp (key (a ∷ c ∷ d ∷ [])) (anyb key ((a ∷ b ∷ d ∷ []) ∷ (a ∷ b ∷ c ∷ []) ∷ []))
      (same (a ∷ c ∷ d ∷ [])) (anyb same ((a ∷ b ∷ d ∷ []) ∷ (a ∷ b ∷ c ∷ []) ∷ [])) (face_same a c d (omega (arith, s)))
      (or_imp (key (a ∷ b ∷ d ∷ [])) (anyb key ((a ∷ b ∷ c ∷ []) ∷ []))
      (same (a ∷ b ∷ d ∷ [])) (anyb same ((a ∷ b ∷ c ∷ []) ∷ [])) (face_same a b d (omega (arith, s)))
      (or_imp (key (a ∷ b ∷ c ∷ [])) false (same (a ∷ b ∷ c ∷ [])) false (face_same a b c (omega (arith, s))) (λ e. e))))

  held_le : {qs : List (List ℕ)} → Cells qs → count key (flat_map faces qs) ≤ count (λ q. anyb same (faces q)) qs
  unfolding count flat_map
  held_le none = omega arith
  held_le (cell {a} {b} {c} {d} {qs} s cs) =
      let f = faces (a ∷ b ∷ c ∷ d ∷ []) in
      omega (
        arith,
        count_append key f (flat_map faces qs),
        faces_once (lead (p ∷ q ∷ r ∷ [])) (low_face (p ∷ q ∷ r ∷ [])) a b c d s,
        one_le
            (anyb key f) (anyb same f) (has_face s),
        held_le cs,
      )

module _ {qs : List (List ℕ)} (cs : Cells qs) where
  many : (t : List ℕ) → Shape t → 2 < count (keyb lead low_face (lead t) (low_face t)) (flat_map faces qs) → leb 3 (holders qs t) ≡ true
  many t (shape {p} {q} {r} h) l = le-leb 3 (holders qs (p ∷ q ∷ r ∷ []))
      (omega (arith, holders_count qs (p ∷ q ∷ r ∷ []), held_le p q r h cs))

  pub crowd_some : (i : ℕ) → i < length (flat_map faces qs)
      → 2 < count (keyb lead low_face (lead (get_or (flat_map faces qs) i [])) (low_face (get_or (flat_map faces qs) i []))) (flat_map faces qs)
      → crowdedb qs ≡ true
  unfolding crowdedb
  crowd_some i h l =
      any_at (λ t. leb 3 (holders qs t)) [] (flat_map faces qs) i h (many (get_or (flat_map faces qs) i []) (face_shape cs i h) l)
