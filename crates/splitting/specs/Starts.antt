-- The marks that the parts start with are the serial marks, put together.
-- Laws: place_is (the place of a master among those of its part), each_at and each_from (the test of all marks by places), together_at (a
-- serial mark is the mark of its master), together_is (from the shares of serial marks come these), together_fits (accepted starts make
-- accepted serial marks).
use Rattle.std.specs.Prelude.{◌≡◌, Bool, List, [], ◌∷◌, map, T, length}
use Rattle.std.proofs.Math.Path.{refl, ap}
use Rattle.std.proofs.Common.{sym, ◌∙◌, subst, ext_get_or, eq-eqb}
use Rattle.std.proofs.Math.Bool.{true, false}
use Prim.Native.Nat.{ℕ, zero, suc, ◌+◌, ◌-◌, ◌≤◌, ◌<◌}
use Rattle.std.proofs.Math.Decide.{ℕ_discrete}
use native.Mathlib.Omega.{arith}
use Rattle.std.proofs.Math.ListN.{get_or, length-map}
use Rattle.base.specs.Lists.{filterb}
use Rattle.base.specs.Bools.{and_left, and_right, and_both}
use Rattle.base.specs.Range.{range, length-range, range_at}
use Rattle.base.specs.Every.{get_d_map}
use Rattle.mesh.specs.Answers.{markb, marksb}
use Rattle.parts.specs.Owners.{ownersb}
use Rattle.parts.specs.Held.{masterb}
use Rattle.parts.specs.Starts.{masters_on, startb, place_on, put_together, marks_on}
use Rattle.splitting.specs.Admissible.{owners_counted}

-- the place of a number among those that pass a test
module _ (f : ℕ → Bool) where
  record Found (k m c : ℕ) : Type 0 where
    pub below : length (filterb f (range k (c - k))) < length (filterb f (range k m))
    pub is : get_or (filterb f (range k m)) (length (filterb f (range k (c - k)))) 0 ≡ c

  filter_place : (k m c : ℕ) → k ≤ c → c < k + m → f c ≡ true → Found k m c
  unfolding filterb range
  filter_place k zero c h g t = absurd (omega arith)
  filter_place k (suc m) c h g t =
      elim (ℕ_discrete c k) [
        | yes e ↦
            let z : c - k ≡ 0 = omega arith in
            let fk : f k ≡ true = ap f (sym e) ∙ t in
            record { below = rw (z, fk, filterb) (omega arith); is = rw (z, fk, filterb) (sym e) }
        | no n ↦ later (f k) refl (filter_place (suc k) m c (omega arith) (omega arith) t) (omega arith)
      ]
    where
      later : (b : Bool) → f k ≡ b → Found (suc k) m c → c - k ≡ suc (c - suc k) → Found k (suc m) c
      later true q w z = record { below = rw (z, q, filterb) (omega (arith, w.below)); is = rw (z, q, filterb) w.is }
      later false q w z = record { below = rw (z, q, filterb) w.below; is = rw (z, q, filterb) w.is }

module _ (os : List ℕ) (c : ℕ) (h : c < length os) where
  place_below : place_on os c < length (masters_on os (get_or os c 0))
  unfolding place_on masters_on masterb
  place_below =
      let z : c - 0 ≡ c = omega arith in
      rw z at (filter_place (masterb os (get_or os c 0)) 0 (length os) c (omega arith) (omega arith)
      (eq-eqb (get_or os c 0) (get_or os c 0) refl)).below

  place_is : get_or (masters_on os (get_or os c 0)) (place_on os c) 0 ≡ c
  unfolding place_on masters_on masterb
  place_is =
      let z : c - 0 ≡ c = omega arith in
      rw z at (filter_place (masterb os (get_or os c 0)) 0 (length os) c (omega arith) (omega arith)
      (eq-eqb (get_or os c 0) (get_or os c 0) refl)).is

-- all marks by places
pub each_at : (ss ms : List ℕ) → T (marksb ss ms) → (i : ℕ) → i < length ss → T (markb (get_or ss i 0) (get_or ms i 0))
unfolding marksb
each_at [] ms t i h = absurd (omega arith)
each_at (s ∷ ss) [] t i h = absurd t
each_at (s ∷ ss) (m ∷ ms) t zero h = and_left (markb s m) (marksb ss ms) t
each_at (s ∷ ss) (m ∷ ms) t (suc i) h = each_at ss ms (and_right (markb s m) (marksb ss ms) t) i (omega arith)

each_from : (ss ms : List ℕ) → length ms ≡ length ss → ((i : ℕ) → i < length ss → T (markb (get_or ss i 0) (get_or ms i 0)))
    → T (marksb ss ms)
unfolding marksb
each_from [] [] e g = tt
each_from [] (m ∷ ms) e g = absurd (omega arith)
each_from (s ∷ ss) [] e g = absurd (omega arith)
each_from (s ∷ ss) (m ∷ ms) e g =
    and_both (markb s m) (marksb ss ms) (g 0 (omega arith)) (each_from ss ms (omega arith) (λ i h. g (suc i) (omega arith)))

module _ (os : List ℕ) (given : ℕ → List ℕ) where
  pub length-together : length (put_together os given) ≡ length os
  unfolding put_together
  length-together = length-map (range 0 (length os)) (λ c. get_or (given (get_or os c 0)) (place_on os c) 0) ∙ length-range 0 (length os)

  pub together_at : (c : ℕ) → c < length os → get_or (put_together os given) c 0 ≡ get_or (given (get_or os c 0)) (place_on os c) 0
  unfolding put_together
  together_at c h =
      get_d_map (λ c. get_or (given (get_or os c 0)) (place_on os c) 0) (range 0 (length os)) c 0 0 (omega (arith, length-range 0 (length os)))
      ∙ ap (λ (x : ℕ). get_or (given (get_or os x 0)) (place_on os x) 0) (range_at 0 (length os) c 0 h ∙ omega arith)

-- from the shares of serial marks come these
pub together_is : (os ms : List ℕ) → length ms ≡ length os → put_together os (marks_on os ms) ≡ ms
unfolding marks_on
together_is os ms e =
    ext_get_or 0 (put_together os (marks_on os ms)) ms (length-together os (marks_on os ms) ∙ sym e) (λ c h.
    let g : c < length os = omega (arith, length-together os (marks_on os ms)) in
    together_at os (marks_on os ms) c g
    ∙ get_d_map (λ c. get_or ms c 0) (masters_on os (get_or os c 0)) (place_on os c) 0 0 (place_below os c g)
    ∙ ap (λ (x : ℕ). get_or ms x 0) (place_is os c g))

-- accepted starts make accepted serial marks
pub together_fits : (n : ℕ) (qs : List (List ℕ)) (ss : List ℕ) (P : ℕ) (os : List ℕ) (given : ℕ → List ℕ)
    → T (ownersb n qs ss P os) → ((p : ℕ) → 1 ≤ p → p ≤ P → T (startb ss os p (given p))) → T (marksb ss (put_together os given))
unfolding startb
together_fits n qs ss P os given t starts =
    let w = owners_counted n qs ss P os t in
    each_from ss (put_together os given) (length-together os given ∙ w.many) (λ c h.
    let g : c < length os = omega (arith, w.many) in
    let (a, b) = w.each c h in
    let below = place_below os c g in
    let u = each_at (map (λ c. get_or ss c 0) (masters_on os (get_or os c 0))) (given (get_or os c 0)) (starts (get_or os c 0) a b) (place_on os c)
    (omega (arith, length-map (masters_on os (get_or os c 0)) (λ c. get_or ss c 0))) in
    let es : get_or (map (λ c. get_or ss c 0) (masters_on os (get_or os c 0))) (place_on os c) 0 ≡ get_or ss c 0 =
    get_d_map (λ c. get_or ss c 0) (masters_on os (get_or os c 0)) (place_on os c) 0 0 below ∙ ap (λ (x : ℕ). get_or ss x 0) (place_is os c g) in
    subst (λ (x : ℕ). T (markb (get_or ss c 0) x)) (sym (together_at os given c g))
    (subst (λ (x : ℕ). T (markb x (get_or (given (get_or os c 0)) (place_on os c) 0))) es u))
