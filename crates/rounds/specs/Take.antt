-- Taking one message: what is kept while a round's messages come in, in any order. A mark is an "or", a count an addition, and totals add
-- up and keep the highest level; a message of another kind changes nothing.
--   one_more        what is taken, with one message more
-- Laws: added-take, masters-take, top-take, told-take, and as they are stored red-take, sum-take.
use Rattle.std.specs.Prelude.{◌≡◌, Bool, ◌||◌}
use Rattle.std.proofs.Math.Path.{refl, ap, subst}
use Rattle.std.proofs.Common.{sym, ◌∙◌}
use Rattle.std.proofs.Math.Logic.{⊎_elim}
use Rattle.std.proofs.Math.Bool.{true, false, or-false}
use mathlib.Core.List.{List, [], ◌∷◌, ◌++◌}
use Prim.Native.Nat.{ℕ, ◌+◌, ◌≤◌, max, Fin}
use native.Mathlib.Omega.{arith}
use Rattle.std.proofs.Math.Dec.{T}
use Rattle.base.specs.Lists.{anyb}
use Rattle.exchange.specs.Finite.{Finite, parts, sum_over, sum_change, upd, upd_same, upd_other}
use Rattle.rounds.specs.Rounds.{Body, State, tells, worth, masters_in, top_in, largest, told, added, masters_told}
use Rattle.rounds.specs.Rounds.{top_told, red_told, sum_told}
use Rattle.rounds.specs.Among.{any_part, part_any, largest_more}
use Rattle.base.specs.Bools.{or_first, or_second, or_either, same_test}

module _ (P : ℕ) (got : Fin P → List Body) (q : Fin P) (b : Body) where
  abbrev F : Finite (Fin P)
  F = parts P

  abbrev pub one_more : Fin P → List Body
  one_more = upd F got q (got q ++ (b ∷ []))

  more_there : one_more q ≡ got q ++ (b ∷ [])
  more_there = upd_same F got q (got q ++ (b ∷ []))

  more_else : (x : Fin P) → (x ≡ q → ⊥) → one_more x ≡ got x
  more_else x d = upd_other F got q (got q ++ (b ∷ [])) x d

  sum_snoc : (f : Body → ℕ) (l : List Body) → sum_over f (l ++ (b ∷ [])) ≡ sum_over f l + f b
  unfolding sum_over
  sum_snoc f [] = omega arith
  sum_snoc f (c ∷ l) = omega (arith, sum_snoc f l)

  largest_snoc : (f : Body → ℕ) (l : List Body) → largest f (l ++ (b ∷ [])) ≡ max (largest f l) (f b)
  unfolding largest
  largest_snoc f [] = omega arith
  largest_snoc f (c ∷ l) = omega (arith, largest_snoc f l)

  sums-take : (f : Body → ℕ) → sum_over (λ x. sum_over f (one_more x)) F.list ≡ sum_over (λ x. sum_over f (got x)) F.list + f b
  sums-take f =
      let e = sum_change P (λ x. sum_over f (got x)) (λ x. sum_over f (one_more x)) q (λ x d. ap (sum_over f) (sym (more_else x d))) in
      let h : sum_over f (one_more q) ≡ sum_over f (got q) + f b = ap (sum_over f) more_there ∙ sum_snoc f (got q) in
      omega arith

  added-take : (y : ℕ) → added F one_more y ≡ added F got y + worth y b
  unfolding added
  added-take y = sums-take (worth y)

  pub masters-take : masters_told F one_more ≡ masters_told F got + masters_in b
  unfolding masters_told
  masters-take = sums-take masters_in

  pub top-take : top_told F one_more ≡ max (top_told F got) (top_in b)
  unfolding top_told
  top-take = largest_more (λ x. largest top_in (got x)) (λ x. largest top_in (one_more x)) q (top_in b) grows fits there F.list (F.all q)
    where
      there : top_in b ≤ largest top_in (one_more q)
      there = omega (arith, ap (largest top_in) more_there, largest_snoc top_in (got q))

      grows : (x : Fin P) → largest top_in (got x) ≤ largest top_in (one_more x)
      grows x = elim (F.same? x q) [
        | yes e ↦ subst (λ y. largest top_in (got y) ≤ largest top_in (one_more y)) (sym e)
            (omega (arith, ap (largest top_in) more_there, largest_snoc top_in (got q)))
        | no d ↦ omega (arith, ap (largest top_in) (more_else x d))
      ]

      fits : (x : Fin P) → largest top_in (one_more x) ≤ max (largest top_in (got x)) (top_in b)
      fits x = elim (F.same? x q) [
        | yes e ↦ subst (λ y. largest top_in (one_more y) ≤ max (largest top_in (got y)) (top_in b)) (sym e)
            (omega (arith, ap (largest top_in) more_there, largest_snoc top_in (got q)))
        | no d ↦ omega (arith, ap (largest top_in) (more_else x d))
      ]

  any_snoc : (c : ℕ) (l : List Body) → anyb (tells c) (l ++ (b ∷ [])) ≡ (anyb (tells c) l || tells c b)
  unfolding anyb
  any_snoc c [] = or-false (tells c b)
  any_snoc c (x ∷ l) = go (tells c x) (any_snoc c l)
    where
      go : (a : Bool) → anyb (tells c) (l ++ (b ∷ [])) ≡ (anyb (tells c) l || tells c b)
          → (a || anyb (tells c) (l ++ (b ∷ []))) ≡ ((a || anyb (tells c) l) || tells c b)
      go true i = refl
      go false i = i

  told-take : (c : ℕ) → told F one_more c ≡ (told F got c || tells c b)
  unfolding told
  told-take c = same_test (told F one_more c) (told F got c || tells c b) up down
    where
      up : T (anyb (λ x. anyb (tells c) (one_more x)) F.list) → T (anyb (λ x. anyb (tells c) (got x)) F.list || tells c b)
      up t =
          let (x, u) = any_part (λ x. anyb (tells c) (one_more x)) F.list t in
          elim (F.same? x q) [
            | no d ↦ or_first (anyb (λ x. anyb (tells c) (got x)) F.list) (tells c b)
                (part_any (λ x. anyb (tells c) (got x)) F.list x (F.all x)
                (subst (λ (l : List Body). T (anyb (tells c) l)) (more_else x d) u))
            | yes e ↦
                let u' : T (anyb (tells c) (got q ++ (b ∷ []))) =
                subst (λ (l : List Body). T (anyb (tells c) l)) more_there (subst (λ y. T (anyb (tells c) (one_more y))) e u) in
                ⊎_elim (λ (v : T (anyb (tells c) (got q))). or_first (anyb (λ x. anyb (tells c) (got x)) F.list) (tells c b)
                (part_any (λ x. anyb (tells c) (got x)) F.list q (F.all q) v))
                (λ (v : T (tells c b)). or_second (anyb (λ x. anyb (tells c) (got x)) F.list) (tells c b) v)
                (or_either (anyb (tells c) (got q)) (tells c b) (subst (λ (z : Bool). T z) (any_snoc c (got q)) u'))
          ]

      at_q : T (anyb (tells c) (got q) || tells c b) → T (anyb (tells c) (one_more q))
      at_q v = subst (λ (l : List Body). T (anyb (tells c) l)) (sym more_there) (subst (λ (z : Bool). T z) (sym (any_snoc c (got q))) v)

      down : T (anyb (λ x. anyb (tells c) (got x)) F.list || tells c b) → T (anyb (λ x. anyb (tells c) (one_more x)) F.list)
      down t =
          ⊎_elim (λ (u : T (anyb (λ x. anyb (tells c) (got x)) F.list)).
          let (x, v) = any_part (λ x. anyb (tells c) (got x)) F.list u in
          elim (F.same? x q) [
            | no d ↦ part_any (λ x. anyb (tells c) (one_more x)) F.list x (F.all x)
                (subst (λ (l : List Body). T (anyb (tells c) l)) (sym (more_else x d)) v)
            | yes e ↦ part_any (λ x. anyb (tells c) (one_more x)) F.list q (F.all q)
                (at_q (or_first (anyb (tells c) (got q)) (tells c b) (subst (λ y. T (anyb (tells c) (got y))) e v)))
          ])
          (λ (u : T (tells c b)). part_any (λ x. anyb (tells c) (one_more x)) F.list q (F.all q)
          (at_q (or_second (anyb (tells c) (got q)) (tells c b) u)))
          (or_either (anyb (λ x. anyb (tells c) (got x)) F.list) (tells c b) t)

  -- as they are stored
  pub red-take : (s : State) (c : ℕ) → red_told F s one_more c ≡ (red_told F s got c || tells c b)
  unfolding red_told
  red-take s c = ap (λ (z : Bool). s.red c || z) (told-take c) ∙ regroup (s.red c) (told F got c) (tells c b)
    where
      regroup : (x y z : Bool) → (x || (y || z)) ≡ ((x || y) || z)
      regroup true y z = refl
      regroup false y z = refl

  pub sum-take : (s : State) (x : ℕ) → sum_told F s one_more x ≡ sum_told F s got x + worth x b
  unfolding sum_told
  sum-take s x = omega (arith, added-take x)
