-- Booleans as tests, with what a passed test says.
--   impb a b   b holds where a does
--   one_if b   1 where b holds, else 0
use Rattle.std.specs.Prelude.{◌≡◌, refl, ◌⊎◌, Bool, true, false, ◌&&◌, ◌||◌, not, ℕ, ◌≤◌, T, eqb}
use Rattle.std.proofs.Common.{inl, inr, arith}

unfoldable pub impb : Bool → Bool → Bool
impb true b = b
impb false b = true

unfoldable pub one_if : Bool → ℕ
one_if true = 1
one_if false = 0

pub is_true : (b : Bool) → T b → b ≡ true
is_true true t = refl
is_true false t = absurd t

pub is_false : (b : Bool) → T (not b) → b ≡ false
is_false true t = absurd t
is_false false t = refl

pub and_left : (a b : Bool) → T (a && b) → T a
and_left true b t = tt
and_left false b t = t

pub and_right : (a b : Bool) → T (a && b) → T b
and_right true b t = t
and_right false b t = absurd t

pub and_both : (a b : Bool) → T a → T b → T (a && b)
and_both true b s t = t
and_both false b s t = absurd s

pub or_first : (a b : Bool) → T a → T (a || b)
or_first true b t = tt
or_first false b t = absurd t

pub or_second : (a b : Bool) → T b → T (a || b)
or_second true b t = tt
or_second false b t = t

pub or_either : (a b : Bool) → T (a || b) → T a ⊎ T b
or_either true b t = inl tt
or_either false b t = inr t

pub impb_use : (a b : Bool) → T (impb a b) → T a → T b
unfolding impb
impb_use true b t u = t
impb_use false b t u = absurd u

-- two tests that pass together; a test that cannot pass
pub same_test : (a b : Bool) → (T a → T b) → (T b → T a) → a ≡ b
same_test true true f g = refl
same_test true false f g = absurd (f tt)
same_test false true f g = absurd (g tt)
same_test false false f g = refl

pub false_from : (b : Bool) → (T b → ⊥) → b ≡ false
false_from true f = absurd (f tt)
false_from false f = refl

-- a test is one of the two, with its equation; and it is not both
pub either : (b : Bool) → (b ≡ true) ⊎ (b ≡ false)
either true = inl refl
either false = inr refl

pub not_both : {A : Type 0} (b : Bool) → b ≡ true → b ≡ false → A
not_both b p q = let w : ◌≡◌ {A = ℕ} 0 1 = cc in absurd (omega arith)

pub one_most : (b : Bool) → one_if b ≤ 1
unfolding one_if
one_most true = omega arith
one_most false = omega arith

pub eqb_one : (b : Bool) → eqb (one_if b) 1 ≡ b
unfolding one_if
eqb_one true = refl
eqb_one false = refl
