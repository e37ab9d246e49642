-- Corners that two regular cells share come in the same order in both.
-- Laws: lower_too (the lower corner of two is so in the other cell), ltb_too (as a test), agree (both ways).
use Rattle.std.specs.Prelude.{[], ◌≡◌, refl, Bool, true, false, ℕ, ◌<◌, T, ltb}
use Rattle.std.proofs.Common.{sym, ◌∙◌, ap, arith, ltb-true, lt-ltb}
use Rattle.std.specs.Bool.{beq}
use Rattle.std.proofs.Math.Decide.{dec_lt}
use Rattle.mesh.specs.Cells.{Cell, corner}
use Rattle.mesh.specs.Weights.{Point}
use Rattle.lattice.specs.Regular.{Regular}
use Rattle.lattice.specs.Edges.{corner_apart, ends_turned}
use Rattle.base.specs.Bools.{and_both}
use Rattle.families.specs.Joining.{agreeb}

module _ (n m : ℕ) (c q : Cell Point) (r : Regular n m c) (s : Regular n m q) where
  pub lower_too : (i j k l : ℕ) → j < 4 → k < 4 → corner [] c i ≡ corner [] q k → corner [] c j ≡ corner [] q l → i < j → k < l
  lower_too i j k l hj hk e f h =
      elim (dec_lt k l) [
        | yes g ↦ g
        | no g ↦ elim (dec_lt l k) [
          | yes w ↦ absurd (ends_turned n m m c q r s i j l k h hj w hk e f)
          | no w ↦ let x : k ≡ l = omega arith in absurd (corner_apart n m c r i j h hj (e ∙ ap (corner [] q) x ∙ sym f))
        ]
      ]

beq_self : (a : Bool) → T (beq a a)
beq_self true = tt
beq_self false = tt

module _ (n m : ℕ) (c q : Cell Point) (r : Regular n m c) (s : Regular n m q) where
  ltb_too : (i j k l : ℕ) → i < 4 → j < 4 → k < 4 → l < 4 → corner [] c i ≡ corner [] q k → corner [] c j ≡ corner [] q l
      → ltb i j ≡ ltb k l
  ltb_too i j k l hi hj hk hl e f = go (ltb i j) refl (ltb k l) refl
    where
      go : (a : Bool) → ltb i j ≡ a → (b : Bool) → ltb k l ≡ b → a ≡ b
      go true p b x = sym (sym x ∙ lt-ltb k l (lower_too n m c q r s i j k l hj hk e f (ltb-true i j p)))
      go false p true x = sym p ∙ lt-ltb i j (lower_too n m q c s r k l i j hl hi (sym e) (sym f) (ltb-true k l x))
      go false p false x = refl

  pub agree : (i j k l : ℕ) → i < 4 → j < 4 → k < 4 → l < 4 → corner [] c i ≡ corner [] q k → corner [] c j ≡ corner [] q l
      → T (agreeb i j k l)
  agree i j k l hi hj hk hl e f =
      rw (ltb_too i j k l hi hj hk hl e f, ltb_too j i l k hj hi hl hk f e)
      (and_both (beq (ltb k l) (ltb k l)) (beq (ltb l k) (ltb l k)) (beq_self (ltb k l)) (beq_self (ltb l k)))
