-- A pattern splits the edges that it is the pattern of.
-- Laws: split_bits (bits), split_pattern (a pattern's edges), pattern-six (it is below 64), split_none (the pattern 0 splits
-- nothing), split_red (the pattern 63 splits all six).
use Rattle.std.specs.Prelude.{◌≡◌, refl, Bool, true, List, [], ◌∷◌, map, ℕ, zero, suc, ◌+◌, ◌*◌, ◌/◌, ◌%◌, ◌^◌, ◌<◌, get_or}
use Rattle.std.proofs.Common.{◌∙◌, arith}
use Rattle.std.proofs.Math.Path.{ap}
use Rattle.std.proofs.Math.Bool.{false}
use Rattle.std.proofs.Math.Nat.{zero-div, pow-succ', div-div-eq-div-mul}
use Rattle.base.specs.Bools.{one_if, one_most, eqb_one}
use Rattle.cutting.specs.Rule.{split}
use Rattle.mesh.specs.Cells.{Cell, edge, edges, heldb, bits_of, pattern}
use Rattle.base.specs.Every.{below_at, get_d_map}
use Rattle.carriers.specs.Lists.{edge_at_lem, edge_count}

pub split_none : (x : ℕ) → split 0 x ≡ false
unfolding split
split_none x = rw (zero-div (2 ^ x))

pub split_red : (x : ℕ) → x < 6 → split 63 x ≡ true
unfolding split
split_red = below_at (λ x. split 63 x ≡ true) 6 ((((((tt, refl), refl), refl), refl), refl), refl)

pub split_bits : (bs : List Bool) (x : ℕ) → split (bits_of bs) x ≡ get_or bs x false
unfolding bits_of split
split_bits [] x = split_none x
split_bits (b ∷ bs) zero =
    let e : (one_if b + 2 * bits_of bs) / 1 % 2 ≡ one_if b = omega (arith, one_most b) in
    rw e (eqb_one b)
split_bits (b ∷ bs) (suc x) =
    let e : (one_if b + 2 * bits_of bs) / 2 ≡ bits_of bs = omega (arith, one_most b) in
    rw (pow-succ' 2 x, ← div-div-eq-div-mul (one_if b + 2 * bits_of bs) 2 (2 ^ x), e) (split_bits bs x)

module _ {A : Type 0} (o : A) (same : A → A → Bool) (es : List (A × A)) (c : Cell A) where
  pub split_pattern : (x : ℕ) → x < 6 → split (pattern o same es c) x ≡ heldb same es (edge o c x)
  unfolding pattern
  split_pattern x h =
      split_bits (map (heldb same es) (edges o c)) x
      ∙ get_d_map (heldb same es) (edges o c) x (o, o) false (omega (arith, edge_count o c)) ∙ ap (heldb same es) (edge_at_lem o c x h)
