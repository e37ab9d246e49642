-- How long the lines are, at most.
-- Laws: length_digits, length-decimal, length-line (30), length-lines; a listing of at most 44 counts has at most 512 bytes
-- (listing_fits), and the line of a refused archive at most 14 (refusal_fits).
use Rattle.std.specs.Prelude.{Bool, true, false, List, [], ◌∷◌, ◌++◌, ℕ, zero, suc, ◌+◌, ◌*◌, ◌/◌, ◌%◌, ◌≤◌, ltb, length}
use Rattle.std.proofs.Common.{arith, length-append}
use Rattle.base.specs.Limits.{full_counts}
use Rattle.listing.specs.Lines.{digits, decimal, fields, lines, header, listing, refusal}

pub length_digits : (f n : ℕ) → length (digits f n) ≤ f + 1
unfolding digits
length_digits zero n = omega arith
length_digits (suc f) n = go (ltb n 10) (length_digits f (n / 10))
  where
    go : (b : Bool) → length (digits f (n / 10)) ≤ f + 1
        → length {A = ℕ} (elim b [ true ↦ (48 + n) ∷ [] | false ↦ digits f (n / 10) ++ ((48 + n % 10) ∷ []) ]) ≤ suc f + 1
    go true h = omega arith
    go false h = rw (length-append (digits f (n / 10)) ((48 + n % 10) ∷ [])) (omega arith)

pub length-decimal : (n : ℕ) → length (decimal n) ≤ 5
unfolding decimal
length-decimal n = length_digits 4 n

-- five numbers
pub length-line : (i a b c d : ℕ) → length (fields (i ∷ a ∷ b ∷ c ∷ d ∷ [])) ≤ 30
unfolding fields
length-line i a b c d = simp length-append
    (omega (arith, length-decimal i, length-decimal a, length-decimal b, length-decimal c, length-decimal d))

length-lines : (i : ℕ) (cs : List ℕ) → length (lines i cs) ≤ 8 * length cs
unfolding lines
length-lines i [] = omega arith
length-lines i (a ∷ []) = omega arith
length-lines i (a ∷ b ∷ []) = omega arith
length-lines i (a ∷ b ∷ c ∷ []) = omega arith
length-lines i (a ∷ b ∷ c ∷ d ∷ cs) =
    rw (length-append (fields (i ∷ a ∷ b ∷ c ∷ d ∷ [])) (lines (suc i) cs)) (omega (arith, length-line i a b c d, length-lines (suc i) cs))

pub listing_fits : (cs : List ℕ) → length cs ≤ full_counts → length (listing cs) ≤ 512
unfolding listing
listing_fits cs h = rw (length-append header (lines 0 cs)) (omega (arith, length-lines 0 cs))

pub refusal_fits : (k : ℕ) → length (refusal k) ≤ 14
unfolding refusal
refusal_fits k = simp length-append (omega (arith, length-decimal k))
