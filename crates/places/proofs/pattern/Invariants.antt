use Rattle.std.proofs.Common.{◌≡◌, ◌<◌, ℕ, Bool}
use Rattle.places.proofs.Bits.{bits_from, few_bits}
use Rattle.places.proofs.pattern.Given as goal

abbrev pub invariant-loop-e : goal.invariant-loop-e
invariant-loop-e g l = few_bits l.pattern l.e
    × ((f : ℕ → Bool) → ((e : ℕ) (b : Bool) → e < 6 → goal.F-post g l.test e b → b ≡ f e) → l.pattern ≡ bits_from f l.e)
