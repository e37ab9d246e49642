-- `try_parts::main` is safe: the array that is lent has as many numbers as the slice.
use Rattle.std.proofs.Common.{◌≡◌, ℕ, length, sym}
use Rattle.std.proofs.Math.ListN.{replicate}
use Rattle.std.proofs.lemmas.List.{length-replicate}
use Rattle.try_parts.proofs.main.Goals as goal

long : (n : ℕ) → n ≡ length {A = ℕ} (replicate {A = ℕ} n 0)
long n = sym (length-replicate {A = ℕ} n 0)

pub slice_bounds-all_cases-end : goal.slice_bounds-all_cases-end
slice_bounds-all_cases-end c = long 3623808
