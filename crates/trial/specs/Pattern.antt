-- What tables hold before a call, and the checksum of what they hold after it.
--   turned s x        one turn: a polynomial at 48,271, modulo the prime 2 ^ 31 - 1
--   fill_at k          the k-th number that a table is filled with, from 1
--   tab_of g n         g at 0, 1, .. up to n - 1
--   check_from f s l   the checksum of a list, each element taken as f says, that goes on from s
--   above_least z      how far a number lies above the least i32
use Rattle.std.specs.Prelude.{List, [], ◌∷◌, ◌++◌, ℕ, zero, suc, ◌+◌, ◌*◌, ◌%◌, ℤ, pos, nat_abs, ◌+ℤ◌}

abbrev pub turned : ℕ → ℕ → ℕ
turned s x = (s * 48271 + x) % 2147483647

unfoldable pub fill_at : ℕ → ℕ
fill_at zero = 1
fill_at (suc k) = turned (fill_at k) 1

unfoldable pub tab_of : {A : Type 0} → (ℕ → A) → ℕ → List A
tab_of g zero = []
tab_of g (suc n) = tab_of g n ++ (g n ∷ [])

unfoldable pub check_from : {A : Type 0} → (A → ℕ) → ℕ → List A → ℕ
check_from f s [] = s
check_from f s (x ∷ l) = check_from f (turned s (f x)) l

unfoldable pub above_least : ℤ → ℕ
above_least z = nat_abs (z +ℤ pos 2147483648)

-- what each kind of table is filled with
abbrev pub byte_fill : ℕ → ℕ
byte_fill k = fill_at k % 256

abbrev pub word_fill : ℕ → ℕ
word_fill k = fill_at k % 65536

abbrev pub signed_fill : ℕ → ℤ
signed_fill k = pos (fill_at k)
