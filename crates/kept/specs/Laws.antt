-- What a cell keeps, by whether it will be red.
-- Laws: kept_red, kept_pattern (the two cases), kept_is_red (it keeps 64 just where it will be red), kept_small (it is a status).
-- Assumes nothing.
use Rattle.std.specs.Prelude.{◌≡◌, Bool, ℕ, zero, suc, ◌≤◌, get_or}
use Rattle.std.proofs.Math.Path.{refl}
use Rattle.std.proofs.Math.Bool.{true, false}
use mathlib.Core.List.{List, [], ◌∷◌, ◌++◌, flatten}
use native.Mathlib.Omega.{arith}
use borrow.Author.Tests.{ne_eqb}
use Rattle.base.specs.Lists.{sameb}
use Rattle.mesh.specs.Cells.{Cell, redb, pattern}
use Rattle.mesh.specs.Weights.{Point}
use Rattle.mesh.specs.Table.{Level, levels_of}
use Rattle.mesh.specs.Step.{Row, rows, rows_up, edges_up, new_redb, new_reds}
use Rattle.mesh.specs.Laws.{pattern_small}
use Rattle.kept.specs.Kept.{kept_of, kept_rows, kept_levels, kept_table}

module _ {A : Type 0} (o : A) (same : A → A → Bool) (es : List (A × A)) where
  pub kept_red : (b : Bool) (c : Cell A) → b ≡ true → kept_of o same es b c ≡ 64
  unfolding kept_of
  kept_red b c e = rw (e, kept_of)

  pub kept_pattern : (b : Bool) (c : Cell A) → b ≡ false → kept_of o same es b c ≡ pattern o same es c
  unfolding kept_of
  kept_pattern b c e = rw (e, kept_of)

  pub kept_is_red : (b : Bool) (c : Cell A) → redb (kept_of o same es b c) ≡ b
  unfolding kept_of
  kept_is_red true c = refl
  kept_is_red false c = ne_eqb (pattern o same es c) 64 (λ e. omega (arith, pattern_small o same es c, e))

  one_small : (b : Bool) (c : Cell A) → kept_of o same es b c ≤ 64
  unfolding kept_of
  one_small true c = omega arith
  one_small false c = omega (arith, pattern_small o same es c)

rows_small : (ls : List Level) (ms : List ℕ) (es : List (Point × Point)) (rs : List Row) (c : ℕ) → get_or (kept_rows ls ms es rs) c 0 ≤ 64
unfolding kept_rows
rows_small ls ms es [] c = omega arith
rows_small ls ms es (r ∷ rs) zero = one_small [] sameb es (new_redb (rows_up ls ms) (edges_up (new_reds ls ms)) r) r.cell
rows_small ls ms es (r ∷ rs) (suc c) = rows_small ls ms es rs c

both_small : (a b : List ℕ) → ((c : ℕ) → get_or a c 0 ≤ 64) → ((c : ℕ) → get_or b c 0 ≤ 64) → (c : ℕ) → get_or (a ++ b) c 0 ≤ 64
both_small [] b f g c = g c
both_small (x ∷ a) b f g zero = f zero
both_small (x ∷ a) b f g (suc c) = both_small a b (λ i. f (suc i)) g c

levels_small : (ls : List Level) (ms : List ℕ) (c : ℕ) → get_or (flatten (kept_levels ls ms)) c 0 ≤ 64
unfolding kept_levels flatten
levels_small [] ms c = omega arith
levels_small (l ∷ ls) ms c =
    both_small (kept_rows ls ms (edges_up (new_reds (l ∷ ls) ms)) (rows l ms)) (flatten (kept_levels ls ms))
    (rows_small ls ms (edges_up (new_reds (l ∷ ls) ms)) (rows l ms)) (levels_small ls ms) c

pub kept_small : (n : ℕ) (qs : List (List ℕ)) (ss ms : List ℕ) (c : ℕ) → get_or (kept_table n qs ss ms) c 0 ≤ 64
unfolding kept_table
kept_small n qs ss ms c = levels_small (levels_of n qs ss) ms c
