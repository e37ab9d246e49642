-- What a look into a table says.
--   Probed held r   0 where the pair is not held, 1 where it is, 2 where a search must tell
--   Unmet es a      no edge of the list has the corner a
-- Law: from_one (a test as a number is 1 where it holds, else 0).
use Rattle.std.specs.Prelude.{◌≡◌, refl, Bool, true, false, List, ℕ, ◌≤◌}
use Rattle.std.specs.Int.{from_bool}
use Rattle.base.specs.Bools.{one_if}
use Rattle.base.specs.Places.{hasb}
use Rattle.edges.specs.Pairs.{Pair, sorted, isb}

pub record Probed (held : Bool) (r : ℕ) : Type 0 where
  pub small : r ≤ 2
  pub none : r ≡ 0 → held ≡ false
  pub here : r ≡ 1 → held ≡ true

pub record Unmet (es : List Pair) (a : ℕ) : Type 0 where
  pub first : (b : ℕ) → hasb isb es (sorted (a, b)) ≡ false
  pub second : (b : ℕ) → hasb isb es (sorted (b, a)) ≡ false

pub from_one : (b : Bool) → from_bool b ≡ one_if b
unfolding one_if
from_one true = refl
from_one false = refl
