-- The determinant of a cell's edge vectors in parts, and the sizes that keep it within 64 bits.
--   Small n z                 the integer z is n or less without its sign
--   CornerThere ps a               the numbers of ps are positions, and a is one of their corners
--   CornersThere ps q              the same of the four corners of the cell q
--   edge_vector ps a b i           a coordinate of the vector from the corner a to the corner b
--   term_of ps q i j k         of the cell q: the coordinate i of the vector to b, times the minor of j and k of the vectors to c and d
use Rattle.std.specs.Prelude.{List, ℕ, ◌+◌, ◌*◌, ◌≤◌, ℤ, pos, nat_abs, ◌-ℤ◌, ◌*ℤ◌, length, get_or}
use Rattle.mesh.specs.Coarse.{coordinate_at}

-- Rule 1.3: a bound on the size of a number.
pub record Small (n : ℕ) (z : ℤ) : Type 0 where
  pub size : nat_abs z ≤ n

-- Rules 1.3, 1.4: a corner that is there, with coordinates in range.
pub record CornerThere (ps : List ℤ) (a : ℕ) : Type 0 where
  pub near : (k : ℕ) → Small 500000 (get_or ps k (pos 0))
  pub inside : 3 * a + 3 ≤ length ps

-- Rules 1.3, 1.4: the four of a cell.
pub record CornersThere (ps : List ℤ) (q : List ℕ) : Type 0 where
  pub a_in : CornerThere ps (get_or q 0 0)
  pub b_in : CornerThere ps (get_or q 1 0)
  pub c_in : CornerThere ps (get_or q 2 0)
  pub d_in : CornerThere ps (get_or q 3 0)

-- Rule 1.5: a coordinate of the vector between two corners.
unfoldable pub edge_vector : List ℤ → ℕ → ℕ → ℕ → ℤ
unfolding coordinate_at
edge_vector ps a b i = coordinate_at ps b i -ℤ coordinate_at ps a i

-- Rule 1.5: one of the determinant's three terms.
unfoldable pub term_of : List ℤ → List ℕ → ℕ → ℕ → ℕ → ℤ
unfolding edge_vector
term_of ps q i j k =
    let a = get_or q 0 0 in let b = get_or q 1 0 in let c = get_or q 2 0 in let d = get_or q 3 0 in
    edge_vector ps a b i *ℤ (edge_vector ps a c j *ℤ edge_vector ps a d k -ℤ edge_vector ps a c k *ℤ edge_vector ps a d j)
