-- What refusals 2 and 3 say of a cell.
-- Assumes nothing.
use mathlib.Core.Path.{◌≡◌, refl}
use mathlib.Core.Bool.{Bool, true, false}
use mathlib.Core.List.{List, []}
use Prim.Native.Nat.{ℕ, ◌/◌, ◌<◌}
use native.Mathlib.Omega.{arith}
use lib.Dec.{T, ltb, leb, ltb→lt, leb→le}
use lib.IntN.{ℤ, pos, nat_abs}
use lib.ListN.{length, get_or, get_or-eq_default}
use borrow.Author.Tests.{ltb-true, ltb-false}
use Rattle.base.specs.Lists.{allb, allb_at}
use Rattle.base.specs.Bools.{is_true, and_left, and_right}
use Rattle.std.proofs.lemmas.List.Elements.{All-from_get_or}
use Rattle.std.specs.Prelude.{All}
use Rattle.mesh.specs.Coarse.{positionsb, cellb, cellsb}
use Rattle.coarse.specs.Volume.{Small, CornersThere}

all_at : {A : Type 0} (f : A → Bool) (d : A) (l : List A) → allb f l ≡ true → (k : ℕ) → k < length l → f (get_or l k d) ≡ true
all_at f d l e k h = is_true (f (get_or l k d)) (allb_at f d l (rw e tt) k h)

-- four rising numbers below n
pub record Rising (n a b c d : ℕ) : Type 0 where
  pub ab : a < b
  pub bc : b < c
  pub cd : c < d
  pub dn : d < n

rising_test : (n : ℕ) (q : List ℕ) → T (cellb n q) → Rising n (get_or q 0 0) (get_or q 1 0) (get_or q 2 0) (get_or q 3 0)
unfolding cellb
rising_test n q t = search (and_left, and_right, ltb→lt)

pub rising : (n : ℕ) (q : List ℕ) → cellb n q ≡ true → Rising n (get_or q 0 0) (get_or q 1 0) (get_or q 2 0) (get_or q 3 0)
rising n q e = rising_test n q (rw e tt)

near : (ps : List ℤ) → positionsb ps ≡ true → (k : ℕ) → Small 500000 (get_or ps k (pos 0))
unfolding positionsb
near ps e k = go (ltb k (length ps)) refl
  where
    go : (t : Bool) → ltb k (length ps) ≡ t → Small 500000 (get_or ps k (pos 0))
    go true t =
        let b : leb (nat_abs (get_or ps k (pos 0))) 500000 ≡ true = all_at (λ z. leb (nat_abs z) 500000) (pos 0) ps e k
        (ltb-true k (length ps) t) in
        record { size = leb→le (nat_abs (get_or ps k (pos 0))) 500000 (rw b tt) }
    go false t = rw (get_or-eq_default ps (pos 0) (ltb-false k (length ps) t)) (record { size = omega arith })

placed_cell : (ps : List ℤ) → positionsb ps ≡ true → (q : List ℕ) → cellb (length ps / 3) q ≡ true → CornersThere ps q
placed_cell ps p q e =
    let n = near ps p in
    let r = rising (length ps / 3) q e in
    record {
      a_in = record { near = n; inside = omega arith };
      b_in = record { near = n; inside = omega arith };
      c_in = record { near = n; inside = omega arith };
      d_in = record { near = n; inside = omega arith };
    }

-- refusals 2 and 3 leave cells whose corners are there
pub placed : (ps : List ℤ) → positionsb ps ≡ true → (qs : List (List ℕ)) → cellsb (length ps / 3) qs ≡ true → All (CornersThere ps) qs
placed ps p qs e =
    All-from_get_or (CornersThere ps) qs []
    (λ k h. placed_cell ps p (get_or qs k []) (unfold cellsb in all_at (cellb (length ps / 3)) [] qs e k h))
