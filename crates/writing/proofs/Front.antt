-- Tables that are written over, element by element or a part at once.
-- Assumes nothing.
use mathlib.Core.Path.{◌≡◌, refl, sym, ◌∙◌, ap}
use mathlib.Core.List.{List, [], ◌∷◌, ◌++◌}
use Prim.Native.Nat.{ℕ, suc, ◌+◌, ◌-◌, ◌≤◌, ◌<◌}
use native.Mathlib.Nat.{zero-add}
use native.Mathlib.Omega.{arith}
use lib.ListN.{length, get_or, take, drop, set}
use lib.Seq.{set_split, take-suc, take_all, take_at, drop_at, length-take-le}
use Rattle.rows.specs.Numbered.{part}
use Rattle.rows.specs.Laws.{part_more}
use Rattle.growth.specs.Written.{written, written_none, written_more, length-written}
use Rattle.base.specs.Range.{range, length-range, range_at}
use borrow.Rule.Slice.PartMut.{put_mid}
use Rattle.std.proofs.Math.Seq.{drop-drop}

put_one : (l : List ℕ) (i v : ℕ) → i < length l → set l i v ≡ written l i (v ∷ [])
unfolding written
put_one l i v h = let e : i + 1 ≡ suc i = omega arith in rw e (set_split l i v h)

-- one more of vs
module _ (l : List ℕ) (at : ℕ) (vs : List ℕ) (room : at + length vs ≤ length l) where
  front_more : (i : ℕ) → i < length vs → set (written l at (take i vs)) (at + i) (get_or vs i 0) ≡ written l at (take (i + 1) vs)
  front_more i h =
      let e : i + 1 ≡ suc i = omega arith in
      let k : length (take i vs) ≡ i = length-take-le i vs (omega arith) in
      let w : at + length (take i vs) ≡ at + i = omega arith in
      let n : length (written l at (take i vs)) ≡ length l = length-written l at (take i vs) (omega arith) in
      put_one (written l at (take i vs)) (at + i) (get_or vs i 0) (omega arith)
      ∙ (rw w at (written_more l at (take i vs) (omega arith) (get_or vs i 0 ∷ [])))
      ∙ rw (e, take-suc vs i 0 h)

  pub part_of_written : (k : ℕ) → length vs ≡ k → part (written l at vs) at k ≡ vs
  unfolding written
  part_of_written k e =
      ap (take k) (drop_at (take at l) (vs ++ drop (at + length vs) l) at (length-take-le at l (omega arith)))
      ∙ take_at vs (drop (at + length vs) l) k e

-- a list written anew from its start
module _ (l vs : List ℕ) (long : length vs ≡ length l) where
  pub anew_more : (i v : ℕ) (l' : List ℕ) → l' ≡ written l 0 (take i vs) → i < length vs → v ≡ get_or vs i 0
      → set l' i v ≡ written l 0 (take (i + 1) vs)
  anew_more i v l' e h w = rw (e, w) (rw zero-add at (front_more l 0 vs (omega arith) i h))

  pub anew_all : (i : ℕ) (l' : List ℕ) → l' ≡ written l 0 (take i vs) → length vs ≤ i → l' ≡ vs
  anew_all i l' e h =
      let w : part (written l 0 vs) 0 (length vs) ≡ vs = part_of_written l 0 vs (omega arith) (length vs) refl in
      let n : length (written l 0 vs) ≡ length l = length-written l 0 vs (omega arith) in
      e ∙ ap (written l 0) (take_all i vs h) ∙ sym (take_all (length vs) (written l 0 vs) (omega arith)) ∙ w

-- a part that is copied to
pub copied : (l : List ℕ) (i k : ℕ) (vs ws : List ℕ) → k ≡ length vs → ws ≡ vs → put_mid i k l ws ≡ written l i vs
unfolding written
copied l i k vs ws e q = rw (q, e, drop-drop (length vs) i l)

-- numbers in a row
module _ (l : List ℕ) (at first n : ℕ) (room : at + n ≤ length l) where
  pub numbers_start : l ≡ written l at (take 0 (range first n))
  numbers_start = sym (written_none l at)

  pub numbers_more : (i : ℕ) (l' : List ℕ) → i < n → l' ≡ written l at (take i (range first n))
      → set l' (at + i) (first + i) ≡ written l at (take (i + 1) (range first n))
  numbers_more i l' h e =
      let w : first + i ≡ get_or (range first n) i 0 = sym (range_at first n i 0 h) in
      rw (e, w) (front_more l at (range first n) (omega (arith, length-range first n)) i (omega (arith, length-range first n)))

  pub numbers_all : (i : ℕ) (l' : List ℕ) → n ≤ i → l' ≡ written l at (take i (range first n)) → l' ≡ written l at (range first n)
  numbers_all i l' h e = e ∙ ap (written l at) (take_all i (range first n) (omega (arith, length-range first n)))

-- a part, one element more
pub part_on : (l : List ℕ) (first c : ℕ) → first ≤ c → c < length l → part l first (c + 1 - first) ≡ part l first (c - first)
    ++ (get_or l c 0 ∷ [])
part_on l first c h g =
    let e : c + 1 - first ≡ suc (c - first) = omega arith in
    let w : first + (c - first) ≡ c = omega arith in
    let k : first + (c - first) < length l = omega arith in
    rw e (rw w at (part_more l first (c - first) k))
