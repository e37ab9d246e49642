-- Bytes at a place as numbers, and records counted from the front.
--   whole_two, whole_four    two and four bytes as a number
--   counted_records          the records that the bytes start with, taken while they have the letter
-- Assumes nothing.
use mathlib.Core.Path.{◌≡◌, refl, sym, ap}
use mathlib.Core.Bool.{Bool, true, false, ◌&&◌, cond}
use mathlib.Core.List.{List, [], ◌∷◌}
use Prim.Native.Nat.{ℕ, zero, suc, ◌+◌, ◌*◌, ◌≤◌, ◌<◌}
use native.Mathlib.Nat.{mul-suc}
use native.Mathlib.Omega.{arith}
use lib.Dec.{eqb}
use lib.ListN.{length, get_or, take, drop, length-drop}
use lib.Seq.{drop-cons, get_or-take}
use borrow.Author.Tests.{le-leb, lt-leb}
use Rattle.std.specs.List.{prefix_len}
use Rattle.std.specs.Simd.{first_chunks}
use Rattle.archive.specs.Form.{startsb, whole}
use Rattle.archive.specs.Records.{records_in, records_none, records_more}

pub whole_two : (bs : List ℕ) (at : ℕ) → at + 2 ≤ length bs → get_or bs at 0 + 256 * get_or bs (at + 1) 0 ≡ whole 2 (drop at bs)
unfolding whole
whole_two bs at h =
    let k : at + 1 ≡ suc at = omega arith in
    rw (k, drop-cons bs at 0 (omega arith), drop-cons bs (suc at) 0 (omega arith)) (omega arith)

pub whole_four : (bs : List ℕ) (at : ℕ) → at + 4 ≤ length bs
    → get_or bs at 0 + 256 * get_or bs (at + 1) 0 + 65536 * get_or bs (at + 2) 0 + 16777216 * get_or bs (at + 3) 0 ≡ whole 4 (drop at bs)
unfolding whole
whole_four bs at h =
    let k : at + 1 ≡ suc at = omega arith in
    let m : at + 2 ≡ suc (suc at) = omega arith in
    let n : at + 3 ≡ suc (suc (suc at)) = omega arith in
    rw (
      k,
      m,
      n,
      drop-cons bs at 0 (omega arith),
      drop-cons bs (suc at) 0 (omega arith),
      drop-cons bs (suc (suc at)) 0 (omega arith),
      drop-cons bs (suc (suc (suc at))) 0 (omega arith),
    )
    (omega arith)

module _ (l k : ℕ) where
  short : (bs : List ℕ) → length bs < k → startsb l k bs ≡ false
  unfolding startsb
  short bs h = rw (lt-leb k (length bs) h) (and_none (eqb (get_or bs 0 0) l))
    where
      and_none : (b : Bool) → (b && false) ≡ false
      and_none true = refl
      and_none false = refl

  starts_first : (bs : List ℕ) → k ≤ length bs → startsb l k bs ≡ eqb (get_or bs 0 0) l
  unfolding startsb
  starts_first bs h = rw (le-leb k (length bs) h) (and_one (eqb (get_or bs 0 0) l))
    where
      and_one : (b : Bool) → (b && true) ≡ b
      and_one true = refl
      and_one false = refl

  abbrev has : List ℕ → Bool
  has r = eqb (get_or r 0 0) l

  pub counted_records : 0 < k → (n f : ℕ) (bs : List ℕ) → n ≤ f → k * n ≤ length bs → length bs < k * suc n
      → prefix_len has (first_chunks k n bs) ≡ records_in l k f bs
  counted_records p zero f bs g h i =
      sym (records_none l k bs f (short bs (omega (arith, mul-suc k 0))))
  counted_records p (suc n) zero bs g h i = absurd (omega arith)
  counted_records p (suc n) (suc f) bs g h i =
      let room : k ≤ length bs = omega (arith, mul-suc k n) in
      let first : get_or (take k bs) 0 0 ≡ get_or bs 0 0 = get_or-take k bs 0 0 p in
      go (eqb (get_or bs 0 0) l) (ap (λ (b : ℕ). eqb b l) first) (starts_first bs room)
      (counted_records p n f (drop k bs) (omega arith) (omega (arith, mul-suc k n, length-drop k bs))
      (omega (arith, mul-suc k n, mul-suc k (suc n), length-drop k bs)))
    where
      go : (b : Bool) → has (take k bs) ≡ b → startsb l k bs ≡ b → prefix_len has (first_chunks k n (drop k bs)) ≡ records_in l k f (drop k bs)
          → cond (has (take k bs)) (1 + prefix_len has (first_chunks k n (drop k bs))) 0 ≡ records_in l k (suc f) bs
      go true e t less = rw (e, records_more l k bs f t, less) (omega arith)
      go false e t less = rw (e, records_none l k bs (suc f) t)

pub taken : {A : Type 0} (p : A → Bool) (l : List A) → length (take (prefix_len p l) l) ≡ prefix_len p l
taken p [] = refl
taken p (x ∷ l) = go (p x) (taken p l)
  where
    go : (b : Bool) → length (take (prefix_len p l) l) ≡ prefix_len p l
        → length (take (cond b (1 + prefix_len p l) 0) (x ∷ l)) ≡ cond b (1 + prefix_len p l) 0
    go true e = let z : 1 + prefix_len p l ≡ suc (prefix_len p l) = omega arith in rw z (ap suc e)
    go false e = refl
