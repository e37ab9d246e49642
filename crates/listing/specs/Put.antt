-- Bytes stored one behind the other.
--   Put l at bs m r   m is l with the bytes bs from the place `at` on, and r, which is inside l, is the place behind them
-- Laws: put_none, put_one, put_more (two parts, one behind the other), put_as (the bytes by another name), put-length, and what it
-- says by parts (put_parts, put_front).
use Rattle.std.specs.Prelude.{◌≡◌, refl, List, [], ◌∷◌, ◌++◌, ℕ, ◌+◌, ◌≤◌, ◌<◌, length, set, take, drop}
use Rattle.std.proofs.Common.{sym, ◌∙◌, ap, append_assoc, add-zero, zero-add, arith, length-append}
use Rattle.std.proofs.lemmas.List.Edits.{sets, sets-eq}
use Rattle.std.proofs.Math.Seq.{length-sets}
use Rattle.base.specs.Append.{sets_append}

pub record Put (l : List ℕ) (at : ℕ) (bs m : List ℕ) (r : ℕ) : Type 0 where
  pub bytes : m ≡ sets l at bs
  pub behind : r ≡ at + length bs
  pub inside : r ≤ length l

pub put_none : (l : List ℕ) (at : ℕ) → at ≤ length l → Put l at [] l at
put_none l at h = record { bytes = refl; behind = sym (add-zero at); inside = h }

pub put_one : (l : List ℕ) (at b : ℕ) → at < length l → Put l at (b ∷ []) (set l at b) (at + 1)
put_one l at b h = record { bytes = refl; behind = refl; inside = omega arith }

pub put-length : {l bs m : List ℕ} {at r : ℕ} → Put l at bs m r → length m ≡ length l
put-length {l} {bs} {m} {at} p = ap length p.bytes ∙ length-sets l at bs

pub put_more : {l m n xs ys : List ℕ} {at p r : ℕ} → Put l at xs m p → Put m p ys n r → Put l at (xs ++ ys) n r
put_more {l} {m} {n} {xs} {ys} {at} {p} {r} f g =
    record {
      bytes = g.bytes ∙ rw (f.bytes, f.behind) (sym (sets_append xs ys l at));
      behind = omega (arith, f.behind, g.behind, length-append xs ys);
      inside = omega (arith, g.inside, put-length f);
    }

pub put_as : {l m xs ys : List ℕ} {at r : ℕ} → xs ≡ ys → Put l at xs m r → Put l at ys m r
put_as e p = rw e at p

module _ {l bs m : List ℕ} where
  put_parts : {at r : ℕ} → Put l at bs m r → m ≡ take at l ++ (bs ++ drop (at + length bs) l)
  put_parts {at} p = p.bytes ∙ sets-eq bs l at (omega (arith, p.behind, p.inside))
      ∙ append_assoc (take at l) bs (drop (at + length bs) l)

  -- from the first place on
  pub put_front : {r : ℕ} → Put l 0 bs m r → (m ≡ bs ++ drop (length bs) l) × (r ≡ length bs)
  put_front p = (put_parts p ∙ rw (zero-add (length bs)), omega (arith, p.behind))
