-- Numbers as bytes and back.
--   Octets bs            every byte is below 256
--   octets_drop          so are those behind any place
--   two_back, four_back  the number of a number's bytes is the number
--   bytes_back           the bytes of the number of k bytes are these bytes
--   over k               256 to the power k; whole_below: the number of k bytes is below it
--   Word z               z is an i32
--   word_back, signed_back, signed_word   an i32 as 32 bits and back
use Rattle.std.specs.Prelude.{◌≡◌, refl, Bool, true, false, List, [], ◌∷◌, ◌++◌, ℕ, zero, suc, ◌+◌, ◌*◌, ◌-◌, ◌/◌, ◌%◌, ◌≤◌, ◌<◌, ltb, ℤ, pos, negsuc, length, get_or, take, drop}
use Rattle.std.proofs.Common.{ap, arith, length-drop, get_or-drop, lt-ltb, le-ltb, ltb-true, ltb-false}
use Rattle.archive.specs.Job.{bytes, word}
use Rattle.archive.specs.Form.{whole, signed}

-- Rule 10.2: bytes.
pub record Octets (bs : List ℕ) : Type 0 where
  pub small : (k : ℕ) → k < length bs → get_or bs k 0 < 256

pub octets_drop : {bs : List ℕ} → Octets bs → (i : ℕ) → Octets (drop i bs)
octets_drop {bs} o i =
    record { small = λ k h. rw (get_or-drop i bs k 0) (o.small (i + k) (omega (arith, length-drop i bs))) }

octets_tail : {b : ℕ} {bs : List ℕ} → Octets (b ∷ bs) → Octets bs
octets_tail o = octets_drop o 1

pub two_back : (x : ℕ) (l : List ℕ) → x < 65536 → whole 2 (bytes 2 x ++ l) ≡ x
unfolding whole bytes
two_back x l h = omega arith

pub four_back : (x : ℕ) (l : List ℕ) → x < 4294967296 → whole 4 (bytes 4 x ++ l) ≡ x
unfolding whole bytes
four_back x l h = omega arith

pub bytes_back : (k : ℕ) (bs : List ℕ) → k ≤ length bs → Octets bs → bytes k (whole k bs) ≡ take k bs
unfolding bytes whole
bytes_back zero bs h o = refl
bytes_back (suc k) [] h o = absurd (omega arith)
bytes_back (suc k) (b ∷ bs) h o =
    let s : b < 256 = o.small 0 (omega arith) in
    let m : (b + 256 * whole k bs) % 256 ≡ b = omega arith in
    let d : (b + 256 * whole k bs) / 256 ≡ whole k bs = omega arith in
    rw (m, d) (ap (λ (t : List ℕ). b ∷ t) (bytes_back k bs (omega arith) (octets_tail o)))

-- the greatest number of k bytes, and one more
unfoldable pub over : ℕ → ℕ
over zero = 1
over (suc k) = 256 * over k

pub whole_below : (k : ℕ) (bs : List ℕ) → Octets bs → whole k bs < over k
unfolding whole over
whole_below zero bs o = omega arith
whole_below (suc k) [] o = none (suc k)
  where
    none : (k : ℕ) → 0 < over k
    none zero = omega arith
    none (suc k) = omega (arith, none k)
whole_below (suc k) (b ∷ bs) o = omega (arith, o.small 0 (omega arith), whole_below k bs (octets_tail o))

-- Rule 10.2: an i32.
unfoldable pub Word : ℤ → Type 0
Word (pos n) = n < 2147483648
Word (negsuc n) = n < 2147483648

pub word_below : (z : ℤ) → Word z → word z < 4294967296
unfolding Word word
word_below (pos n) h = omega arith
word_below (negsuc n) h = omega arith

pub word_back : (z : ℤ) → Word z → signed (word z) ≡ z
unfolding Word word signed
word_back (pos n) h = rw (lt-ltb n 2147483648 h, signed)
word_back (negsuc n) h =
    let e : 4294967295 - (4294967295 - n) ≡ n = omega arith in
    rw (le-ltb (4294967295 - n) 2147483648 (omega arith), signed) (ap negsuc e)

pub signed_word : (x : ℕ) → x < 4294967296 → Word (signed x)
unfolding Word signed
signed_word x h = go (ltb x 2147483648) refl
  where
    go : (b : Bool) → ltb x 2147483648 ≡ b → Word (signed x)
    go true e = rw (e, signed) (ltb-true x 2147483648 e)
    go false e = rw (e, signed) (omega (arith, ltb-false x 2147483648 e))

pub signed_back : (x : ℕ) → x < 4294967296 → word (signed x) ≡ x
unfolding word signed
signed_back x h = go (ltb x 2147483648) refl
  where
    go : (b : Bool) → ltb x 2147483648 ≡ b → word (signed x) ≡ x
    go true e = rw (e, signed)
    go false e = rw (e, signed) (omega (arith, ltb-false x 2147483648 e))
