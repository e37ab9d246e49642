-- Numbers of two and four bytes, least byte first, and what reading leaves in a lent list.
--   word_at bs k, long_at bs k   the k-th number of two bytes, of four bytes
--   twos b                     the number whose 32 bits are those of b, in two's complement
--   signed_at bs k              the k-th number of four bytes, in two's complement
--   FrontRead r n l l'         n bytes were to be read into the front of l, which is l' after; what they are is free
--   ListRead r n g l l'        the numbers g 0, g 1, .. g (n - 1) were to be put into the front of l, which is l' after
--   MeshRead ..                coordinates, then cells, were to be read by way of one room
use Rattle.std.specs.Prelude.{Bool, true, false, cond, ◌≡◌, refl, List, [], ◌∷◌, ◌++◌, ℕ, ◌+◌, ◌-◌, ◌*◌, ◌≤◌, ltb, ℤ, pos, negsuc, length, get_or, drop}
use Rattle.trial.specs.Pattern.{tab_of}

abbrev pub word_at : List ℕ → ℕ → ℕ
word_at bs k = get_or bs (2 * k) 0 + 256 * get_or bs (2 * k + 1) 0

abbrev pub long_at : List ℕ → ℕ → ℕ
long_at bs k = (get_or bs (4 * k) 0 + 256 * get_or bs (4 * k + 1) 0) + 65536 * (get_or bs (4 * k + 2) 0 + 256 * get_or bs (4 * k + 3) 0)

unfoldable pub twos : ℕ → ℤ
twos b = elim (ltb b 2147483648) [ true ↦ pos b | false ↦ negsuc (4294967295 - b) ]

abbrev pub signed_at : List ℕ → ℕ → ℤ
signed_at bs k = twos (long_at bs k)

-- 258, 65,535 and 1
words : tab_of (word_at (2 ∷ 1 ∷ 255 ∷ 255 ∷ 1 ∷ 0 ∷ [])) 3 ≡ 258 ∷ 65535 ∷ 1 ∷ []
unfolding tab_of
words = refl

-- 16,909,060, the greatest, the least and -2
signeds : tab_of (signed_at (4 ∷ 3 ∷ 2 ∷ 1 ∷ 255 ∷ 255 ∷ 255 ∷ 127 ∷ 0 ∷ 0 ∷ 0 ∷ 128 ∷ 254 ∷ 255 ∷ 255 ∷ 255 ∷ [])) 4
    ≡ pos 16909060 ∷ pos 2147483647 ∷ negsuc 2147483647 ∷ negsuc 1 ∷ []
unfolding tab_of twos
signeds = refl

-- true is answered only where they fit; what stands behind them is as it was
pub record FrontRead (r : Bool) (n : ℕ) (l l' : List ℕ) : Type 0 where
  pub fit : r ≡ true → n ≤ length l
  pub behind : drop n l' ≡ drop n l
  pub long : length l' ≡ length l

-- beside false the list is as it was
pub record ListRead {A : Type 0} (r : Bool) (n : ℕ) (g : ℕ → A) (l l' : List A) : Type 0 where
  pub fit : r ≡ true → n ≤ length l
  pub list : l' ≡ cond r (tab_of g n ++ drop n l) l

-- The room held the bytes of the p coordinates in between, and holds those of the c corner numbers after; these are read only where
-- those were.
pub record MeshRead (r : Bool) (p c : ℕ) (room room' : List ℕ) (ps ps' : List ℤ) (cs cs' : List ℕ) : Type 0 where
  pub first : Bool
  pub between : List ℕ
  pub bytes : FrontRead first (4 * p) room between
  pub positions : ListRead first p (signed_at between) ps ps'
  pub bytes' : FrontRead r (2 * c) between room'
  pub cells : ListRead r c (word_at room') cs cs'
  pub both : r ≡ true → first ≡ true
