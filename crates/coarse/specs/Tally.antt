-- Counting the keys of cells and faces. A key is a pair of numbers, kept as `pairs` keeps it with a count beside each entry.
--   lead t                     the first number of the key of a cell or a face
--   low_cell q, low_face t     its second number
--   times xs ys counts ..      how often a pair was counted: what stands beside its entry, 0 where it has none
--   times_in t x y             how often the tally t has counted the pair x, y
--   Fresh t                    t has counted no pair
--   Open t x y                 t can count the pair
--   Tallied t x y t' count     what counting it leaves, and its count
use Rattle.std.specs.Prelude.{◌≡◌, List, ℕ, ◌+◌, ◌-◌, ◌*◌, ◌≤◌, ◌<◌, get_or}
use Rattle.pairs.specs.Keys.{seek}
use Rattle.coarse.specs.declared.tally.Tally.{Tally}

-- Rule 1.6: a cell or face as a key of two numbers.
unfoldable pub lead : List ℕ → ℕ
lead t = get_or t 0 0 * 512 + get_or t 1 0

-- Rule 1.6: the second number of a cell's key.
unfoldable pub low_cell : List ℕ → ℕ
low_cell q = get_or q 2 0 * 512 + get_or q 3 0

-- Rule 1.6: the second number of a face's key.
unfoldable pub low_face : List ℕ → ℕ
low_face t = get_or t 2 0

-- Rule 1.6: how often a key was met.
unfoldable pub times : List ℕ → List ℕ → List ℕ → ℕ → ℕ → ℕ → ℕ → ℕ
unfolding seek
times xs ys counts from n x y = get_or counts (seek xs ys x y from (n - from)) 0

abbrev pub times_in : {N : ℕ} → Tally N → ℕ → ℕ → ℕ
times_in t x y = times t.pairs.xs t.pairs.ys t.counts t.pairs.from t.pairs.n x y

pub record Fresh {N : ℕ} (t : Tally N) : Type 0 where
  pub empty : t.pairs.n ≡ 0
  pub none : (x y : ℕ) → times_in t x y ≡ 0

pub record Open {N : ℕ} (t : Tally N) (x y : ℕ) : Type 0 where
  pub room : t.pairs.n < N
  pub low : times_in t x y < 255

pub record Tallied {N : ℕ} (t : Tally N) (x y : ℕ) (t' : Tally N) (count : ℕ) : Type 0 where
  pub grown : t'.pairs.n ≤ t.pairs.n + 1
  pub count_is : count ≡ times_in t x y + 1
  pub same : times_in t' x y ≡ times_in t x y + 1
  pub others : (v w : ℕ) → (x ≡ v → y ≡ w → ⊥) → times_in t' v w ≡ times_in t v w
