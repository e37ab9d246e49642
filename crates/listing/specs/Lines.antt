-- The lines that meshlist prints (docs/METHOD.md, section 11).
--   decimal n        the digits of a number below 100,000, as bytes
--   header           the first line, a fixed string of bytes
--   fields ns        numbers with a space between them, and a line feed
--   lines i cs       a line for each level from i on, where cs has four counts a level
--   listing cs       the header and the lines
--   refusal k        the line of a refused archive
use Rattle.std.specs.Prelude.{true, false, List, [], ◌∷◌, ◌++◌, ℕ, zero, suc, ◌+◌, ◌/◌, ◌%◌, ltb}

-- Rule 11.2: at most f + 1 digits.
unfoldable pub digits : ℕ → ℕ → List ℕ
digits zero n = (48 + n % 10) ∷ []
digits (suc f) n = elim (ltb n 10) [ true ↦ (48 + n) ∷ [] | false ↦ digits f (n / 10) ++ ((48 + n % 10) ∷ []) ]

-- Rule 11.2: no leading zeros.
unfoldable pub decimal : ℕ → List ℕ
unfolding digits
decimal n = digits 4 n

-- Rule 11.1: the words of the first line, and a line feed.
abbrev pub header : List ℕ
header =
    108 ∷ 101 ∷ 118 ∷ 101 ∷ 108 ∷ 32 ∷ 99 ∷ 101 ∷ 108 ∷ 108 ∷ 115 ∷ 32 ∷ 114 ∷ 101 ∷ 100 ∷ 32 ∷ 103 ∷ 114 ∷ 101 ∷ 101 ∷ 110 ∷ 32 ∷ 108 ∷ 101
    ∷ 97 ∷ 102 ∷ 10 ∷ []

-- Rule 11.2: a space between, a line feed behind.
unfoldable pub fields : List ℕ → List ℕ
unfolding decimal
fields [] = 10 ∷ []
fields (n ∷ []) = decimal n ++ (10 ∷ [])
fields (n ∷ m ∷ ns) = decimal n ++ (32 ∷ fields (m ∷ ns))

-- Rule 11.1: a line a level, from level i on.
unfoldable pub lines : ℕ → List ℕ → List ℕ
unfolding fields
lines i [] = []
lines i (a ∷ []) = []
lines i (a ∷ b ∷ []) = []
lines i (a ∷ b ∷ c ∷ []) = []
lines i (a ∷ b ∷ c ∷ d ∷ cs) = fields (i ∷ a ∷ b ∷ c ∷ d ∷ []) ++ lines (suc i) cs

-- Rule 11.1: the header, then level 0 and on.
unfoldable pub listing : List ℕ → List ℕ
unfolding lines
listing cs = header ++ lines 0 cs

-- Rule 11.3: the line of a refused archive.
unfoldable pub refusal : ℕ → List ℕ
unfolding decimal
refusal k = 114 ∷ 101 ∷ 102 ∷ 117 ∷ 115 ∷ 101 ∷ 100 ∷ 32 ∷ (decimal k ++ (10 ∷ []))
