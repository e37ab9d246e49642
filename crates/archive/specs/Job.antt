-- Jobs and their archives (docs/METHOD.md, section 10).
--   Job            a coarse mesh, and for each step its marked cells with their marks
--   bytes k x      the k least bytes of x, least first
--   word z         an i32 as a number of 32 bits
--   corner_bytes, cell_bytes, mark_bytes   the records V, T and M; step_bytes a step's records
--   job_bytes j     the archive of a job
use mathlib.Core.List.{List, [], ◌∷◌, ◌++◌, flat_map}
use Rattle.std.specs.Prelude.{ℕ, zero, suc, ◌-◌, ◌/◌, ◌%◌, ℤ, pos, negsuc}

-- Rule 10.1: a mesh, and marked cells with their marks for each step.
pub record Job : Type 0 where
  -- three numbers a corner
  pub positions : List ℤ
  -- four numbers a cell
  pub cells : List ℕ
  -- cell and mark
  pub steps : List (List (ℕ × ℕ))

-- Rule 10.2: the least byte first.
unfoldable pub bytes : ℕ → ℕ → List ℕ
bytes zero x = []
bytes (suc k) x = x % 256 ∷ bytes k (x / 256)

-- Rule 10.2: two's complement.
unfoldable pub word : ℤ → ℕ
word (pos n) = n
word (negsuc n) = 4294967295 - n

-- Rule 10.2: records V, of three i32.
unfoldable pub corner_bytes : List ℤ → List ℕ
unfolding bytes word
corner_bytes [] = []
corner_bytes (x ∷ []) = []
corner_bytes (x ∷ y ∷ []) = []
corner_bytes (x ∷ y ∷ z ∷ ps) = 86 ∷ (bytes 4 (word x) ++ (bytes 4 (word y) ++ (bytes 4 (word z) ++ corner_bytes ps)))

-- Rule 10.2: records T, of four u16.
unfoldable pub cell_bytes : List ℕ → List ℕ
unfolding bytes
cell_bytes [] = []
cell_bytes (a ∷ []) = []
cell_bytes (a ∷ b ∷ []) = []
cell_bytes (a ∷ b ∷ c ∷ []) = []
cell_bytes (a ∷ b ∷ c ∷ d ∷ ts) = 84 ∷ (bytes 2 a ++ (bytes 2 b ++ (bytes 2 c ++ (bytes 2 d ++ cell_bytes ts))))

-- Rule 10.2: a record M, a cell and its mark.
unfoldable pub mark_bytes : ℕ × ℕ → List ℕ
unfolding bytes
mark_bytes m = 77 ∷ (bytes 2 m.0 ++ (m.1 ∷ []))

-- Rule 10.2: a step's M, then G.
unfoldable pub step_bytes : List (ℕ × ℕ) → List ℕ
unfolding mark_bytes flat_map
step_bytes ms = flat_map mark_bytes ms ++ (71 ∷ [])

-- Rules 10.2, 10.3: corners, cells, steps, and E at the end.
unfoldable pub job_bytes : Job → List ℕ
unfolding corner_bytes cell_bytes step_bytes flat_map
job_bytes j = corner_bytes j.positions ++ (cell_bytes j.cells ++ (flat_map step_bytes j.steps ++ (69 ∷ [])))
