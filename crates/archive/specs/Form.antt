-- Which bytes are in the form, and what job they hold (docs/METHOD.md, section 10).
--   whole k bs           the number of the first k bytes, least first
--   signed x             the i32 with the 32 bits x
--   startsb l k bs       a record of k bytes with the letter l stands at the front
--   corner_records f bs, cell_records f bs   the records V, T that the bytes start with, at most f, and the bytes behind them
-- steps_in f ms bs      the steps in the bytes, at most f records, where ms are the marks since the last G; ok where they end as they
-- should
--   formb bs, job_of bs   the whole
use Rattle.std.specs.Prelude.{Bool, true, false, ◌&&◌, List, [], ◌∷◌, ◌++◌, ℕ, zero, suc, ◌+◌, ◌*◌, ◌-◌, eqb, leb, ltb, ℤ, pos, negsuc, length, get_or, drop}
use Rattle.base.specs.Limits.{most_bytes}
use Rattle.archive.specs.Job.{Job}

-- Rule 10.2: the number of some bytes, the least first.
unfoldable pub whole : ℕ → List ℕ → ℕ
whole zero bs = 0
whole (suc k) [] = 0
whole (suc k) (b ∷ bs) = b + 256 * whole k bs

-- Rule 10.2: two's complement, back.
unfoldable pub signed : ℕ → ℤ
signed x = elim (ltb x 2147483648) [ true ↦ pos x | false ↦ negsuc (4294967295 - x) ]

-- Rule 10.2: the letter that the bytes start with; 0 where there is none.
abbrev pub letter : List ℕ → ℕ
letter bs = get_or bs 0 0

-- Rule 10.2: a whole record with the letter l stands at the front.
unfoldable pub startsb : ℕ → ℕ → List ℕ → Bool
startsb l k bs = eqb (letter bs) l && leb k (length bs)

-- Rule 10.2: a field of four bytes.
abbrev pub i32_at : List ℕ → ℕ → ℤ
i32_at bs i = signed (whole 4 (drop i bs))

-- Rule 10.2: a field of two bytes.
abbrev pub u16_at : List ℕ → ℕ → ℕ
u16_at bs i = whole 2 (drop i bs)

-- Rules 10.2, 10.3: the V in front.
unfoldable pub corner_records : ℕ → List ℕ → List ℤ × List ℕ
unfolding startsb signed whole
corner_records zero bs = ([], bs)
corner_records (suc f) bs =
    elim (startsb 86 13 bs) [
      | true ↦ let r = corner_records f (drop 13 bs) in (i32_at bs 1 ∷ i32_at bs 5 ∷ i32_at bs 9 ∷ r.0, r.1)
      | false ↦ ([], bs)
    ]

-- Rules 10.2, 10.3: then the T.
unfoldable pub cell_records : ℕ → List ℕ → List ℕ × List ℕ
unfolding startsb whole
cell_records zero bs = ([], bs)
cell_records (suc f) bs =
    elim (startsb 84 9 bs) [
      | true ↦ let r = cell_records f (drop 9 bs) in (u16_at bs 1 ∷ u16_at bs 3 ∷ u16_at bs 5 ∷ u16_at bs 7 ∷ r.0, r.1)
      | false ↦ ([], bs)
    ]

-- Rule 10.1: the steps, and whether the bytes ended as they should.
pub record Steps : Type 0 where
  pub ok : Bool
  pub steps : List (List (ℕ × ℕ))

-- Rule 10.4: the cell c may follow the marks ms, as it ascends.
unfoldable pub followsb : List (ℕ × ℕ) → ℕ → Bool
followsb [] c = true
followsb (m ∷ []) c = ltb m.0 c
followsb (m ∷ n ∷ ms) c = followsb (n ∷ ms) c

unfoldable pub emptyb : {A : Type 0} → List A → Bool
emptyb [] = true
emptyb (x ∷ l) = false

-- Rules 10.2, 10.4: a record M may stand here; its mark is 1 or 2.
unfoldable pub markedb : List (ℕ × ℕ) → List ℕ → Bool
unfolding startsb followsb whole
markedb ms bs = startsb 77 4 bs && ((leb 1 (get_or bs 3 0) && leb (get_or bs 3 0) 2) && followsb ms (u16_at bs 1))

-- Rules 10.3, 10.4: M and G up to E. No mark is left over, and nothing stands behind E.
unfoldable pub steps_in : ℕ → List (ℕ × ℕ) → List ℕ → Steps
unfolding markedb startsb emptyb whole
steps_in zero ms bs = record { ok = false; steps = [] }
steps_in (suc f) ms bs =
    elim (markedb ms bs) [
      | true ↦ steps_in f (ms ++ ((u16_at bs 1, get_or bs 3 0) ∷ [])) (drop 4 bs)
      | false ↦ elim (startsb 71 1 bs) [
        | true ↦ let r = steps_in f [] (drop 1 bs) in record { ok = r.ok; steps = ms ∷ r.steps }
        | false ↦ record { ok = startsb 69 1 bs && (emptyb ms && eqb (length bs) 1); steps = [] }
      ]
    ]

-- Rule 10.3: what stands behind the V.
unfoldable pub behind_corners : List ℕ → List ℕ
unfolding corner_records
behind_corners bs = (corner_records (length bs) bs).1

-- Rule 10.3: what stands behind the T.
unfoldable pub behind_cells : List ℕ → List ℕ
unfolding behind_corners cell_records
behind_cells bs = (cell_records (length bs) (behind_corners bs)).1

-- Rules 10.3 to 10.5: the whole form, and its length.
unfoldable pub formb : List ℕ → Bool
unfolding steps_in behind_cells
formb bs = leb (length bs) most_bytes && (steps_in (length bs) [] (behind_cells bs)).ok

-- Rules 10.1, 10.7: the job that the bytes hold.
unfoldable pub job_of : List ℕ → Job
unfolding corner_records cell_records steps_in behind_corners behind_cells
job_of bs =
    record {
      positions = (corner_records (length bs) bs).0;
      cells = (cell_records (length bs) (behind_corners bs)).0;
      steps = (steps_in (length bs) [] (behind_cells bs)).steps;
    }
