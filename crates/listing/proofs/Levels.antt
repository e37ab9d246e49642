-- The lines of the levels, one turn of `put_lines` each.
--   level_lines i qs          a line for each of the rows qs of counts, from level i on; level_lines_are: those of the counts
--   Lined l at qs level p m   m is l with the lines of the levels below `level` from the place `at` on, and p is the place behind
--                             them: with the other lines from there on it has all lines
-- Laws: lined_start, lined_room (a line has room), lined_next (one more line), lined_end.
-- Assumes nothing.
use mathlib.Core.Path.{◌≡◌, refl, ◌∙◌, ap}
use mathlib.Core.List.{List, [], ◌∷◌, ◌++◌}
use Prim.Native.Nat.{ℕ, zero, suc, ◌+◌, ◌*◌, ◌/◌, ◌≤◌, ◌<◌}
use native.Mathlib.Numerals.{add-one}
use native.Mathlib.Omega.{arith}
use lib.ListN.{length, get_or, drop, drop_of_length-le}
use lib.Seq.{drop-cons}
use Rattle.std.specs.Simd.{first_chunks}
use Rattle.listing.specs.Lines.{fields, lines}
use Rattle.listing.specs.Put.{Put, put_none, put_more, put-length}
use Rattle.listing.specs.Sizes.{length-line}

unfoldable pub level_lines : ℕ → List (List ℕ) → List ℕ
level_lines i [] = []
level_lines i (q ∷ qs) = fields (i ∷ q) ++ level_lines (suc i) qs

pub level_lines_are : (i : ℕ) (cs : List ℕ) → level_lines i (first_chunks 4 (length cs / 4) cs) ≡ lines i cs
unfolding level_lines lines
level_lines_are i [] = refl
level_lines_are i (a ∷ []) = refl
level_lines_are i (a ∷ b ∷ []) = refl
level_lines_are i (a ∷ b ∷ c ∷ []) = refl
level_lines_are i (a ∷ b ∷ c ∷ d ∷ cs) =
    let e : length (a ∷ b ∷ c ∷ d ∷ cs) / 4 ≡ suc (length cs / 4) = omega arith in
    rw e (ap (λ (l : List ℕ). fields (i ∷ a ∷ b ∷ c ∷ d ∷ []) ++ l) (level_lines_are (suc i) cs))

pub row_four : (cs : List ℕ) (k : ℕ) → k < length (first_chunks 4 (length cs / 4) cs) → length (get_or (first_chunks 4 (length cs / 4) cs) k []) ≡ 4
row_four [] k h = absurd (omega arith)
row_four (a ∷ []) k h = absurd (omega arith)
row_four (a ∷ b ∷ []) k h = absurd (omega arith)
row_four (a ∷ b ∷ c ∷ []) k h = absurd (omega arith)
row_four (a ∷ b ∷ c ∷ d ∷ cs) zero h =
    let e : length (a ∷ b ∷ c ∷ d ∷ cs) / 4 ≡ suc (length cs / 4) = omega arith in
    rw e refl
row_four (a ∷ b ∷ c ∷ d ∷ cs) (suc k) h =
    let e : length (a ∷ b ∷ c ∷ d ∷ cs) / 4 ≡ suc (length cs / 4) = omega arith in
    let i : suc k < suc (length (first_chunks 4 (length cs / 4) cs)) = rw e at h in
    rw e (row_four cs k (omega arith))

-- a row of four counts is a line of at most 30 bytes
row_length : (i : ℕ) (q : List ℕ) → length q ≡ 4 → length (fields (i ∷ q)) ≤ 30
row_length i [] e = absurd (omega arith)
row_length i (a ∷ []) e = absurd (omega arith)
row_length i (a ∷ b ∷ []) e = absurd (omega arith)
row_length i (a ∷ b ∷ c ∷ []) e = absurd (omega arith)
row_length i (a ∷ b ∷ c ∷ d ∷ []) e = length-line i a b c d
row_length i (a ∷ b ∷ c ∷ d ∷ x ∷ l) e = absurd (omega arith)

pub record Lined (l : List ℕ) (at : ℕ) (qs : List (List ℕ)) (level p : ℕ) (m : List ℕ) : Type 0 where
  pub levels : level ≤ length qs
  pub room : p + 30 * length qs ≤ length m + 30 * level
  pub size : length m ≡ length l
  pub rest : (n : List ℕ) (r : ℕ) → Put m p (level_lines level (drop level qs)) n r → Put l at (level_lines 0 qs) n r

pub lined_start : (l : List ℕ) (at : ℕ) (qs : List (List ℕ)) → at + 30 * length qs ≤ length l → Lined l at qs 0 at l
lined_start l at qs h = record { levels = omega arith; room = omega arith; size = refl; rest = λ n r p. p }

module _ {l m : List ℕ} {qs : List (List ℕ)} {at level p : ℕ} (f : Lined l at qs level p m) where
  pub lined_room : level < length qs → p + 30 ≤ length m
  lined_room h = omega (arith, f.room)

  pub lined_next : {n : List ℕ} {q : ℕ} → level < length qs → length (get_or qs level []) ≡ 4
      → Put m p (fields (level ∷ get_or qs level [])) n q → Lined l at qs (level + 1) q n
  unfolding level_lines
  lined_next {n} {q} h e g =
      record {
        levels = omega arith;
        room = omega (arith, f.room, g.behind, put-length g, row_length level (get_or qs level []) e);
        size = put-length g ∙ f.size;
        rest = λ o r k. f.rest o r (rw (drop-cons qs level [] h) (put_more g (rw (add-one level) at k)));
      }

  pub lined_end : length qs ≤ level → Put l at (level_lines 0 qs) m p
  unfolding level_lines
  lined_end h = f.rest m p (rw (drop_of_length-le qs h) (put_none m p (omega (arith, f.room, f.levels))))
