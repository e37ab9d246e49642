-- A part's store when it is done.
--   PartDone P n r qs es p x   x is the store of the part p of P, done with the result r; it holds the entries es, and the corners of its
--                            coarse masters, which are n corners' and of the coarse cells qs
-- Laws: header_agrees, done_same (of stores that have the same numbers).
use Rattle.std.specs.Prelude.{◌≡◌, Bool, true, false, ◌&&◌, ◌||◌, T, eqb, leb, length, get_or, take, drop}
use Rattle.std.proofs.Math.Path.{refl, ap₂}
use Rattle.std.proofs.Common.{sym, ◌∙◌, arith, length-drop, get_or-take, get_or-drop, length-take-le, ext_get_or}
use mathlib.Core.List.{List, [], ◌∷◌, map}
use Prim.Native.Nat.{ℕ, zero, suc, ◌+◌, ◌*◌, ◌≤◌, ◌<◌}
use Rattle.base.specs.Limits.{most_cells, most_coarse_cells, most_coarse_corners, most_levels, most_parts}
use Rattle.base.specs.Range.{range}
use Rattle.parts.specs.Held.{Entry}
use Rattle.store.specs.Fields.{field, full, STAGE, PART, PARTS, CORNERS, COARSE, CELLS, LEVELS, ROUND, RESULT, ENTRIES, OWNER, CORNER}
use Rattle.store.specs.Fields.{PLACE_HEAD, PLACE_DIGITS, PLACE_MORE, PLACE_STATUS, FIRST_CELL}
use Rattle.store.specs.Header.{stageb, headerb}
use Rattle.store.specs.Headed.{header_is}
use Rattle.held.specs.Held.{entry_in, held_in}

-- Rule 15.11.
pub record PartDone (P n result : ℕ) (qs : List (List ℕ)) (es : List Entry) (p : ℕ) (x : List ℕ) : Type 0 where
  pub long : full ≤ length x
  pub header : T (headerb x)
  pub part : field x PART ≡ p
  pub stage : field x STAGE ≡ 2
  pub parts : field x PARTS ≡ P
  pub corners : field x CORNERS ≡ n
  pub coarse : field x COARSE ≡ length qs
  pub ended : field x RESULT ≡ result
  pub held : held_in x ≡ es
  pub corner : (i : ℕ) → i < length qs → field x (OWNER + i) ≡ p → take 4 (drop (CORNER + 4 * i) x) ≡ get_or qs i []

-- headers of the same numbers
header_of : ℕ → ℕ → ℕ → ℕ → ℕ → ℕ → ℕ → ℕ → ℕ → ℕ → Bool
header_of stage part parts corners coarse cells levels round result entries =
    leb 1 parts && (leb parts most_parts && (leb 1 part && (leb part parts
    && (leb 4 corners && (leb corners most_coarse_corners && (leb 1 coarse && (leb coarse most_coarse_cells
    && (leb coarse cells && (leb cells most_cells && (leb 1 levels
    && (leb levels most_levels && (leb entries most_cells && elim (eqb stage 0) [
      | true ↦ eqb round 0 && eqb result 0
      | false ↦ elim (eqb stage 1) [
        | true ↦ leb round (2 * levels) && eqb result 0
        | false ↦ eqb stage 2 && (eqb round (2 * levels + 1) && (eqb result 0 || (eqb result 8 || eqb result 9)))
      ]
    ]))))))))))))

header_of_lem : (x : List ℕ) → headerb x ≡ header_of (field x STAGE) (field x PART) (field x PARTS) (field x CORNERS) (field x COARSE)
    (field x CELLS) (field x LEVELS) (field x ROUND) (field x RESULT) (field x ENTRIES)
unfolding headerb stageb header_of
header_of_lem x = refl

pub header_agrees : (x y : List ℕ) → ((k : ℕ) → k < FIRST_CELL → field x k ≡ field y k) → headerb x ≡ headerb y
header_agrees x y f =
    let a : field x STAGE ≡ field y STAGE = f STAGE (omega arith) in
    let b : field x PART ≡ field y PART = f PART (omega arith) in
    let c : field x PARTS ≡ field y PARTS = f PARTS (omega arith) in
    let d : field x CORNERS ≡ field y CORNERS = f CORNERS (omega arith) in
    let e : field x COARSE ≡ field y COARSE = f COARSE (omega arith) in
    let g : field x CELLS ≡ field y CELLS = f CELLS (omega arith) in
    let h : field x LEVELS ≡ field y LEVELS = f LEVELS (omega arith) in
    let i : field x ROUND ≡ field y ROUND = f ROUND (omega arith) in
    let j : field x RESULT ≡ field y RESULT = f RESULT (omega arith) in
    let k : field x ENTRIES ≡ field y ENTRIES = f ENTRIES (omega arith) in
    cc (header_of_lem x, header_of_lem y)

-- stores of the same numbers
module _ (x y : List ℕ) (f : (k : ℕ) → k < full → field x k ≡ field y k) where
  entry_same : (j : ℕ) → j < most_cells → entry_in x j ≡ entry_in y j
  unfolding entry_in
  entry_same j h =
      rw (
        f (PLACE_HEAD + j) (omega arith),
        f (PLACE_DIGITS + j) (omega arith),
        f (PLACE_MORE + j) (omega arith),
        f (PLACE_STATUS + j) (omega arith),
      )

  entries_same : (k m : ℕ) → k + m ≤ most_cells → map (entry_in x) (range k m) ≡ map (entry_in y) (range k m)
  unfolding range
  entries_same k zero h = refl
  entries_same k (suc m) h = ap₂ ◌∷◌ (entry_same k (omega arith)) (entries_same (suc k) m (omega arith))

  held_same : field y ENTRIES ≤ most_cells → held_in x ≡ held_in y
  unfolding held_in
  held_same h = rw (f ENTRIES (omega arith)) (entries_same 0 (field y ENTRIES) (omega arith))

  four_same : (k : ℕ) → full ≤ length x → full ≤ length y → k + 4 ≤ full → take 4 (drop k x) ≡ take 4 (drop k y)
  four_same k h l g =
      let a : length (take 4 (drop k x)) ≡ 4 = length-take-le 4 (drop k x) (omega (arith, length-drop k x)) in
      let b : length (take 4 (drop k y)) ≡ 4 = length-take-le 4 (drop k y) (omega (arith, length-drop k y)) in
      ext_get_or 0 (take 4 (drop k x)) (take 4 (drop k y)) (a ∙ sym b) (λ i l.
      let low : i < 4 = omega arith in
      get_or-take 4 (drop k x) i 0 low ∙ get_or-drop k x i 0 ∙ f (k + i) (omega arith)
      ∙ sym (get_or-take 4 (drop k y) i 0 low ∙ get_or-drop k y i 0))

  pub done_same : (P n result : ℕ) (qs : List (List ℕ)) (es : List Entry) (p : ℕ) → full ≤ length x → PartDone P n result qs es p y
      → PartDone P n result qs es p x
  done_same P n result qs es p long d =
      let h = header_is y d.header in
      record {
        long = long;
        header = rw (header_agrees x y (λ k l. f k (omega arith))) d.header;
        part = f PART (omega arith) ∙ d.part;
        stage = f STAGE (omega arith) ∙ d.stage;
        parts = f PARTS (omega arith) ∙ d.parts;
        corners = f CORNERS (omega arith) ∙ d.corners;
        coarse = f COARSE (omega arith) ∙ d.coarse;
        ended = f RESULT (omega arith) ∙ d.ended;
        held = held_same h.entries_most ∙ d.held;
        corner = λ i l q.
            let few : i < most_coarse_cells = omega (arith, d.coarse, h.coarse_most) in
            four_same (CORNER + 4 * i) long d.long (omega arith) ∙ d.corner i l (sym (f (OWNER + i) (omega arith)) ∙ q);
      }
