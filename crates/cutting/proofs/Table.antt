-- The one computed test of the table: each row is the family that the rule gives. From it, what the code reads.
-- Assumes nothing.
use mathlib.Core.Path.{◌≡◌, refl, ◌∙◌, sym, ap, ap₂}
use mathlib.Core.List.{List, [], ◌∷◌, ◌++◌, map, flatten, append_assoc, append-nil}
use Prim.Native.Nat.{ℕ, zero, suc, ◌+◌, ◌*◌, ◌-◌, ◌%◌, ◌≤◌, ◌<◌}
use native.Mathlib.Nat.{add-zero, add-suc}
use native.Mathlib.Omega.{arith}
use lib.Dec.{T, eqb, leb, eqb→eq, leb→le}
use lib.ListN.{length, get_or, take, drop, length-append, length-map, get_or-map}
use lib.Seq.{take-suc, take-append_seam, drop-append_seam, ext_get_or}
use Rattle.base.specs.Lists.{belowb, belowb_at, sameb, sameb_eq, allb}
use Rattle.base.specs.Bools.{and_left, and_right}
use Rattle.base.specs.Range.{range, length-range, range_at}
use Rattle.cutting.specs.Rule.{family}
use Rattle.cutting.specs.Answer.{digits_below, digit_table, start_table}
use Rattle.cutting.specs.Rows.{family_rows, row}
use Rattle.cutting.proofs.Rows.{family_row, family_few, family_fours}

-- the rows one after the other
unfoldable flat : List (List (List ℕ)) → List ℕ
flat [] = []
flat (f ∷ fs) = flatten f ++ flat fs

flat_snoc : (fs : List (List (List ℕ))) (f : List (List ℕ)) → flat (fs ++ (f ∷ [])) ≡ flat fs ++ flatten f
unfolding flat
flat_snoc [] f = append-nil (flatten f)
flat_snoc (x ∷ fs) f = rw (flat_snoc fs f) (sym (append_assoc (flatten x) (flat fs) (flatten f)))

below_flat : (p : ℕ) → p ≤ 64 → digits_below p ≡ flat (take p family_rows)
unfolding digits_below flat family_rows row
below_flat zero h = refl
below_flat (suc p) h =
    ap₂ ◌++◌ (below_flat p (omega arith)) (ap flatten (family_row p h))
    ∙ sym (ap flat (take-suc family_rows p [] h) ∙ flat_snoc (take p family_rows) (row p))

-- The two constants of src/, from the rows: ASCII digits, and where each row starts.
unfoldable pub digits : List ℕ
unfolding flat family_rows
digits = map (λ d. 48 + d) (flat family_rows)

starts_from : ℕ → List (List (List ℕ)) → List ℕ
starts_from n [] = n ∷ []
starts_from n (f ∷ fs) = n ∷ starts_from (n + length (flatten f)) fs

unfoldable pub starts : List ℕ
unfolding starts_from family_rows flatten
starts = starts_from 0 family_rows

all_rows : take 64 family_rows ≡ family_rows
unfolding family_rows
all_rows = refl

digits_test : T (sameb (map (λ b. b % 16) digits) (flat family_rows))
unfolding sameb digits flatten
digits_test = tt

starts_test : T (belowb (λ p. eqb (get_or starts p 0) (length (flat (take p family_rows)))) 65)
unfolding belowb starts flat family_rows flatten
starts_test = tt

length-test : T (eqb (length (flat family_rows)) 1172)
unfolding flat family_rows flatten
length-test = tt

all_digits : digits_below 64 ≡ flat family_rows
all_digits = below_flat 64 (omega arith) ∙ ap flat all_rows

pub digits_table : digits ≡ digit_table
unfolding digits digit_table
digits_table = ap (map (λ d. 48 + d)) (sym all_digits)

pub digits_right : (l : List ℕ) → l ≡ digit_table → (at : ℕ) → get_or l at 0 % 16 ≡ get_or (digits_below 64) at 0
digits_right l e at =
    ap (λ (m : List ℕ). get_or m at 0 % 16) (e ∙ sym digits_table)
    ∙ sym (get_or-map (λ b. b % 16) digits at 0)
    ∙ ap (λ (m : List ℕ). get_or m at 0) (sameb_eq (map (λ b. b % 16) digits) (flat family_rows) digits_test ∙ sym all_digits)

starts_read : (p : ℕ) → p < 65 → get_or starts p 0 ≡ length (digits_below p)
starts_read p h =
    eqb→eq (get_or starts p 0) (length (flat (take p family_rows)))
    (belowb_at (λ p. eqb (get_or starts p 0) (length (flat (take p family_rows)))) 65 starts_test p h)
    ∙ ap length (sym (below_flat p (omega arith)))

small_test : T (belowb (λ p. leb (get_or starts p 0) 1172) 65)
unfolding belowb starts family_rows flatten
small_test = tt

pub starts-length : (l : List ℕ) → l ≡ start_table → length l ≡ 65
unfolding start_table
starts-length l e = ap length e ∙ length-map (range 0 65) (λ p. length (digits_below p)) ∙ length-range 0 65

pub starts_right : (l : List ℕ) → l ≡ start_table → (p : ℕ) → p < 65 → get_or l p 0 ≡ length (digits_below p)
unfolding start_table digits_below
starts_right l e p h =
    let z : 0 + p ≡ p = omega arith in
    ap (λ (m : List ℕ). get_or m p 0) e
    ∙ get_or-map (λ p. length (digits_below p)) (range 0 65) p 0
    ∙ ap (λ (q : ℕ). length (digits_below q)) (range_at 0 65 p 0 h ∙ z)

starts_long : length starts ≡ 65
unfolding starts family_rows flatten
starts_long = refl

pub starts_table : starts ≡ start_table
starts_table =
    ext_get_or 0 starts start_table (starts_long ∙ sym (starts-length start_table refl)) (λ p h.
    let g : p < 65 = omega (arith, h, starts_long) in starts_read p g ∙ sym (starts_right start_table refl p g))

pub starts_small : (l : List ℕ) → l ≡ start_table → (p : ℕ) → p < 65 → get_or l p 0 ≤ 1172
starts_small l e p h =
    rw (e ∙ sym starts_table) (leb→le (get_or starts p 0) 1172 (belowb_at (λ p. leb (get_or starts p 0) 1172) 65 small_test p h))

-- how many children each family has, in ASCII digits
unfoldable pub counts : List ℕ
unfolding family_rows
counts = map (λ f. 48 + length f) family_rows

counts_test : T (belowb (λ p. eqb (get_or counts p 0 % 16) (length (row p))) 64)
unfolding belowb counts row family_rows
counts_test = tt

pub counts_right : (p : ℕ) → p < 64 → get_or counts p 0 % 16 ≡ length (family p)
counts_right p h =
    eqb→eq (get_or counts p 0 % 16) (length (row p)) (belowb_at (λ p. eqb (get_or counts p 0 % 16) (length (row p))) 64 counts_test p h)
    ∙ ap length (sym (family_row p h))

pub digits-length : length (digits_below 64) ≡ 1172
digits-length = ap length all_digits ∙ eqb→eq (length (flat family_rows)) 1172 length-test

pub table-length : (l : List ℕ) → l ≡ digit_table → length l ≡ 1172
unfolding digit_table
table-length l e = ap length e ∙ length-map (digits_below 64) (λ d. 48 + d) ∙ digits-length

length-fours : (f : List (List ℕ)) → T (allb (λ c. eqb (length c) 4) f) → length (flatten f) ≡ 4 * length f
unfolding allb flatten
length-fours [] t = refl
length-fours (c ∷ f) t =
    let e : length c ≡ 4 = eqb→eq (length c) 4 (and_left (eqb (length c) 4) (allb (λ c. eqb (length c) 4) f) t) in
    let k : length (flatten f) ≡ 4 * length f = length-fours f (and_right (eqb (length c) 4) (allb (λ c. eqb (length c) 4) f) t) in
    simp length-append (omega arith)

-- the digits of the lower patterns come first
more : (n p : ℕ) → (r : List ℕ) × (digits_below (p + n) ≡ digits_below p ++ r)
unfolding digits_below
more zero p = ([], rw add-zero (sym (append-nil (digits_below p))))
more (suc n) p =
    let (r, e) = more n p in (
      r ++ flatten (family (p + n)),
      rw add-suc (ap (λ (l : List ℕ). l ++ flatten (family (p + n))) e
          ∙ append_assoc (digits_below p) r (flatten (family (p + n)))),
    )

-- what the cutting call reads of the constant
pub record Row (p : ℕ) : Type 0 where
  pub size : length (digits_below (suc p)) ≡ length (digits_below p) + 4 * length (family p)
  pub few : length (family p) ≤ 8
  pub inside : length (digits_below (suc p)) ≤ 1172
  pub digits : take (4 * length (family p)) (drop (length (digits_below p)) (digits_below 64)) ≡ flatten (family p)
  pub fours : length (flatten (family p)) ≡ 4 * length (family p)

pub row_at : (p : ℕ) → p < 64 → Row p
unfolding digits_below
row_at p h =
    let four : length (flatten (family p)) ≡ 4 * length (family p) = length-fours (family p) (family_fours p h) in
    let (r, e) = more (63 - p) (suc p) in
    let k : suc p + (63 - p) ≡ 64 = omega arith in
    let w : digits_below 64 ≡ (digits_below p ++ flatten (family p)) ++ r = rw k at e in
    let v : digits_below 64 ≡ digits_below p ++ (flatten (family p) ++ r) = w ∙ append_assoc (digits_below p) (flatten (family p)) r in
    record {
      size = length-append (digits_below p) (flatten (family p)) ∙ ap (λ (n : ℕ). length (digits_below p) + n) four;
      few = family_few p h;
      inside = omega (arith, digits-length, ap length w, length-append (digits_below p ++ flatten (family p)) r);
      digits = rw (v, drop-append_seam, ← four) (take-append_seam (flatten (family p)) r);
      fours = four;
    }
