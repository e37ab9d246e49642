-- The statuses of new children (rule 7.7) as the code finds them, from the digits of the old family and of the red one.
--   edge_has ds j a b y      that edge joins the points with the digits a and b
--   kid_has x ds d a b j     the child j, which is the cell d, has such an edge that is hit
--   pair_has x ds f n a b    one of the n children from f on has
--   fresh_by x ds rs f n i   the status of the new child i, where rs are the red family's digits
-- Laws: fresh_bits_is (this is fresh_bits), fresh_none (a status that is none).
use Rattle.std.specs.Prelude.{◌≡◌, refl, Bool, ◌&&◌, ◌||◌, List, map, length, get_or}
use Rattle.std.proofs.Math.Path.{sym, ap, ap₂}
use Rattle.std.proofs.Common.{◌∙◌, subst, arith, ne_eqb, le-leb}
use Rattle.std.proofs.Math.Bool.{false}
use Prim.Native.Nat.{ℕ, zero, suc, ◌+◌, ◌-◌, ◌≤◌, ◌<◌, min}
use Rattle.std.proofs.Math.Dec.{eqb}
use Rattle.std.proofs.lemmas.Bool.{lt-leb}
use Rattle.base.specs.Bools.{one_if}
use Rattle.base.specs.Limits.{most_cells}
use Rattle.base.specs.Lists.{anyb}
use Rattle.base.specs.Range.{range}
use Rattle.cutting.specs.Rule.{family}
use Rattle.cutting.specs.Answer.{cut_of}
use Rattle.mesh.specs.Cells.{bits_of, pattern_of}
use Rattle.mesh.specs.Table.{size_of}
use Rattle.families.specs.Children.{low_digit, high_digit}
use Rattle.digits.specs.Ends.{low_at, high_at, low_end, high_end, six_same}
use Rattle.rows.specs.Many.{size_refined, size_some}
use Rattle.rows.specs.Sizes.{red_eight}
use Rattle.mesh.specs.Layout.{edge_numbers}
use Rattle.store.specs.Fields.{field, CELLS, STATUS, CHILD}
use Rattle.turns.specs.Loops.{some_from}
use Rattle.turns.specs.Decide.{hit_of, kid_count}
use Rattle.places.specs.Status.{pair_hit, fresh_bits}

unfoldable pub edge_has : List ℕ → ℕ → ℕ → ℕ → ℕ → Bool
edge_has ds j a b y = eqb a (low_at ds j y) && eqb b (high_at ds j y)

unfoldable pub edge_hit : List ℕ → List ℕ → ℕ → ℕ → ℕ → ℕ → ℕ → Bool
unfolding edge_has hit_of
edge_hit x ds d a b j y = edge_has ds j a b y && hit_of x d y

unfoldable pub kid_has : List ℕ → List ℕ → ℕ → ℕ → ℕ → ℕ → Bool
unfolding some_from edge_hit
kid_has x ds d a b j = some_from (edge_hit x ds d a b j) 6 0

unfoldable pub pair_has : List ℕ → List ℕ → ℕ → ℕ → ℕ → ℕ → Bool
unfolding some_from kid_has
pair_has x ds f n a b = some_from (λ j. kid_has x ds (f + j) a b j) n 0

-- Rule 7.7.
unfoldable pub fresh_by : List ℕ → List ℕ → List ℕ → ℕ → ℕ → ℕ → ℕ
unfolding bits_of pair_has
fresh_by x ds rs f n i = bits_of (map (λ y. pair_has x ds f n (low_at rs i y) (high_at rs i y)) edge_numbers)

-- children that the store has
abbrev pub KidsInside : ℕ → ℕ → Type 0
KidsInside f n = 1 ≤ n → f + n ≤ most_cells

-- eight numbers in a row, by a function; each a status
abbrev pub EightAs : (ℕ → ℕ) → List ℕ → Type 0
EightAs f l = (i : ℕ) → i < 8 → get_or l i 0 ≡ f i

abbrev pub EightFew : List ℕ → Type 0
EightFew l = (i : ℕ) → i < 8 → get_or l i 0 ≤ 64

-- loops over the same tests
any_range : (f : ℕ → Bool) (n k : ℕ) → anyb f (range k n) ≡ some_from f n k
unfolding anyb range some_from
any_range f zero k = refl
any_range f (suc n) k = ap (λ (b : Bool). f k || b) (any_range f n (suc k))

any_six : (f : ℕ → Bool) → anyb f edge_numbers ≡ some_from f 6 0
unfolding anyb some_from
any_six f = refl

pub some_same : (f g : ℕ → Bool) (n k : ℕ) → ((j : ℕ) → k ≤ j → j < k + n → f j ≡ g j) → some_from f n k ≡ some_from g n k
unfolding some_from
some_same f g zero k h = refl
some_same f g (suc n) k h = ap₂ ◌||◌ (h k (omega arith) (omega arith)) (some_same f g n (suc k) (λ j a b. h j (omega arith) (omega arith)))

green_size : (s : ℕ) → s ≤ 63 → (j : ℕ) → j < size_of s → j < length (family s)
unfolding pattern_of
green_size s h j g =
    let e : pattern_of s ≡ s = rw (ne_eqb s 64 (λ z. absurd (omega (arith, z))), pattern_of) in
    subst (λ (n : ℕ). j < n) (size_refined s (size_some s j g) ∙ ap (λ (p : ℕ). length (family p)) e) g

module _ (x : List ℕ) (c : ℕ) where
  module _ (h : field x (STATUS + c) ≤ 63) where
    kid_in : (j : ℕ) → j < kid_count x c → j < length (family (field x (STATUS + c)))
    unfolding kid_count
    kid_in j g =
        let e : kid_count x c ≡ min (size_of (field x (STATUS + c))) (field x CELLS - field x (CHILD + c)) =
        rw (le-leb (field x (STATUS + c)) 64 (omega arith), kid_count) in
        green_size (field x (STATUS + c)) h j (omega (arith, e, g))

    pair_is : (a b : ℕ) → pair_has x (cut_of (field x (STATUS + c))).digits (field x (CHILD + c)) (kid_count x c) a b ≡ pair_hit x c a b
    unfolding pair_has kid_has edge_hit edge_has pair_hit
    pair_is a b =
        some_same _ _ (kid_count x c) 0 (λ j l m.
        some_same _ _ 6 0 (λ y k n.
        ap₂ (λ (u v : ℕ). (eqb a u && eqb b v) && hit_of x (field x (CHILD + c) + j) y)
        (low_end (field x (STATUS + c)) (omega arith) j (kid_in j (omega (arith, m))) y n)
        (high_end (field x (STATUS + c)) (omega arith) j (kid_in j (omega (arith, m))) y n))
        ∙ sym (any_six (λ y. (eqb a (low_digit (field x (STATUS + c)) j y) && eqb b (high_digit (field x (STATUS + c)) j y))
        && hit_of x (field x (CHILD + c) + j) y)))
        ∙ sym (any_range (λ j. anyb (λ y. (eqb a (low_digit (field x (STATUS + c)) j y) && eqb b (high_digit (field x (STATUS + c)) j y))
        && hit_of x (field x (CHILD + c) + j) y) edge_numbers) (kid_count x c) 0)

    pub fresh_bits_is : (i : ℕ) → i < 8
        → fresh_by x (cut_of (field x (STATUS + c))).digits (cut_of 63).digits (field x (CHILD + c)) (kid_count x c) i ≡ fresh_bits x c i
    unfolding fresh_by fresh_bits
    fresh_bits_is i g = ap bits_of (six_same _ _ (λ y m. ap₂
        (pair_has x (cut_of (field x (STATUS + c))).digits (field x (CHILD + c)) (kid_count x c))
        (low_end 63 (omega arith) i (omega (arith, red_eight)) y m) (high_end 63 (omega arith) i (omega (arith, red_eight)) y m)
        ∙ pair_is (low_digit 63 i y) (high_digit 63 i y)))

  -- a status that is none has no children
  pub fresh_none : 64 < field x (STATUS + c) → (i : ℕ) → 0 ≡ fresh_bits x c i
  unfolding fresh_bits pair_hit kid_count anyb range bits_of one_if
  fresh_none h i =
      let e : kid_count x c ≡ 0 = rw (lt-leb (field x (STATUS + c)) 64 h, kid_count) (omega arith) in
      let f : (a b : ℕ) → pair_hit x c a b ≡ false = λ a b. rw (e, pair_hit) in
      sym (ap bits_of (six_same (λ y. pair_hit x c (low_digit 63 i y) (high_digit 63 i y)) (λ y. false)
      (λ y m. f (low_digit 63 i y) (high_digit 63 i y))))
