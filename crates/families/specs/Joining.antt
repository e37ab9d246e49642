-- What a family (rule 2.6) joins, by computed tests over digits: two digits are told by the order of the corners that they lie between.
--   agreeb i j k l     the numbers i and j compare as k and l do
--   orderedb d e a b   the corners of the digits d and e compare as those of a and b do
--   join_corners d e      the corners that the digits d and e lie between
--   splitb p d e       every edge between two of those corners is split in the pattern p
-- Laws: joined_alike (what the family of a red cell joins depends on that order), joined_split (a family joins what the red one
-- joins, where those edges are split), joined_mid (of two digits that the red one joins one is a midpoint), joined_turned (it
-- joins them in either order).
use Rattle.std.specs.Prelude.{◌≡◌, ◌⊎◌, Bool, ◌&&◌, ◌||◌, List, [], ◌∷◌, ℕ, ◌<◌, eqb}
use Rattle.std.proofs.Math.Logic.{inl, inr, ⊎_elim}
use Rattle.std.specs.Bool.{beq}
use Rattle.std.proofs.Math.Dec.{T, ltb}
use Rattle.std.proofs.Common.{ltb→lt, ne_eqb}
use Rattle.base.specs.Lists.{allb, belowb, belowb_at}
use Rattle.base.specs.Bools.{impb, impb_use, or_either}
use Rattle.cutting.specs.Rule.{low, high, digit, edge_of, split, family}
use Rattle.cutting.specs.Rows.{family_rows, row}
use Rattle.cutting.proofs.Rows.{family_row}
use Rattle.families.specs.Faces.{joinedb}
use Rattle.families.specs.Kuhn.{reds, family_red}

abbrev pub agreeb : ℕ → ℕ → ℕ → ℕ → Bool
agreeb i j k l = beq (ltb i j) (ltb k l) && beq (ltb j i) (ltb l k)

abbrev pub orderedb : ℕ → ℕ → ℕ → ℕ → Bool
orderedb d e a b =
    (agreeb (low d) (high d) (low a) (high a) && agreeb (low e) (high e) (low b) (high b))
    && ((agreeb (low d) (low e) (low a) (low b) && agreeb (low d) (high e) (low a) (high b))
    && (agreeb (high d) (low e) (high a) (low b) && agreeb (high d) (high e) (high a) (high b)))

alike_test : ℕ → ℕ → ℕ → ℕ → Bool
alike_test d e a b = impb (joinedb reds a b) (impb (orderedb d e a b) (joinedb reds d e))

alike_test_lem : T (belowb (λ d. belowb (λ e. joinedb reds d e || belowb (λ a. belowb (λ b. alike_test d e a b) 10) 10) 10) 10)
unfolding belowb joinedb impb alike_test low high
alike_test_lem = tt

abbrev pub join_corners : ℕ → ℕ → List ℕ
join_corners d e = low d ∷ high d ∷ low e ∷ high e ∷ []

abbrev splitb : ℕ → ℕ → ℕ → Bool
splitb p d e = allb (λ i. allb (λ j. impb (ltb i j) (split p (edge_of (digit i j)))) (join_corners d e)) (join_corners d e)

split_test : ℕ → List (List ℕ) → ℕ → ℕ → Bool
split_test p f d e = impb (joinedb reds d e) (impb (splitb p d e) (joinedb f d e))

split_test_lem : T (belowb (λ p. belowb (λ d. belowb (λ e. split_test p (row p) d e) 10) 10) 64)
unfolding belowb joinedb impb split_test low high digit edge_of split allb row family_rows
split_test_lem = tt

-- one of two digits that the red family joins is a midpoint, unless they are the same
mid_test : ℕ → ℕ → Bool
mid_test d e = impb (joinedb reds d e) (eqb d e || (ltb (low d) (high d) || ltb (low e) (high e)))

mid_test_lem : T (belowb (λ d. belowb (λ e. mid_test d e) 10) 10)
unfolding belowb joinedb impb mid_test low high
mid_test_lem = tt

sym_test : ℕ → ℕ → Bool
sym_test d e = impb (joinedb reds d e) (joinedb reds e d)

sym_test_lem : T (belowb (λ d. belowb (λ e. sym_test d e) 10) 10)
unfolding belowb joinedb impb sym_test
sym_test_lem = tt

module _ (d e : ℕ) (hd : d < 10) (he : e < 10) where
  pub joined_alike : (a b : ℕ) → a < 10 → b < 10 → T (joinedb (family 63) a b) → T (orderedb d e a b) → T (joinedb (family 63) d e)
  unfolding alike_test
  joined_alike a b ha hb t o =
      rw family_red (⊎_elim (λ (u : T (joinedb reds d e)). u) (λ (u : T (belowb (λ a. belowb (λ b. alike_test d e a b) 10) 10)).
      let w : T (alike_test d e a b) = belowb_at (λ b. alike_test d e a b) 10 (belowb_at (λ a. belowb (λ b. alike_test d e a b) 10) 10 u a ha)
      b hb in
      impb_use (orderedb d e a b) (joinedb reds d e)
      (impb_use (joinedb reds a b) (impb (orderedb d e a b) (joinedb reds d e)) w (rw family_red at t)) o)
      (or_either (joinedb reds d e) (belowb (λ a. belowb (λ b. alike_test d e a b) 10) 10)
      (belowb_at (λ e. joinedb reds d e || belowb (λ a. belowb (λ b. alike_test d e a b) 10) 10) 10
      (belowb_at (λ d. belowb (λ e. joinedb reds d e || belowb (λ a. belowb (λ b. alike_test d e a b) 10) 10) 10) 10 alike_test_lem d hd) e he)))

  pub joined_split : (p : ℕ) → p < 64 → T (joinedb (family 63) d e) → T (splitb p d e) → T (joinedb (family p) d e)
  unfolding split_test
  joined_split p hp t o =
      let w : T (split_test p (row p) d e) =
      belowb_at (λ e. split_test p (row p) d e) 10
      (belowb_at (λ d. belowb (λ e. split_test p (row p) d e) 10) 10
      (belowb_at (λ p. belowb (λ d. belowb (λ e. split_test p (row p) d e) 10) 10) 64 split_test_lem p hp) d hd) e he in
      rw (family_row p hp) (impb_use (splitb p d e) (joinedb (row p) d e)
      (impb_use (joinedb reds d e) (impb (splitb p d e) (joinedb (row p) d e)) w (rw family_red at t)) o)

  pub joined_mid : T (joinedb (family 63) d e) → (d ≡ e → ⊥) → (low d < high d) ⊎ (low e < high e)
  unfolding mid_test
  joined_mid t n =
      let w : T (mid_test d e) = belowb_at (λ e. mid_test d e) 10 (belowb_at (λ d. belowb (λ e. mid_test d e) 10) 10 mid_test_lem d hd) e he in
      let u : T (eqb d e || (ltb (low d) (high d) || ltb (low e) (high e))) = impb_use (joinedb reds d e)
      (eqb d e || (ltb (low d) (high d) || ltb (low e) (high e))) w (rw family_red at t) in
      ⊎_elim (λ (v : T (ltb (low d) (high d))). inl (ltb→lt (low d) (high d) v))
      (λ (v : T (ltb (low e) (high e))). inr (ltb→lt (low e) (high e) v))
      (or_either (ltb (low d) (high d)) (ltb (low e) (high e)) (rw (ne_eqb d e n) at u))

  pub joined_turned : T (joinedb (family 63) d e) → T (joinedb (family 63) e d)
  unfolding sym_test
  joined_turned t =
      let w : T (sym_test d e) = belowb_at (λ e. sym_test d e) 10 (belowb_at (λ d. belowb (λ e. sym_test d e) 10) 10 sym_test_lem d hd) e he in
      rw family_red (impb_use (joinedb reds d e) (joinedb reds e d) w (rw family_red at t))
