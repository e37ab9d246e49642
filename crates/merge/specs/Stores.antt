-- The stores that a lent table has, one by one.
use Rattle.std.specs.Prelude.{◌≡◌, refl, Bool, true, false, ◌&&◌, ◌||◌, List, [], ◌∷◌, map, ℕ, zero, suc, ◌+◌, ◌-◌, ◌*◌, ◌≤◌, ◌<◌, T, eqb, get_or, take, drop}
use Rattle.std.proofs.Math.Path.{sym}
use Rattle.std.proofs.Common.{◌∙◌, ap, ap₂, drop_of_length-le, drop-cons}
use native.Mathlib.Omega.{arith}
use Rattle.std.proofs.Math.Dec.{eqb→eq}
use borrow.Author.Tests.{eq-eqb}
use Rattle.base.specs.Bools.{and_left, and_right}
use Rattle.base.specs.Limits.{most_coarse_cells}
use Rattle.base.specs.Lists.{allb, anyb, allb_at}
use Rattle.base.specs.Range.{range}
use Rattle.std.specs.List.{range_with_len, list_all, list_any}
use Rattle.rows.specs.Chains.{all_chain, any_chain}
use Rattle.store.specs.Fields.{field, full, STAGE, PART, PARTS, CORNERS, COARSE, RESULT, OWNER}
use Rattle.store.specs.Header.{headerb}
use Rattle.store.specs.Headed.{header_is}
use Rattle.store.specs.Stores.{store_in, stores_by, field_in, length-stores, stores_at}
use Rattle.merge.specs.Merge.{alikeb, everyb, ownsb, corners_among}
use Rattle.merge.specs.Steps.{OwnedAt, FewEntries}

module _ (b : List ℕ) where
  pub store_is : (j : ℕ) → take (full * j + full - full * j) (drop (full * j) b) ≡ store_in b j
  unfolding store_in
  store_is j = let z : full * j + full - full * j ≡ full = omega arith in rw z

-- a chain over the stores, or over numbers in a row
pub range_chain : (a n : ℕ) → range_with_len a n ≡ range a n
unfolding range
range_chain a zero = refl
range_chain a (suc n) = let z : a + 1 ≡ suc a = omega arith in rw z (ap (λ (l : List ℕ). a ∷ l) (range_chain (suc a) n))

module _ (f : List ℕ → Bool) (b : List ℕ) where
  all_from : (k n : ℕ) → allb (λ j. f (store_in b j)) (range k n) ≡ allb f (map (store_in b) (range k n))
  unfolding allb range
  all_from k zero = refl
  all_from k (suc n) = ap (λ (x : Bool). f (store_in b k) && x) (all_from (suc k) n)

  any_from : (k n : ℕ) → anyb (λ j. f (store_in b j)) (range k n) ≡ anyb f (map (store_in b) (range k n))
  unfolding anyb range
  any_from k zero = refl
  any_from k (suc n) = ap (λ (x : Bool). f (store_in b k) || x) (any_from (suc k) n)

  pub all_stores : (P : ℕ) → list_all (λ j. f (store_in b j)) (range_with_len 0 P) ≡ allb f (stores_by b P)
  all_stores P = all_chain (λ j. f (store_in b j)) (range_with_len 0 P) ∙ ap (allb (λ j. f (store_in b j))) (range_chain 0 P) ∙ all_from 0 P

  any_stores : (P : ℕ) → list_any (λ j. f (store_in b j)) (range_with_len 0 P) ≡ anyb f (stores_by b P)
  any_stores P = any_chain (λ j. f (store_in b j)) (range_with_len 0 P) ∙ ap (anyb (λ j. f (store_in b j))) (range_chain 0 P) ∙ any_from 0 P

module _ (b : List ℕ) (g : ℕ → Bool) (k : ℕ) (h : k < full) where
  any_same : (l : List ℕ) → list_any (λ j. g (get_or b (full * j + k) 0)) l ≡ list_any (λ j. g (field (store_in b j) k)) l
  any_same [] = refl
  any_same (j ∷ l) = ap₂ ◌||◌ (ap g (sym (field_in b j k h))) (any_same l)

  pub any_field : (P : ℕ) → list_any (λ j. g (get_or b (full * j + k) 0)) (range_with_len 0 P) ≡ anyb (λ x. g (field x k)) (stores_by b P)
  any_field P = any_same (range_with_len 0 P) ∙ any_stores (λ x. g (field x k)) b P

pub all_parts : (b : List ℕ) (P : ℕ)
    → list_all (λ p. anyb (λ x. eqb (field x PART) p) (stores_by b P)) (range_with_len 1 P) ≡ everyb (stores_by b P)
unfolding everyb
all_parts b P =
    let f : ℕ → Bool = λ p. anyb (λ x. eqb (field x PART) p) (stores_by b P) in
    all_chain f (range_with_len 1 P) ∙ ap (allb f) (range_chain 1 P) ∙ ap (λ (n : ℕ). allb f (range 1 n)) (sym (length-stores b P))

-- stores of the same split
module _ (x y : List ℕ) where
  pub record Alike : Type 0 where
    pub header : T (headerb y)
    pub stage : field y STAGE ≡ 2
    pub parts : field y PARTS ≡ field x PARTS
    pub corners : field y CORNERS ≡ field x CORNERS
    pub coarse : field y COARSE ≡ field x COARSE
    pub result : field y RESULT ≡ field x RESULT

  chain : (a b : Bool) → T (a && b) → T a × T b
  chain a b t = (and_left a b t, and_right a b t)

  pub alike_is : T (alikeb x y) → Alike
  unfolding alikeb
  alike_is t =
      let (a, t) = chain (headerb y) _ t in
      let (c, t) = chain (eqb (field y STAGE) 2) _ t in
      let (d, t) = chain (eqb (field y PARTS) (field x PARTS)) _ t in
      let (e, t) = chain (eqb (field y CORNERS) (field x CORNERS)) _ t in
      let (f, t) = chain (eqb (field y COARSE) (field x COARSE)) _ t in
      record {
        header = a;
        stage = eqb→eq (field y STAGE) 2 c;
        parts = eqb→eq (field y PARTS) (field x PARTS) d;
        corners = eqb→eq (field y CORNERS) (field x CORNERS) e;
        coarse = eqb→eq (field y COARSE) (field x COARSE) f;
        result = eqb→eq (field y RESULT) (field x RESULT) t;
      }

pub alike_yes : (x y : List ℕ) → headerb y ≡ true → field y STAGE ≡ 2 → field y PARTS ≡ field x PARTS → field y CORNERS ≡ field x CORNERS
    → field y COARSE ≡ field x COARSE → eqb (field y RESULT) (field x RESULT) ≡ alikeb x y
unfolding alikeb
alike_yes x y a c d e f =
    rw (
      a,
      eq-eqb (field y STAGE) 2 c,
      eq-eqb (field y PARTS) (field x PARTS) d,
      eq-eqb (field y CORNERS) (field x CORNERS) e,
      eq-eqb (field y COARSE) (field x COARSE) f,
    )

pub few_entries : (b : List ℕ) (P : ℕ) → T (allb (alikeb b) (stores_by b P)) → FewEntries b P
few_entries b P t i h =
    let w = allb_at (alikeb b) [] (stores_by b P) t i (omega (arith, length-stores b P)) in
    let v : T (alikeb b (store_in b i)) = rw (stores_at b P i h) at w in
    (header_is (store_in b i) (alike_is b (store_in b i) v).header).entries_most

-- the first store with a coarse cell
module _ (b : List ℕ) (P i : ℕ) where
  abbrev xs : List (List ℕ)
  xs = stores_by b P

  pub record Owning (j : ℕ) : Type 0 where
    pub any : anyb (ownsb i) (drop j xs) ≡ anyb (ownsb i) xs
    pub corners : corners_among (drop j xs) i ≡ corners_among xs i

  pub owning_start : Owning 0
  owning_start = record { any = refl; corners = refl }

  module _ (j : ℕ) (w : Owning j) where
    here : j < P → drop j xs ≡ store_in b j ∷ drop (suc j) xs
    here h = drop-cons xs j [] (omega (arith, length-stores b P)) ∙ ap (λ (x : List ℕ). x ∷ drop (suc j) xs) (stores_at b P j h)

    pub owning_on : j < P → ownsb i (store_in b j) ≡ false → Owning (suc j)
    unfolding anyb corners_among
    owning_on h t =
        record {
          any = (rw (here h, t) at w.any);
          corners = rw (here h, corners_among, t) at w.corners;
        }

    pub owning_stop : j < P → ownsb i (store_in b j) ≡ true → OwnedAt b P i j
    unfolding anyb corners_among
    owning_stop h t =
        record {
          below = h;
          some = sym (rw (here h, t) at w.any);
          corners = sym (rw (here h, corners_among, t) at w.corners);
        }

    pub owning_out : P ≤ j → anyb (ownsb i) (stores_by b P) ≡ false
    unfolding anyb
    owning_out h = sym (rw (drop_of_length-le xs {i = j} (omega (arith, length-stores b P))) at w.any)

pub owns_by : (b : List ℕ) (j i u v : ℕ) → i < most_coarse_cells → u ≡ get_or b (full * j + (OWNER + i)) 0 → v ≡ get_or b (full * j + PART) 0
    → eqb u v ≡ ownsb i (store_in b j)
unfolding ownsb
owns_by b j i u v h p q = rw (p, q, field_in b j (OWNER + i) (omega arith), field_in b j PART (omega arith))
