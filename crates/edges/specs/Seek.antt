-- From a search of `pairs` to the list of pairs: what it finds is the pair's place.
-- Assumes nothing.
use Rattle.std.specs.Prelude.{◌≡◌, Bool, true, not, eqb, length, set, Option, Some, None, MatchOption, is_some}
use Rattle.std.proofs.Math.Path.{refl, sym}
use Rattle.std.proofs.Common.{◌∙◌, ap, ap₂, eqb-true, eq-or-lt_of_le}
use Rattle.std.proofs.Math.Logic.{⊎_elim}
use Rattle.std.proofs.Math.Bool.{false}
use Rattle.std.proofs.lemmas.Bool.{eqb-false}
use mathlib.Core.List.{List, [], ◌∷◌, ◌++◌}
use Prim.Native.Nat.{ℕ, zero, suc, ◌+◌, ◌-◌, ◌≤◌, ◌<◌}
use native.Mathlib.Omega.{arith}
use Rattle.std.proofs.Math.ListN.{get_or, length-append, get_or-append}
use Rattle.std.proofs.Math.Seq.{get_or-set_same, get_or-set_other}
use Rattle.std.proofs.lemmas.List.{take-set-le, get_or_at}
use Rattle.base.specs.Places.{hasb, place_in, add, Distinct, has_at, has_below, place_there, add_old, add_new, distinct_add, place_here}
use Rattle.base.specs.Places.{place_behind, distinct_nil}
use Rattle.base.specs.Bools.{either}
use Rattle.pairs.specs.Keys.{Added, seek, seek_found, seek_none}
use Rattle.pairs.specs.declared.PairTable.{PairTable}
use Rattle.edges.specs.Pairs.{Pair, sorted, isb, add_pair, pairs_of, same_pair}
use Rattle.edges.specs.Table.{listed, entries, Edges, Inserted}

module _ (xs ys : List ℕ) (k : ℕ) where
  pub length-listed : (m : ℕ) → length (pairs_of xs ys k m) ≡ m
  unfolding pairs_of
  length-listed zero = refl
  length-listed (suc m) = length-append (pairs_of xs ys k m) ((get_or xs (k + m) 0, get_or ys (k + m) 0) ∷ []) ∙ omega (arith, length-listed m)

  pub at_pairs : (m i : ℕ) → i < m → get_or (pairs_of xs ys k m) i (0, 0) ≡ (get_or xs (k + i) 0, get_or ys (k + i) 0)
  unfolding pairs_of
  at_pairs zero i h = absurd (omega arith)
  at_pairs (suc m) i h =
      ⊎_elim (λ (e : i ≡ m). rw e (get_or_at (pairs_of xs ys k m) (get_or xs (k + m) 0, get_or ys (k + m) 0) [] (0, 0) m (length-listed m)))
      (λ (l : i < m). get_or-append (pairs_of xs ys k m) ((get_or xs (k + m) 0, get_or ys (k + m) 0) ∷ []) (0, 0) i (rw (length-listed m) l)
      ∙ at_pairs m i l)
      (eq-or-lt_of_le (omega arith))

  -- a search that finds, and one that does not
  found : (x y m : ℕ) → (seek xs ys x y k m ≡ 65535 → ⊥) → hasb isb (pairs_of xs ys k m) (x, y) ≡ true
  found x y m ne =
      let f = seek_found xs ys x y k m ne in
      let e = seek xs ys x y k m in
      let l : e - k < m = omega (arith, f.above, f.below) in
      let w : k + (e - k) ≡ e = omega (arith, f.above) in
      let p : get_or (pairs_of xs ys k m) (e - k) (0, 0) ≡ (x, y) = at_pairs m (e - k) l
      ∙ rw w (ap₂ (λ (a b : ℕ). (a, b)) f.x_is f.y_is) in
      rw p at (has_at isb (0, 0) same_pair (pairs_of xs ys k m) (e - k) (rw (length-listed m) l))

  pub missing : (x y m : ℕ) → k + m ≤ 65535 → seek xs ys x y k m ≡ 65535 → hasb isb (pairs_of xs ys k m) (x, y) ≡ false
  missing x y m h none = ⊎_elim (λ t. absurd (no t)) (λ t. t) (either (hasb isb (pairs_of xs ys k m) (x, y)))
    where
      no : hasb isb (pairs_of xs ys k m) (x, y) ≡ true → ⊥
      no t =
          let i = place_in isb (pairs_of xs ys k m) (x, y) in
          let l : i < m = rw (length-listed m) at (has_below isb (pairs_of xs ys k m) (x, y) t) in
          let p : ◌≡◌ {A = Pair} (get_or xs (k + i) 0, get_or ys (k + i) 0) (x, y) = sym (at_pairs m i l)
          ∙ place_there isb (0, 0) same_pair (pairs_of xs ys k m) (x, y) t in
          seek_none xs ys x y k (k + i) (omega arith) (ap (λ (q : Pair). q.0) p) (ap (λ (q : Pair). q.1) p) m h none (omega arith)

  -- where different pairs are listed, a search finds the pair's place
  found_place : (x y m : ℕ) → Distinct isb (0, 0) same_pair (pairs_of xs ys k m) → (seek xs ys x y k m ≡ 65535 → ⊥)
      → seek xs ys x y k m ≡ k + place_in isb (pairs_of xs ys k m) (x, y)
  found_place x y m d ne =
      let f = seek_found xs ys x y k m ne in
      let e = seek xs ys x y k m in
      let l : e - k < m = omega (arith, f.above, f.below) in
      let w : k + (e - k) ≡ e = omega (arith, f.above) in
      let p : get_or (pairs_of xs ys k m) (e - k) (0, 0) ≡ (x, y) = at_pairs m (e - k) l
      ∙ rw w (ap₂ (λ (a b : ℕ). (a, b)) f.x_is f.y_is) in
      let q : place_in isb (pairs_of xs ys k m) (x, y) ≡ e - k = rw p at (d.own (e - k) (rw (length-listed m) l)) in
      omega arith

-- the list after a pair is set behind it
module _ (xs ys : List ℕ) (k n x y : ℕ) where
  same_below : (m : ℕ) → k + m ≤ n → pairs_of (set xs n x) (set ys n y) k m ≡ pairs_of xs ys k m
  unfolding pairs_of
  same_below zero h = refl
  same_below (suc m) h =
      let ne : k + m ≡ n → ⊥ = λ e. omega arith in
      rw (same_below m (omega arith), get_or-set_other xs n (k + m) x 0 ne, get_or-set_other ys n (k + m) y 0 ne)

  listed_more : k ≤ n → n < length xs → n < length ys → listed (set xs n x) (set ys n y) k (n + 1) ≡ listed xs ys k n ++ ((x, y) ∷ [])
  unfolding pairs_of
  listed_more h hx hy =
      let e : n + 1 - k ≡ suc (n - k) = omega arith in
      let w : k + (n - k) ≡ n = omega arith in
      rw (e, same_below (n - k) (omega arith), w, get_or-set_same xs n x 0 hx, get_or-set_same ys n y 0 hy)

module _ {N H : ℕ} (t : PairTable N H) where
  -- a table in which no entry is looked at
  pub none_listed : t.from ≡ t.n → Edges t
  unfolding pairs_of
  none_listed e = let z : t.n - t.from ≡ 0 = omega arith in rw z (distinct_nil isb (0, 0) same_pair)

  module _ (e : Pair) {x y : ℕ} (s : ◌≡◌ {A = Pair} (x, y) (sorted e)) where
    abbrev at_seek : ℕ
    at_seek = seek t.xs t.ys x y t.from (t.n - t.from)

    pub not_there : at_seek ≡ 65535 → hasb isb (entries t) (sorted e) ≡ false
    not_there z = rw s at (missing t.xs t.ys t.from x y (t.n - t.from) (omega (arith, t.up, t.in_order.small)) z)

    pub there : (at_seek ≡ 65535 → ⊥) → hasb isb (entries t) (sorted e) ≡ true
    there ne = rw s at (found t.xs t.ys t.from x y (t.n - t.from) ne)

    -- what a search answers
    pub told_place : not (eqb at_seek 65535) ≡ hasb isb (entries t) (sorted e)
    told_place = go (eqb at_seek 65535) refl
      where
        go : (b : Bool) → eqb at_seek 65535 ≡ b → not b ≡ hasb isb (entries t) (sorted e)
        go true b = sym (not_there (eqb-true at_seek 65535 b))
        go false b = sym (there (eqb-false at_seek 65535 b))

    pub told : (o : Option ℕ) → MatchOption o (at_seek ≡ 65535) (λ i. (i ≡ at_seek) × (i < t.n)) → is_some o ≡ hasb isb (entries t) (sorted e)
    told None z = sym (not_there z)
    told (Some i) (p, l) = sym (there (λ z. omega (arith, t.in_order.small)))

    module _ (r : Edges t) where
      pub old : (at : ℕ) → (at ≡ at_seek) × (at < t.n) → Inserted t e t at
      unfolding add_pair
      old at (q, l) =
          let ne : at_seek ≡ 65535 → ⊥ = λ z. omega (arith, t.in_order.small) in
          record {
            distinct = r;
            list = sym (add_old isb (entries t) (sorted e) (there ne));
            place = q ∙ rw s at (found_place t.xs t.ys t.from x y (t.n - t.from) r ne);
            same_from = refl;
            more = omega arith;
            one = omega arith;
            kept_xs = refl;
            kept_ys = refl;
          }

      pub new : at_seek ≡ 65535 → t.n < length t.xs → t.n < length t.ys → (t' : PairTable N H)
          → Added t.xs t.ys t.n x y t'.xs t'.ys t'.heads t'.links → (t'.n ≡ t.n + 1) × (t'.from ≡ t.from)
          → Inserted t e t' t.n
      unfolding add_pair
      new none in_xs in_ys t' a (n_is, from_is) =
          let up = t.up in
          let g : hasb isb (entries t) (sorted e) ≡ false = not_there none in
          let w : entries t' ≡ entries t ++ (sorted e ∷ []) =
          rw (a.xs_is, a.ys_is, n_is, from_is, ← s) (listed_more t.xs t.ys t.from t.n x y up in_xs in_ys) in
          let v : entries t' ≡ add isb (entries t) (sorted e) = w ∙ sym (add_new isb (entries t) (sorted e) g) in
          record {
            distinct = rw v (distinct_add isb (0, 0) same_pair (entries t) (sorted e) r);
            list = v;
            place = rw (
              w,
              place_behind isb (entries t) (sorted e ∷ []) (sorted e) g,
              place_here isb (sorted e) [] (sorted e) (same_pair.self (sorted e)),
              length-listed t.xs t.ys t.from (t.n - t.from),
            ) (omega arith);
            same_from = from_is;
            more = omega arith;
            one = omega arith;
            kept_xs = rw a.xs_is (take-set-le t.n t.xs t.n x (omega arith));
            kept_ys = rw a.ys_is (take-set-le t.n t.ys t.n y (omega arith));
          }
