-- Tables of edges: the entries from `from` on are looked at.
--   listed xs ys from n   the pairs of the entries from `from` to n
--   entries t             those of the table t
--   Edges t               its entries are different
--   Space t k             k entries more have room
--   Inserted t e t' at    what inserting an edge leaves, and the entry that it stands at
--   Grown t es t'         what inserting a list of edges leaves; grown_none, grown_one, grown_both make it up
use Rattle.std.specs.Prelude.{◌≡◌, refl, List, [], ◌∷◌, ◌++◌, ℕ, ◌+◌, ◌-◌, ◌≤◌, length, take}
use Rattle.std.proofs.Common.{sym, ◌∙◌, ap, arith, length-append, take-take}
use Rattle.base.specs.Places.{place_in, Distinct}
use Rattle.pairs.specs.declared.PairTable.{PairTable}
use Rattle.edges.specs.Pairs.{Pair, sorted, isb, add_pair, add_pairs, pairs_of, same_pair}

abbrev pub listed : List ℕ → List ℕ → ℕ → ℕ → List Pair
listed xs ys from n = pairs_of xs ys from (n - from)

pub pairs_append : (es l m : List Pair) → add_pairs es (l ++ m) ≡ add_pairs (add_pairs es l) m
unfolding add_pairs
pairs_append es [] m = refl
pairs_append es (e ∷ l) m = pairs_append (add_pair es e) l m

pub take_less : (k n : ℕ) (l m : List ℕ) → k ≤ n → take n l ≡ take n m → take k l ≡ take k m
take_less k n l m h e = sym (take-take k n l h) ∙ ap (take k) e ∙ take-take k n m h

module _ {N H : ℕ} where
  abbrev pub entries : PairTable N H → List Pair
  entries t = listed t.xs t.ys t.from t.n

  abbrev pub Edges : PairTable N H → Type 0
  Edges t = Distinct isb (0, 0) same_pair (entries t)

  pub record Space (t : PairTable N H) (k : ℕ) : Type 0 where
    pub small : t.n + k ≤ 65535
    pub inside : t.n + k ≤ N

  -- one edge more: the list, the edge's entry, and how many entries there are
  pub record Inserted (t : PairTable N H) (e : Pair) (t' : PairTable N H) (at : ℕ) : Type 0 where
    pub distinct : Edges t'
    pub list : entries t' ≡ add_pair (entries t) e
    pub place : at ≡ t.from + place_in isb (entries t') (sorted e)
    pub same_from : t'.from ≡ t.from
    pub more : t.n ≤ t'.n
    pub one : t'.n ≤ t.n + 1
    pub kept_xs : take t.n t'.xs ≡ take t.n t.xs
    pub kept_ys : take t.n t'.ys ≡ take t.n t.ys

  -- a list of edges more
  pub record Grown (t : PairTable N H) (es : List Pair) (t' : PairTable N H) : Type 0 where
    pub distinct : Edges t'
    pub list : entries t' ≡ add_pairs (entries t) es
    pub same_from : t'.from ≡ t.from
    pub more : t.n ≤ t'.n
    pub most : t'.n ≤ t.n + length es
    pub kept_xs : take t.n t'.xs ≡ take t.n t.xs
    pub kept_ys : take t.n t'.ys ≡ take t.n t.ys

  pub grown_none : (t : PairTable N H) → Edges t → Grown t [] t
  unfolding add_pairs
  grown_none t d = record {
    distinct = d;
    list = refl;
    same_from = refl;
    more = omega arith;
    most = omega arith;
    kept_xs = refl;
    kept_ys = refl;
  }

  pub grown_both : {t : PairTable N H} {es : List Pair} {t₁ : PairTable N H} {fs : List Pair} {t₂ : PairTable N H}
      → Grown t es t₁ → Grown t₁ fs t₂ → Grown t (es ++ fs) t₂
  grown_both {t} {es} {t₁} {fs} {t₂} g h =
      record {
        distinct = h.distinct;
        list = h.list ∙ ap (λ (l : List Pair). add_pairs l fs) g.list ∙ sym (pairs_append (entries t) es fs);
        same_from = h.same_from ∙ g.same_from;
        more = omega (arith, g.more, h.more);
        most = omega (arith, g.most, h.most, length-append es fs);
        kept_xs = take_less t.n t₁.n t₂.xs t₁.xs g.more h.kept_xs ∙ g.kept_xs;
        kept_ys = take_less t.n t₁.n t₂.ys t₁.ys g.more h.kept_ys ∙ g.kept_ys;
      }

  pub grown_one : {t : PairTable N H} {e : Pair} {t' : PairTable N H} {at : ℕ} → Inserted t e t' at → Grown t (e ∷ []) t'
  unfolding add_pairs
  grown_one i = record {
    distinct = i.distinct;
    list = i.list;
    same_from = i.same_from;
    more = i.more;
    most = i.one;
    kept_xs = i.kept_xs;
    kept_ys = i.kept_ys;
  }
