-- One level more on the way down.
-- Laws: up_none (no level), high_is (whether a cell of the highest level will be red), up_refused (the levels above are refused),
-- up_more (one level more), up_untreated (this level is refused).
-- Assumes nothing.
use mathlib.Core.Path.{◌≡◌, refl, sym, ◌∙◌, ap, fun_ext}
use mathlib.Core.Bool.{Bool, true, false, ◌||◌}
use mathlib.Core.List.{List, [], ◌∷◌, ◌++◌}
use Prim.Native.Nat.{ℕ, zero, suc, ◌+◌, ◌-◌}
use native.Mathlib.Nat.{add-zero, zero-add}
use native.Mathlib.Omega.{arith}
use lib.Dec.{eqb, ltb}
use lib.ListN.{get_or, take, drop, take-append-drop}
use borrow.Author.Tests.{lt-ltb, ne_eqb}
use Rattle.base.specs.Bools.{one_if}
use Rattle.base.specs.Lists.{anyb}
use Rattle.base.specs.Places.{hasb}
use Rattle.mesh.specs.Cells.{redb, heldb}
use Rattle.edges.specs.Pairs.{Pair, isb}
use Rattle.pairs.specs.declared.PairTable.{PairTable}
use Rattle.base.specs.declared.Refusal.{Refusal}
use Rattle.edges.specs.Table.{entries}
use Rattle.redlist.specs.Ready.{red_count}
use Rattle.redlist.specs.Steps.{count_append}
use Rattle.closure.specs.Closed.{lists_added, held_listed}
use Rattle.flagging.specs.Flags.{listedb, flags_at, kepts_at, reds_up, kept_up, high_up}
use Rattle.flagging.specs.Old.{Span, limit_of, high_of, Treated, Untreated, Above, Unkept}
use Rattle.flagging.specs.Writes.{length_kepts, flags_both}
use Rattle.flagging.proofs.Treat.{entries_none, kept_many}

pub up_none : (t ss ms ks : List ℕ) (first last : ℕ) (kept : List ℕ) {N H : ℕ} (table : PairTable N H)
    → (table.from ≡ 0) × (table.n ≡ 0) → (depth : ℕ) → depth ≡ 0 → Above t ss ms ks depth first last kept kept table false
unfolding kept_up reds_up high_up red_count
up_none t ss ms ks first last kept table (from_is, n_is) depth d =
    rw d
    (record {
      keeps = record {
        written = sym (ap (λ (x : ℕ). take first kept ++ drop x kept) (add-zero first) ∙ take-append-drop first kept);
        top = refl;
      };
      lists = record { has = λ p. ap (λ (es : List Pair). hasb isb es p) (entries_none table (from_is ∙ sym n_is)) };
      few = omega (arith, n_is);
    })

-- a count above 0
any_count : (l : List ℕ) → ltb 0 (red_count l) ≡ anyb redb l
unfolding red_count anyb one_if
any_count [] = refl
any_count (s ∷ l) = go (redb s) (any_count l)
  where
    go : (b : Bool) → ltb 0 (red_count l) ≡ anyb redb l → ltb 0 (one_if b + red_count l) ≡ (b || anyb redb l)
    go true i = lt-ltb 0 (1 + red_count l) (omega arith)
    go false i = rw (zero-add (red_count l)) i

module _ (t ss ms ks : List ℕ) (first last : ℕ) where
  abbrev end : ℕ
  end = get_or ks last 0

  abbrev held_up : ℕ → Pair → Bool
  held_up h = heldb eqb (reds_up t ss ms ks h last end)

  abbrev flags_up : ℕ → List ℕ
  flags_up h = flags_at t ss ms ks (held_up h) first (last - first)

  -- the new red cells of this level and of those above it
  count_both : (h : ℕ) → red_count (kept_up t ss ms ks (suc h) first last) ≡ red_count (flags_up h) + red_count (kept_up t ss ms ks h last end)
  unfolding kept_up
  count_both h =
      let es : List Pair = reds_up t ss ms ks (suc h) first last in
      let up : List ℕ = kept_up t ss ms ks h last end in
      count_append (kepts_at t ss ms ks (held_up h) es first (last - first)) up
      ∙ ap (λ (x : ℕ). x + red_count up) (kept_many t ss ms ks (held_up h) es first (last - first))

  -- the highest level is that of the levels above
  high_above : (h : ℕ) → (h ≡ 0 → ⊥) → high_up t ss ms ks h last end ≡ high_up t ss ms ks (suc h) first last
  unfolding high_up
  high_above zero n = absurd (n refl)
  high_above (suc h) n = refl

  none_red : red_count (kept_up t ss ms ks 0 last end) ≡ 0
  unfolding kept_up red_count
  none_red = refl

  -- whether a cell of the highest level will be red, by how many of this level will be where it is that
  pub high_is : (h : ℕ) (above : Bool) → above ≡ high_up t ss ms ks h last end
      → high_of (eqb (suc h) 1) (red_count (flags_up h)) above ≡ high_up t ss ms ks (suc h) first last
  unfolding high_up high_of
  high_is zero above e = any_count (flags_up 0)
  high_is (suc h) above e = rw (ne_eqb (suc (suc h)) 1 (λ z. omega arith)) e

  module _ (h depth : ℕ) (d : depth ≡ suc h) where
    -- the levels above are refused
    pub up_refused : (room : ℕ) (r : Refusal) → Unkept t ss ms ks h last end room r → Unkept t ss ms ks depth first last room r
    up_refused room r u =
        let z : h ≡ 0 → ⊥ = λ i. omega (arith, u.many, none_red, ap (λ (x : ℕ). red_count (kept_up t ss ms ks x last end)) i) in
        rw d (record { limit = u.limit ∙ ap limit_of (high_above h z); many = omega (arith, u.many, count_both h) })

    module _ {N H : ℕ} (kept kept₁ : List ℕ) (table₁ : PairTable N H) (high₁ : Bool)
        (above : Above t ss ms ks h last end kept kept₁ table₁ high₁) where
      -- what was listed is what new red cells one level up hold
      held_is : listedb table₁ ≡ held_up h
      held_is = fun_ext (held_listed (entries table₁) (reds_up t ss ms ks h last end) above.lists)

      pub up_more : Span ss kept first last → (kept₂ : List ℕ) (table₂ : PairTable N H) (high : Bool)
          → Treated t ss ms ks (listedb table₁) first last kept₁ (eqb depth 1) high₁ table₁ kept₂ table₂ high
          → Above t ss ms ks depth first last kept kept₂ table₂ high
      unfolding kept_up reds_up
      up_more s kept₂ table₂ high w =
          let treated : Treated t ss ms ks (held_up h) first last kept₁ (eqb (suc h) 1) high₁ table₁ kept₂ table₂ high = rw (held_is, d) at w in
          let es : List Pair = reds_up t ss ms ks (suc h) first last in
          let own : List ℕ = kepts_at t ss ms ks (held_up h) es first (last - first) in
          let up : List ℕ = kept_up t ss ms ks h last end in
          rw d
          (record {
            keeps = record {
              written = flags_both kept kept₁ kept₂ own up first last s.up (omega (arith, s.inside, s.room))
                  (length_kepts t ss ms ks (held_up h) es first (last - first)) above.keeps.written treated.written;
              top = treated.top ∙ high_is h high₁ above.keeps.top;
            };
            lists = rw treated.list (lists_added es);
            few = omega (arith, treated.most, above.few, count_both h);
          })

      -- this level is refused
      pub up_untreated : (r : Refusal) → Untreated t ss ms ks (listedb table₁) first last (eqb depth 1) high₁ table₁ r
          → Unkept t ss ms ks depth first last N r
      up_untreated r w =
          let u : Untreated t ss ms ks (held_up h) first last (eqb (suc h) 1) high₁ table₁ r = rw (held_is, d) at w in
          rw d
          (record { limit = u.limit ∙ ap limit_of (high_is h high₁ above.keeps.top); many = omega (arith, u.many, above.few, count_both h) })
