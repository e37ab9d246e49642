-- The flags of a level and what its cells keep, written one after the other.
--   Flagging ..   the flags of the cells from first to c are written
--   Closing ..    what the cells from first to c keep is written
-- Laws: closed_red, closed_pattern (the two cases of what a cell keeps); flagging_start, flagging_more, flagging_all; closing_start,
-- closing_more, closing_all.
-- Assumes nothing.
use mathlib.Core.Path.{◌≡◌, refl, sym, ◌∙◌, ap}
use mathlib.Core.Bool.{Bool}
use mathlib.Core.List.{List, [], ◌∷◌, ◌++◌, map, append_assoc}
use Prim.Native.Nat.{ℕ, ◌+◌, ◌-◌, ◌≤◌, ◌<◌}
use native.Mathlib.Omega.{arith}
use lib.ListN.{length, get_or, take, drop, set, length-set}
use borrow.Author.Tests.{eq-eqb, ne_eqb}
use Rattle.base.specs.Bools.{one_if, one_most}
use Rattle.base.specs.Range.{range}
use Rattle.mesh.specs.Cells.{redb}
use Rattle.edges.specs.Pairs.{Pair}
use Rattle.rows.specs.Numbered.{cell_at}
use Rattle.closure.specs.Listed.{listed_pattern}
use Rattle.redlist.specs.Ready.{red_count, count_one_lem}
use Rattle.redlist.specs.Steps.{count_append}
use Rattle.lineage.specs.Olds.{flag_of}
use Rattle.lineage.specs.Flags.{flag_red}
use Rattle.flagging.specs.Flags.{red_atb, flags_at, closed_at, closed_over}
use Rattle.flagging.specs.Old.{Flagged}
use Rattle.flagging.specs.Writes.{over_start, over_next, over_more, over_left}

-- the two cases of what a cell keeps
module _ (es : List Pair) (t : List ℕ) (f c : ℕ) where
  pub closed_red : f ≡ 64 → closed_at es t f c ≡ 64
  unfolding closed_at
  closed_red e = rw (eq-eqb f 64 e, closed_at)

  pub closed_pattern : (f ≡ 64 → ⊥) → closed_at es t f c ≡ listed_pattern es (cell_at t c)
  unfolding closed_at
  closed_pattern e = rw (ne_eqb f 64 e, closed_at)

module _ (f : ℕ → ℕ) (first last : ℕ) (l₀ : List ℕ) where
  pub record Writing (l : List ℕ) (c : ℕ) : Type 0 where
    pub above : first ≤ c
    pub below : c ≤ last
    pub long : length l ≡ length l₀
    pub written : l ≡ (take first l₀ ++ map f (range first (c - first))) ++ drop c l₀

  writing_start : first ≤ last → Writing l₀ first
  writing_start h = record { above = omega arith; below = h; long = refl; written = over_start f l₀ first }

  module _ (l : List ℕ) (c : ℕ) (w : Writing l c) where
    writing_more : c < last → last ≤ length l₀ → (v : ℕ) → v ≡ f c → Writing (set l c v) (c + 1)
    writing_more h g v e =
        record {
          above = omega (arith, w.above);
          below = omega arith;
          long = length-set l c v ∙ w.long;
          written = over_more f l₀ first l c w.above (omega arith) w.written v e;
        }

    writing_all : last ≤ c → l ≡ take first l₀ ++ (map f (range first (last - first)) ++ drop last l₀)
    writing_all h =
        let e : c ≡ last = omega (arith, w.below) in
        rw e at w.written ∙ append_assoc (take first l₀) (map f (range first (last - first))) (drop last l₀)

module _ (t ss ms ks : List ℕ) (held : Pair → Bool) (first last : ℕ) (kept₀ : List ℕ) where
  abbrev flag_at : ℕ → ℕ
  flag_at c = flag_of (red_atb t ss ms ks held c)

  pub record Flagging (kept : List ℕ) (reds c : ℕ) : Type 0 where
    pub writing : Writing flag_at first last kept₀ kept c
    pub count : reds ≡ red_count (map flag_at (range first (c - first)))
    pub few : reds ≤ c - first

  pub flagging_start : first ≤ last → Flagging kept₀ 0 first
  unfolding range red_count
  flagging_start h =
      let e : first - first ≡ 0 = omega arith in
      record { writing = writing_start flag_at first last kept₀ h; count = rw e; few = omega arith }

  module _ (kept : List ℕ) (reds c : ℕ) (w : Flagging kept reds c) where
    pub flagging_more : c < last → last ≤ length kept₀ → (v b : ℕ) (r : Bool) → r ≡ red_atb t ss ms ks held c → v ≡ flag_of r
        → b ≡ one_if r → Flagging (set kept c v) (reds + b) (c + 1)
    flagging_more h g v b r er ev eb =
        let e : v ≡ flag_at c = ev ∙ ap flag_of er in
        let red : redb v ≡ r = ap redb ev ∙ flag_red r in
        let fs = map flag_at (range first (c - first)) in
        let n : map flag_at (range first (c + 1 - first)) ≡ fs ++ (v ∷ []) =
        over_next flag_at kept₀ first c w.writing.above ∙ ap (λ (x : ℕ). fs ++ (x ∷ [])) (sym e) in
        record {
          writing = writing_more flag_at first last kept₀ kept c w.writing h g v e;
          count = rw n (omega (arith, w.count, count_append fs (v ∷ []), count_one_lem v, eb, ap one_if red));
          few = omega (arith, w.few, w.writing.above, eb, one_most r);
        }

    pub flagging_all : last ≤ c → Flagged t ss ms ks held first last kept₀ kept reds
    unfolding flags_at
    flagging_all h =
        let e : c ≡ last = omega (arith, w.writing.below) in
        record {
          flags = writing_all flag_at first last kept₀ kept c w.writing h;
          count = rw e at w.count;
          few = rw e at w.few;
        }

module _ (es : List Pair) (t : List ℕ) (first last : ℕ) (kept₀ : List ℕ) where
  abbrev pub Closing : List ℕ → ℕ → Type 0
  Closing kept c = Writing (λ c. closed_at es t (get_or kept₀ c 0) c) first last kept₀ kept c

  pub closing_start : first ≤ last → Closing kept₀ first
  closing_start h = writing_start (λ c. closed_at es t (get_or kept₀ c 0) c) first last kept₀ h

  module _ (kept : List ℕ) (c : ℕ) (w : Closing kept c) where
    pub closing_more : c < last → last ≤ length kept₀ → (v : ℕ) → v ≡ closed_at es t (get_or kept c 0) c → Closing (set kept c v) (c + 1)
    closing_more h g v e =
        let u : get_or kept c 0 ≡ get_or kept₀ c 0 =
        over_left (λ c. closed_at es t (get_or kept₀ c 0) c) kept₀ first kept c w.above (omega arith) w.written in
        writing_more (λ c. closed_at es t (get_or kept₀ c 0) c) first last kept₀ kept c w h g v
        (e ∙ ap (λ (x : ℕ). closed_at es t x c) u)

    pub closing_all : last ≤ c → kept ≡ take first kept₀ ++ (closed_over es t kept₀ first (last - first) ++ drop last kept₀)
    unfolding closed_over
    closing_all h = writing_all (λ c. closed_at es t (get_or kept₀ c 0) c) first last kept₀ kept c w h
