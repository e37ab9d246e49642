-- The families of a level, one behind the other.
--   Families m ss ks first last table₀ old₀ table old k c   those of the cells from first to c are written, and end before k
-- Assumes nothing.
use mathlib.Core.Path.{◌≡◌, refl, sym, ◌∙◌, ap, ap₂}
use mathlib.Core.List.{List, [], ◌∷◌, ◌++◌, append-nil, append_assoc}
use Prim.Native.Nat.{ℕ, zero, suc, ◌+◌, ◌-◌, ◌≤◌, ◌<◌}
use native.Mathlib.Decide.{dec_lt, ℕ_discrete}
use native.Mathlib.Omega.{arith}
use lib.ListN.{length, get_or, drop, replicate, length-append, length-replicate}
use lib.Dec.{leb, leb→le}
use Rattle.base.specs.Every.{All, all_of, all_append}
use Rattle.base.specs.Limits.{most_cells}
use Rattle.mesh.specs.Table.{size_of, sizes}
use Rattle.rows.specs.Numbered.{part}
use Rattle.rows.specs.Laws.{length_part}
use Rattle.rows.specs.Sizes.{size_red, sizes_step}
use Rattle.growth.specs.Parts.{small_part, sizes-take}
use Rattle.growth.specs.Written.{written, written_none, written_more, length-written, get_d_written}
use Rattle.lineage.specs.Olds.{first_child, olds_of, olds_next}
use Rattle.kept.specs.Families.{length-fresh}
use Rattle.kept.specs.Kept.{born_by, born_next}
use Rattle.lineage.specs.Same.{length-olds}
use Rattle.writing.specs.Keeps.{Keeps}
use Rattle.writing.specs.Wrote.{RoomAbove, Wrote}
use Rattle.writing.proofs.Front.{part_on}
use Rattle.writing.proofs.Fresh.{fresh_small}
use Rattle.writing.proofs.Family.{born_kept, born_fresh, born_leaves, first_inside, no_cell}

part_small : (l : List ℕ) (k n : ℕ) → k + n ≤ length l → ((c : ℕ) → k ≤ c → c < k + n → get_or l c 0 ≤ 64) → All (λ s. s ≤ 64) (part l k n)
part_small l k n h small = all_of (λ s. s ≤ 64) (λ s. leb s 64) (λ s t. leb→le s 64 t) (part l k n) (small_part l k n h small)

leaves_small : (n : ℕ) → All (λ s. s ≤ 64) (replicate n 0)
leaves_small zero = tt
leaves_small (suc n) = (omega arith, leaves_small n)

-- how many children there are
module _ {m : ℕ} {ss kids ks : List ℕ} (w : Keeps m ss kids ks) where
  red_long : (t o : ℕ) → t ≡ 64 → get_or ss o 0 ≡ 64 → length (born_by m ss ks t o) ≡ 8
  red_long t o red same = elim (dec_lt o (length ss)) [
    | yes h ↦ ap length (born_kept m ss ks t o red same)
        ∙ length_part ks (first_child m ss o) 8 (omega (arith, first_inside w o h, size_red (get_or ss o 0) same, w.in_kept))
    | no h ↦ absurd (no_cell ss o (omega arith) same)
  ]

  length-family : (t o : ℕ) → length (born_by m ss ks t o) ≡ size_of t
  length-family t o = elim (ℕ_discrete t 64) [
    | yes red ↦ eight red (ℕ_discrete (get_or ss o 0) 64) ∙ sym (size_red t red)
    | no green ↦ ap length (born_leaves m ss ks t o green) ∙ length-replicate (size_of t) 0
  ]
    where
      eight : t ≡ 64 → Dec (get_or ss o 0 ≡ 64) → length (born_by m ss ks t o) ≡ 8
      eight red (yes same) = red_long t o red same
      eight red (no other) = ap length (born_fresh m ss ks t o red other) ∙ length-fresh (get_or ss o 0) ks (first_child m ss o)

  pub length-born : (ts os : List ℕ) → length os ≡ length ts → length (born_next m ss ks ts os) ≡ sizes ts
  unfolding born_next sizes
  length-born [] [] e = refl
  length-born [] (o ∷ os) e = absurd (omega arith)
  length-born (t ∷ ts) [] e = absurd (omega arith)
  length-born (t ∷ ts) (o ∷ os) e =
      length-append (born_by m ss ks t o) (born_next m ss ks ts os) ∙ ap₂ ◌+◌ (length-family t o) (length-born ts os (omega arith))

  -- they are statuses
  small_family : (t o : ℕ) → All (λ s. s ≤ 64) (born_by m ss ks t o)
  small_family t o = elim (ℕ_discrete t 64) [
    | yes red ↦ eight red (ℕ_discrete (get_or ss o 0) 64)
    | no green ↦ rw (born_leaves m ss ks t o green) (leaves_small (size_of t))
  ]
    where
      kept : o < length ss → t ≡ 64 → get_or ss o 0 ≡ 64 → All (λ s. s ≤ 64) (born_by m ss ks t o)
      kept h red same =
          let n = first_inside w o h in
          let e = size_red (get_or ss o 0) same in
          rw (born_kept m ss ks t o red same) (part_small ks (first_child m ss o) 8 (omega (arith, n, w.in_kept)) (λ c a b.
          w.kept c (omega arith)))

      eight : t ≡ 64 → Dec (get_or ss o 0 ≡ 64) → All (λ s. s ≤ 64) (born_by m ss ks t o)
      eight red (yes same) = elim (dec_lt o (length ss)) [ yes h ↦ kept h red same | no h ↦ absurd (no_cell ss o (omega arith) same) ]
      eight red (no other) = rw (born_fresh m ss ks t o red other) (fresh_small (get_or ss o 0) ks (first_child m ss o))

  pub small_born : (ts os : List ℕ) → All (λ s. s ≤ 64) (born_next m ss ks ts os)
  unfolding born_next
  small_born [] os = tt
  small_born (t ∷ ts) [] = tt
  small_born (t ∷ ts) (o ∷ os) =
      all_append (λ s. s ≤ 64) (born_by m ss ks t o) (born_next m ss ks ts os) (small_family t o) (small_born ts os)

-- one cell more
module _ (m : ℕ) (ss ks : List ℕ) where
  born_snoc : (ts os : List ℕ) (t o : ℕ) → length ts ≡ length os
      → born_next m ss ks (ts ++ (t ∷ [])) (os ++ (o ∷ [])) ≡ born_next m ss ks ts os ++ born_by m ss ks t o
  unfolding born_next
  born_snoc [] [] t o e = append-nil (born_by m ss ks t o)
  born_snoc [] (p ∷ os) t o e = absurd (omega arith)
  born_snoc (s ∷ ts) [] t o e = absurd (omega arith)
  born_snoc (s ∷ ts) (p ∷ os) t o e =
      ap (λ (l : List ℕ). born_by m ss ks s p ++ l) (born_snoc ts os t o (omega arith))
      ∙ sym (append_assoc (born_by m ss ks s p) (born_next m ss ks ts os) (born_by m ss ks t o))

  numbers_snoc : (ts os : List ℕ) (t o : ℕ) → length ts ≡ length os
      → olds_next m ss (ts ++ (t ∷ [])) (os ++ (o ∷ [])) ≡ olds_next m ss ts os ++ olds_of m ss t o
  unfolding olds_next
  numbers_snoc [] [] t o e = append-nil (olds_of m ss t o)
  numbers_snoc [] (p ∷ os) t o e = absurd (omega arith)
  numbers_snoc (s ∷ ts) [] t o e = absurd (omega arith)
  numbers_snoc (s ∷ ts) (p ∷ os) t o e =
      ap (λ (l : List ℕ). olds_of m ss s p ++ l) (numbers_snoc ts os t o (omega arith))
      ∙ sym (append_assoc (olds_of m ss s p) (olds_next m ss ts os) (olds_of m ss t o))

-- one part behind another
behind : (l : List ℕ) (i : ℕ) (vs : List ℕ) → i + length vs ≤ length l → {l' xs ys zs : List ℕ} {k : ℕ} → l' ≡ written l i vs
    → k ≡ i + length vs → xs ≡ ys → zs ≡ vs ++ ys → written l' k xs ≡ written l i zs
behind l i vs h {l'} {xs} {ys} e d x z = rw (e, d, x, z) (written_more l i vs h ys)

module _ (m : ℕ) (ss ks : List ℕ) (first last : ℕ) (table₀ old₀ : List ℕ) where
  -- the children of the cells before c
  abbrev pub born_to : ℕ → List ℕ
  born_to c = born_next m ss ks (part table₀ first (c - first)) (part old₀ first (c - first))

  abbrev pub olds_to : ℕ → List ℕ
  olds_to c = olds_next m ss (part table₀ first (c - first)) (part old₀ first (c - first))

  pub record Families (table old : List ℕ) (k c : ℕ) : Type 0 where
    pub above : first ≤ c
    pub below : c ≤ last
    pub wrote : Wrote table₀ old₀ last (born_to c) (olds_to c) table old
    pub next : k ≡ last + sizes (part table₀ first (c - first))

module _ {m : ℕ} {ss kids ks : List ℕ} (w : Keeps m ss kids ks) {first last : ℕ} {table₀ old₀ : List ℕ}
    (g : RoomAbove table₀ old₀ first last) where
  pub families_start : Families m ss ks first last table₀ old₀ table₀ old₀ last first
  unfolding born_next olds_next sizes
  families_start =
      let e : first - first ≡ 0 = omega arith in
      record {
        above = omega arith;
        below = g.rise;
        wrote = record { statuses = rw e (sym (written_none table₀ last)); olds = rw e (sym (written_none old₀ last)) };
        next = rw e (omega arith);
      }

  module _ {table old : List ℕ} {k c : ℕ} (r : Families m ss ks first last table₀ old₀ table old k c) where
    same_many : length (part old₀ first (c - first)) ≡ length (part table₀ first (c - first))
    same_many = length_part old₀ first (c - first) (omega (arith, r.above, r.below, g.enough, g.in_old))
        ∙ sym (length_part table₀ first (c - first) (omega (arith, r.above, r.below, g.enough, g.in_table)))

    long_born : length (born_to m ss ks first last table₀ old₀ c) ≡ sizes (part table₀ first (c - first))
    long_born = length-born w (part table₀ first (c - first)) (part old₀ first (c - first)) same_many

    long_olds : length (olds_to m ss ks first last table₀ old₀ c) ≡ sizes (part table₀ first (c - first))
    long_olds = length-olds m ss (part table₀ first (c - first)) (part old₀ first (c - first)) same_many

    fits : last + sizes (part table₀ first (c - first)) ≤ most_cells
    fits = omega (arith, sizes-take (drop first table₀) (c - first) (last - first) (omega (arith, r.below)), g.enough)

    long_table : length table ≡ most_cells
    long_table = ap length r.wrote.statuses
        ∙ length-written table₀ last (born_to m ss ks first last table₀ old₀ c) (omega (arith, fits, long_born, g.in_table)) ∙ g.in_table

    long_old : length old ≡ most_cells
    long_old = ap length r.wrote.olds
        ∙ length-written old₀ last (olds_to m ss ks first last table₀ old₀ c) (omega (arith, fits, long_olds, g.in_old)) ∙ g.in_old

    module _ (h : c < last) where
      status_kept : get_or table c 0 ≡ get_or table₀ c 0
      status_kept = ap (λ (l : List ℕ). get_or l c 0) r.wrote.statuses
          ∙ get_d_written table₀ last (born_to m ss ks first last table₀ old₀ c) (omega (arith, g.enough, g.in_table)) c 0 h

      old_kept : get_or old c 0 ≡ get_or old₀ c 0
      old_kept = ap (λ (l : List ℕ). get_or l c 0) r.wrote.olds
          ∙ get_d_written old₀ last (olds_to m ss ks first last table₀ old₀ c) (omega (arith, g.enough, g.in_old)) c 0 h

      one : sizes (part table₀ first (c + 1 - first)) ≡ sizes (part table₀ first (c - first)) + size_of (get_or table₀ c 0)
      one = sizes_step table₀ first c r.above (omega (arith, g.enough, g.in_table))

      pub families_fit : get_or table c 0 ≤ 64
      families_fit = rw status_kept (g.small c r.above h)

      pub families_room : k + size_of (get_or table c 0) ≤ most_cells
      families_room = rw status_kept (omega (
        arith,
        one,
        r.next,
        sizes-take (drop first table₀) (c + 1 - first) (last - first) (omega (arith, r.above)),
        g.enough,
      ))

      pub families_more : {table₁ old₁ : List ℕ} {k₁ : ℕ} → k₁ ≡ k + size_of (get_or table c 0)
          → Wrote table old k (born_by m ss ks (get_or table c 0) (get_or old c 0)) (olds_of m ss (get_or table c 0) (get_or old c 0)) table₁ old₁
          → Families m ss ks first last table₀ old₀ table₁ old₁ k₁ (c + 1)
      families_more ek e =
          let ts : List ℕ = part table₀ first (c - first) in
          let os : List ℕ = part old₀ first (c - first) in
          let t : ℕ = get_or table₀ c 0 in
          let o : ℕ = get_or old₀ c 0 in
          let on_table = part_on table₀ first c r.above (omega (arith, g.enough, g.in_table)) in
          let on_old = part_on old₀ first c r.above (omega (arith, g.enough, g.in_old)) in
          let kb : k ≡ last + length (born_next m ss ks ts os) = omega (arith, r.next, long_born) in
          let ko : k ≡ last + length (olds_next m ss ts os) = omega (arith, r.next, long_olds) in
          record {
            above = omega (arith, r.above);
            below = omega arith;
            wrote = record {
              statuses = e.statuses ∙ behind table₀ last (born_next m ss ks ts os) (omega (arith, fits, long_born, g.in_table))
                  r.wrote.statuses kb (ap₂ (born_by m ss ks) status_kept old_kept)
                  (ap₂ (born_next m ss ks) on_table on_old ∙ born_snoc m ss ks ts os t o (sym same_many));
              olds = e.olds ∙ behind old₀ last (olds_next m ss ts os) (omega (arith, fits, long_olds, g.in_old))
                  r.wrote.olds ko (ap₂ (olds_of m ss) status_kept old_kept)
                  (ap₂ (olds_next m ss) on_table on_old ∙ numbers_snoc m ss ks ts os t o (sym same_many));
            };
            next = omega (arith, ek, r.next, one, ap size_of status_kept);
          }

    pub families_all : last ≤ c
        → Wrote table₀ old₀ last (born_to m ss ks first last table₀ old₀ last) (olds_to m ss ks first last table₀ old₀ last) table old
    families_all h = let e : c ≡ last = omega (arith, r.below) in rw e at r.wrote
