-- The turns of the loop over the cells of a level: the rows written keep their numbers, and the cell at hand adds its family.
-- Assumes nothing.
use mathlib.Core.Path.{◌≡◌, refl, sym, ◌∙◌, ap}
use mathlib.Core.List.{List, [], ◌∷◌, ◌++◌}
use Prim.Native.Nat.{ℕ, suc, ◌+◌, ◌*◌, ◌-◌, ◌≤◌, ◌<◌}
use native.Mathlib.Nat.{add-zero}
use native.Mathlib.Omega.{arith}
use lib.Dec.{T, leb}
use lib.ListN.{length, get_or, drop}
use Rattle.base.specs.Limits.{most_cells}
use Rattle.base.specs.Lists.{allb}
use Rattle.mesh.specs.Layout.{split_edges}
use Rattle.edges.specs.Pairs.{add_pairs}
use Rattle.pairs.specs.declared.PairTable.{PairTable}
use Rattle.edges.specs.Table.{entries, take_less}
use Rattle.rows.specs.Numbered.{cell_at, cells_at, part, ends_from, point_at, rows_of}
use Rattle.mesh.specs.Table.{size_of, sizes}
use Rattle.growth.specs.Written.{written, written_none, written_more, cell_kept}
use Rattle.growth.specs.Rows.{rows_all, length-rows_of, rows_snoc, sizes_snoc}
use Rattle.growth.specs.Places.{Extends, extends_pairs, rows_kept, splits_few, ends_snoc}
use Rattle.rows.specs.Laws.{length-cells, length_part, part_more}
use Rattle.growth.specs.Parts.{small_part, sizes-take}
use Rattle.growth.specs.Points.{mids_grown, ReadyToGrow}
use Rattle.growth.specs.Level.{Laid, Roomy, Grows}

module _ {N H : ℕ} (cells : List ℕ) (t : PairTable N H) (ss : List ℕ) (first last l at n : ℕ) (r : Roomy cells t ss first last at n) where
  grows_none : Grows cells t ss first 0 l at n cells t at
  unfolding cells_at ends_from rows_all sizes
  grows_none =
      record {
        mids = r.mids;
        list = refl;
        more = omega arith;
        kept_xs = refl;
        kept_ys = refl;
        rows = sym (written_none cells (8 * at));
        next = sym (add-zero at);
        few = r.few;
      }

  module _ (k : ℕ) (h : first + k < last) {cells₁ : List ℕ} {t₁ : PairTable N H} {at₁ : ℕ}
      (g : Grows cells t ss first k l at n cells₁ t₁ at₁) where
    small : get_or ss (first + k) 0 ≤ 64
    small = r.small (first + k) (omega arith) h

    parts : part ss first (suc k) ≡ part ss first k ++ (get_or ss (first + k) 0 ∷ [])
    parts = part_more ss first k (omega (arith, r.statuses))

    sized : sizes (part ss first (suc k)) ≡ sizes (part ss first k) + size_of (get_or ss (first + k) 0)
    sized = ap sizes parts ∙ sizes_snoc (part ss first k) (get_or ss (first + k) 0)

    within : at₁ + size_of (get_or ss (first + k) 0) ≤ at + sizes (part ss first (last - first))
    within = omega (arith, g.next, sized, sizes-take (drop first ss) (suc k) (last - first) (omega arith))

    alike : length (cells_at cells first k) ≡ length (part ss first k)
    alike = length-cells cells first k ∙ sym (length_part ss first k (omega (arith, r.statuses)))

    all_small : T (allb (λ s. leb s 64) (part ss first k))
    all_small = small_part ss first k (omega (arith, r.statuses)) (λ c a b. r.small c a (omega arith))

    own : cell_at cells₁ (first + k) ≡ cell_at cells (first + k)
    own =
        ap (λ (u : List ℕ). cell_at u (first + k)) g.rows
        ∙ cell_kept cells at (rows_all l n (entries t₁) first (cells_at cells first k) (part ss first k))
        (omega (arith, r.in_cells)) (first + k) (omega (arith, r.done))

    splits : t₁.n + length (split_edges 0 (cell_at cells₁ (first + k)) (get_or ss (first + k) 0)) ≤ at + sizes (part ss first (last - first))
    splits = omega (arith, within, g.few, splits_few (cell_at cells₁ (first + k)) (get_or ss (first + k) 0) small)

    refine_asked : length cells₁ ≡ length cells
        → (first + k < at₁) × (get_or ss (first + k) 0 ≤ 64) × (at₁ + size_of (get_or ss (first + k) 0) ≤ most_cells)
        × (8 * (at₁ + size_of (get_or ss (first + k) 0)) ≤ length cells₁)
    refine_asked e = (omega (arith, r.done, g.next), small, omega (arith, within, r.most), omega (arith, within, r.in_cells))

    refine_ready : length cells₁ ≡ length cells → ReadyToGrow cells₁ t₁ (first + k) (get_or ss (first + k) 0) n
    refine_ready e =
        record {
          inside = omega (arith, r.done, r.in_cells);
          mids = g.mids;
          space = record { small = omega (arith, splits, r.most); inside = omega (arith, splits, r.in_mids) };
          small = omega (arith, splits, r.most, r.coarse);
        }

    module _ {cells₂ : List ℕ} {t₂ : PairTable N H} {at₂ : ℕ}
        (d : Laid cells₁ t₁ (first + k) (get_or ss (first + k) 0) l at₁ n cells₂ t₂ at₂) where
      list_more : entries t₂ ≡ ends_from (entries t) (cells_at cells first (suc k)) (part ss first (suc k))
      unfolding cells_at
      list_more =
          d.table.list
          ∙ rw (own, g.list, parts)
          (sym (ends_snoc (entries t) (cells_at cells first k) (part ss first k) (cell_at cells (first + k)) (get_or ss (first + k) 0)
          alike))

      rows_stay : rows_all l n (entries t₁) first (cells_at cells first k) (part ss first k) ≡ rows_all l n (entries t₂)
          first (cells_at cells first k) (part ss first k)
      rows_stay =
          let es = ends_from (entries t) (cells_at cells first k) (part ss first k) in
          let w : entries t₂ ≡ add_pairs es (split_edges 0 (cell_at cells₁ (first + k)) (get_or ss (first + k) 0)) = rw g.list at
          d.table.list in
          let x : Extends es (entries t₂) = rw w
          (extends_pairs es (split_edges 0 (cell_at cells₁ (first + k)) (get_or ss (first + k) 0))) in
          rw g.list (sym (rows_kept l n (entries t₂) (entries t) first (cells_at cells first k) (part ss first k) all_small x))

      rows_more : cells₂ ≡ written cells (8 * at) (rows_all l n (entries t₂) first (cells_at cells first (suc k)) (part ss first (suc k)))
      unfolding cells_at
      rows_more =
          let es = entries t₂ in
          let vs = rows_all l n es first (cells_at cells first k) (part ss first k) in
          let c = cell_at cells (first + k) in
          let s = get_or ss (first + k) 0 in
          let long : length vs ≡ 8 * sizes (part ss first k) = length-rows_of l n es first (cells_at cells first k) (part ss first k) alike
          all_small in
          let e : 8 * at₁ ≡ 8 * at + length vs = omega (arith, g.next) in
          let q : cells₁ ≡ written cells (8 * at) vs = g.rows ∙ ap (written cells (8 * at)) rows_stay in
          let v : rows_all l n es first (cells_at cells first k ++ (c ∷ [])) (part ss first (suc k)) ≡ vs ++ rows_of l (first + k) s
          (point_at n es c) =
          rw parts (rw (length-cells cells first k) at (rows_snoc l n es first (cells_at cells first k) (part ss first k) c s alike)) in
          d.rows ∙ rw (own, e, v, q) (written_more cells (8 * at) vs (omega (arith, within, g.next, r.in_cells))
          (rows_of l (first + k) s (point_at n es c)))

      grows_more : Grows cells t ss first (suc k) l at n cells₂ t₂ at₂
      grows_more =
          record {
            mids = mids_grown g.mids d.table;
            list = list_more;
            more = omega (arith, g.more, d.table.more);
            kept_xs = take_less t.n t₁.n t₂.xs t₁.xs g.more d.table.kept_xs ∙ g.kept_xs;
            kept_ys = take_less t.n t₁.n t₂.ys t₁.ys g.more d.table.kept_ys ∙ g.kept_ys;
            rows = rows_more;
            next = omega (arith, d.next, g.next, sized);
            few = omega (arith, d.next, d.table.most, g.few, splits_few (cell_at cells₁ (first + k)) (get_or ss (first + k) 0) small);
          }

  -- the loop's first turn, and the next at the cell c
  pub grows_start : Grows cells t ss first (first - first) l at n cells t at
  grows_start = let e : first - first ≡ 0 = omega arith in rw e grows_none

  module _ (c : ℕ) (a : first ≤ c) (h : c < last) {cells₁ : List ℕ} {t₁ : PairTable N H} {at₁ : ℕ}
      (g : Grows cells t ss first (c - first) l at n cells₁ t₁ at₁) where
    here : first + (c - first) ≡ c
    here = omega arith

    pub next_asked : length cells₁ ≡ length cells
        → ((c < at₁) × (get_or ss c 0 ≤ 64) × (at₁ + size_of (get_or ss c 0) ≤ most_cells) × (8 * (at₁ + size_of (get_or ss c 0)) ≤ length cells₁))
        × ReadyToGrow cells₁ t₁ c (get_or ss c 0) n
    next_asked e = (
      rw here at (refine_asked (c - first) (omega (arith, here)) g e),
      rw here at (refine_ready (c - first) (omega (arith, here)) g e),
    )

    pub next_grows : {cells₂ : List ℕ} {t₂ : PairTable N H} {at₂ : ℕ} → Laid cells₁ t₁ c (get_or ss c 0) l at₁ n cells₂ t₂ at₂
        → Grows cells t ss first (c + 1 - first) l at n cells₂ t₂ at₂
    next_grows d =
        let e : c + 1 - first ≡ suc (c - first) = omega arith in
        rw e (grows_more (c - first) (omega (arith, here)) g (rw here d))
