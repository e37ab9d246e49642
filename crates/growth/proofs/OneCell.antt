-- One cell refined: a leaf leaves everything as it is, and any other cell has its family's rows.
-- Assumes nothing.
use mathlib.Core.Path.{◌≡◌, refl, sym, ◌∙◌, ap}
use mathlib.Core.List.{List, []}
use Prim.Native.Nat.{ℕ, ◌+◌, ◌*◌, ◌≤◌}
use native.Mathlib.Nat.{add-zero}
use lib.ListN.{length, get_or}
use borrow.Author.Tests.{ne_eqb}
use Rattle.cutting.specs.Rule.{family}
use Rattle.mesh.specs.Cells.{Cell, redb, pattern_of}
use Rattle.mesh.specs.Layout.{split_edges}
use Rattle.pairs.specs.declared.PairTable.{PairTable}
use Rattle.edges.specs.Table.{entries, Edges, Grown, grown_none}
use Rattle.rows.specs.Numbered.{cell_at, point_at, child_rows, rows_of}
use Rattle.mesh.specs.Table.{size_of}
use Rattle.growth.specs.Written.{written, written_none}
use Rattle.growth.specs.Places.{rows_same}
use Rattle.growth.specs.Points.{PointsSet}
use Rattle.growth.specs.Level.{Laid}

no_edges : (c : Cell ℕ) → split_edges 0 c 0 ≡ []
unfolding split_edges
no_edges c = refl

module _ (s : ℕ) (ne : s ≡ 0 → ⊥) where
  rows_some : (l k : ℕ) (f : ℕ → ℕ) → rows_of l k s f ≡ child_rows l k (redb s) f 0 (family (pattern_of s))
  unfolding rows_of
  rows_some l k f = rw (ne_eqb s 0 ne, rows_of)

  pub size_some : size_of s ≡ length (family (pattern_of s))
  unfolding size_of
  size_some = rw (ne_eqb s 0 ne, size_of)

module _ {N H : ℕ} (cells : List ℕ) (t : PairTable N H) (c s l at n : ℕ) where
  pub laid_leaf : s ≡ 0 → Edges t → Laid cells t c s l at n cells t at
  unfolding rows_of size_of
  laid_leaf e r =
      record {
        table = rw (e, no_edges (cell_at cells c)) (grown_none t r);
        rows = rw e (sym (written_none cells (8 * at)));
        next = rw e (sym (add-zero at));
      }

  pub laid_family : (s ≡ 0 → ⊥) → s ≤ 64 → {cells' : List ℕ} {t' : PairTable N H} {ps : List ℕ} {at' : ℕ}
      → Grown t (split_edges 0 (cell_at cells c) s) t' → PointsSet n (entries t') (cell_at cells c) (pattern_of s) ps
      → cells' ≡ written cells (8 * at) (child_rows l c (redb s) (λ d. get_or ps d 0) 0 (family (pattern_of s)))
      → at' ≡ at + length (family (pattern_of s))
      → Laid cells t c s l at n cells' t' at'
  laid_family ne small {cells'} {t'} {ps} {at'} g p w e =
      let f = point_at n (entries t') (cell_at cells c) in
      record {
        table = g;
        rows = w ∙ ap (written cells (8 * at)) (sym (rows_some s ne l c (λ d. get_or ps d 0)) ∙ rows_same l c s (λ d. get_or ps d 0) f small
            p.at);
        next = e ∙ ap (λ (k : ℕ). at + k) (sym (size_some s ne));
      }
