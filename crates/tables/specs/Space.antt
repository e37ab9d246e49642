-- Room for the red edges: a red cell has six, and eight children.
-- Assumes nothing.
use Rattle.std.specs.Prelude.{◌≡◌, refl, Bool, true, false, List, [], ◌∷◌, ℕ, ◌+◌, ◌*◌, ◌-◌, ◌≤◌, length}
use Rattle.std.proofs.Common.{sym, ◌∙◌, inr, eqb-true}
use native.Mathlib.Omega.{arith}
use Rattle.base.specs.Bools.{one_if}
use Rattle.base.specs.Limits.{most_cells}
use Rattle.mesh.specs.Cells.{redb}
use Rattle.pairs.specs.declared.PairTable.{PairTable}
use Rattle.edges.specs.Pairs.{add_pairs, pairs_of}
use Rattle.edges.specs.Table.{Grown, entries}
use Rattle.edges.specs.Seek.{none_listed}
use Rattle.mesh.specs.Table.{size_of, sizes}
use Rattle.rows.specs.Sizes.{size_red}
use Rattle.redlist.specs.Ready.{red_count, Ready}
use Rattle.closure.specs.Listed.{listed_closed}
use Rattle.redlist.specs.Steps.{length-reds}
use Rattle.closure.specs.Closed.{lists_added, closed_listed}
use Rattle.tables.specs.Checked.{Listed, Torn, Closed, own_cells, own_statuses, own_reds, own_closed}
use Rattle.rows.specs.Laws.{length-cells, length_part}

one_size : (s : ℕ) → 8 * one_if (redb s) ≤ size_of s
unfolding one_if
one_size s = go (redb s) refl
  where
    go : (b : Bool) → redb s ≡ b → 8 * one_if b ≤ size_of s
    go true e = omega (arith, size_red s (eqb-true s 64 e))
    go false e = omega arith

red_sizes : (ss : List ℕ) → 8 * red_count ss ≤ sizes ss
unfolding red_count sizes
red_sizes [] = omega arith
red_sizes (s ∷ ss) = omega (arith, one_size s, red_sizes ss)

-- the table of red edges is empty at a level's start
pub none_looked : {N H : ℕ} (t t₁ : PairTable N H) → t₁.from ≡ t.n → t₁.n ≡ t.n → entries t₁ ≡ []
unfolding pairs_of
none_looked t t₁ e q = let z : t₁.n - t₁.from ≡ 0 = omega arith in rw z

module _ {N H : ℕ} (rows ss : List ℕ) (first last : ℕ) (t t₁ : PairTable N H) (start : t₁.from ≡ t.n)
    (kept : (t₁.xs ≡ t.xs) × (t₁.ys ≡ t.ys) × (t₁.n ≡ t.n)) (small : 4 * t.n ≤ 3 * last)
    (up : first ≤ last) (in_rows : 8 * last ≤ length rows) (inside : last ≤ length ss) (few : length ss ≤ most_cells)
    (fit : last + sizes (own_statuses rows ss first last) ≤ length ss) where
  -- the table of red edges has room for all red cells of a table
  pub ready : 3 * length ss ≤ 4 * N → Ready rows last t₁ (6 * red_count (own_statuses rows ss first last))
  ready room =
      let h = red_sizes (own_statuses rows ss first last) in
      record {
        rows = in_rows;
        edges = none_listed t₁ (start ∙ sym kept.2);
        space = record { small = omega (arith, kept.2, h); inside = omega (arith, kept.2, h, room) };
      }

  module _ {t' : PairTable N H} (g : Grown t₁ (own_reds rows ss first last) t') where
    entries_are : entries t' ≡ add_pairs [] (own_reds rows ss first last)
    entries_are = g.list ∙ rw (none_looked t t₁ start kept.2)

    reds_listed : Listed t (own_reds rows ss first last) t'
    reds_listed =
        let f : t'.from ≡ t.n = g.same_from ∙ start in
        record {
          list = rw f at entries_are;
          more = omega (arith, g.more, kept.2);
          kept_xs = rw (kept.0, kept.2) at g.kept_xs;
          kept_ys = rw (kept.1, kept.2) at g.kept_ys;
        }

    few_after : 4 * t'.n ≤ 3 * (last + sizes (own_statuses rows ss first last))
    few_after =
        let k : length (own_reds rows ss first last) ≡ 6 * red_count (own_statuses rows ss first last) =
        length-reds (own_cells rows ss first last) (own_statuses rows ss first last)
        (length-cells rows first (last - first) ∙ sym (length_part ss first (last - first) (omega arith))) in
        omega (arith, red_sizes (own_statuses rows ss first last), k, g.most, kept.2)

    listed_is : listed_closed (entries t') (own_cells rows ss first last) (own_statuses rows ss first last) ≡ own_closed rows ss first last
    listed_is =
        rw entries_are (closed_listed (add_pairs [] (own_reds rows ss first last)) (own_reds rows ss first last)
        (lists_added (own_reds rows ss first last)) (own_cells rows ss first last) (own_statuses rows ss first last))

    module _ {ok : Bool} (c : ok ≡ listed_closed (entries t') (own_cells rows ss first last) (own_statuses rows ss first last)) where
      pub checked : ok ≡ true → {size : ℕ} → size ≡ sizes (own_statuses rows ss first last) → Closed rows ss first last t t' size
      checked e {size} s =
          record {
            inside = inside;
            fit = fit;
            closed = sym listed_is ∙ sym c ∙ e;
            many = s;
            reds = reds_listed;
            few = rw s few_after;
          }

      pub checked_torn : ok ≡ false → Torn rows ss first last
      checked_torn e = inr (inr (sym listed_is ∙ sym c ∙ e))
