-- What soundness says, part by part.
--   Sound n qs ss   the parts
--   lv n qs ss j    the level j of a table; one without cells above the top
-- Laws: sound_parts, sound_from (they are the test), level_closed (each level is closed), level_next (neighbouring levels),
-- level_there (a level with cells is one of the table's).
use Rattle.std.specs.Prelude.{◌≡◌, Bool, ◌&&◌, List, ℕ, suc, ◌≤◌, ◌<◌, eqb, leb, length, get_or}
use Rattle.std.proofs.Common.{ap, arith}
use Rattle.std.proofs.Math.Decide.{dec_lt}
use Rattle.std.proofs.Math.Dec.{T, eqb→eq, leb→le}
use Rattle.std.proofs.Math.ListN.{get_or-eq_default}
use borrow.Author.Tests.{eq-eqb, le-leb}
use Rattle.base.specs.Limits.{most_cells, most_levels}
use Rattle.base.specs.Lists.{allb, allb_at}
use Rattle.base.specs.Bools.{and_left, and_right, and_both}
use Rattle.mesh.specs.Cells.{closed_from}
use Rattle.mesh.specs.Weights.{coarse_cells}
use Rattle.mesh.specs.Table.{Level, next, levels_of, cells_of, closedb, apartb, soundb}
use Rattle.lattice.specs.Levels.{no_level}
use Rattle.lineage.specs.Levels.{levels_next}

-- Rules 6.1 to 6.4, one by one.
pub record Sound (n : ℕ) (qs : List (List ℕ)) (ss : List ℕ) : Type 0 where
  pub many : length ss ≡ length (cells_of (levels_of n qs ss))
  pub high : length (levels_of n qs ss) ≤ most_levels
  pub few : length (cells_of (levels_of n qs ss)) ≤ most_cells
  pub closed : T (allb closedb (levels_of n qs ss))
  pub apart : T (apartb (cells_of (levels_of n qs ss)) ss)

empty_closed : T (closedb no_level)
unfolding closedb closed_from
empty_closed = tt

module _ (n : ℕ) (qs : List (List ℕ)) (ss : List ℕ) where
  pub sound_parts : T (soundb n qs ss) → Sound n qs ss
  unfolding soundb
  sound_parts t =
      let ls = levels_of n qs ss in
      let cs = cells_of ls in
      let (a, b, c, d, e) = parts (eqb (length ss) (length cs)) (leb (length ls) most_levels) (leb (length cs) most_cells) (allb closedb ls)
      (apartb cs ss)
      t in
      record {
        many = eqb→eq (length ss) (length cs) a;
        high = leb→le (length ls) most_levels b;
        few = leb→le (length cs) most_cells c;
        closed = d;
        apart =
            e;
      }
    where
      parts : (a b c d e : Bool) → T ((a && (b && c)) && (d && e)) → T a × T b × T c × T d × T e
      parts a b c d e t =
          let u : T (a && (b && c)) = and_left (a && (b && c)) (d && e) t in
          let v : T (d && e) = and_right (a && (b && c)) (d && e) t in
          let w : T (b && c) = and_right a (b && c) u in
          (and_left a (b && c) u, and_left b c w, and_right b c w, and_left d e v, and_right d e v)

  pub sound_from : Sound n qs ss → T (soundb n qs ss)
  unfolding soundb
  sound_from s =
      let ls = levels_of n qs ss in
      let cs = cells_of ls in
      rw (eq-eqb (length ss) (length cs) s.many, le-leb (length ls) most_levels s.high, le-leb (length cs) most_cells s.few)
      (and_both (allb closedb ls) (apartb cs ss) s.closed s.apart)

  abbrev pub lv : ℕ → Level
  lv j = get_or (levels_of n qs ss) j no_level

  pub level_closed : T (allb closedb (levels_of n qs ss)) → (j : ℕ) → T (closedb (lv j))
  level_closed t j =
      elim (dec_lt j (length (levels_of n qs ss))) [
        | yes h ↦ allb_at closedb no_level (levels_of n qs ss) t j h
        | no h ↦ rw (get_or-eq_default (levels_of n qs ss) no_level {n = j} (omega arith)) empty_closed
      ]

  pub level_next : (j : ℕ) → j ≤ 10 → (lv (suc j)).cells ≡ next (lv j).first (lv j).cells (lv j).statuses
  unfolding levels_of
  level_next j h = levels_next 12 0 (coarse_cells n qs) ss j (omega arith)

  pub level_there : (j p : ℕ) → p < length (lv j).cells → j < length (levels_of n qs ss)
  level_there j p h =
      elim (dec_lt j (length (levels_of n qs ss))) [
        | yes g ↦ g
        | no g ↦
            let e : length (lv j).cells ≡ 0 = ap (λ (l : Level). length l.cells)
            (get_or-eq_default (levels_of n qs ss) no_level {n = j} (omega arith)) in
            absurd (omega arith)
      ]
