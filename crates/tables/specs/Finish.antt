-- The end of the examination: the count, and the third condition.
-- Assumes nothing.
use Rattle.std.specs.Prelude.{◌≡◌, refl, false, ◌&&◌, ℕ, suc, ◌<◌, T, eqb, leb, length, take}
use Rattle.std.proofs.Math.Path.{sym}
use Rattle.std.proofs.Common.{◌∙◌, ap, ⊎_elim, eq-eqb, ne_eqb, eqb→eq}
use mathlib.Core.List.{List, [], ◌∷◌, ◌++◌, flat_map}
use Rattle.base.specs.Answer.{Accepted, Refused}
use Rattle.base.specs.Refuse.{refuse}
use Rattle.base.specs.Limits.{most_cells}
use Rattle.numbering.specs.Renamed.{apart_of}
use Rattle.std.proofs.Math.Decide.{ℕ_discrete}
use native.Mathlib.Omega.{arith}
use Rattle.std.proofs.Math.Seq.{take-length}
use Rattle.base.specs.Lists.{allb}
use Rattle.base.specs.Bools.{either, not_both, and_left}
use Rattle.mesh.specs.Cells.{Cell}
use Rattle.mesh.specs.Weights.{Point}
use Rattle.mesh.specs.Table.{soundb, apartb}
use Rattle.mesh.specs.Layout.{Corner, row_of, map_cell, number_in, cell_table, corners_of}
use Rattle.pairs.specs.declared.PairTable.{PairTable}
use Rattle.edges.specs.Table.{entries, listed}
use Rattle.base.specs.Every.{All}
use Rattle.numbering.specs.Tests.{numbered_cells, apart_numbers}
use Rattle.separation.specs.Parents.{Parents, apart_all}
use Rattle.counting.specs.Sound.{sound_counted}
use Rattle.tables.specs.Here.{Roof, Top, Child}
use Rattle.tables.specs.Sound.{LaidSound, examined_corners, sound_answer}
use Rattle.tables.specs.Apart.{apart_rows, parents_rows}
use Rattle.tables.specs.Onward.{four_in, length_in}

-- what a sound table cannot be
module _ (n : ℕ) (qs : List (List ℕ)) (ss : List ℕ) where
  pub unsound_long : most_cells < length ss → soundb n qs ss ≡ false
  unsound_long h = ⊎_elim (λ e. absurd (omega (arith, (sound_counted n qs ss e).small))) (λ e. e) (either (soundb n qs ss))

  pub unsound_status : allb (λ s. leb s 64) ss ≡ false → soundb n qs ss ≡ false
  unsound_status f = ⊎_elim (λ e. not_both (allb (λ s. leb s 64) ss) (sound_counted n qs ss e).statuses f) (λ e. e)
      (either (soundb n qs ss))

pub rows_in : (ks : List Corner) (cs : List (Cell Point)) → flat_map row_of (numbered_cells ks cs) ≡ cell_table ks cs
unfolding flat_map cell_table
rows_in ks [] = refl
rows_in ks (c ∷ cs) = ap (λ (l : List ℕ). row_of (map_cell (number_in ks) c) ++ l) (rows_in ks cs)

child_in : (n : ℕ) (ks : List Corner) (cs : List (Cell Point)) → All (Child n) cs → All (Child n) (numbered_cells ks cs)
unfolding map_cell
child_in n ks [] h = tt
child_in n ks (c ∷ cs) h = (h.0, child_in n ks cs h.1)

module _ {n : ℕ} {qs : List (List ℕ)} {ss : List ℕ} {j last : ℕ} {rows : List ℕ} {M K : ℕ} {mids : PairTable M K}
    (t : Roof n qs ss j last rows mids) (e : length ss ≡ last) where
  all_of : take last ss ≡ ss
  all_of = rw (← e) (take-length ss)

  named : examined_corners n qs ss ≡ t.corners
  unfolding corners_of
  named = rw t.cells (rw all_of at t.named)

  pub roof_sound : LaidSound n qs ss rows mids.xs mids.ys last (suc j) mids.n
  roof_sound =
      record {
        counted = rw t.cells t.counted;
        high = t.levels;
        few = t.few;
        low = omega (arith, t.low);
        most = t.few_new;
        table = t.table ∙ rows_in t.corners t.all ∙ sym (rw (named, t.cells));
        corners = rw named (rw t.new.all at t.numbered);
      }

module _ {n : ℕ} {qs : List (List ℕ)} {ss : List ℕ} {j last : ℕ} {rows : List ℕ} {N H M K : ℕ} {red : PairTable N H} {mids : PairTable M K}
    (top : Top n qs ss j last rows red mids) where
  abbrev t : Roof n qs ss j last rows mids
  t = top.roof

  size : length (numbered_cells t.corners t.all) ≡ last
  size = length_in t.corners t.all ∙ t.counted

  pub top_parents : Parents rows last
  top_parents =
      let z = parents_rows rows (numbered_cells t.corners t.all) (four_in t.corners t.all t.placed) (rw size t.table)
      (take last ss) (listed red.xs red.ys 0 red.n) top.reds
      (child_in (length (numbered_cells t.corners t.all)) t.corners t.all (rw size t.children)) in
      rw size at z

  top_apart : length ss ≡ last → apart_all (listed red.xs red.ys 0 red.n) rows last ≡ soundb n qs ss
  top_apart e =
      let z : apart_all (listed red.xs red.ys 0 red.n) rows (length (numbered_cells t.corners t.all)) ≡ apart_of 0 eqb
      (numbered_cells t.corners t.all) (take last ss) =
      apart_rows rows (numbered_cells t.corners t.all) (four_in t.corners t.all t.placed) (rw size t.table)
      (take last ss) (listed red.xs red.ys 0 red.n) top.reds
      (child_in (length (numbered_cells t.corners t.all)) t.corners t.all (rw size t.children)) in
      let a : take last ss ≡ ss = all_of t e in
      let w : apart_all (listed red.xs red.ys 0 red.n) rows last ≡ apart_of 0 eqb (numbered_cells t.corners t.all) ss = rw (size, a) at z in
      w ∙ apart_numbers t.corners t.all ss t.placed ∙ sym (t.sound ∙ rw (eq-eqb (length ss) last e))

  -- what the end of a building tests
  top_sound : (eqb (length ss) last && apart_all (listed red.xs red.ys 0 red.n) rows last) ≡ soundb n qs ss
  top_sound = go (ℕ_discrete (length ss) last)
    where
      go : Dec (length ss ≡ last) → (eqb (length ss) last && apart_all (listed red.xs red.ys 0 red.n) rows last) ≡ soundb n qs ss
      go (yes e) = rw (eq-eqb (length ss) last e) (top_apart e)
      go (no e) = rw (ne_eqb (length ss) last e) (sym (t.sound ∙ rw (ne_eqb (length ss) last e)))

  pub top_answer : refuse 6 (eqb (length ss) last && apart_all (listed red.xs red.ys 0 red.n) rows last) Accepted ≡ sound_answer n qs ss
  top_answer = ap (λ b. refuse 6 b Accepted) top_sound

  pub top_laid : T (soundb n qs ss) → LaidSound n qs ss rows mids.xs mids.ys last (suc j) mids.n
  top_laid s =
      let e : T (eqb (length ss) last && apartb t.all ss) = rw t.sound at s in
      roof_sound t (eqb→eq (length ss) last (and_left (eqb (length ss) last) (apartb t.all ss) e))

-- the answer to a table
module _ (n : ℕ) (qs : List (List ℕ)) (ss : List ℕ) where
  pub answer_six : soundb n qs ss ≡ false → Refused 6 ≡ sound_answer n qs ss
  unfolding refuse
  answer_six e = rw e

-- all entries of a table, when they are looked at
pub all_entries : {N H : ℕ} (t t' : PairTable N H) → t'.from ≡ 0 → (t'.xs ≡ t.xs) × (t'.ys ≡ t.ys) × (t'.n ≡ t.n)
    → entries t' ≡ listed t.xs t.ys 0 t.n
all_entries t t' z k = rw (z, k.0, k.1, k.2)
