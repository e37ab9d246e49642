-- What a sound table with its rows gives the functions.
-- Laws: marked_old, marked_span, marked_whole, marked_refused (what the functions ask for and give).
-- Assumes nothing.
use mathlib.Core.Path.{◌≡◌, refl, sym, ◌∙◌, ap, ap₂}
use mathlib.Core.Bool.{Bool, true, false}
use mathlib.Core.List.{List, [], ◌∷◌, ◌++◌, flat_map, flatten}
use Prim.Native.Nat.{ℕ, ◌+◌, ◌*◌, ◌≤◌}
use native.Mathlib.Nat.{zero-add}
use native.Mathlib.Omega.{arith}
use lib.ListN.{length, get_or, take, drop, length-take}
use Rattle.base.specs.Fours.{fours}
use Rattle.base.specs.Bools.{is_true, one_if}
use Rattle.base.specs.Lists.{anyb, filterb}
use Rattle.mesh.specs.Cells.{Cell, redb, Four, no_cell}
use Rattle.mesh.specs.Weights.{Point, coarse_cells}
use Rattle.mesh.specs.Table.{Level, levels_of, cells_of, soundb}
use Rattle.mesh.specs.Layout.{Corner, number_in, map_cell, row_of}
use Rattle.base.specs.Every.{All, all_at, get_d_map}
use Rattle.lattice.specs.Levels.{fours_four}
use Rattle.numbering.specs.Tests.{numbered_cells, Placed}
use Rattle.numbering.proofs.Tables.{sound_numbers}
use Rattle.redlist.specs.Ready.{red_count}
use Rattle.counting.specs.Sound.{sound_counted}
use Rattle.tables.specs.Sound.{table_cells, examined_corners}
use Rattle.tables.specs.Cells.{strip, cell_at_lem}
use Rattle.tables.specs.Onward.{four_in, length_in}
use Rattle.tables.specs.Finish.{rows_in}
use Rattle.mesh.specs.Laws.{sound_count, length-coarse}
use Rattle.lineage.specs.Olds.{first_child, flags}
use Rattle.kept.specs.Kept.{kept_levels, kept_table}
use Rattle.kept.specs.KeptAt.{kept-length}
use Rattle.flagging.specs.Flags.{kept_up, high_up}
use Rattle.flagging.specs.Old.{OldRows, Span, limit_of}
use Rattle.flagging.specs.Old as flagging
use Rattle.base.specs.declared.Refusal.{Refusal}
use Rattle.keeping.specs.Marked.{Marked, Kept, Unkept}
use Rattle.keeping.specs.Whole.{sound_firsts, eleven_levels}
use Rattle.lineage.specs.Firsts.{first_start, Firsts, firsts_top, firsts_up, length-firsts}
use Rattle.keeping.proofs.Tests.{Seen}
use Rattle.keeping.proofs.Down.{Down, down}
use Rattle.rows.specs.Laws.{rows_size}

count_filter : (l : List ℕ) → red_count l ≡ length (filterb redb l)
unfolding red_count filterb one_if
count_filter [] = refl
count_filter (x ∷ l) = go (redb x) refl (count_filter l)
  where
    go : (b : Bool) → redb x ≡ b → red_count l ≡ length (filterb redb l) → red_count (x ∷ l) ≡ length (filterb redb (x ∷ l))
    go true e i = rw (e, red_count, filterb) (omega (arith, i))
    go false e i = rw (e, red_count, filterb) (omega (arith, i))

module _ (n : ℕ) (mesh rows ss ms firsts kept : List ℕ) (g : Marked n mesh rows ss ms firsts kept) where
  abbrev qs : List (List ℕ)
  qs = fours mesh

  abbrev cs : List (Cell Point)
  cs = table_cells n qs ss

  abbrev ks : List Corner
  ks = examined_corners n qs ss

  sound : soundb n qs ss ≡ true
  sound = is_true (soundb n qs ss) g.sound

  count : length cs ≡ length ss
  count = sym (sound_count n qs ss g.sound)

  placed : All (Placed ks) cs
  placed = (sound_numbers n qs ss (fours_four mesh) g.accepted.cells g.sound).placed

  four : All Four (numbered_cells ks cs)
  four = four_in ks cs placed

  table : take (8 * length (numbered_cells ks cs)) rows ≡ flat_map row_of (numbered_cells ks cs)
  table = rw (length_in ks cs) (g.table ∙ sym (rows_in ks cs))

  seen : Seen ks cs rows
  seen =
      record {
        placed = all_at (Placed ks) no_cell cs placed;
        cells = λ j h.
            cell_at_lem rows (numbered_cells ks cs) four table j (rw (length_in ks cs) h)
            ∙ ap strip (get_d_map (map_cell (number_in ks)) cs j no_cell _ h);
      }

  firsts_are : Firsts (length qs) ss firsts
  firsts_are = sound_firsts n qs ss firsts sound g.firsts

  rows_inside : 8 * length ss ≤ length rows
  rows_inside =
      omega (
        arith,
        count,
        length_in ks cs,
        length-take (8 * length (numbered_cells ks cs)) rows,
        ap length table ∙ rows_size (numbered_cells ks cs) four,
      )

  pub marked_old : OldRows rows ss ms firsts
  marked_old =
      record {
        few = (sound_counted n qs ss sound).small;
        rows = rows_inside;
        marks = g.marks;
        size = length-firsts (length qs) ss firsts g.firsts;
        up = firsts_up (length qs) ss firsts firsts_are;
        top = firsts_top (length qs) ss firsts firsts_are;
      }

  start : 0 + length (coarse_cells n qs) ≡ first_child (length qs) ss 0
  start = zero-add (length (coarse_cells n qs)) ∙ length-coarse n qs ∙ sym (first_start (length qs) ss)

  start_at : get_or firsts 0 0 ≡ 0 + length (coarse_cells n qs)
  start_at = firsts_are.at 0 (omega arith) ∙ sym start

  looked : Down ks cs rows seen (length qs) ss ms firsts firsts_are count 11 0 (coarse_cells n qs)
  looked = down ks cs rows seen (length qs) ss ms firsts firsts_are count 11 0 (coarse_cells n qs) start (omega arith)
      (ap cells_of (sym (eleven_levels n qs ss sound)))

  marked_kept : kept_up rows ss ms firsts 11 0 (get_or firsts 0 0) ≡ kept_table n qs ss ms
  unfolding kept_table
  marked_kept =
      ap (kept_up rows ss ms firsts 11 0) start_at ∙ sym looked.kept_are
      ∙ ap (λ (ls : List Level). flatten (kept_levels ls ms)) (sym (eleven_levels n qs ss sound))

  marked_high : high_up rows ss ms firsts 11 0 (get_or firsts 0 0) ≡ anyb redb (get_or (flags (levels_of n qs ss) ms) 10 [])
  marked_high =
      ap (high_up rows ss ms firsts 11 0) start_at ∙ sym looked.high_is
      ∙ ap (λ (ls : List Level). anyb redb (get_or (flags ls ms) 10 [])) (sym (eleven_levels n qs ss sound))

  marked_start : get_or firsts 0 0 ≤ length ss
  marked_start = firsts_top (length qs) ss firsts firsts_are 0 (omega arith)

  pub marked_span : Span ss kept 0 (get_or firsts 0 0)
  marked_span = record { up = omega arith; inside = marked_start; room = g.room }

  -- how many cells the levels have
  marked_end : 0 + length (kept_up rows ss ms firsts 11 0 (get_or firsts 0 0)) ≡ length ss
  marked_end =
      zero-add (length (kept_up rows ss ms firsts 11 0 (get_or firsts 0 0))) ∙ ap length marked_kept ∙ kept-length n qs ss ms g.sound
      ∙ count

  pub marked_whole : (kept' : List ℕ) (high : Bool) → flagging.Kept rows ss ms firsts 11 0 (get_or firsts 0 0) kept kept' high
      → Kept n qs ss ms kept kept' high
  marked_whole kept' high r =
      record {
        table = r.written ∙ ap₂ (λ (l : List ℕ) (i : ℕ). l ++ drop i kept) marked_kept marked_end;
        top = r.top ∙ marked_high;
      }

  pub marked_refused : (room : ℕ) (r : Refusal) → flagging.Unkept rows ss ms firsts 11 0 (get_or firsts 0 0) room r
      → Unkept n qs ss ms room r
  marked_refused room r u =
      record {
        limit = u.limit ∙ ap limit_of marked_high;
        many = rw (← marked_kept, ← count_filter (kept_up rows ss ms firsts 11 0 (get_or firsts 0 0))) u.many;
      }
