-- The edges of a cell that are not also its parent's, as six bits.
-- Laws: bit_at (a bit of a list of tests), inner_bits_lem (the bits are those of the task).
use Rattle.std.specs.Prelude.{◌≡◌, refl, Bool, T, length, get_or}
use Rattle.std.proofs.Common.{◌∙◌, arith}
use Rattle.std.proofs.Math.Path.{ap, ap₂}
use Rattle.std.proofs.Math.Bool.{false, not}
use mathlib.Core.List.{List, [], map}
use Prim.Native.Nat.{ℕ, suc, ◌<◌}
use Rattle.std.proofs.Math.Dec.{eqb}
use borrow.Author.Tests.{ne_eqb}
use Rattle.base.specs.Lists.{sameb}
use Rattle.base.specs.Every.{All, get_d_map, below_at}
use Rattle.cutting.specs.Rule.{split}
use Rattle.mesh.specs.Cells.{edge, edges, heldb, bits_of}
use Rattle.mesh.specs.Coarse.{cellsb}
use Rattle.mesh.specs.Table.{soundb}
use Rattle.mesh.specs.Layout.{Corner, number_in, edge_numbers}
use Rattle.numbering.specs.Corners.{Has}
use Rattle.numbering.specs.Tests.{held_numbers}
use Rattle.numbering.specs.Renamed.{edges_in, edges-map}
use Rattle.carriers.specs.Patterns.{split_bits}
use Rattle.soundness.specs.Sound.{Sound, sound_parts}
use Rattle.base.specs.Member.{Member}
use Rattle.store.specs.Fetch.{bitb}
use Rattle.parts.specs.Owners.{nth_cell}
use Rattle.splitting.specs.Numbers.{numbers_of, number_inside, level_of_lem}
use Rattle.splitting.specs.Split.{inner_of}
use Rattle.split.specs.Columns.{numbered_cell, cell_level, inner_bits}
use Rattle.tasks.specs.Edges.{cell_placed, edge_placed, edge_number}
use Rattle.tasks.specs.Families.{parent_in}
use Rattle.tables.specs.Sound.{examined_corners}

pub bit_at : (bs : List Bool) (i : ℕ) → bitb (bits_of bs) i ≡ get_or bs i false
unfolding bitb split
bit_at bs i = split_bits bs i

six_at : (f : ℕ → Bool) (e : ℕ) → e < 6 → get_or (map f edge_numbers) e false ≡ f e
six_at f e h =
    get_d_map f edge_numbers e 0 false h
    ∙ ap f (below_at (λ e. get_or edge_numbers e 0 ≡ e) 6 ((((((tt, refl), refl), refl), refl), refl), refl) e h)

module _ (n : ℕ) (qs : List (List ℕ)) (ss : List ℕ) (four : All (λ q. length q ≡ 4) qs) (accepted : T (cellsb n qs))
    (sound : T (soundb n qs ss)) where
  abbrev s : Sound n qs ss
  s = sound_parts n qs ss sound

  abbrev ks : List Corner
  ks = examined_corners n qs ss

  held_number : (c d e : ℕ) → c < length ss → d < length ss → e < 6
      → heldb eqb (edges 0 (numbered_cell n qs ss c)) (edge 0 (numbered_cell n qs ss d) e)
      ≡ heldb sameb (edges [] (nth_cell n qs ss c)) (edge [] (nth_cell n qs ss d) e)
  unfolding numbered_cell
  held_number c d e hc hd he =
      let p = cell_placed n qs ss four accepted sound c hc in
      ap₂ (heldb eqb) (edges-map [] 0 (number_in ks) (Has ks) (nth_cell n qs ss c) p) (edge_number n qs ss four accepted sound d e hd he)
      ∙ held_numbers ks (edges [] (nth_cell n qs ss c)) (edge [] (nth_cell n qs ss d) e)
      (edges_in [] 0 (number_in ks) (Has ks) (nth_cell n qs ss c) p) (edge_placed n qs ss four accepted sound d e hd he)

  abbrev ownb : ℕ → ℕ → Bool
  ownb d e = not (heldb eqb (edges 0 (numbered_cell n qs ss (nth_cell n qs ss d).parent)) (edge 0 (numbered_cell n qs ss d) e))

  above : (d : ℕ) → eqb (cell_level n qs ss d) 0 ≡ false → inner_bits n qs ss d ≡ bits_of (map (ownb d) edge_numbers)
  unfolding inner_bits
  above d h = rw (h, inner_bits)

  pub inner_bits_lem : (k d e : ℕ) → Member d (numbers_of n qs ss (suc k)) → e < 6 → bitb (inner_bits n qs ss d) e ≡ inner_of n qs ss d e
  unfolding inner_of
  inner_bits_lem k d e m h =
      let l : cell_level n qs ss d ≡ suc k = level_of_lem n qs ss s (suc k) d m in
      let z : eqb (cell_level n qs ss d) 0 ≡ false = ne_eqb (cell_level n qs ss d) 0 (λ w. omega arith) in
      ap (λ (x : ℕ). bitb x e) (above d z) ∙ bit_at (map (ownb d) edge_numbers) e ∙ six_at (ownb d) e h
      ∙ ap not (held_number (nth_cell n qs ss d).parent d e
      (number_inside n qs ss s k (nth_cell n qs ss d).parent (parent_in n qs ss s k d m)) (number_inside n qs ss s (suc k) d m) h)
