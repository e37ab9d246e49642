-- What a divisible table gives the functions, and what they give it.
-- Laws: ones_are, masks_are (the masks), table_of, kids_of_lem, levels_of_lem, ready_of, small_of (what the functions ask for), stores_are
-- (what they leave).
use mathlib.Core.Path.{◌≡◌, refl, sym, ◌∙◌, ap, ap₂}
use mathlib.Core.List.{List, [], ◌∷◌, ◌++◌, flat_map}
use Prim.Native.Nat.{ℕ, zero, suc, ◌*◌, ◌≤◌, ◌<◌}
use native.Mathlib.Omega.{arith}
use lib.ListN.{length, get_or, drop, replicate, length-replicate, get_or-replicate}
use Rattle.base.specs.Fours.{fours, length-fours}
use Rattle.base.specs.Limits.{most_cells, most_levels, most_slots, full_rows}
use Rattle.base.specs.Range.{range}
use Rattle.lattice.specs.Levels.{fours_four}
use Rattle.soundness.specs.Sound.{Sound, sound_parts}
use Rattle.lineage.specs.Firsts.{first_at, length-firsts}
use Rattle.store.specs.Fields.{full, FRONT, firsts_length}
use Rattle.store.specs.Stores.{store_in}
use Rattle.split.specs.Columns.{cells_below}
use Rattle.split.specs.Split.{part_store, stores_after}
use Rattle.tasks.specs.Levels.{below_more, below_none, below_all}
use Rattle.columns.specs.Ten.{FirstKids, Sources, Filled}
use Rattle.filling.specs.Regions.{Tabled, mask_by, regions, SmallSlots}
use Rattle.filling.specs.Laws.{tab_at, tabled_is}
use Rattle.divide.specs.Divided.{first_by, Leveled, EdgesNumbered, masks_of, part_by, store_with, stores_to}
use Rattle.divide.specs.Divisible.{Divisible}
use Rattle.divide.proofs.Laid.{Table, first_top, below_step, upward}
use Rattle.divide.proofs.Edged.{slots_small}
use Rattle.divide.proofs.Stores.{regions_are}

pub ones_are : Tabled most_slots (λ s. 1) (replicate most_slots 1)
ones_are = record { size = length-replicate {A = ℕ} most_slots 1; at = λ s h. get_or-replicate most_slots s 1 0 h }

pub masks_are : (cols : List ℕ) (m : ℕ) (sl ms : List ℕ) → Tabled most_slots (mask_by cols m sl) ms → ms ≡ masks_of cols m sl
unfolding masks_of
masks_are cols m sl ms a = tabled_is most_slots (mask_by cols m sl) ms a

masks_each : (cols : List ℕ) (m : ℕ) (sl : List ℕ) → Tabled most_slots (mask_by cols m sl) (masks_of cols m sl)
unfolding masks_of
masks_each cols m sl = tab_at most_slots (mask_by cols m sl)

flat_all : (f h : ℕ → List ℕ) (l : List ℕ) → ((j : ℕ) → f j ≡ h j) → flat_map f l ≡ flat_map h l
unfolding flat_map
flat_all f h [] e = refl
flat_all f h (x ∷ l) e = ap₂ ◌++◌ (e x) (flat_all f h l e)

store_as : (f : ℕ → List ℕ) (b : List ℕ) (j : ℕ) (x : List ℕ) → f (suc j) ≡ x
    → store_with f b j ≡ x ++ drop FRONT (store_in b j)
unfolding store_with
store_as f b j x e = ap (λ (l : List ℕ). l ++ drop FRONT (store_in b j)) e

part_as : (cols mesh sl fs st : List ℕ) (m P n l p : ℕ)
    → part_by cols mesh sl fs st m P n l p ≡ regions cols mesh sl (masks_of cols m sl) fs st m p P n l
unfolding part_by
part_as cols mesh sl fs st m P n l p = refl

module _ (n : ℕ) (ts ss rows ks os : List ℕ) (P levels : ℕ) (b : List ℕ) (d : Divisible n ts ss rows ks os P levels b) where
  abbrev qs : List (List ℕ)
  qs = fours ts

  abbrev so : Sound n qs ss
  so = sound_parts n qs ss d.sound

  pub table_of : Table n qs ss rows ks
  table_of =
      record {
        four = fours_four ts;
        accepted = d.mesh.cells;
        sound = d.sound;
        some = omega (arith, length-fours ts, d.mesh.some, d.mesh.whole);
        rows = d.table;
        kids = λ c h. first_at (length qs) ss ks d.kids c h;
      }

  pub few_cells : length ss ≤ most_cells
  few_cells = omega (arith, so.many, so.few)

  pub few_levels : levels ≤ most_levels
  few_levels = omega (arith, d.high, so.high)

  pub kids_of_lem : FirstKids ks (length ss)
  kids_of_lem =
      record {
        long = length-firsts (length qs) ss ks d.kids;
        top = λ c h. rw (table_of.kids c h) (first_top n qs ss rows ks table_of c h);
      }

  first_by_lem : (k : ℕ) → first_by ks k ≡ cells_below n qs ss k
  unfolding first_by
  first_by_lem zero = sym (below_none n qs ss)
  first_by_lem (suc k) =
      ap (λ (i : ℕ). get_or ks i 0) (first_by_lem k) ∙ table_of.kids (cells_below n qs ss k) (below_all n qs ss so k)
      ∙ sym (below_step n qs ss rows ks table_of k)

  pub levels_of_lem : Leveled ks (length ss)
  levels_of_lem =
      record {
        up = λ k h. rw (first_by_lem k, first_by_lem (suc k)) (omega (arith, below_more n qs ss k));
        most = λ k h. rw (first_by_lem k) (below_all n qs ss so k);
      }

  pub ready_of : length rows ≡ full_rows → Sources rows ss ks os
  ready_of l =
      record {
        few = few_cells;
        rows = omega (arith, few_cells, l);
        kids = kids_of_lem;
        owners = d.owners;
        up = upward n qs ss rows ks table_of;
      }

  module _ (fs st sl : List ℕ) (w : EdgesNumbered rows ks fs st sl) where
    first_are : (k : ℕ) → k < firsts_length → get_or fs k 0 ≡ cells_below n qs ss k
    first_are k h = w.firsts.at k h ∙ first_by_lem k

    pub small_of : SmallSlots sl (length ss)
    small_of = slots_small n qs ss rows ks table_of fs first_are sl st w.slots

    pub stores_are : (cols : List ℕ) → Filled rows ss ks os (length ss) cols
        → stores_to (part_by cols ts sl fs st (length ss) P n levels) b P ≡ stores_after n qs ss P os b
    unfolding stores_to stores_after
    stores_are cols a =
        ap (λ (l : List ℕ). l ++ drop (full * P) b)
        (flat_all (store_with (part_by cols ts sl fs st (length ss) P n levels) b)
        (λ j. part_store n qs ss P os (suc j) ++ drop FRONT (store_in b j)) (range 0 P)
        (λ j. same j))
      where
        same : (j : ℕ) → store_with (part_by cols ts sl fs st (length ss) P n levels) b j
            ≡ part_store n qs ss P os (suc j) ++ drop FRONT (store_in b j)
        same j =
            store_as (part_by cols ts sl fs st (length ss) P n levels) b j (part_store n qs ss P os (suc j))
            (part_as cols ts sl fs st (length ss) P n levels (suc j)
            ∙ regions_are n ts ss rows ks table_of few_cells (omega (arith, length-fours ts, d.mesh.few)) fs first_are w.firsts.size sl st
            w.slots w.starts os cols a (masks_of cols (length ss) sl) (masks_each cols (length ss) sl) P (suc j) levels d.high)
