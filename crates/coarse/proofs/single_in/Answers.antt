-- The two halves of the definition; a new tally has no entry, and no count.
use Rattle.std.proofs.Common.{◌∙◌, refl, arith, rules}
use Prim.Native.Nat.{ℕ}
use lib.ListN.{get_or-eq_default, length-replicate, replicate}
use Rattle.coarse.specs.Tally.{times}
use Rattle.pairs.specs.Keys.{seek, clear_new}
use Rattle.mesh.specs.Coarse.{singleb}
use Rattle.coarse.specs.Cells.{crowdedb}
use Rattle.coarse.proofs.single_in.Goals as goal

pub invariant_of-tally : goal.invariant_of-tally
invariant_of-tally g c =
    record {
      sized = (
        length-replicate {A = ℕ} g.row.N 0,
        length-replicate {A = ℕ} g.row.N 0,
        refl,
        length-replicate {A = ℕ} g.row.N 0,
      );
      in_order = (clear_new 1024 (omega arith)).empty _ _ _;
      up = omega arith;
    }

pub invariant_of-tally-2 : goal.invariant_of-tally-2
invariant_of-tally-2 g c = record { room = (length-replicate {A = ℕ} g.row.N 0, c.requires.room.1) }

pub cells_differ-requires : goal.cells_differ-requires
unfolding times seek
cells_differ-requires g c = (
  search rules,
  (
    c.requires.ranked,
    (
      c.requires.room.0,
      record {
        empty = refl;
        none = λ x y. get_or-eq_default (replicate g.row.N 0) 0 {n = 65535} (omega (arith, length-replicate {A = ℕ} g.row.N 0, c.requires.room.1));
      },
    ),
  ),
)

pub returns-then-cells_differ : goal.returns-then-cells_differ
unfolding singleb crowdedb
returns-then-cells_differ g c = c.faces_ok.ensures ∙ rw (← c.cells_differ.ensures, c.if-cells_differ.true)

pub returns-else-cells_differ : goal.returns-else-cells_differ
unfolding singleb crowdedb
returns-else-cells_differ g c = rw (← c.cells_differ.ensures, c.if-cells_differ.false)
