-- Parents and children on neighbouring levels.
--   RedChild l c       c is a child of a red cell of the level l
--   ChildAt l up p i   where the child i of the cell p of l stands on the level up
-- Laws: born_of (a cell is a child), born_red and red_child (a regular one is a red cell's child), family_child (a refined cell's
-- children are there), child_points and child_parent (what they are).
use Rattle.std.specs.Prelude.{◌≡◌, ◌≢◌, map, ℕ, ◌+◌, ◌<◌, T, length, get_or, take}
use Rattle.std.proofs.Common.{ap, eqb-true}
use Rattle.base.specs.Bools.{is_true}
use Rattle.cutting.specs.Rule.{family}
use Rattle.mesh.specs.Cells.{Cell, redb, pattern_of, no_cell}
use Rattle.mesh.specs.Weights.{Point, point}
use Rattle.mesh.specs.Table.{Level, next, sizes}
use Rattle.lineage.specs.Born.{child_of, Born, born, born_below, born_at}
use Rattle.families.specs.Children.{digits_of}

-- Rule 4.2: the child of a red cell.
pub record RedChild (l : Level) (c : Cell Point) : Type 0 where
  -- the parent's place, and the child's number
  pub p : ℕ
  pub i : ℕ
  pub below : p < length l.cells
  pub known : p < length l.statuses
  pub red : get_or l.statuses p 0 ≡ 64
  pub inside : i < length (family 63)
  pub points : c.points ≡ map (point (get_or l.cells p no_cell)) (digits_of 63 i)

born_red : (l : Level) (c : Cell Point) → Born l.first l.cells l.statuses c → T c.regular → RedChild l c
unfolding pattern_of
born_red l c b r =
    let q : get_or l.statuses b.p 0 ≡ 64 = eqb-true (get_or l.statuses b.p 0) 64
    (is_true (redb (get_or l.statuses b.p 0)) (rw b.is at r)) in
    record {
      p = b.p;
      i = b.i;
      below = b.below;
      known = b.known;
      red = q;
      inside = rw q at b.child;
      points = rw q at (ap (λ (c : Cell Point). c.points) b.is);
    }

pub record ChildAt (l up : Level) (p i : ℕ) : Type 0 where
  pub u : ℕ
  pub below : u < length up.cells
  pub is : get_or up.cells u no_cell ≡ child_of (l.first + p) (get_or l.cells p no_cell) (get_or l.statuses p 0) i

module _ (l up : Level) (p i : ℕ) (w : ChildAt l up p i) where
  pub child_points : (get_or up.cells w.u no_cell).points ≡ map (point (get_or l.cells p no_cell))
      (digits_of (pattern_of (get_or l.statuses p 0)) i)
  child_points = ap (λ (c : Cell Point). c.points) w.is

  pub child_parent : (get_or up.cells w.u no_cell).parent ≡ l.first + p
  child_parent = ap (λ (c : Cell Point). c.parent) w.is

module _ (l up : Level) (e : up.cells ≡ next l.first l.cells l.statuses) where
  pub born_of : (u : ℕ) → u < length up.cells → Born l.first l.cells l.statuses (get_or up.cells u no_cell)
  born_of u h = rw e (born l.first l.cells l.statuses u (rw e at h)).0

  pub red_child : (u : ℕ) → u < length up.cells → T (get_or up.cells u no_cell).regular → RedChild l (get_or up.cells u no_cell)
  red_child u h r = born_red l (get_or up.cells u no_cell) (born_of u h) r

  pub family_child : (p i : ℕ) → p < length l.cells → p < length l.statuses → get_or l.statuses p 0 ≢ 0
      → i < length (family (pattern_of (get_or l.statuses p 0))) → ChildAt l up p i
  family_child p i h g z f =
      record {
        u = sizes (take p l.statuses) + i;
        below = rw e (born_below l.first l.cells l.statuses p i h g z f);
        is = rw e (born_at l.first l.cells l.statuses p i h g z f);
      }
