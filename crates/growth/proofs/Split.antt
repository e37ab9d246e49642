-- One edge of a cell, split or not.
-- Assumes nothing.
use mathlib.Core.Path.{◌≡◌, sym, ap}
use mathlib.Core.Bool.{true, false}
use mathlib.Core.List.{List, [], ◌∷◌}
use Prim.Native.Nat.{ℕ, ◌+◌, ◌-◌, ◌≤◌}
use native.Mathlib.Omega.{arith}
use lib.ListN.{length, set}
use Rattle.base.specs.Lists.{filterb}
use Rattle.base.specs.Places.{place_in, hasb, has_new, has_below}
use Rattle.cutting.specs.Rule.{split}
use Rattle.mesh.specs.Cells.{Cell, edge}
use Rattle.pairs.specs.declared.PairTable.{PairTable}
use Rattle.edges.specs.Pairs.{Pair, sorted, isb, add_pair, same_pair}
use Rattle.edges.specs.Table.{entries, Edges, Inserted, Space, Grown, grown_none, grown_one}
use Rattle.edges.specs.Seek.{length-listed}
use Rattle.growth.specs.Places.{middle_edge}
use Rattle.growth.specs.Points.{split_at, marked}

module _ (p : ℕ) (c : Cell ℕ) (e : ℕ) where
  split_none : split p e ≡ false → split_at p c e ≡ []
  unfolding split_at filterb
  split_none t = rw (t, filterb)

  pub split_one : split p e ≡ true → split_at p c e ≡ edge 0 c e ∷ []
  unfolding split_at filterb
  split_one t = rw (t, filterb)

  module _ (n : ℕ) (es : List Pair) (ps : List ℕ) where
    pub marked_none : split p e ≡ false → marked n es c p e ps ≡ ps
    unfolding marked
    marked_none t = rw (t, marked)

    pub marked_one : split p e ≡ true → marked n es c p e ps ≡ set ps (middle_edge e) (n + place_in isb es (sorted (edge 0 c e)))
    unfolding marked
    marked_one t = rw (t, marked)

module _ {N H : ℕ} (p : ℕ) (c : Cell ℕ) (e n : ℕ) (ps : List ℕ) (t : PairTable N H) where
  pub whole : split p e ≡ false → Edges t → Grown t (split_at p c e) t × (ps ≡ marked n (entries t) c p e ps)
  whole u r = (rw (split_none p c e u) (grown_none t r), sym (marked_none p c e n (entries t) ps u))

  pub room : split p e ≡ true → Space t (length (split_at p c e)) → Space t 1
  room u s = let v : length (split_at p c e) ≡ 1 = ap length (split_one p c e u) in rw v at s

  module _ {t' : PairTable N H} {at : ℕ} (i : Inserted t (edge 0 c e) t' at) where
    pub slot_below : at ≤ t.n
    unfolding add_pair
    slot_below =
        let h : hasb isb (entries t') (sorted (edge 0 c e)) ≡ true = rw i.list
        (has_new isb (0, 0) same_pair (entries t) (sorted (edge 0 c e))) in
        omega (
          arith,
          i.place,
          i.one,
          i.same_from,
          has_below isb (entries t') (sorted (edge 0 c e)) h,
          length-listed t'.xs t'.ys t'.from (t'.n - t'.from),
        )

    pub halved : t.from ≡ 0 → split p e ≡ true → (d : ℕ) → d ≡ middle_edge e
        → Grown t (split_at p c e) t' × (set ps d (n + at) ≡ marked n (entries t') c p e ps)
    halved z u d q =
        let a : at ≡ place_in isb (entries t') (sorted (edge 0 c e)) = omega (arith, i.place, z) in (
          rw (split_one p c e u) (grown_one i),
          rw (q, a) (sym (marked_one p c e n (entries t') ps u)),
        )
