-- Laws of the tests of a message that is handed over: where each of them fails.
use Rattle.std.specs.Prelude.{◌≡◌, List, ℕ, ◌+◌, ◌≤◌, ◌<◌, get_or}
use Rattle.std.proofs.Math.Bool.{true, false}
use Rattle.std.proofs.Math.ListN.{length}
use borrow.Author.Tests.{eq-eqb, ne_eqb, lt-ltb, le-ltb, le-leb, lt-leb}
use Rattle.base.specs.Limits.{most_slots, too_many}
use Rattle.store.specs.Fields.{field, PART, PARTS, CELLS, OWNER, HOLDERS}
use Rattle.store.specs.Hand.{number_at, length_of, shapeb, routeb, ghost_markb, edge_countb, cell_totalb, wellb}

module _ (k : ℕ) where
  pub length_none : (k ≡ 1 → ⊥) → (k ≡ 2 → ⊥) → (k ≡ 3 → ⊥) → (k ≡ 4 → ⊥) → 0 ≡ length_of k
  unfolding length_of
  length_none a b c d = rw (ne_eqb k 1 a, ne_eqb k 2 b, ne_eqb k 3 c, ne_eqb k 4 d, length_of)

module _ (m : List ℕ) where
  pub shape_empty : length m ≡ 0 → false ≡ shapeb m
  unfolding shapeb
  shape_empty e = rw (eq-eqb (length m) 0 e, shapeb)

  pub total_beyond : (n : ℕ) → n ≡ number_at m 5 → too_many < n → false ≡ cell_totalb m
  unfolding cell_totalb
  total_beyond n e h = rw (lt-leb (number_at m 5) too_many (rw e at h), cell_totalb)

module _ (x m : List ℕ) where
  pub route_low : get_or m 1 0 < 1 → false ≡ routeb x m
  unfolding routeb
  route_low h = rw (lt-leb 1 (get_or m 1 0) h, routeb)

  pub route_high : 1 ≤ get_or m 1 0 → field x PARTS < get_or m 1 0 → false ≡ routeb x m
  unfolding routeb
  route_high g h = rw (le-leb 1 (get_or m 1 0) g, lt-leb (get_or m 1 0) (field x PARTS) h, routeb)

  pub route_own : 1 ≤ get_or m 1 0 → get_or m 1 0 ≤ field x PARTS → get_or m 1 0 ≡ field x PART → false ≡ routeb x m
  unfolding routeb
  route_own g h e = rw (le-leb 1 (get_or m 1 0) g, le-leb (get_or m 1 0) (field x PARTS) h, eq-eqb (get_or m 1 0) (field x PART) e, routeb)

  module _ (c : ℕ) (i : c ≡ number_at m 5) where
    pub mark_beyond : field x CELLS ≤ c → false ≡ ghost_markb x m
    unfolding ghost_markb
    mark_beyond h = rw (le-ltb (number_at m 5) (field x CELLS) (rw i at h), ghost_markb)

    pub mark_else : c < field x CELLS → field x (OWNER + c) ≡ 0 → false ≡ ghost_markb x m
    unfolding ghost_markb
    mark_else h e = let d : field x (OWNER + number_at m 5) ≡ 0 = rw i at e in
        rw (lt-ltb (number_at m 5) (field x CELLS) (rw i at h), eq-eqb (field x (OWNER + number_at m 5)) 0 d, ghost_markb)

    pub count_beyond : most_slots ≤ c → false ≡ edge_countb x m
    unfolding edge_countb
    count_beyond h = rw (le-ltb (number_at m 5) most_slots (rw i at h), edge_countb)

    pub count_else : c < most_slots → field x (HOLDERS + c) ≡ 0 → false ≡ edge_countb x m
    unfolding edge_countb
    count_else h e = let d : field x (HOLDERS + number_at m 5) ≡ 0 = rw i at e in
        rw (lt-ltb (number_at m 5) most_slots (rw i at h), eq-eqb (field x (HOLDERS + number_at m 5)) 0 d, edge_countb)

  pub well_shape : shapeb m ≡ false → false ≡ wellb x m
  unfolding wellb
  well_shape e = rw (e, wellb)

  pub well_route : shapeb m ≡ true → routeb x m ≡ false → false ≡ wellb x m
  unfolding wellb
  well_route e f = rw (e, f, wellb)
