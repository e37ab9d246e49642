-- What stores that merge are, test by test.
--   Merges b      the tests of mergeb
-- Laws: merges_is and merges_by (both ways), merges_accepted (what is answered then).
use Rattle.std.specs.Prelude.{◌≡◌, Bool, ◌&&◌, List, ℕ, ◌*◌, ◌≤◌, T, length}
use borrow.Author.Tests.{le-leb}
use Rattle.base.specs.Bools.{and_left, and_right, and_both, is_true}
use Rattle.base.specs.Limits.{most_cells, most_parts}
use Rattle.base.specs.Lists.{allb, anyb}
use Rattle.base.specs.Range.{range}
use Rattle.base.specs.Refuse.{refuse}
use Rattle.base.specs.Answer.{Accepted}
use Rattle.mesh.specs.Coarse.{cellsb}
use Rattle.mesh.specs.Table.{soundb}
use Rattle.parts.specs.Merge.{completeb}
use Rattle.store.specs.Fields.{field, full, CORNERS, COARSE}
use Rattle.store.specs.Header.{headerb}
use Rattle.merge.specs.Merge.{stores_in, alikeb, everyb, ownsb, merge_cells, merge_entries, merge_table, meshesb, mergeb, merge_answer}

module _ (b : List ℕ) where
  abbrev xs : List (List ℕ)
  xs = stores_in b

  abbrev n : ℕ
  n = field b CORNERS

  abbrev m : ℕ
  m = field b COARSE

  abbrev ownedb : Bool
  ownedb = allb (λ i. anyb (ownsb i) xs) (range 0 m)

  abbrev wholeb : Bool
  wholeb = completeb (merge_entries xs) m

  abbrev tableb : Bool
  tableb = soundb n (merge_cells xs m) (merge_table xs m)

  -- Rule 15.16.
  pub record Merges : Type 0 where
    pub header : T (headerb b)
    pub alike : T (allb (alikeb b) (stores_in b))
    pub every : T (everyb (stores_in b))
    pub owned : T (allb (λ i. anyb (ownsb i) (stores_in b)) (range 0 (field b COARSE)))
    pub cells : T (cellsb (field b CORNERS) (merge_cells (stores_in b) (field b COARSE)))
    pub complete : T (completeb (merge_entries (stores_in b)) (field b COARSE))
    pub sound : T (soundb (field b CORNERS) (merge_cells (stores_in b) (field b COARSE)) (merge_table (stores_in b) (field b COARSE)))

  pub merges_is : T (mergeb b) → Merges
  unfolding mergeb meshesb
  merges_is t =
      let rest = and_right (headerb b) _ t in
      let more = and_right (allb (alikeb b) xs) _ rest in
      let last = and_right (everyb xs) (meshesb n m xs) more in
      let a = and_left (ownedb && cellsb n (merge_cells xs m)) (wholeb && tableb) last in
      let c = and_right (ownedb && cellsb n (merge_cells xs m)) (wholeb && tableb) last in
      record {
        header = and_left (headerb b) _ t;
        alike = and_left (allb (alikeb b) xs) _ rest;
        every = and_left (everyb xs) (meshesb n m xs) more;
        owned = and_left ownedb (cellsb n (merge_cells xs m)) a;
        cells = and_right ownedb (cellsb n (merge_cells xs m)) a;
        complete = and_left wholeb tableb c;
        sound = and_right wholeb tableb c;
      }

  merges_by : Merges → T (mergeb b)
  unfolding mergeb meshesb
  merges_by s =
      and_both (headerb b) _ s.header (and_both (allb (alikeb b) xs) _ s.alike
      (and_both (everyb xs) (meshesb n m xs) s.every
      (and_both (ownedb && cellsb n (merge_cells xs m)) (wholeb && tableb) (and_both ownedb (cellsb n (merge_cells xs m)) s.owned
      s.cells)
      (and_both wholeb tableb s.complete s.sound))))

  pub merges_accepted : (t : List ℕ) → most_parts * full ≤ length b → most_cells ≤ length t → Merges → merge_answer b t ≡ Accepted
  unfolding merge_answer refuse
  merges_accepted t h g s = rw (le-leb (most_parts * full) (length b) h, le-leb most_cells (length t) g, is_true (mergeb b) (merges_by s))
