-- The edges that new red cells hold, among those of the old family of a cell that was not red.
--   OldKid j t i     where the child i of the cell t of level j stands
-- Laws: kid_there (a family's children are there), kid_keeps (what such a child keeps), pair (an edge between two points of the cell is
-- held where it stands among the held pairs of the old family).
use Rattle.std.specs.Prelude.{◌≡◌, refl, ◌≢◌, Bool, true, false, ℕ, suc, ◌+◌, ◌*◌, ◌≤◌, ◌<◌, take}
use Rattle.std.proofs.Math.Path.{sym, ap, ap₂, subst}
use Rattle.std.proofs.Common.{◌∙◌, arith, ne_eqb}
use mathlib.Core.List.{List, [], map}
use Rattle.std.proofs.Math.Dec.{T}
use Rattle.std.proofs.Math.ListN.{length, get_or}
use Rattle.base.specs.Lists.{sameb, filterb, memberb}
use Rattle.base.specs.Bools.{is_true, same_test, not_both}
use Rattle.base.specs.Every.{All}
use Rattle.base.specs.Range.{range, member_range, range_member}
use Rattle.base.specs.Member.{Member, member_filtered, filtered_member, member-map, map-member, member_flat, flat_member}
use Rattle.cutting.specs.Rule.{family, split}
use Rattle.families.specs.Children.{low_digit, high_digit, digits_rise, digits_below_lem}
use Rattle.mesh.specs.Cells.{Cell, redb, pattern_of, edge, heldb, pattern, no_cell}
use Rattle.mesh.specs.Weights.{Point, point}
use Rattle.mesh.specs.Table.{soundb, size_of, sizes}
use Rattle.mesh.specs.Step.{rows_up, edges_up, new_reds}
use Rattle.mesh.specs.Layout.{edge_numbers}
use Rattle.mesh.specs.Laws.{below_six, six_below}
use Rattle.lattice.specs.Levels.{IfRegular}
use Rattle.rows.specs.Many.{size_refined, size_some}
use Rattle.lineage.specs.Olds.{first_child}
use Rattle.kept.specs.Kept.{kept_table, digit_pair, held_pairs}
use Rattle.kept.specs.KeptAt.{kept_at_lem}
use Rattle.kept.specs.Laws.{kept_pattern}
use Rattle.lineage.specs.Born.{child_of, born_below, born_at}
use Rattle.lineage.specs.Same.{row_in}
use Rattle.lineage.specs.Flags.{new_red_at, new_red_regular}
use Rattle.lineage.specs.Met.{old_above, flagged, old_up}
use Rattle.carriers.specs.Joins.{Edge}
use Rattle.carriers.specs.Child.{child_edge}
use Rattle.carriers.specs.Patterns.{split_pattern}
use Rattle.carriers.specs.Refined.{asked_small}
use Rattle.soundness.specs.Held.{closed_at}
use Rattle.soundness.specs.Sound.{Sound, sound_from, lv, level_closed, level_next, level_there}
use Rattle.soundness.specs.Whole.{spot_at_lem}
use Rattle.succession.specs.After.{new_edges}
use Rattle.succession.specs.FreshEdge.{FreshEdge, fresh_edge, inside_child}

module _ (n : ℕ) (qs : List (List ℕ)) (ss ms : List ℕ) (s : Sound n qs ss) where
  abbrev sound : T (soundb n qs ss)
  sound = sound_from n qs ss s

  abbrev m : ℕ
  m = length qs

  abbrev ks : List ℕ
  ks = kept_table n qs ss ms

  abbrev new : ℕ → List Edge
  new = new_edges n qs ss ms

  -- a cell of the old table, by level and place
  module _ (j t : ℕ) (ht : t < length (lv n qs ss j).cells) where
    abbrev G : Cell Point
    G = get_or (lv n qs ss j).cells t no_cell

    abbrev S : ℕ
    S = get_or (lv n qs ss j).statuses t 0

    abbrev o : ℕ
    o = (lv n qs ss j).first + t

    low : j ≤ 10
    low = omega (arith, level_there n qs ss j t ht, s.high)

    status_is : get_or ss o 0 ≡ S
    status_is =
        let a = spot_at_lem n qs ss j t ht in
        let e : a.o + t ≡ (lv n qs ss j).first + t = omega (arith, a.first) in
        rw e at a.status

    pub record OldKid (i : ℕ) : Type 0 where
      pub u : ℕ
      pub below : u < length (lv n qs ss (suc j)).cells
      pub number : first_child m ss o + i ≡ (lv n qs ss (suc j)).first + u
      pub is : get_or (lv n qs ss (suc j)).cells u no_cell ≡ child_of o G S i

    pub kid_there : (i : ℕ) → S ≢ 0 → i < length (family (pattern_of S)) → OldKid i
    kid_there i z f =
        let l = lv n qs ss j in
        let up = lv n qs ss (suc j) in
        let known : t < length l.statuses = omega (arith, (flagged n qs ss ms sound j).known) in
        let next_up = level_next n qs ss j low in
        let below : sizes (take t l.statuses) + i < length up.cells =
        rw next_up (born_below l.first l.cells l.statuses t i ht known z f) in
        let x = (old_up n qs ss ms sound j (omega (arith, below))).child t ht in
        record {
          u = sizes (take t l.statuses) + i;
          below = below;
          number = omega (arith, x);
          is = rw next_up (born_at l.first l.cells l.statuses t i ht known z f);
        }

    module _ (nr : S ≢ 64) where
      -- a child that is not regular will not be red
      stays_green : (i : ℕ) (w : OldKid i) → new_red_at ms (old_above n qs ss (suc j)) (lv n qs ss (suc j)) w.u ≡ false
      stays_green i w = go (new_red_at ms (old_above n qs ss (suc j)) (lv n qs ss (suc j)) w.u) refl
        where
          go : (b : Bool) → new_red_at ms (old_above n qs ss (suc j)) (lv n qs ss (suc j)) w.u ≡ b
              → new_red_at ms (old_above n qs ss (suc j)) (lv n qs ss (suc j)) w.u ≡ false
          go false e = e
          go true e =
              let r = new_red_regular (rows_up (old_above n qs ss (suc j)) ms) (edges_up (new_reds (old_above n qs ss (suc j)) ms))
              (row_in (lv n qs ss (suc j)) ms w.u) ((flagged n qs ss ms sound (suc j)).follows w.u w.below) e in
              not_both (redb S) (sym (ap (λ (c : Cell Point). c.regular) w.is)
              ∙ is_true (get_or (lv n qs ss (suc j)).cells w.u no_cell).regular r) (ne_eqb S 64 nr)

      kid_keeps : (i : ℕ) (w : OldKid i) → get_or ks (first_child m ss o + i) 0 ≡ pattern [] sameb (new (suc j))
          (get_or (lv n qs ss (suc j)).cells w.u no_cell)
      kid_keeps i w =
          ap (λ (x : ℕ). get_or ks x 0) w.number ∙ kept_at_lem n qs ss ms sound (suc j) w.u w.below
          ∙ kept_pattern [] sameb (new (suc j)) (new_red_at ms (old_above n qs ss (suc j)) (lv n qs ss (suc j)) w.u)
          (get_or (lv n qs ss (suc j)).cells w.u no_cell) (stays_green i w)

      kid_splits : (i : ℕ) (w : OldKid i) (y : ℕ) → y < 6
          → split (get_or ks (first_child m ss o + i) 0) y ≡ heldb sameb (new (suc j))
          (edge [] (get_or (lv n qs ss (suc j)).cells w.u no_cell) y)
      kid_splits i w y h =
          ap (λ (x : ℕ). split x y) (kid_keeps i w)
          ∙ split_pattern [] sameb (new (suc j)) (get_or (lv n qs ss (suc j)).cells w.u no_cell) y h

      -- the held pairs of one child
      abbrev pairs_of : ℕ → List ℕ
      pairs_of i = map (digit_pair (pattern_of (get_or ss o 0)) i) (filterb (split (get_or ks (first_child m ss o + i) 0)) edge_numbers)

      small : pattern_of S < 64
      small = asked_small _ G S (closed_at (lv n qs ss j) (level_closed n qs ss s.closed j) t ht).1

      module _ (regular : (i : ℕ) → All (IfRegular n i) (lv n qs ss i).cells) (rt : T G.regular) where
        pair_up : (a b : ℕ) → a < b → b < 10 → T (heldb sameb (new (suc j)) (point G a, point G b))
            → T (memberb (10 * a + b) (held_pairs (get_or ss o 0) ks (first_child m ss o)))
        unfolding held_pairs
        pair_up a b ab hb held =
            let w : FreshEdge n qs ss ms s regular j t a b = fresh_edge n qs ss ms s regular j t ht rt a b ab hb held in
            let inside = inside_child n qs ss ms s regular j t w.i ht w.child in
            let k : OldKid w.i = kid_there w.i w.refined inside in
            let same : get_or (lv n qs ss (suc j)).cells w.child.u no_cell ≡ get_or (lv n qs ss (suc j)).cells k.u no_cell = w.child.is
            ∙ sym k.is in
            let held' : T (split (get_or ks (first_child m ss o + w.i) 0) w.y) = rw (kid_splits w.i k w.y w.below, ← same)
            w.held in
            let value : digit_pair (pattern_of (get_or ss o 0)) w.i w.y ≡ 10 * a + b =
            ap (λ (x : ℕ). digit_pair (pattern_of x) w.i w.y) status_is ∙ omega (arith, w.low_is, w.high_is) in
            let many : w.i < size_of (get_or ss o 0) = rw status_is (omega (arith, size_refined S w.refined, inside)) in
            subst (λ (x : ℕ). Member x (held_pairs (get_or ss o 0) ks (first_child m ss o))) value
            (member_flat pairs_of (range 0 (size_of (get_or ss o 0))) w.i (digit_pair (pattern_of (get_or ss o 0)) w.i w.y)
            (range_member 0 (size_of (get_or ss o 0)) w.i (omega arith) (omega arith))
            (member-map (digit_pair (pattern_of (get_or ss o 0)) w.i) (filterb (split (get_or ks (first_child m ss o + w.i) 0)) edge_numbers)
            w.y
            (member_filtered (split (get_or ks (first_child m ss o + w.i) 0)) edge_numbers w.y (below_six w.y w.below) held')))

        pair_down : (a b : ℕ) → b < 10 → T (memberb (10 * a + b) (held_pairs (get_or ss o 0) ks (first_child m ss o)))
            → T (heldb sameb (new (suc j)) (point G a, point G b))
        unfolding held_pairs
        pair_down a b hb r =
            let (i, mi, u) = flat_member pairs_of (range 0 (size_of (get_or ss o 0))) (10 * a + b) r in
            let (y, my, e) = map-member (digit_pair (pattern_of (get_or ss o 0)) i)
            (filterb (split (get_or ks (first_child m ss o + i) 0)) edge_numbers) (10 * a + b) u in
            let (my', held) = filtered_member (split (get_or ks (first_child m ss o + i) 0)) edge_numbers y my in
            let hy : y < 6 = six_below y my' in
            let many : i < size_of S = rw (← status_is) (omega (arith, (member_range 0 (size_of (get_or ss o 0)) i mi).1)) in
            let z : S ≢ 0 = size_some S i many in
            let inside : i < length (family (pattern_of S)) = omega (arith, size_refined S z, many) in
            let k : OldKid i = kid_there i z inside in
            let e' : 10 * a + b ≡ digit_pair (pattern_of S) i y = e ∙ ap (λ (x : ℕ). digit_pair (pattern_of x) i y) status_is in
            let rise = digits_rise (pattern_of S) i small inside y hy in
            let under = digits_below_lem (pattern_of S) i small inside y hy in
            let p : low_digit (pattern_of S) i y ≡ a = omega (arith, e', under, hb) in
            let q : high_digit (pattern_of S) i y ≡ b = omega (arith, e', under, hb) in
            let here : T (heldb sameb (new (suc j)) (edge [] (get_or (lv n qs ss (suc j)).cells k.u no_cell) y)) = rw
            (kid_splits i k y hy) at held in
            let ce : edge [] (get_or (lv n qs ss (suc j)).cells k.u no_cell) y ≡ (
              point G (low_digit (pattern_of S) i y),
              point G
                  (high_digit (pattern_of S) i y),
            ) =
            child_edge (pattern_of S) i small inside y hy G (get_or (lv n qs ss (suc j)).cells k.u no_cell)
            (ap (λ (c : Cell Point). c.points) k.is) in
            subst (λ (f : Edge). T (heldb sameb (new (suc j)) f))
            (ce ∙ ap₂ {A = ℕ} {B = ℕ} {C = Edge} (λ x y. (point G x, point G y)) p q) here

        pub pair : (a b : ℕ) → a < b → b < 10
            → heldb sameb (new (suc j)) (point G a, point G b) ≡ memberb (10 * a + b) (held_pairs (get_or ss o 0) ks (first_child m ss o))
        pair a b ab hb =
            same_test (heldb sameb (new (suc j)) (point G a, point G b)) (memberb (10 * a + b)
            (held_pairs (get_or ss o 0) ks (first_child m ss o))) (pair_up a b ab hb) (pair_down a b hb)
