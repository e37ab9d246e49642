-- The statuses of a new level from those of the level below it.
-- Law: next_statuses (they are those of the families that are born there).
use Rattle.std.proofs.Math.Path.{◌≡◌, refl, ap, ap₂}
use Rattle.std.proofs.Common.{sym, ◌∙◌, inl, inr, length-drop, length-take-le, get_or-take, get_or-drop, eqb-true}
use Rattle.std.specs.Prelude.{◌≢◌, ◌⊎◌, Bool, true, false, ℕ, suc, ◌+◌, ◌*◌, ◌≤◌, ◌<◌, get_or, take, drop}
use mathlib.Core.List.{List, [], ◌∷◌, ◌++◌, map}
use Rattle.std.proofs.Math.Decide.{ℕ_discrete}
use native.Mathlib.Omega.{arith}
use Rattle.std.proofs.Math.Dec.{T}
use Rattle.std.proofs.Math.ListN.{length}
use Rattle.std.proofs.lemmas.List.{length-replicate, get_or-replicate}
use Rattle.base.specs.Lists.{sameb, memberb}
use Rattle.base.specs.Bools.{is_true, either, not_both}
use Rattle.base.specs.Every.{All}
use Rattle.base.specs.Member.{map-agree}
use Rattle.cutting.specs.Rule.{family}
use Rattle.families.specs.Children.{digits_of, low_digit, high_digit, digits_rise, digits_below_lem}
use Rattle.mesh.specs.Cells.{Cell, redb, pattern_of, edge, edges, heldb, bits_of, no_cell}
use Rattle.mesh.specs.Weights.{Point, point}
use Rattle.mesh.specs.Table.{Level, soundb, size_of, sizes}
use Rattle.mesh.specs.Layout.{edge_numbers}
use Rattle.mesh.specs.Laws.{six_below}
use Rattle.lattice.specs.Levels.{IfRegular}
use Rattle.numbering.specs.Refined.{Both}
use Rattle.rows.specs.Many.{length-next, size_refined, size_some}
use Rattle.rows.specs.Sizes.{red_eight, size_red}
use Rattle.lineage.specs.Olds.{first_child, old_child}
use Rattle.kept.specs.Kept.{kept_table, digit_pair, held_pairs, born_by, born_next}
use Rattle.kept.specs.KeptAt.{kept_at_lem, kept-length}
use Rattle.kept.specs.Families.{born_green, born_kept, born_fresh, length-fresh, fresh_at, born_next_lem}
use Rattle.lineage.specs.Born.{child_of, born_below, born_at}
use Rattle.lineage.specs.Same.{Is, Fresh, Old, both_at, points_same, child_none, child_old}
use Rattle.lineage.specs.Met.{Matched, old_at, old_above, new_at, new_next, old_up, new_known, new_follows, met}
use Rattle.carriers.specs.Joins.{Edge}
use Rattle.carriers.specs.Child.{child_edge}
use Rattle.soundness.specs.Sound.{Sound, sound_from, lv}
use Rattle.soundness.specs.Meets.{point_same}
use Rattle.soundness.specs.Whole.{spot_at_lem}
use Rattle.succession.specs.After.{new_edges, new_status_lem}
use Rattle.succession.specs.Keeps.{status_kept}
use Rattle.succession.specs.OldFamily.{OldKid, kid_there, pair}

module _ (n : ℕ) (qs : List (List ℕ)) (ss ms : List ℕ) (s : Sound n qs ss) (regular : (i : ℕ)
    → All (IfRegular n i) (lv n qs ss i).cells) where
  abbrev sound : T (soundb n qs ss)
  sound = sound_from n qs ss s

  abbrev m : ℕ
  m = length qs

  abbrev ks : List ℕ
  ks = kept_table n qs ss ms

  abbrev old : ℕ → Level
  old k = old_at n qs ss k

  abbrev new : ℕ → Level
  new k = new_at n qs ss ms k

  -- the numbers of the cells are below the number of statuses
  number_below : (k t : ℕ) → t < length (old k).cells → (old k).first + t < length ss
  number_below k t h = let a = spot_at_lem n qs ss k t h in omega (arith, a.first, a.inside, s.many)

  module _ (j : ℕ) (g : suc j < 12) (os : List ℕ) (many : length os ≡ length (new j).cells) (olds : Both (Old (old j)) (new j).cells os)
    where
      abbrev c : ℕ → Cell Point
      c p = get_or (new j).cells p no_cell

      abbrev t : ℕ → ℕ
      t p = get_or (new j).statuses p 0

      abbrev o : ℕ → ℕ
      o p = get_or os p 0

      known : length (new j).statuses ≡ length (new j).cells
      known = new_known n qs ss ms sound j

      -- the place of a child, and the child there
      module _ (p i : ℕ) (h : p < length (new j).cells) (l : i < size_of (t p)) where
        abbrev v : ℕ
        v = sizes (take p (new j).statuses) + i

        refined : t p ≢ 0
        refined = size_some (t p) i l

        inside : i < length (family (pattern_of (t p)))
        inside = omega (arith, size_refined (t p) refined, l)

        below : v < length (new (suc j)).cells
        below = rw (new_next n qs ss ms j g)
            (born_below (new j).first (new j).cells (new j).statuses p i h (omega (arith, known)) refined inside)

        child : get_or (new (suc j)).cells v no_cell ≡ child_of ((new j).first + p) (c p) (t p) i
        child = rw (new_next n qs ss ms j g)
            (born_at (new j).first (new j).cells (new j).statuses p i h (omega (arith, known)) refined inside)

        -- a leaf of a green cell
        green : redb (t p) ≡ false → get_or (new (suc j)).statuses v 0 ≡ 0
        green e =
            elim (ℕ_discrete (get_or (new (suc j)).statuses v 0) 0) [
              | yes z ↦ z
              | no z ↦
                  let r = (new_follows n qs ss ms sound (suc j) v below).regular z in
                  not_both (redb (t p)) (sym (ap (λ (x : Cell Point). x.regular) child)
                  ∙ is_true (get_or (new (suc j)).cells v no_cell).regular r) e
            ]

      -- the old cell that a red one is
      record Was (p : ℕ) : Type 0 where
        u : ℕ
        number : o p ≡ (old j).first + u
        is : Is (old j) u (c p)
        status : get_or ss (o p) 0 ≡ get_or (old j).statuses u 0
        reg : T (c p).regular

      was : (p : ℕ) → p < length (new j).cells → t p ≡ 64 → Was p
      was p h e = go (both_at (Old (old j)) (new j).cells os many olds p h)
        where
          reg : T (c p).regular
          reg = (new_follows n qs ss ms sound j p h).regular (λ z. omega (arith, e, z))

          none_met : ((T (c p).regular) → Fresh (old j) (c p))
              → Matched ms (old_above n qs ss j) (old j) (c p) (t p) ⊎ ((redb (t p) ≡ false) × Fresh (old j) (c p)) → Was p
          none_met f (inl w) = absurd (f reg w.t w.is.below w.is.regular w.is.path)
          none_met f (inr (a, _)) = not_both (redb (t p)) (ap redb e) a

          go : Old (old j) (c p) (o p) → Was p
          go (inl (u, q, r, is)) =
              let a = spot_at_lem n qs ss j u is.below in
              let x : a.o + u ≡ o p = omega (arith, a.first, q) in
              record { u = u; number = q; is = is; status = rw x at a.status; reg = reg }
          go (inr (q, f)) = none_met f (met n qs ss ms sound j p h reg)

      -- the family of a red cell
      module _ (p : ℕ) (h : p < length (new j).cells) (e : t p ≡ 64) where
        abbrev w : Was p
        w = was p h e

        abbrev S : ℕ
        S = get_or (old j).statuses w.u 0

        eight : (i : ℕ) → i < 8 → i < size_of (t p)
        eight i l = omega (arith, size_red (t p) e)

        small : (i : ℕ) → i < 8 → i < length (family 63)
        small i l = omega (arith, red_eight)

        -- one that stays
        module _ (k : redb (get_or ss (o p) 0) ≡ true) where
          red : S ≡ 64
          red = eqb-true S 64 (ap redb (sym w.status) ∙ k)

          kid_at : (i : ℕ) → i < 8 → OldKid n qs ss ms s j w.u w.is.below i
          unfolding pattern_of
          kid_at i l = kid_there n qs ss ms s j w.u w.is.below i (λ z. omega (arith, red, z)) (rw red (small i l))

          number_is : (i : ℕ) (l : i < 8) → first_child m ss (o p) + i ≡ (old (suc j)).first + (kid_at i l).u
          number_is i l = ap (λ (x : ℕ). first_child m ss x + i) w.number ∙ (kid_at i l).number

          is_at : (i : ℕ) (l : i < 8) → Is (old (suc j)) (kid_at i l).u (get_or (new (suc j)).cells (v p i h (eight i l)) no_cell)
          is_at i l =
              let x = kid_at i l in
              let y = child p i h (eight i l) in
              record {
                below = x.below;
                path = ap (λ (d : Cell Point). d.path) x.is ∙ ap (λ (q : List ℕ). q ++ (i ∷ [])) w.is.path
                    ∙ sym (ap (λ (d : Cell Point). d.path) y);
                points = ap (λ (d : Cell Point). d.points) x.is
                    ∙ ap (λ (z : ℕ). map (point (get_or (old j).cells w.u no_cell)) (get_or (family (pattern_of z)) i [])) (red ∙ sym e)
                    ∙ points_same (get_or (old j).cells w.u no_cell) (c p) (get_or (family (pattern_of (t p))) i []) w.is.points
                    ∙ sym (ap (λ (d : Cell Point). d.points) y);
                regular = rw (x.is, red) tt;
              }

          kept_many : length (born_by m ss ks (t p) (o p)) ≡ size_of (t p)
          kept_many =
              let seven : 7 < 8 = omega arith in
              let x = kid_at 7 seven in
              let b = number_below (suc j) x.u x.below in
              let f : first_child m ss (o p) + 8 ≤ length ks = omega
              (arith, b, number_is 7 seven, kept-length n qs ss ms sound, s.many) in
              ap length (born_kept m ss ks (t p) (o p) (ap redb e) k)
              ∙ length-take-le 8 (drop (first_child m ss (o p)) ks) (omega (arith, length-drop (first_child m ss (o p)) ks))
              ∙ sym (size_red (t p) e)

          kept_one : (i : ℕ) (l : i < 8) → get_or (born_by m ss ks (t p) (o p)) i 0 ≡ get_or (new (suc j)).statuses (v p i h (eight i l)) 0
          kept_one i l =
              let x = kid_at i l in
              let y = child p i h (eight i l) in
              ap (λ (r : List ℕ). get_or r i 0) (born_kept m ss ks (t p) (o p) (ap redb e) k)
              ∙ get_or-take 8 (drop (first_child m ss (o p)) ks) i 0 l
              ∙ get_or-drop (first_child m ss (o p)) ks i 0
              ∙ ap (λ (z : ℕ). get_or ks z 0) (number_is i l)
              ∙ kept_at_lem n qs ss ms sound (suc j) x.u x.below
              ∙ sym (status_kept n qs ss ms s (suc j) g (v p i h (eight i l)) (below p i h (eight i l)) x.u (is_at i l)
              (rw (y, e) tt))

        -- one that is new
        module _ (k : redb (get_or ss (o p) 0) ≡ false) where
          not_red : S ≢ 64
          not_red z = not_both (redb (get_or ss (o p) 0)) (ap redb (w.status ∙ z)) k

          fresh_many : length (born_by m ss ks (t p) (o p)) ≡ size_of (t p)
          fresh_many =
              ap length (born_fresh m ss ks (t p) (o p) (ap redb e) k) ∙ length-fresh (get_or ss (o p) 0) ks (first_child m ss (o p))
              ∙ sym (size_red (t p) e)

          module _ (i : ℕ) (l : i < 8) where
            abbrev d : Cell Point
            d = get_or (new (suc j)).cells (v p i h (eight i l)) no_cell

            d_is : d ≡ child_of ((new j).first + p) (c p) 64 i
            d_is = child p i h (eight i l) ∙ ap (λ (x : ℕ). child_of ((new j).first + p) (c p) x i) e

            reg_d : T d.regular
            reg_d = rw d_is tt

            -- it was not there
            fresh : Fresh (old (suc j)) d
            unfolding pattern_of
            fresh u b r q =
                let up = old_up n qs ss ms sound j (omega (arith, b)) in
                go u b r (q ∙ ap (λ (x : Cell Point). x.path) d_is)
                (child_old m ss (old j) (old (suc j)) up ((new j).first + p) (c p) i (small i l) (o p) w.reg
                (both_at (Old (old j)) (new j).cells os many olds p h))
              where
                go : (u : ℕ) → u < length (old (suc j)).cells → T (get_or (old (suc j)).cells u no_cell).regular
                    → (get_or (old (suc j)).cells u no_cell).path ≡ (c p).path ++ (i ∷ [])
                    → Old (old (suc j)) (child_of ((new j).first + p) (c p) 64 i) (old_child m ss (o p) i) → ⊥
                go u b r q (inl (x, y, z, is)) =
                    omega (arith, y, child_none m ss (o p) i k, number_below (suc j) x is.below, s.many, s.few)
                go u b r q (inr (y, f)) = f tt u b r q

            red_not : redb (get_or (new (suc j)).statuses (v p i h (eight i l)) 0) ≡ false
            red_not = go (met n qs ss ms sound (suc j) (v p i h (eight i l)) (below p i h (eight i l)) reg_d)
              where
                go : Matched ms (old_above n qs ss (suc j)) (old (suc j)) d (get_or (new (suc j)).statuses (v p i h (eight i l)) 0)
                    ⊎ ((redb (get_or (new (suc j)).statuses (v p i h (eight i l)) 0) ≡ false) × Fresh (old (suc j)) d)
                    → redb (get_or (new (suc j)).statuses (v p i h (eight i l)) 0) ≡ false
                go (inl x) = absurd (fresh x.t x.is.below x.is.regular x.is.path)
                go (inr (a, _)) = a

            -- an edge by its digits
            abbrev G : Cell Point
            G = get_or (old j).cells w.u no_cell

            held_edge : (y : ℕ) → y < 6
                → heldb sameb (new_edges n qs ss ms (suc j)) (edge [] d y) ≡ memberb (digit_pair 63 i y)
                (held_pairs (get_or ss (o p) 0) ks (first_child m ss (o p)))
            unfolding pattern_of
            held_edge y hy =
                let up63 : 63 < 64 = omega arith in
                let a = low_digit 63 i y in
                let b = high_digit 63 i y in
                let pts : d.points ≡ map (point (c p)) (digits_of 63 i) = ap (λ (x : Cell Point). x.points) d_is in
                let ce = child_edge 63 i up63 (small i l) y hy (c p) d pts in
                let same : ◌≡◌ {A = Edge} (edge [] d y) (point G a, point G b) =
                ce ∙ ap₂ {A = Point} {B = Point} {C = Edge} (λ x z. (x, z)) (sym (point_same G (c p) w.is.points a))
                (sym (point_same G (c p) w.is.points b)) in
                ap (heldb sameb (new_edges n qs ss ms (suc j))) same
                ∙ pair n qs ss ms s j w.u w.is.below not_red regular w.is.regular a b
                (digits_rise 63 i up63 (small i l) y hy) (digits_below_lem 63 i up63 (small i l) y hy)
                ∙ ap (λ (x : ℕ). memberb (10 * a + b) (held_pairs (get_or ss x 0) ks (first_child m ss x))) (sym w.number)

            edges_six : (f : Edge → Bool) (x : Cell Point) → map f (edges [] x) ≡ map (λ y. f (edge [] x y)) edge_numbers
            unfolding edges
            edges_six f x = refl

            fresh_one : get_or (born_by m ss ks (t p) (o p)) i 0 ≡ get_or (new (suc j)).statuses (v p i h (eight i l)) 0
            fresh_one =
                ap (λ (r : List ℕ). get_or r i 0) (born_fresh m ss ks (t p) (o p) (ap redb e) k)
                ∙ fresh_at (get_or ss (o p) 0) ks (first_child m ss (o p)) i l
                ∙ sym (new_status_lem n qs ss ms s (suc j) g (v p i h (eight i l)) (below p i h (eight i l)) reg_d red_not
                ∙ ap bits_of (edges_six (heldb sameb (new_edges n qs ss ms (suc j))) d
                ∙ map-agree (λ y. heldb sameb (new_edges n qs ss ms (suc j)) (edge [] d y))
                (λ y. memberb (digit_pair 63 i y) (held_pairs (get_or ss (o p) 0) ks (first_child m ss (o p)))) edge_numbers
                (λ y q. held_edge y (six_below y q))))

      -- any family
      many_at : (p : ℕ) → p < length (new j).statuses → length (born_by m ss ks (t p) (o p)) ≡ size_of (t p)
      many_at p q = go (either (redb (t p)))
        where
          h : p < length (new j).cells
          h = omega (arith, known)

          red : t p ≡ 64 → (redb (get_or ss (o p) 0) ≡ true) ⊎ (redb (get_or ss (o p) 0) ≡ false)
              → length (born_by m ss ks (t p) (o p)) ≡ size_of (t p)
          red e (inl k) = kept_many p h e k
          red e (inr k) = fresh_many p h e k

          go : (redb (t p) ≡ true) ⊎ (redb (t p) ≡ false) → length (born_by m ss ks (t p) (o p)) ≡ size_of (t p)
          go (inl e) = red (eqb-true (t p) 64 e) (either (redb (get_or ss (o p) 0)))
          go (inr e) = ap length (born_green m ss ks (t p) (o p) e) ∙ length-replicate (size_of (t p)) 0

      one_at : (p i : ℕ) → p < length (new j).statuses → i < size_of (t p)
          → get_or (born_by m ss ks (t p) (o p)) i 0 ≡ get_or (new (suc j)).statuses (sizes (take p (new j).statuses) + i) 0
      one_at p i q l = go (either (redb (t p)))
        where
          h : p < length (new j).cells
          h = omega (arith, known)

          red : t p ≡ 64 → (redb (get_or ss (o p) 0) ≡ true) ⊎ (redb (get_or ss (o p) 0) ≡ false)
              → get_or (born_by m ss ks (t p) (o p)) i 0 ≡ get_or (new (suc j)).statuses (sizes (take p (new j).statuses) + i) 0
          red e (inl k) = kept_one p h e k i (omega (arith, size_red (t p) e))
          red e (inr k) = fresh_one p h e k i (omega (arith, size_red (t p) e))

          go : (redb (t p) ≡ true) ⊎ (redb (t p) ≡ false)
              → get_or (born_by m ss ks (t p) (o p)) i 0 ≡ get_or (new (suc j)).statuses (sizes (take p (new j).statuses) + i) 0
          go (inl e) = red (eqb-true (t p) 64 e) (either (redb (get_or ss (o p) 0)))
          go (inr e) =
              ap (λ (r : List ℕ). get_or r i 0) (born_green m ss ks (t p) (o p) e) ∙ get_or-replicate (size_of (t p)) i 0 0 l
              ∙ sym (green p i h l e)

      pub next_statuses : born_next m ss ks (new j).statuses os ≡ (new (suc j)).statuses
      next_statuses =
          born_next_lem m ss ks (new j).statuses os (new (suc j)).statuses (many ∙ sym known)
          (new_known n qs ss ms sound (suc j) ∙ ap length (new_next n qs ss ms j g)
          ∙ length-next (new j).first (new j).cells (new j).statuses (sym known))
          many_at one_at
