-- The children of a regular cell that have an old cell's face (OldCell): one where the regular cell has that face, none where it has not.
-- Laws: old_count.
use Rattle.std.specs.Prelude.{◌≡◌, refl, Bool, true, false, ℕ, ◌*◌, ◌<◌, length, get_or}
use Rattle.std.proofs.Common.{sym, ◌∙◌, ap, ap₂, arith}
use mathlib.Core.List.{List, [], ◌∷◌, map}
use Rattle.std.proofs.Math.Decide.{dec_lt}
use Rattle.std.proofs.Math.Dec.{T}
use Rattle.std.proofs.lemmas.List.{length-map}
use Rattle.base.specs.Lists.{allb}
use Rattle.base.specs.Bools.{one_if, and_left, and_right, and_both}
use Rattle.cutting.specs.Rule.{low, high, digit, edge_of, split, family}
use Rattle.mesh.specs.Cells.{Cell, corner}
use Rattle.mesh.specs.Weights.{Point, point}
use Rattle.base.specs.Every.{All, all_at, all_more, get_d_map}
use Rattle.families.specs.Kuhn.{digit_ends}
use Rattle.lattice.specs.Regular.{Regular}
use Rattle.lattice.specs.Edges.{point_injective}
use Rattle.lattice.specs.Facts.{point_corner}
use Rattle.carriers.specs.Child.{corner_point}
use Rattle.carriers.specs.Carrier.{Shares}
use Rattle.families.specs.Digits.{corners_at}
use Rattle.families.specs.FaceKinds.{whole_face}
use Rattle.conformity.specs.Having.{inb, withinb, in_at, in_from, count_digits, digits_none, digits_holds}
use Rattle.conformity.specs.Shared.{Below10, Reads, family_small, digit_of, within_shares, one_times, none_times}
use Rattle.conformity.specs.Sides.{three_at}
use Rattle.conformity.specs.Old.{OldCell, reds_at, digit_turned, old_unsplit, old_corner}

module _ (n : ℕ) (qs : List (List ℕ)) (ss : List ℕ) (j : ℕ) (h : j < 10) (c : Cell Point) (r : Regular n j c) (p : ℕ) (hp : p < 64)
    (rp : Reads (reds_at n qs ss j) c p) (o : Cell Point) (old : OldCell n qs ss j o) where
  -- an edge of both is not split
  unsplit_both : (a b x y : ℕ) → a < b → b < 4 → x < 4 → y < 4 → corner [] o a ≡ corner [] c x → corner [] o b ≡ corner [] c y
      → (x ≡ y → ⊥) × (split p (edge_of (digit x y)) ≡ false)
  unsplit_both a b x y ab b4 hx hy ex ey =
      let ne : x ≡ y → ⊥ = (λ e. old.differ a b ab b4 (ex ∙ ap (corner [] c) e ∙ sym ey)) in
      elim (dec_lt x y) [
        | yes l ↦ (ne, old_unsplit n qs ss j h c r p rp o old x y l hy (a, hx, omega arith, sym ex) (b, hy, b4, sym ey))
        | no l ↦ elim (dec_lt y x) [
          | yes l' ↦ (
            ne,
            rw (digit_turned x y hx hy)
                (old_unsplit n qs ss j h c r p rp o old y x l' hx (b, hy, b4, sym ey) (a, hx, omega arith, sym ex)),
          )
          | no l' ↦ absurd (ne (omega arith))
        ]
      ]

  face_there : (a b d : ℕ) → a < b → b < d → d < 4 → Shares o c a → Shares o c b → Shares o c d
      → count_digits (map (corner [] o) (a ∷ b ∷ d ∷ [])) (point c) (family p) ≡ 1
  face_there a b d ab bd d4 (x, _, hx, ex) (y, _, hy, ey) (z, _, hz, ez) =
      let (xy, sxy) = unsplit_both a b x y ab (omega arith) hx hy ex ey in
      let (xz, sxz) = unsplit_both a d x z (omega arith) d4 hx hz ex ez in
      let (yz, syz) = unsplit_both b d y z bd d4 hy hz ey ez in
      let f = digit x x ∷ digit y y ∷ digit z z ∷ [] in
      let e : map (corner [] o) (a ∷ b ∷ d ∷ []) ≡ map (point c) (digit x x ∷ digit y y ∷ digit z z ∷ []) =
      ap₂ ◌∷◌ (ex ∙ sym (point_corner c x hx)) (ap₂ ◌∷◌ (ey ∙ sym (point_corner c y hy)) (ap₂ ◌∷◌ (ez ∙ sym (point_corner c z hz)) refl)) in
      ap (λ (u : List Point). count_digits u (point c) (family p)) e
      ∙ digits_holds 10 (point c) (λ x y hx hy w. point_injective n j c r h x y hx hy w) (digit x x ∷ digit y y ∷ digit z z ∷ [])
      ((digit_of x x (omega arith) hx).2, ((digit_of y y (omega arith) hy).2, ((digit_of z z (omega arith) hz).2, tt))) (family p)
      (family_small p hp)
      ∙ whole_face p x y z hp hx hy hz xy xz yz sxy sxz syz

  -- a child that has old points has them as the cell's corners
  child_corners : (z : List ℕ) → All (λ m. m < 4) z → (d : List ℕ) → Below10 d → T (withinb (map (corner [] o) z) (map (point c) d))
      → T (withinb (map (corner [] o) z) c.points)
  unfolding allb
  child_corners [] a d b t = tt
  child_corners (m ∷ z) a d b t = and_both (inb (corner [] o m) c.points) (withinb (map (corner [] o) z) c.points) here
      (child_corners z a.1 d b rest)
    where
      rest : T (withinb (map (corner [] o) z) (map (point c) d))
      rest = and_right (inb (corner [] o m) (map (point c) d)) (withinb (map (corner [] o) z) (map (point c) d)) t

      here : T (inb (corner [] o m) c.points)
      here =
          let (i, hi, e) = in_at (corner [] o m) (map (point c) d)
          (and_left (inb (corner [] o m) (map (point c) d)) (withinb (map (corner [] o) z) (map (point c) d)) t) in
          let hi' : i < length d = rw (length-map d (point c)) at hi in
          let x = get_or d i 0 in
          let hx : x < 10 = all_at (λ x. x < 10) 0 d b i hi' in
          let e' : corner [] o m ≡ point c x = e ∙ get_d_map (point c) d i 0 [] hi' in
          let lh : low x ≡ high x = old_corner n qs ss j h c r p rp o old x hx
          (in_from (point c x) o.points m (omega (arith, a.0, old.four)) (sym e')) in
          in_from (corner [] o m) c.points (low x) (omega (arith, digit_ends x hx, r.four)) (e' ∙ corner_point c x hx lh)

  pub old_count : (i : ℕ) → i < 4 → count_digits (map (corner [] o) (corners_at i)) (point c) (family p) ≡ 1 * one_if
      (withinb (map (corner [] o) (corners_at i)) c.points)
  old_count i hi = go (withinb (map (corner [] o) (corners_at i)) c.points) refl
    where
      below : All (λ m. m < 4) (corners_at i)
      below = let w = three_at i hi in rw w.is (omega (arith, w.ab, w.bc, w.c4))

      go : (b : Bool) → withinb (map (corner [] o) (corners_at i)) c.points ≡ b
          → count_digits (map (corner [] o) (corners_at i)) (point c) (family p) ≡ 1 * one_if
          (withinb (map (corner [] o) (corners_at i)) c.points)
      go true e =
          let w = three_at i hi in
          let a : All (Shares o c) (w.a ∷ w.b ∷ w.c ∷ []) = rw w.is at (within_shares o c r.four (corners_at i) below (rw e tt)) in
          ap (λ (z : List ℕ). count_digits (map (corner [] o) z) (point c) (family p)) w.is
          ∙ face_there w.a w.b w.c w.ab w.bc w.c4 a.0 a.1.0 a.1.1.0
          ∙ sym (one_times 1 (withinb (map (corner [] o) (corners_at i)) c.points) (rw e tt))
      go false e =
          let no' : T (withinb (map (corner [] o) (corners_at i)) c.points) → ⊥ = (λ t. rw e at t) in
          digits_none (map (corner [] o) (corners_at i)) (point c) (family p)
          (all_more Below10 (λ d. T (withinb (map (corner [] o) (corners_at i)) (map (point c) d)) → ⊥)
          (λ d b t. no' (child_corners (corners_at i) below d b t)) (family p) (family_small p hp))
          ∙ sym (none_times 1 (withinb (map (corner [] o) (corners_at i)) c.points) no')
