-- The path of a cell has room in a place, and its place tells whether the cell is coarse.
-- Laws: path_room (the path), place_coarse (the place's head).
use Rattle.std.specs.Prelude.{◌≡◌, refl, List, [], ◌∷◌, ◌++◌, ℕ, zero, suc, ◌≤◌, ◌<◌, min, ltb, length, get_or}
use Rattle.std.proofs.Common.{◌∙◌, ap, arith, length-append, length-take, lt-ltb, le-ltb}
use Rattle.base.specs.Every.{all_append}
use Rattle.base.specs.Limits.{most_coarse_cells, top_level}
use Rattle.cutting.proofs.Rows.{family_few}
use Rattle.mesh.specs.Cells.{Cell, no_cell, pattern_of, red_edges}
use Rattle.mesh.specs.Weights.{Point, coarse_cells}
use Rattle.mesh.specs.Laws.{length-coarse}
use Rattle.lineage.specs.Paths.{path_at, coarse_at}
use Rattle.lineage.specs.Met.{old_coarse}
use Rattle.carriers.specs.Refined.{asked_small}
use Rattle.soundness.specs.Held.{closed_at}
use Rattle.soundness.specs.Family.{born_of}
use Rattle.soundness.specs.Sound.{Sound, lv, level_closed, level_next, level_there}
use Rattle.base.specs.Member.{Member}
use Rattle.store.specs.declared.Place.{Place}
use Rattle.store.specs.Places.{place_level, place_of, eights, path_of, path_place}
use Rattle.parts.specs.Owners.{nth_cell}
use Rattle.held.specs.Key.{length-eights}
use Rattle.splitting.specs.Numbers.{numbers_of, at_level, stands}
use Rattle.shares.specs.Grow.{coarseb}
use Rattle.entering.specs.Columns.{Path}

module _ (n : ℕ) (qs : List (List ℕ)) (ss : List ℕ) (few : length qs ≤ most_coarse_cells) (s : Sound n qs ss) where
  place_room : (k t : ℕ) → t < length (lv n qs ss k).cells → Path k (path_at (lv n qs ss k).cells t)
  place_room zero t h =
      let e : (lv n qs ss 0).cells ≡ coarse_cells n qs = old_coarse n qs ss [] in
      let g : t < length qs = omega (arith, ap length e, length-coarse n qs) in
      record {
        coarse = t;
        down = [];
        is = ap (λ (cs : List (Cell Point)). path_at cs t) e ∙ ap (λ (c : Cell Point). c.path) (coarse_at n qs t g);
        coarse_few = omega arith;
        deep = refl;
        digits = tt;
      }
  place_room (suc k) t h =
      let l = lv n qs ss k in
      let top = level_there n qs ss (suc k) t h in
      let b = born_of l (lv n qs ss (suc k)) (level_next n qs ss k (omega (arith, s.high))) t h in
      let st = (closed_at l (level_closed n qs ss s.closed k) b.p b.below).1 in
      let small = asked_small (red_edges [] l.cells l.statuses) (get_or l.cells b.p no_cell) (get_or l.statuses b.p 0) st in
      let low : b.i < 8 = omega (arith, b.child, family_few (pattern_of (get_or l.statuses b.p 0)) small) in
      let r = place_room k b.p b.below in
      record {
        coarse = r.coarse;
        down = r.down ++ (b.i ∷ []);
        is = ap (λ (c : Cell Point). c.path) b.is ∙ ap (λ (q : List ℕ). q ++ (b.i ∷ [])) r.is;
        coarse_few = r.coarse_few;
        deep = length-append r.down (b.i ∷ []) ∙ omega (arith, r.deep);
        digits = all_append (λ i. i < 8) r.down (b.i ∷ []) r.digits (low, tt);
      }

  pub path_room : (k c : ℕ) → Member c (numbers_of n qs ss k) → Path k (nth_cell n qs ss c).path
  path_room k c m =
      let p = stands n qs ss s k c m in
      let a = at_level n qs ss s k p.t p.below in
      let e : (nth_cell n qs ss c).path ≡ path_at (lv n qs ss k).cells p.t =
      ap (λ (x : ℕ). (nth_cell n qs ss x).path) p.number ∙ ap (λ (c : Cell Point). c.path) a.cell_is in
      rw e (place_room k p.t p.below)

length-path : (p : Place) → length (path_of p) ≡ suc (min (place_level p) 10)
unfolding path_of
length-path p =
    ap suc (length-take (place_level p) (eights 5 p.digits ++ eights 5 p.more)
    ∙ ap (min (place_level p)) (length-append (eights 5 p.digits) (eights 5 p.more)
    ∙ omega (arith, length-eights 5 p.digits, length-eights 5 p.more)))

pub place_coarse : (k : ℕ) (l : List ℕ) → k ≤ top_level → Path k l → ltb (place_of l).head 256 ≡ coarseb k
unfolding coarseb
place_coarse k l h p = go k (level p.is p.deep)
  where
    level : l ≡ p.coarse ∷ p.down → length p.down ≡ k → min (place_level (place_of l)) 10 ≡ k
    level e d =
        let w : path_of (place_of (p.coarse ∷ p.down)) ≡ p.coarse ∷ p.down =
        path_place p.coarse p.down p.coarse_few (omega arith) p.digits in
        let u : path_of (place_of l) ≡ p.coarse ∷ p.down = ap (λ (q : List ℕ). path_of (place_of q)) e ∙ w in
        omega (arith, length-path (place_of l), ap length u)

    go : (j : ℕ) → min (place_level (place_of l)) 10 ≡ j → ltb (place_of l).head 256 ≡ coarseb j
    go zero e = lt-ltb (place_of l).head 256 (omega arith)
    go (suc j) e = le-ltb (place_of l).head 256 (omega arith)
