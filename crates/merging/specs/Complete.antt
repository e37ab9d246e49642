-- Entries that cover a table, each master once, are complete: merging finds each place, and as many masters as cells.
--   master_paths es    the paths of the masters among the entries es
--   PathAt x          the place of the cell with the number x, by its path
-- Laws: path_from and path_by (masters and their paths), paths_once and paths_append (of lists without repetition, and put together),
-- path_at_lem, cell_there and cells_apart (the paths of a table's cells), masters_counted (as many masters as cells), complete_is (the
-- theorem).
use Rattle.std.specs.Prelude.{◌≡◌, refl, Bool, true, false, eqb, get_or, drop}
use Rattle.std.proofs.Common.{sym, ◌∙◌, ap₂, ⊎_elim, arith, eq-eqb}
use Rattle.std.proofs.Math.Path.{ap, subst}
use mathlib.Core.List.{List, [], ◌∷◌, ◌++◌, map, Memᴰ}
use mathlib.Core.List.{flatten}
use Prim.Native.Nat.{ℕ, zero, suc, ◌+◌, ◌≤◌, ◌<◌}
use Rattle.std.proofs.Math.Dec.{T}
use Rattle.std.proofs.Math.ListN.{length, take, length-map}
use Rattle.base.specs.Lists.{allb, anyb, filterb, sameb}
use Rattle.base.specs.Bools.{and_left, and_right, not_both, and_both, or_first, or_second}
use Rattle.base.specs.Places.{sameb_self}
use Rattle.base.specs.Range.{range}
use Rattle.mesh.specs.Cells.{Cell, no_cell}
use Rattle.mesh.specs.Weights.{Point, coarse_cells}
use Rattle.mesh.specs.Table.{Level, next, levels, levels_of, cells_of, closedb}
use Rattle.base.specs.Every.{get_d_map, all_each}
use Rattle.lattice.specs.Levels.{no_level}
use Rattle.lineage.specs.Paths.{path_at}
use Rattle.soundness.specs.Held.{closed-length}
use Rattle.soundness.specs.Sound.{Sound, lv}
use Rattle.soundness.specs.Whole.{spot_at_lem, spot_with}
use Rattle.parts.specs.Held.{Entry}
use Rattle.parts.specs.Merge.{lookup, child_paths, merged, masters, filledb, completeb}
use Rattle.splitting.specs.Paths.{one_place}
use Rattle.shares.specs.Flat.{NoTwice}
use Rattle.base.specs.Distinct.{NoDup, no_more, place_of, mem_at, no_dup_by}
use Rattle.merging.specs.Merge.{entry_at, Covers, FoundAll, next_paths, coarse_paths_lem, statuses_found, found_at, merged_table}

unfoldable pub master_paths : List Entry → List (List ℕ)
master_paths [] = []
master_paths (e ∷ l) = elim e.ghost [ true ↦ master_paths l | false ↦ e.path ∷ master_paths l ]

pub path_from : (es : List Entry) (l : List ℕ) → Memᴰ l (master_paths es) → (e : Entry) × Memᴰ e es × (e.ghost ≡ false)
    × (e.path ≡ l)
unfolding master_paths
path_from [] l m = absurd (mathlib.Core.List.Memᴰ.not-nil m)
path_from (e ∷ es) l m = go e.ghost refl (path_from es l)
  where
    go : (b : Bool) → e.ghost ≡ b → (Memᴰ l (master_paths es) → (e : Entry) × Memᴰ e es × (e.ghost ≡ false) × (e.path ≡ l))
        → (f : Entry) × Memᴰ f (e ∷ es) × (f.ghost ≡ false) × (f.path ≡ l)
    go true g r = let (f, u, v, w) = r (rw (g, master_paths) at m) in (f, mathlib.Core.List.Memᴰ.tail u, v, w)
    go false g r =
        let m' : Memᴰ l (e.path ∷ master_paths es) = rw (g, master_paths) at m in
        ⊎_elim (λ (q : l ≡ e.path). (e, mathlib.Core.List.Memᴰ.head refl, g, sym q)) (λ (q : Memᴰ l (master_paths es)). let (f, u, v, w) = r q in
        (f, mathlib.Core.List.Memᴰ.tail u, v, w)) (mathlib.Core.List.Memᴰ.cases_cons m')

pub path_by : (es : List Entry) (e : Entry) → Memᴰ e es → e.ghost ≡ false → Memᴰ e.path (master_paths es)
unfolding master_paths
path_by [] e m g = absurd (mathlib.Core.List.Memᴰ.not-nil m)
path_by (f ∷ es) e m g = go f.ghost refl (path_by es e)
  where
    go : (b : Bool) → f.ghost ≡ b → (Memᴰ e es → e.ghost ≡ false → Memᴰ e.path (master_paths es))
        → Memᴰ e.path (master_paths (f ∷ es))
    go true q r = rw (q, master_paths) (⊎_elim (λ (z : e ≡ f). not_both f.ghost q (ap (λ (x : Entry). x.ghost) (sym z) ∙ g))
        (λ (z : Memᴰ e es). r z g) (mathlib.Core.List.Memᴰ.cases_cons m))
    go false q r = rw (q, master_paths) (⊎_elim (λ (z : e ≡ f). mathlib.Core.List.Memᴰ.head (ap (λ (x : Entry). x.path) z))
        (λ (z : Memᴰ e es). mathlib.Core.List.Memᴰ.tail (r z g)) (mathlib.Core.List.Memᴰ.cases_cons m))

pub paths_once : (es : List Entry) → NoTwice es → NoDup (master_paths es)
unfolding master_paths
paths_once [] o = tt
paths_once (e ∷ es) o = go e.ghost refl (paths_once es o.1)
  where
    go : (b : Bool) → e.ghost ≡ b → NoDup (master_paths es) → NoDup (master_paths (e ∷ es))
    go true q r = rw (q, master_paths) r
    go false q r = rw (q, master_paths) ((λ m. let (f, u, v, w) = path_from es e.path m in o.0 f u w), r)

pub paths_append : (a b : List Entry) → master_paths (a ++ b) ≡ master_paths a ++ master_paths b
unfolding master_paths
paths_append [] b = refl
paths_append (e ∷ a) b = go e.ghost refl (paths_append a b)
  where
    go : (g : Bool) → e.ghost ≡ g → master_paths (a ++ b) ≡ master_paths a ++ master_paths b
        → master_paths (e ∷ (a ++ b)) ≡ master_paths (e ∷ a) ++ master_paths b
    go true q i = rw (q, master_paths) i
    go false q i = rw (q, master_paths) (ap (λ (l : List (List ℕ)). e.path ∷ l) i)

length-masters : (es : List Entry) → length (masters es) ≡ length (master_paths es)
unfolding masters master_paths filterb
length-masters [] = refl
length-masters (e ∷ es) = go e.ghost refl (length-masters es)
  where
    go : (g : Bool) → e.ghost ≡ g → length (masters es) ≡ length (master_paths es) → length (masters (e ∷ es))
        ≡ length (master_paths (e ∷ es))
    go true q i = rw (q, master_paths, masters, filterb) i
    go false q i = rw (q, master_paths, masters, filterb) (ap suc i)

-- the cells of a table, by their paths
module _ (n : ℕ) (qs : List (List ℕ)) (ss : List ℕ) where
  abbrev cells : List (Cell Point)
  cells = cells_of (levels_of n qs ss)

  abbrev cell_paths : List (List ℕ)
  cell_paths = map (λ (c : Cell Point). c.path) cells

  many : length cell_paths ≡ length cells
  many = length-map cells (λ (c : Cell Point). c.path)

  pub record PathAt (x : ℕ) : Type 0 where
    pub k : ℕ
    pub t : ℕ
    pub below : t < length (lv n qs ss k).cells
    pub path : get_or cell_paths x [] ≡ path_at (lv n qs ss k).cells t
    pub number : x ≡ (lv n qs ss k).first + t

  pub path_at_lem : (x : ℕ) → x < length cells → PathAt x
  path_at_lem x h =
      let w = spot_with n qs ss x h in
      record {
        k = w.j;
        t = w.p;
        below = w.below;
        path = get_d_map (λ (c : Cell Point). c.path) cells x no_cell [] h
            ∙ ap (λ (y : ℕ). (get_or cells y no_cell).path) (sym w.number) ∙ ap (λ (c : Cell Point). c.path) w.at.cell;
        number = omega (arith, w.number, w.at.first);
      }

  pub cells_apart : NoDup cell_paths
  cells_apart =
      no_dup_by [] cell_paths (λ x y a b e.
      let v = path_at_lem x (omega (arith, many)) in
      let w = path_at_lem y (omega (arith, many)) in
      let (p, q) = one_place n qs ss v.k v.t w.k w.t v.below w.below (sym v.path ∙ e ∙ w.path) in
      v.number ∙ ap₂ (λ (k t : ℕ). (lv n qs ss k).first + t) p q ∙ sym w.number)

  pub cell_there : (k t : ℕ) → t < length (lv n qs ss k).cells → Memᴰ (path_at (lv n qs ss k).cells t) cell_paths
  cell_there k t h =
      let a = spot_at_lem n qs ss k t h in
      let e : get_or cell_paths (a.o + t) [] ≡ path_at (lv n qs ss k).cells t =
      get_d_map (λ (c : Cell Point). c.path) cells (a.o + t) no_cell [] a.inside ∙ ap (λ (c : Cell Point). c.path) a.cell in
      subst (λ (l : List ℕ). Memᴰ l cell_paths) e (mem_at [] cell_paths (a.o + t) (omega (arith, a.inside, many)))

  pub masters_counted : (es : List Entry) → Covers n qs ss es → NoDup (master_paths es) → length (master_paths es)
      ≡ length (cells_of (levels_of n qs ss))
  masters_counted es w d =
      let up : length (master_paths es) ≤ length cell_paths =
      no_more (master_paths es) cell_paths d (λ l m.
      let (e, u, g, q) = path_from es l m in
      let v = w.none_else e u g in
      subst (λ (l : List ℕ). Memᴰ l cell_paths) (sym v.path ∙ q) (cell_there v.k v.t v.below)) in
      let down : length cell_paths ≤ length (master_paths es) =
      no_more cell_paths (master_paths es) cells_apart (λ l m.
      let (j, h, e) = place_of [] m in
      let v = path_at_lem j (omega (arith, many)) in
      subst (λ (l : List ℕ). Memᴰ l (master_paths es)) (sym v.path ∙ e)
      (path_by es (entry_at n qs ss v.k v.t false) (w.each v.k v.t v.below) refl)) in
      omega (arith, many)

  -- entries of different cells are no more than the cells
  once_paths : (es : List Entry) → NoTwice es → NoDup (map (λ (e : Entry). e.path) es)
  once_paths [] o = tt
  once_paths (e ∷ es) o = (
    (λ m. let (f, u, q) = mathlib.Core.List.Memᴰ.of_map (λ (e : Entry). e.path) es m in o.0 f u q),
    once_paths es o.1,
  )

  pub no_more_held : (es : List Entry) → NoTwice es
      → ((e : Entry) → Memᴰ e es → (k : ℕ) × (t : ℕ) × (t < length (lv n qs ss k).cells) × (e.path ≡ path_at (lv n qs ss k).cells t))
      → length es ≤ length (cells_of (levels_of n qs ss))
  no_more_held es o f =
      let up : length (map (λ (e : Entry). e.path) es) ≤ length cell_paths =
      no_more (map (λ (e : Entry). e.path) es) cell_paths (once_paths es o) (λ l m.
      let (e, u, q) = mathlib.Core.List.Memᴰ.of_map (λ (e : Entry). e.path) es m in
      let (k, t, h, p) = f e u in
      subst (λ (l : List ℕ). Memᴰ l cell_paths) (sym p ∙ q) (cell_there k t h)) in
      omega (arith, many, length-map es (λ (e : Entry). e.path))

-- each place has a master
module _ (es : List Entry) where
  abbrev masteredb : List ℕ → Bool
  masteredb l = anyb (λ e. sameb e.path l) (masters es)

  filled_is : (h k : ℕ) (cs : List (Cell Point)) (rs : List ℕ) → T (allb closedb (levels h k cs rs)) → FoundAll es (levels h k cs rs)
      → ((j i : ℕ) → i < length (get_or (levels h k cs rs) j no_level).cells
      → T (masteredb (path_at (get_or (levels h k cs rs) j no_level).cells i)))
      → T (filledb h es (map (λ (c : Cell Point). c.path) cs))
  unfolding filledb levels allb
  filled_is zero k cs rs t f g = tt
  filled_is (suc h) k [] rs t f g = tt
  filled_is (suc h) k (c ∷ cs) rs t f g =
      let l : Level = record { first = k; cells = c ∷ cs; statuses = take (length (c ∷ cs)) rs } in
      let up : List Level = levels h (k + length (c ∷ cs)) (next k (c ∷ cs) (take (length (c ∷ cs)) rs)) (drop (length (c ∷ cs)) rs) in
      let known : length (take (length (c ∷ cs)) rs) ≡ length (c ∷ cs) = closed-length l (and_left (closedb l) (allb closedb up) t) in
      let q : map (lookup es) (map (λ (c : Cell Point). c.path) (c ∷ cs)) ≡ take (length (c ∷ cs)) rs =
      statuses_found es (c ∷ cs) (take (length (c ∷ cs)) rs) known (λ i b. f 0 i b) in
      let ups : map (λ (c : Cell Point). c.path) (next k (c ∷ cs) (take (length (c ∷ cs)) rs))
      ≡ child_paths (map (λ (c : Cell Point). c.path) (c ∷ cs)) (map (lookup es) (map (λ (c : Cell Point). c.path) (c ∷ cs))) =
      next_paths k (c ∷ cs) (take (length (c ∷ cs)) rs) ∙ ap (child_paths (map (λ (c : Cell Point). c.path) (c ∷ cs))) (sym q) in
      and_both (allb masteredb (map (λ (c : Cell Point). c.path) (c ∷ cs)))
      (filledb h es (child_paths (map (λ (c : Cell Point). c.path) (c ∷ cs))
      (map (lookup es) (map (λ (c : Cell Point). c.path) (c ∷ cs)))))
      (all_each masteredb [] (map (λ (c : Cell Point). c.path) (c ∷ cs)) (λ i b.
      let b' : i < length (c ∷ cs) = omega (arith, length-map (c ∷ cs) (λ (c : Cell Point). c.path)) in
      subst (λ (l : List ℕ). T (masteredb l)) (sym (get_d_map (λ (c : Cell Point). c.path) (c ∷ cs) i no_cell [] b')) (g 0 i b')))
      (subst (λ (ls : List (List ℕ)). T (filledb h es ls)) ups
      (filled_is h (k + length (c ∷ cs)) (next k (c ∷ cs) (take (length (c ∷ cs)) rs)) (drop (length (c ∷ cs)) rs)
      (and_right (closedb l) (allb closedb up) t) (λ j. f (suc j)) (λ j. g (suc j))))

mastered : (es : List Entry) (e : Entry) → Memᴰ e es → e.ghost ≡ false → T (anyb (λ f. sameb f.path e.path) (masters es))
unfolding masters filterb anyb
mastered [] e m g = absurd (mathlib.Core.List.Memᴰ.not-nil m)
mastered (f ∷ es) e m g = go f.ghost refl (mastered es e)
  where
    test : Entry → Bool
    test f = sameb f.path e.path

    go : (b : Bool) → f.ghost ≡ b → (Memᴰ e es → e.ghost ≡ false → T (anyb (λ f. sameb f.path e.path) (masters es)))
        → T (anyb (λ f. sameb f.path e.path) (masters (f ∷ es)))
    go true q r =
        rw (q, masters, filterb) (⊎_elim (λ (z : e ≡ f). not_both f.ghost q (ap (λ (x : Entry). x.ghost) (sym z) ∙ g))
        (λ (z : Memᴰ e es). r z g) (mathlib.Core.List.Memᴰ.cases_cons m))
    go false q r =
        rw (q, masters, filterb) (⊎_elim
        (λ (z : e ≡ f). or_first (sameb f.path e.path) (anyb (λ f. sameb f.path e.path) (masters es))
        (subst (λ (x : Entry). T (sameb x.path e.path)) z (rw (sameb_self e.path) tt)))
        (λ (z : Memᴰ e es). or_second (sameb f.path e.path) (anyb (λ f. sameb f.path e.path) (masters es)) (r z g))
        (mathlib.Core.List.Memᴰ.cases_cons m))

pub complete_is : (n : ℕ) (qs : List (List ℕ)) (ss : List ℕ) (es : List Entry) → Sound n qs ss → Covers n qs ss es → NoDup (master_paths es)
    → T (completeb es (length qs))
unfolding completeb levels_of coarse_cells
complete_is n qs ss es s w d =
    and_both (filledb 12 es (map (λ i. i ∷ []) (range 0 (length qs))))
    (eqb (length (masters es)) (length (flatten (merged es (length qs)))))
    (subst (λ (ls : List (List ℕ)). T (filledb 12 es ls)) (coarse_paths_lem n 0 qs)
    (filled_is es 12 0 (coarse_cells n qs) ss s.closed (found_at n qs ss es w)
    (λ j i h. mastered es (entry_at n qs ss j i false) (w.each j i h) refl)))
    (rw (eq-eqb (length (masters es)) (length (flatten (merged es (length qs))))
    (length-masters es ∙ masters_counted n qs ss es w d ∙ sym s.many ∙ ap length (sym (merged_table n qs ss es w s)))) tt)
