-- Merging gives the table whose cells the masters are, in whatever order these stand.
--   entry_at k t b        the entry of the cell t of level k; b where it is a ghost
--   MasterIn n qs ss e   the cell of the table ss that the master e is of
--   Covers n qs ss es    each cell of the table ss has its master among the entries es, and these have no other masters
-- Laws: lookup_is (a path that is found), next_paths and coarse_paths_lem (the paths of a level), merged_is (the theorem), merged_table (the
-- table as one row), merged_step (the step's table).
use Rattle.std.specs.Prelude.{◌≡◌, Bool, true, false, T, eqb, get_or, drop}
use Rattle.std.proofs.Math.Path.{refl, ap}
use Rattle.std.proofs.Common.{sym, ◌∙◌, ap₂, subst, ⊎_elim, arith}
use mathlib.Core.List.Memᴰ
use mathlib.Core.List.{List, [], ◌∷◌, ◌++◌, map, map-append, Memᴰ, flatten}
use Prim.Native.Nat.{ℕ, zero, suc, ◌+◌, ◌<◌}
use Rattle.std.proofs.Math.ListN.{length, take}
use Rattle.std.proofs.Math.Seq.{take-length}
use Rattle.base.specs.Lists.{allb, sameb, sameb_eq}
use Rattle.base.specs.Bools.{and_left, and_right, not_both}
use Rattle.base.specs.Places.{sameb_self}
use Rattle.base.specs.Range.{range}
use Rattle.cutting.specs.Rule.{family}
use Rattle.mesh.specs.Cells.{Cell, pattern_of, redb, children, children_from}
use Rattle.mesh.specs.Weights.{Point, point, coarse_from, coarse_cells}
use Rattle.mesh.specs.Table.{Level, next, levels, levels_of, closedb, soundb, size_of}
use Rattle.mesh.specs.Step.{step_table}
use Rattle.lattice.specs.Levels.{no_level}
use Rattle.lineage.specs.Olds.{flag_table, up_to, step_by}
use Rattle.lineage.specs.Paths.{path_at}
use Rattle.lineage.specs.Levels.{grow_statuses, new_levels_lem}
use Rattle.lineage.specs.Step.{step_by_lem}
use Rattle.soundness.specs.Held.{closed-length}
use Rattle.identity.specs.Again.{status_lists}
use Rattle.identity.specs.Unmarked.{statuses_all}
use Rattle.soundness.specs.Sound.{Sound, lv}
use Rattle.soundness.specs.Grown.{new_closed}
use Rattle.parts.specs.Held.{Entry}
use Rattle.parts.specs.Merge.{lookup, child_paths, gather, merged}
use Rattle.splitting.specs.Paths.{one_place}

-- a path that is found
lookup_is : (es : List Entry) (l : List ℕ) (x : ℕ) (e : Entry) → Memᴰ e es → e.ghost ≡ false → e.path ≡ l
    → ((e : Entry) → Memᴰ e es → e.ghost ≡ false → e.path ≡ l → e.status ≡ x) → lookup es l ≡ x
unfolding lookup
lookup_is [] l x e m g q h = absurd (Memᴰ.not-nil m)
lookup_is (f ∷ es) l x e m g q h =
    go f.ghost refl (sameb f.path l) refl (λ n. lookup_is es l x e n g q (λ e m. h e (Memᴰ.tail m)))
  where
    clash : e ≡ f → (f.ghost ≡ false → sameb f.path l ≡ false) → ⊥
    clash z d =
        not_both (sameb f.path l) (ap (λ (x : Entry). sameb x.path l) (sym z) ∙ ap (λ (k : List ℕ). sameb k l) q ∙ sameb_self l)
        (d (ap (λ (x : Entry). x.ghost) (sym z) ∙ g))

    later : (f.ghost ≡ false → sameb f.path l ≡ false) → Memᴰ e es
    later d = ⊎_elim (λ (z : e ≡ f). absurd (clash z d)) (λ (z : Memᴰ e es). z) (Memᴰ.cases_cons m)

    go : (a : Bool) → f.ghost ≡ a → (b : Bool) → sameb f.path l ≡ b → (Memᴰ e es → lookup es l ≡ x) → lookup (f ∷ es) l ≡ x
    go true u b v r = rw (u, lookup) (r (later (λ z. not_both f.ghost u z)))
    go false u true v r = rw (u, v, lookup) (h f (Memᴰ.head refl) u (sameb_eq f.path l (subst (λ (z : Bool). T z) (sym v) tt)))
    go false u false v r = rw (u, v, lookup) (r (later (λ z. v)))

abbrev paths_of : List (Cell Point) → List (List ℕ)
paths_of cs = map (λ (c : Cell Point). c.path) cs

-- the paths one level up
paths_from : (k : ℕ) (c : Cell Point) (r : Bool) (f : ℕ → Point) (i : ℕ) (ds : List (List ℕ))
    → paths_of (children_from k c r f i ds) ≡ map (λ j. c.path ++ (j ∷ [])) (range i (length ds))
unfolding children_from range
paths_from k c r f i [] = refl
paths_from k c r f i (d ∷ ds) = ap (λ (l : List (List ℕ)). (c.path ++ (i ∷ [])) ∷ l) (paths_from k c r f (suc i) ds)

children_paths : (k : ℕ) (c : Cell Point) (s : ℕ) → paths_of (children k c s (point c)) ≡ map (λ j. c.path ++ (j ∷ [])) (range 0 (size_of s))
unfolding children size_of range
children_paths k c s = go (eqb s 0) refl
  where
    go : (b : Bool) → eqb s 0 ≡ b → paths_of (children k c s (point c)) ≡ map (λ j. c.path ++ (j ∷ [])) (range 0 (size_of s))
    go true e = rw (e, children, size_of)
    go false e = rw (e, children, size_of) (paths_from k c (redb s) (point c) 0 (family (pattern_of s)))

pub next_paths : (k : ℕ) (cs : List (Cell Point)) (ts : List ℕ) → paths_of (next k cs ts) ≡ child_paths (paths_of cs) ts
unfolding next child_paths
next_paths k [] ts = refl
next_paths k (c ∷ cs) [] = refl
next_paths k (c ∷ cs) (t ∷ ts) =
    map-append (λ (c : Cell Point). c.path) (children k c t (point c)) (next (suc k) cs ts) ∙ ap₂ ◌++◌ (children_paths k c t)
    (next_paths (suc k) cs ts)

pub coarse_paths_lem : (n i : ℕ) (qs : List (List ℕ)) → paths_of (coarse_from n i qs) ≡ map (λ i. i ∷ []) (range i (length qs))
unfolding coarse_from range
coarse_paths_lem n i [] = refl
coarse_paths_lem n i (q ∷ qs) = ap (λ (l : List (List ℕ)). (i ∷ []) ∷ l) (coarse_paths_lem n (suc i) qs)

-- level after level
module _ (es : List Entry) where
  abbrev pub FoundAll : List Level → Type 0
  FoundAll ls = (j i : ℕ) → i < length (get_or ls j no_level).cells → lookup es (path_at (get_or ls j no_level).cells i)
      ≡ get_or (get_or ls j no_level).statuses i 0

  pub statuses_found : (cs : List (Cell Point)) (ts : List ℕ) → length ts ≡ length cs
      → ((i : ℕ) → i < length cs → lookup es (path_at cs i) ≡ get_or ts i 0)
      → map (lookup es) (paths_of cs) ≡ ts
  statuses_found [] [] e f = refl
  statuses_found [] (t ∷ ts) e f = absurd (omega arith)
  statuses_found (c ∷ cs) [] e f = absurd (omega arith)
  statuses_found (c ∷ cs) (t ∷ ts) e f = ap₂ ◌∷◌ (f 0 (omega arith)) (statuses_found cs ts (omega arith) (λ i h. f (suc i) (omega arith)))

  gather_is : (h k : ℕ) (cs : List (Cell Point)) (rs : List ℕ) → T (allb closedb (levels h k cs rs)) → FoundAll (levels h k cs rs)
      → gather h es (paths_of cs) ≡ map (λ (l : Level). l.statuses) (levels h k cs rs)
  unfolding gather levels allb
  gather_is zero k cs rs t f = refl
  gather_is (suc h) k [] rs t f = refl
  gather_is (suc h) k (c ∷ cs) rs t f =
      let l : Level = record { first = k; cells = c ∷ cs; statuses = take (length (c ∷ cs)) rs } in
      let up : List Level = levels h (k + length (c ∷ cs)) (next k (c ∷ cs) (take (length (c ∷ cs)) rs)) (drop (length (c ∷ cs)) rs) in
      let many : length (take (length (c ∷ cs)) rs) ≡ length (c ∷ cs) = closed-length l (and_left (closedb l) (allb closedb up) t) in
      let q : map (lookup es) (paths_of (c ∷ cs)) ≡ take (length (c ∷ cs)) rs =
      statuses_found (c ∷ cs) (take (length (c ∷ cs)) rs) many (λ i g. f 0 i g) in
      ap (λ (ts : List ℕ). ts ∷ gather h es (child_paths (paths_of (c ∷ cs)) ts)) q
      ∙ ap (λ (ls : List (List ℕ)). take (length (c ∷ cs)) rs ∷ gather h es ls) (sym (next_paths k (c ∷ cs) (take (length (c ∷ cs)) rs)))
      ∙ ap (λ (ls : List (List ℕ)). take (length (c ∷ cs)) rs ∷ ls)
      (gather_is h (k + length (c ∷ cs)) (next k (c ∷ cs) (take (length (c ∷ cs)) rs)) (drop (length (c ∷ cs)) rs)
      (and_right (closedb l) (allb closedb up) t) (λ j. f (suc j)))

abbrev pub entry_at : ℕ → List (List ℕ) → List ℕ → ℕ → ℕ → Bool → Entry
entry_at n qs ss k t b = record { path = path_at (lv n qs ss k).cells t; status = get_or (lv n qs ss k).statuses t 0; ghost = b }

pub record MasterIn (n : ℕ) (qs : List (List ℕ)) (ss : List ℕ) (e : Entry) : Type 0 where
  pub k : ℕ
  pub t : ℕ
  pub below : t < length (lv n qs ss k).cells
  pub path : e.path ≡ path_at (lv n qs ss k).cells t
  pub status : e.status ≡ get_or (lv n qs ss k).statuses t 0

pub record Covers (n : ℕ) (qs : List (List ℕ)) (ss : List ℕ) (es : List Entry) : Type 0 where
  pub each : (k t : ℕ) → t < length (lv n qs ss k).cells → Memᴰ (entry_at n qs ss k t false) es
  pub none_else : (e : Entry) → Memᴰ e es → e.ghost ≡ false → MasterIn n qs ss e

module _ (n : ℕ) (qs : List (List ℕ)) (ss : List ℕ) (es : List Entry) (w : Covers n qs ss es) where
  pub found_at : (j i : ℕ) → i < length (lv n qs ss j).cells → lookup es (path_at (lv n qs ss j).cells i)
      ≡ get_or (lv n qs ss j).statuses i 0
  found_at j i h =
      lookup_is es (path_at (lv n qs ss j).cells i) (get_or (lv n qs ss j).statuses i 0) (entry_at n qs ss j i false)
      (w.each j i h) refl refl
      (λ e m g q.
      let v = w.none_else e m g in
      let (a, b) = one_place n qs ss v.k v.t j i v.below h (sym v.path ∙ q) in
      v.status ∙ ap₂ (λ (k t : ℕ). get_or (lv n qs ss k).statuses t 0) a b)

  merged_is : T (allb closedb (levels_of n qs ss)) → merged es (length qs) ≡ status_lists (levels_of n qs ss)
  unfolding merged levels_of coarse_cells
  merged_is c = ap (gather 12 es) (sym (coarse_paths_lem n 0 qs)) ∙ gather_is es 12 0 (coarse_cells n qs) ss c found_at

  -- the table as one row
  pub merged_table : Sound n qs ss → flatten (merged es (length qs)) ≡ ss
  unfolding levels_of
  merged_table s =
      ap flatten (merged_is s.closed) ∙ statuses_all 12 0 (coarse_cells n qs) ss s.closed ∙ ap (λ (x : ℕ). take x ss) (sym s.many)
      ∙ take-length ss

-- the step's table, without the limits
pub merged_step : (n : ℕ) (qs : List (List ℕ)) (ss ms : List ℕ) (es : List Entry) → T (soundb n qs ss)
    → Covers n qs (flatten (step_by n qs ss ms)) es → merged es (length qs) ≡ step_table n qs ss ms
unfolding step_by
merged_step n qs ss ms es sound w =
    merged_is n qs (flatten (step_by n qs ss ms)) es w (new_closed n qs ss ms sound) ∙ ap status_lists (new_levels_lem n qs ss ms)
    ∙ grow_statuses (length qs) ss (flag_table n qs ss ms) 12 0 (coarse_cells n qs) (up_to (length qs)) ∙ sym (step_by_lem n qs ss ms sound)
