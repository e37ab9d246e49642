-- The masters of a part after the step, by the owners' rule alone: as many as the part makes, and as high. No limit is asked for.
-- Laws: masters_many, masters_top.
use Rattle.std.specs.Prelude.{◌≡◌, Bool, eqb, length}
use Rattle.std.proofs.Math.Path.{refl, ap}
use Rattle.std.proofs.Common.{sym, ◌∙◌, subst, eqb→eq, eq-eqb}
use Rattle.std.proofs.Math.Bool.{true, false}
use mathlib.Core.List.{List, [], ◌∷◌, map, flatten, Memᴰ}
use Rattle.std.proofs.Math.Logic.{⊎_elim}
use Prim.Native.Nat.{ℕ, ◌≤◌, ◌<◌, pred, max}
use native.Mathlib.Omega.{arith}
use Rattle.std.proofs.Math.Dec.{T}
use Rattle.std.proofs.lemmas.List.{length-map}
use Rattle.base.specs.Lists.{filterb}
use Rattle.base.specs.Distinct.{NoDup, no_more, place_of}
use Rattle.mesh.specs.Cells.{Cell}
use Rattle.mesh.specs.Weights.{Point}
use Rattle.mesh.specs.Table.{Level, levels_of, cells_of}
use Rattle.mesh.specs.Counts.{level_of}
use Rattle.mesh.specs.Answers.{new_table}
use Rattle.lineage.specs.Paths.{path_at}
use Rattle.lineage.specs.Step.{step_by_lem}
use Rattle.soundness.specs.Sound.{sound_from, lv}
use Rattle.exchange.specs.Finite.{Finite}
use Rattle.rounds.specs.Rounds.{largest}
use Rattle.rounds.specs.Among.{largest_in}
use Rattle.parts.specs.Owners.{ownersb, owner_after}
use Rattle.splitting.specs.Paths.{level_below, new_lv}
use Rattle.splitting.specs.Heirs.{owner_in}
use Rattle.shares.specs.Settled.{Settled, entries_in, new_level_in, own_in}
use Rattle.shares.specs.Share.{Named, table_in}
use Rattle.shares.specs.Present.{new_entry}
use Rattle.shares.proofs.Present.{masters_in_lem}
use Rattle.shares.proofs.Once.{each_once}
use Rattle.merging.specs.Limits.{top_of}
use Rattle.merging.specs.Complete.{master_paths, path_by, paths_once, path_at_lem, cell_there, cells_apart}
use Rattle.merging.specs.All.{where_is}
use Rattle.split.specs.Messages.{masters_after, highest}

-- chosen cells, by their paths
abbrev paths_of : List (Cell Point) → List (List ℕ)
paths_of cs = map (λ (c : Cell Point). c.path) cs

module _ (f : List ℕ → Bool) where
  abbrev chosen : List (Cell Point) → List (Cell Point)
  chosen cs = filterb (λ (c : Cell Point). f c.path) cs

  chosen_in : (cs : List (Cell Point)) (l : List ℕ) → Memᴰ l (paths_of (chosen cs)) → Memᴰ l (paths_of cs) × T (f l)
  unfolding filterb
  chosen_in [] l m = absurd (mathlib.Core.List.Memᴰ.not-nil m)
  chosen_in (c ∷ cs) l m = go (f c.path) refl (chosen_in cs l)
    where
      go : (b : Bool) → f c.path ≡ b → (Memᴰ l (paths_of (chosen cs)) → Memᴰ l (paths_of cs) × T (f l))
          → Memᴰ l (paths_of (c ∷ cs)) × T (f l)
      go true e r =
          let n : Memᴰ l (c.path ∷ paths_of (chosen cs)) = rw (e, filterb) at m in
          ⊎_elim (λ (q : l ≡ c.path). (mathlib.Core.List.Memᴰ.head q, rw (q, e) tt))
          (λ (q : Memᴰ l (paths_of (chosen cs))). let (a, t) = r q in (mathlib.Core.List.Memᴰ.tail a, t)) (mathlib.Core.List.Memᴰ.cases_cons n)
      go false e r = let (a, t) = r (rw (e, filterb) at m) in (mathlib.Core.List.Memᴰ.tail a, t)

  in_chosen : (cs : List (Cell Point)) (l : List ℕ) → Memᴰ l (paths_of cs) → T (f l) → Memᴰ l (paths_of (chosen cs))
  unfolding filterb
  in_chosen [] l m t = absurd (mathlib.Core.List.Memᴰ.not-nil m)
  in_chosen (c ∷ cs) l m t = go (f c.path) refl (λ q. in_chosen cs l q t)
    where
      go : (b : Bool) → f c.path ≡ b → (Memᴰ l (paths_of cs) → Memᴰ l (paths_of (chosen cs)))
          → Memᴰ l (paths_of (chosen (c ∷ cs)))
      go true e r =
          rw (e, filterb) (⊎_elim (λ (q : l ≡ c.path). mathlib.Core.List.Memᴰ.head q) (λ (q : Memᴰ l (paths_of cs)). mathlib.Core.List.Memᴰ.tail (r q))
          (mathlib.Core.List.Memᴰ.cases_cons m))
      go false e r =
          rw (e, filterb) (⊎_elim (λ (q : l ≡ c.path). absurd (subst (λ (b : Bool). T b) e (subst (λ (k : List ℕ). T (f k)) q t))) r
          (mathlib.Core.List.Memᴰ.cases_cons m))

  chosen_once : (cs : List (Cell Point)) → NoDup (paths_of cs) → NoDup (paths_of (chosen cs))
  unfolding filterb
  chosen_once [] d = tt
  chosen_once (c ∷ cs) d = go (f c.path) refl (chosen_once cs d.1)
    where
      go : (b : Bool) → f c.path ≡ b → NoDup (paths_of (chosen cs)) → NoDup (paths_of (chosen (c ∷ cs)))
      go true e r = rw (e, filterb) ((λ m. d.0 (chosen_in cs c.path m).0), r)
      go false e r = rw (e, filterb) r

high_paths : (cs : List (Cell Point)) → top_of (paths_of cs) ≡ highest cs
unfolding top_of highest largest
high_paths [] = refl
high_paths (c ∷ cs) = ap (max (level_of c)) (high_paths cs)

largest_within : (f : List ℕ → ℕ) (a b : List (List ℕ)) → ((l : List ℕ) → Memᴰ l a → Memᴰ l b) → largest f a ≤ largest f b
unfolding largest
largest_within f [] b h = omega arith
largest_within f (x ∷ a) b h =
    omega (arith, largest_in f b x (h x (mathlib.Core.List.Memᴰ.head refl)), largest_within f a b (λ l m. h l (mathlib.Core.List.Memᴰ.tail m)))

module _ {Part : Type 0} {F : Finite Part} (X : Settled F) (P : ℕ) (number : Part → ℕ) (names : Named P X.part number)
    (t : T (ownersb X.n X.qs X.ss P X.os)) (p : Part) where
  abbrev n : ℕ
  n = X.n

  abbrev qs : List (List ℕ)
  qs = X.qs

  abbrev ts : List ℕ
  ts = table_in X

  abbrev cells : List (Cell Point)
  cells = cells_of (levels_of n qs ts)

  abbrev ownedb : List ℕ → Bool
  ownedb l = eqb (owner_after n qs X.ss X.os l) (number p)

  abbrev made : List (List ℕ)
  made = master_paths (entries_in X p)

  abbrev ruled : List (List ℕ)
  ruled = paths_of (chosen ownedb cells)

  -- a master that the part makes
  made_ruled : (l : List ℕ) → Memᴰ l made → Memᴰ l ruled
  made_ruled l m =
      let w = where_is X p l m in
      let q = sym (new_lv n qs X.ss X.ms w.k) in
      let h : w.i < length (lv n qs ts w.k).cells = subst (λ (v : Level). w.i < length v.cells) q w.below in
      let e : l ≡ path_at (lv n qs ts w.k).cells w.i = w.path ∙ ap (λ (v : Level). path_at v.cells w.i) q in
      let (a, b) = owner_in n qs X.ss X.os X.sound P t ts w.k w.i h in
      let o : owner_after n qs X.ss X.os (path_at (lv n qs ts w.k).cells w.i) ≡ number p =
      sym (names.forth (owner_after n qs X.ss X.os (path_at (lv n qs ts w.k).cells w.i)) a b)
      ∙ ap number (ap (λ (v : Level). X.part (owner_after n qs X.ss X.os (path_at v.cells w.i))) (sym q) ∙ w.owned) in
      in_chosen ownedb cells l (subst (λ (k : List ℕ). Memᴰ k (paths_of cells)) (sym e) (cell_there n qs ts w.k w.i h))
      (rw (e, eq-eqb (owner_after n qs X.ss X.os (path_at (lv n qs ts w.k).cells w.i)) (number p) o) tt)

  -- and the other way
  ruled_made : (l : List ℕ) → Memᴰ l ruled → Memᴰ l made
  ruled_made l m =
      let (a, b) = chosen_in ownedb cells l m in
      let (j, h, e) = place_of [] a in
      let v = path_at_lem n qs ts j (omega (arith, h, length-map cells (λ (c : Cell Point). c.path))) in
      let q = new_lv n qs X.ss X.ms v.k in
      let g : v.t < length (new_level_in X v.k).cells = subst (λ (u : Level). v.t < length u.cells) q v.below in
      let f : l ≡ path_at (new_level_in X v.k).cells v.t = sym e ∙ v.path ∙ ap (λ (u : Level). path_at u.cells v.t) q in
      let o : own_in X v.k v.t ≡ p =
      ap (λ (k : List ℕ). X.part (owner_after n qs X.ss X.os k)) (sym f)
      ∙ ap X.part (eqb→eq (owner_after n qs X.ss X.os l) (number p) b) ∙ names.back p in
      subst (λ (k : List ℕ). Memᴰ k made) (sym f)
      (path_by (entries_in X p) (new_entry n qs X.ss X.ms v.k v.t false)
      (masters_in_lem X p v.k v.t (level_below n qs ts v.k v.t v.below) g o) refl)

  -- the step's table
  by : new_table n qs X.ss X.ms ≡ ts
  by = ap flatten (step_by_lem n qs X.ss X.ms (sound_from n qs X.ss X.sound))

  ruled_is : paths_of (masters_after n qs X.ss X.os X.ms (number p)) ≡ ruled
  unfolding masters_after
  ruled_is = ap (λ (u : List ℕ). paths_of (chosen ownedb (cells_of (levels_of n qs u)))) by

  pub masters_many : length (master_paths (entries_in X p)) ≡ length (masters_after n qs X.ss X.os X.ms (number p))
  masters_many =
      let d = paths_once (entries_in X p) (each_once X p) in
      let c = chosen_once ownedb cells (cells_apart n qs ts) in
      let many = length-map (masters_after n qs X.ss X.os X.ms (number p)) (λ (c : Cell Point). c.path) in
      omega (arith, no_more made ruled d made_ruled, no_more ruled made c ruled_made, ap length ruled_is, many)

  pub masters_top : top_of (master_paths (entries_in X p)) ≡ highest (masters_after n qs X.ss X.os X.ms (number p))
  unfolding top_of
  masters_top =
      let f : List ℕ → ℕ = λ l. pred (length l) in
      let up = largest_within f made ruled made_ruled in
      let down = largest_within f ruled made ruled_made in
      let e : largest f made ≡ largest f ruled = omega arith in
      e ∙ ap (largest f) (sym ruled_is) ∙ high_paths (masters_after n qs X.ss X.os X.ms (number p))
