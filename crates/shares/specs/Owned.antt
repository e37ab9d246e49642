-- Owners after the step (rule 15.13), of cells that were there and of new ones.
--   own_at k i, fam_at k i    the owner of the new cell i of level k, and of its family
-- Laws: child_owner (a child has its family's owner), matched_owner and matched_family (a cell that was there keeps its owner and its
-- family's), fresh_family (a cell that was not there has its family with it), fostered_owner (a new child of a cell that was there is with
-- that cell's family).
use Rattle.std.specs.Prelude.{◌≡◌, ◌≢◌, Bool, ◌&&◌, not, eqb}
use Rattle.std.proofs.Math.Path.{sym, ap, subst}
use Rattle.std.proofs.Common.{◌∙◌, ap₂}
use Rattle.std.proofs.Math.Bool.{true}
use mathlib.Core.List.{List, [], ◌∷◌, ◌++◌}
use Prim.Native.Nat.{ℕ, zero, suc, ◌+◌, ◌<◌}
use Rattle.std.proofs.Math.Decide.{ℕ_discrete}
use native.Mathlib.Omega.{arith}
use Rattle.std.proofs.Math.Dec.{T}
use Rattle.std.proofs.Math.ListN.{length, get_or}
use borrow.Author.Tests.{eqb-true, eqb-false, ne_eqb}
use Rattle.base.specs.Lists.{sameb, sameb_eq}
use Rattle.base.specs.Bools.{is_true, is_false, and_left, and_right, and_both}
use Rattle.base.specs.Places.{sameb_self}
use Rattle.base.specs.Range.{range, member_range, range_member}
use Rattle.mesh.specs.Cells.{Cell, no_cell}
use Rattle.mesh.specs.Weights.{Point}
use Rattle.mesh.specs.Table.{Level, soundb}
use Rattle.mesh.specs.Laws.{length-coarse}
use Rattle.lineage.specs.Born.{Born}
use Rattle.lineage.specs.Paths.{path_at, snoc_inj, coarse_at}
use Rattle.lineage.specs.Same.{Fresh}
use Rattle.lineage.specs.Met.{Fostered, new_at, new_next, new_coarse, old_coarse, flagged, new_follows}
use Rattle.soundness.specs.Family.{born_of}
use Rattle.soundness.specs.Sound.{Sound, sound_from, lv, level_there}
use Rattle.base.specs.Member.{Member, filtered_member, member_filtered}
use Rattle.parts.specs.Owners.{nth_cell, family_of, refined_at, family_after, owner_down, owner_after}
use Rattle.splitting.specs.Numbers.{first_zero, at_level, stands, level_at_lem}
use Rattle.splitting.specs.Members.{first_all, first_none}
use Rattle.splitting.specs.Paths.{path-length, one_place, new-length}
use Rattle.splitting.specs.Split.{Owners, leaf_owner}
use Rattle.splitting.specs.Heirs.{owner_snoc}
use Rattle.shares.specs.There.{Met, matched_at, red_parent, refined_regular, old_kid}

module _ (n : ℕ) (qs : List (List ℕ)) (ss ms os : List ℕ) where
  abbrev pub own_at : ℕ → ℕ → ℕ
  own_at k i = owner_after n qs ss os (path_at (new_at n qs ss ms k).cells i)

  abbrev pub fam_at : ℕ → ℕ → ℕ
  fam_at k i = family_after n qs ss os (path_at (new_at n qs ss ms k).cells i) (own_at k i)

  pub child_owner : (k i : ℕ)
      (b : Born (new_at n qs ss ms k).first (new_at n qs ss ms k).cells (new_at n qs ss ms k).statuses
      (get_or (new_at n qs ss ms (suc k)).cells i no_cell))
      → own_at (suc k) i ≡ fam_at k b.p
  child_owner k i b =
      let l = path_at (new_at n qs ss ms k).cells b.p in
      let h : 0 < length l = omega (arith, new-length n qs ss ms k b.p b.below) in
      ap (λ (c : Cell Point). owner_after n qs ss os c.path) b.is ∙ owner_snoc n qs ss os (path_at (new_at n qs ss ms k).cells b.p)
      b.i h

module _ (n : ℕ) (qs : List (List ℕ)) (ss ms : List ℕ) (s : Sound n qs ss) (os : List ℕ) (own : Owners n qs ss os) where
  abbrev sound : T (soundb n qs ss)
  sound = sound_from n qs ss s

  abbrev new : ℕ → Level
  new k = new_at n qs ss ms k

  abbrev old : ℕ → Level
  old k = lv n qs ss k

  abbrev num : ℕ → ℕ → ℕ
  num k t = (old k).first + t

  abbrev fam : ℕ → ℕ
  fam = family_of n qs ss os

  -- the refined old cell with a path
  abbrev sameb? : List ℕ → ℕ → Bool
  sameb? l c = sameb (nth_cell n qs ss c).path l && not (eqb (get_or ss c 0) 0)

  record Before (l : List ℕ) (c : ℕ) : Type 0 where
    pub k : ℕ
    pub t : ℕ
    pub below : t < length (old k).cells
    pub number : c ≡ num k t
    pub path : path_at (old k).cells t ≡ l
    pub refined : get_or ss c 0 ≢ 0

  before : (l : List ℕ) (c : ℕ) → Member c (refined_at n qs ss l) → Before l c
  unfolding refined_at
  before l c m =
      let (a, b) = filtered_member (sameb? l) (range 0 (length ss)) c m in
      let (_, h) = member_range 0 (length ss) c a in
      let (k, w) = level_at_lem n qs ss s c (omega arith) in
      let p = stands n qs ss s k c w in
      let o = at_level n qs ss s k p.t p.below in
      let x = and_left (sameb (nth_cell n qs ss c).path l) (not (eqb (get_or ss c 0) 0)) b in
      let y = and_right (sameb (nth_cell n qs ss c).path l) (not (eqb (get_or ss c 0) 0)) b in
      record {
        k = k;
        t = p.t;
        below = p.below;
        number = p.number;
        path = sym (ap (λ (c : ℕ). (nth_cell n qs ss c).path) p.number ∙ ap (λ (c : Cell Point). c.path) o.cell_is)
            ∙ sameb_eq (nth_cell n qs ss c).path l x;
        refined = eqb-false (get_or ss c 0) 0 (is_false (eqb (get_or ss c 0) 0) y);
      }

  in_before : (l : List ℕ) (k t : ℕ) → t < length (old k).cells → path_at (old k).cells t ≡ l → get_or ss (num k t) 0 ≢ 0
      → Member (num k t) (refined_at n qs ss l)
  unfolding refined_at
  in_before l k t h e z =
      let o = at_level n qs ss s k t h in
      let q : (nth_cell n qs ss (num k t)).path ≡ l = ap (λ (c : Cell Point). c.path) o.cell_is ∙ e in
      member_filtered (sameb? l) (range 0 (length ss)) (num k t) (range_member 0 (length ss) (num k t) (omega arith)
      (omega (arith, o.inside)))
      (and_both (sameb (nth_cell n qs ss (num k t)).path l) (not (eqb (get_or ss (num k t) 0) 0)) (rw (q, sameb_self l) tt)
      (rw (ne_eqb (get_or ss (num k t) 0) 0 z) tt))

  same_number : (l : List ℕ) (k t : ℕ) → t < length (old k).cells → path_at (old k).cells t ≡ l → (c : ℕ) → Before l c → c ≡ num k t
  same_number l k t h e c b =
      let (x, y) = one_place n qs ss b.k b.t k t b.below h (b.path ∙ sym e) in b.number ∙ ap₂ num x y

  -- the family of a cell that was refined, of one that was a leaf, of one that was not there
  module _ (k i : ℕ) (w : Met n qs ss ms k i) (o : ℕ) where
    abbrev l : List ℕ
    l = path_at (new k).cells i

    refined_family : get_or ss (num k w.t) 0 ≢ 0 → family_after n qs ss os l o ≡ fam (num k w.t)
    unfolding family_after
    refined_family z =
        first_all fam o (fam (num k w.t)) (refined_at n qs ss l)
        (λ c m. ap fam (same_number l k w.t w.is.below w.is.path c (before l c m)))
        (num k w.t) (in_before l k w.t w.is.below w.is.path z)

    leaf_family : get_or ss (num k w.t) 0 ≡ 0 → family_after n qs ss os l o ≡ o
    unfolding family_after
    leaf_family z =
        first_none fam o (refined_at n qs ss l)
        (λ c m.
        let b = before l c m in
        b.refined (ap (λ (x : ℕ). get_or ss x 0) (same_number l k w.t w.is.below w.is.path c b) ∙ z))

  pub fresh_family : (k i : ℕ) → i < length (new k).cells → Fresh (old k) (get_or (new k).cells i no_cell)
      → fam_at n qs ss ms os k i ≡ own_at n qs ss ms os k i
  unfolding family_after
  fresh_family k i g f =
      first_none fam (own_at n qs ss ms os k i) (refined_at n qs ss (path_at (new k).cells i))
      (λ c m. none_at c (before (path_at (new k).cells i) c m))
    where
      none_at : (c : ℕ) → Before (path_at (new k).cells i) c → ⊥
      none_at c b =
          let q : suc b.k ≡ suc k =
          sym (path-length n qs ss b.k b.t b.below) ∙ ap length b.path ∙ new-length n qs ss ms k i g in
          let e : b.k ≡ k = omega arith in
          let h : b.t < length (old k).cells = subst (λ (x : ℕ). b.t < length (old x).cells) e b.below in
          let p : path_at (old k).cells b.t ≡ path_at (new k).cells i =
          subst (λ (x : ℕ). path_at (old x).cells b.t ≡ path_at (new k).cells i) e b.path in
          let o = at_level n qs ss s k b.t h in
          let num_is : c ≡ num k b.t = b.number ∙ ap (λ (x : ℕ). num x b.t) e in
          f b.t h (refined_regular n qs ss ms s k b.t h (λ z. b.refined (ap (λ (x : ℕ). get_or ss x 0) num_is ∙ o.status_is ∙ z))) p

  -- a cell that was there
  pub new_born : (k i : ℕ) → suc k < 12 → i < length (new (suc k)).cells
      → Born (new k).first (new k).cells (new k).statuses (get_or (new (suc k)).cells i no_cell)
  new_born k i h g = born_of (new k) (new (suc k)) (new_next n qs ss ms k h) i g

  pub matched_owner : (k i : ℕ) → k < 12 → i < length (new k).cells → T (get_or (new k).cells i no_cell).regular
      → (w : Met n qs ss ms k i) → own_at n qs ss ms os k i ≡ get_or os (num k w.t) 0
  unfolding owner_after owner_down
  matched_owner zero i h g r w =
      let q : (new 0).cells ≡ (old 0).cells = new_coarse n qs ss ms ∙ sym (old_coarse n qs ss ms) in
      let e : w.t ≡ i =
      (flagged n qs ss ms sound 0).paths w.t i w.is.below (rw (← q) g) (w.is.path
      ∙ ap (λ (cs : List (Cell Point)). path_at cs i) q) in
      let z : (old 0).first + w.t ≡ i = omega (arith, first_zero n qs ss (level_there n qs ss 0 w.t w.is.below)) in
      let few : i < length qs = omega (arith, g, ap length (new_coarse n qs ss ms), length-coarse n qs) in
      let p : path_at (new 0).cells i ≡ i ∷ [] =
      ap (λ (cs : List (Cell Point)). path_at cs i) (new_coarse n qs ss ms) ∙ ap (λ (c : Cell Point). c.path) (coarse_at n qs i few) in
      ap (owner_after n qs ss os) p ∙ ap (λ (x : ℕ). get_or os x 0) (sym z)
  matched_owner (suc k) i h g r w =
      let b = new_born k i h g in
      let regular_is : (get_or (new (suc k)).cells i no_cell).regular ≡ true = is_true (get_or (new (suc k)).cells i no_cell).regular r in
      let red : get_or (new k).statuses b.p 0 ≡ 64 =
      eqb-true (get_or (new k).statuses b.p 0) 64 (sym (ap (λ (c : Cell Point). c.regular) b.is) ∙ regular_is) in
      let reg : T (get_or (new k).cells b.p no_cell).regular =
      (new_follows n qs ss ms sound k b.p b.below).regular (λ z. omega (arith, red, z)) in
      let o = red_parent n qs ss ms s k w.t w.is.below w.is.regular in
      let e : path_at (old k).cells o.born.p ++ (o.born.i ∷ []) ≡ path_at (new k).cells b.p ++ (b.i ∷ []) =
      sym (ap (λ (c : Cell Point). c.path) o.born.is) ∙ w.is.path ∙ ap (λ (c : Cell Point). c.path) b.is in
      let path = (snoc_inj (path_at (old k).cells o.born.p) (path_at (new k).cells b.p) o.born.i b.i e).0 in
      let nz : get_or (old k).statuses o.born.p 0 ≢ 0 = (λ z. omega (arith, o.red, z)) in
      let rp = refined_regular n qs ss ms s k o.born.p o.born.below nz in
      let (m, q) = matched_at n qs ss ms s k b.p o.born.p b.below reg o.born.below rp (sym path) in
      let a = at_level n qs ss s k o.born.p o.born.below in
      let z : num k m.t ≡ num k o.born.p = ap (λ (x : ℕ). num k x) q in
      let nz' : get_or ss (num k m.t) 0 ≢ 0 = (λ y. nz (sym a.status_is ∙ ap (λ (x : ℕ). get_or ss x 0) (sym z) ∙ y)) in
      child_owner n qs ss ms os k i b ∙ refined_family k b.p m (own_at n qs ss ms os k b.p) nz' ∙ ap fam z
      ∙ sym (own (num k o.born.p) (num (suc k) w.t) a.inside (old_kid n qs ss ms s k w.t w.is.below o.born))

  pub matched_family : (k i : ℕ) → k < 12 → i < length (new k).cells → T (get_or (new k).cells i no_cell).regular
      → (w : Met n qs ss ms k i) → fam_at n qs ss ms os k i ≡ fam (num k w.t)
  matched_family k i h g r w =
      elim (ℕ_discrete (get_or ss (num k w.t) 0) 0) [
        | no z ↦ refined_family k i w (own_at n qs ss ms os k i) z
        | yes z ↦
            leaf_family k i w (own_at n qs ss ms os k i) z ∙ matched_owner k i h g r w
            ∙ sym (leaf_owner n qs ss s os k (num k w.t) (at_level n qs ss s k w.t w.is.below).here z)
      ]

  -- a new child of a cell that was not red
  pub fostered_met : (k i : ℕ) (f : Fostered (old k) (new k) (get_or (new (suc k)).cells i no_cell))
      → T (get_or (new k).cells f.born.p no_cell).regular × ((w : Met n qs ss ms k f.born.p) × (w.t ≡ f.t))
  fostered_met k i f =
      let reg : T (get_or (new k).cells f.born.p no_cell).regular =
      (new_follows n qs ss ms sound k f.born.p f.born.below).regular (λ z. omega (arith, f.parent_red, z)) in
      (reg, matched_at n qs ss ms s k f.born.p f.t f.born.below reg f.is.below f.is.regular (sym f.is.path))

  pub fostered_owner : (k i : ℕ) → k < 12 → (f : Fostered (old k) (new k) (get_or (new (suc k)).cells i no_cell))
      → own_at n qs ss ms os (suc k) i ≡ fam (num k f.t)
  fostered_owner k i h f =
      let (r, w) = fostered_met k i f in
      child_owner n qs ss ms os k i f.born ∙ matched_family k f.born.p h f.born.below r w.0 ∙ ap (λ (x : ℕ). fam (num k x))
      w.1
