-- The owners after a step: from accepted owners of a table come accepted owners of any table over the same mesh.
--   Under l m                the coarse cell of the path l, which is below m
--   ts                       a table; its owners are `owners_after` (rule 15.13)
-- Laws: owner_snoc (a child has its family's owner), under (each cell lies under a coarse one), heir_number and heir_owner (the owner of a
-- cell by its path), heir_child and heir_family (the owner of a cell's children), owner_in and number_in (owners are those of parts), heirs
-- (the theorem), heirs_admissible (A1 to A6 afterwards).
use Rattle.std.specs.Prelude.{◌≡◌, ◌&&◌, ℕ, zero, suc, ◌+◌, ◌≤◌, ◌<◌, length}
use Rattle.std.proofs.Math.Path.{sym, ap, subst}
use Rattle.std.proofs.Common.{◌∙◌, arith, le→leb, eq-eqb}
use Rattle.std.proofs.Math.Bool.{not}
use mathlib.Core.List.{List, [], ◌∷◌, ◌++◌, append-nil, append_assoc}
use Rattle.std.proofs.Math.Dec.{T, eqb, leb}
use Rattle.std.proofs.Math.ListN.{get_or, length-map}
use Rattle.base.specs.Lists.{allb, sameb}
use Rattle.base.specs.Range.{range, member_range}
use Rattle.mesh.specs.Cells.{Cell, no_cell}
use Rattle.mesh.specs.Weights.{Point, coarse_cells}
use Rattle.mesh.specs.Table.{levels_of, cells_of}
use Rattle.mesh.specs.Laws.{length-coarse}
use Rattle.base.specs.Every.{get_d_map, all_each}
use Rattle.lineage.specs.Paths.{path_at, coarse_at}
use Rattle.lineage.specs.Met.{old_coarse}
use Rattle.base.specs.Bools.{and_both}
use Rattle.soundness.specs.Family.{born_of}
use Rattle.soundness.specs.Sound.{Sound, lv, level_next}
use Rattle.base.specs.Member.{Member, filtered_member}
use Rattle.parts.specs.Owners.{nth_cell, children_of, family_of, ownersb, refined_at, family_after, owner_down, owner_after, owners_after}
use Rattle.splitting.specs.Members.{member_all, first_in, first_all}
use Rattle.splitting.specs.Numbers.{at_level, stands, level_at_lem, kid, number_inside}
use Rattle.splitting.specs.Paths.{level_below, path-length}
use Rattle.splitting.specs.Admissible.{Admissible, admissible, owners_counted}

-- a child has its family's owner
module _ (n : ℕ) (qs : List (List ℕ)) (ss os : List ℕ) where
  down_snoc : (l : List ℕ) (o : ℕ) (r : List ℕ) (i : ℕ)
      → owner_down n qs ss os l o (r ++ (i ∷ [])) ≡ family_after n qs ss os (l ++ r) (owner_down n qs ss os l o r)
  unfolding owner_down
  down_snoc l o [] i = ap (λ (l : List ℕ). family_after n qs ss os l o) (sym (append-nil l))
  down_snoc l o (j ∷ r) i =
      let o' = owner_down n qs ss os (l ++ (j ∷ [])) (family_after n qs ss os l o) r in
      down_snoc (l ++ (j ∷ [])) (family_after n qs ss os l o) r i ∙ ap (λ (k : List ℕ). family_after n qs ss os k o')
      (append_assoc l (j ∷ []) r)

  pub owner_snoc : (l : List ℕ) (i : ℕ) → 0 < length l
      → owner_after n qs ss os (l ++ (i ∷ [])) ≡ family_after n qs ss os l (owner_after n qs ss os l)
  unfolding owner_after
  owner_snoc [] i h = absurd (omega arith)
  owner_snoc (c ∷ r) i h = down_snoc (c ∷ []) (get_or os c 0) r i

-- the coarse cell of a path
record Under (l : List ℕ) (m : ℕ) : Type 0 where
  pub c : ℕ
  pub r : List ℕ
  pub is : l ≡ c ∷ r
  pub below : c < m

module _ (n : ℕ) (qs : List (List ℕ)) (ts : List ℕ) where
  under : (k t : ℕ) → t < length (lv n qs ts k).cells → Under (path_at (lv n qs ts k).cells t) (length qs)
  under zero t h =
      let e : (lv n qs ts 0).cells ≡ coarse_cells n qs = old_coarse n qs ts [] in
      let g : t < length qs = omega (arith, ap length e, length-coarse n qs) in
      record {
        c = t;
        r = [];
        is = ap (λ (cs : List (Cell Point)). path_at cs t) e ∙ ap (λ (c : Cell Point). c.path) (coarse_at n qs t g);
        below = g;
      }
  under (suc k) t h =
      let g = level_below n qs ts (suc k) t h in
      let b = born_of (lv n qs ts k) (lv n qs ts (suc k)) (level_next n qs ts k (omega arith)) t h in
      let w = under k b.p b.below in
      record {
        c = w.c;
        r = w.r ++ (b.i ∷ []);
        is = ap (λ (c : Cell Point). c.path) b.is ∙ ap (λ (l : List ℕ). l ++ (b.i ∷ [])) w.is;
        below = w.below;
      }

-- the owners of all cells, of whatever table, are parts
module _ (n : ℕ) (qs : List (List ℕ)) (ss os : List ℕ) (s : Sound n qs ss) (P : ℕ) (t : T (ownersb n qs ss P os)) where
  abbrev Part? : ℕ → Type 0
  Part? o = (1 ≤ o) × (o ≤ P)

  each : (c : ℕ) → c < length ss → Part? (get_or os c 0)
  each = (owners_counted n qs ss P os t).each

  family_in : (c : ℕ) → c < length ss → Part? (family_of n qs ss os c)
  unfolding family_of children_of
  family_in c h =
      first_in (λ d. get_or os d 0) (get_or os c 0) Part? (children_of n qs ss c) (each c h)
      (λ d m.
      let (a, _) = filtered_member (λ d. eqb (nth_cell n qs ss d).parent c) (range 0 (length ss)) d m in
      let (_, g) = member_range 0 (length ss) d a in each d (omega arith))

  after_in : (l : List ℕ) (o : ℕ) → Part? o → Part? (family_after n qs ss os l o)
  unfolding family_after refined_at
  after_in l o w =
      first_in (family_of n qs ss os) o Part? (refined_at n qs ss l) w
      (λ d m.
      let (a, _) = filtered_member (λ c. sameb (nth_cell n qs ss c).path l && not (eqb (get_or ss c 0) 0)) (range 0 (length ss)) d m in
      let (_, g) = member_range 0 (length ss) d a in family_in d (omega arith))

  down_in : (l : List ℕ) (o : ℕ) (r : List ℕ) → Part? o → Part? (owner_down n qs ss os l o r)
  unfolding owner_down
  down_in l o [] w = w
  down_in l o (i ∷ r) w = down_in (l ++ (i ∷ [])) (family_after n qs ss os l o) r (after_in l o w)

  coarse_in : (c : ℕ) → c < length qs → c < length ss
  coarse_in c h =
      let e : length (lv n qs ss 0).cells ≡ length qs = ap length (old_coarse n qs ss []) ∙ length-coarse n qs in
      omega (arith, (at_level n qs ss s 0 c (omega arith)).inside)

  pub owner_in : (ts : List ℕ) (k t : ℕ) → t < length (lv n qs ts k).cells
      → (1 ≤ owner_after n qs ss os (path_at (lv n qs ts k).cells t)) × (owner_after n qs ss os (path_at (lv n qs ts k).cells t) ≤ P)
  unfolding owner_after
  owner_in ts k t h =
      let w = under n qs ts k t h in
      subst (λ (l : List ℕ). Part? (owner_after n qs ss os l)) (sym w.is) (down_in (w.c ∷ []) (get_or os w.c 0) w.r
      (each w.c (coarse_in w.c w.below)))

module _ (n : ℕ) (qs : List (List ℕ)) (ss os ts : List ℕ) (u : Sound n qs ts) where
  abbrev os' : List ℕ
  os' = owners_after n qs ss os ts

  abbrev own : List ℕ → ℕ
  own = owner_after n qs ss os

  heirs_many : length os' ≡ length ts
  unfolding owners_after
  heirs_many = length-map (cells_of (levels_of n qs ts)) (λ (c : Cell Point). own c.path) ∙ sym u.many

  pub heir_number : (c : ℕ) → c < length ts → get_or os' c 0 ≡ own (nth_cell n qs ts c).path
  unfolding owners_after nth_cell
  heir_number c h = get_d_map (λ (c : Cell Point). own c.path) (cells_of (levels_of n qs ts)) c no_cell 0 (omega (arith, u.many))

  pub heir_owner : (k t : ℕ) → t < length (lv n qs ts k).cells → get_or os' ((lv n qs ts k).first + t) 0
      ≡ own (path_at (lv n qs ts k).cells t)
  heir_owner k t h =
      let a = at_level n qs ts u k t h in
      heir_number ((lv n qs ts k).first + t) a.inside ∙ ap (λ (c : Cell Point). own c.path) a.cell_is

  heir_child : (c d : ℕ) → c < length ts → Member d (children_of n qs ts c)
      → get_or os' d 0 ≡ family_after n qs ss os (nth_cell n qs ts c).path (get_or os' c 0)
  heir_child c d h m =
      let (k, mc) = level_at_lem n qs ts u c h in
      let pc = stands n qs ts u k c mc in
      let ac = at_level n qs ts u k pc.t pc.below in
      let w = kid n qs ts u k c d mc m in
      let pd = stands n qs ts u (suc k) d w.up in
      let ad = at_level n qs ts u (suc k) pd.t pd.below in
      let low = level_below n qs ts (suc k) pd.t pd.below in
      let b = born_of (lv n qs ts k) (lv n qs ts (suc k)) (level_next n qs ts k (omega arith)) pd.t pd.below in
      let cd : nth_cell n qs ts d ≡ _ = ap (nth_cell n qs ts) pd.number ∙ ad.cell_is ∙ b.is in
      let cc' : nth_cell n qs ts c ≡ _ = ap (nth_cell n qs ts) pc.number ∙ ac.cell_is in
      let pp : (lv n qs ts k).first + b.p ≡ (lv n qs ts k).first + pc.t = sym (ap (λ (c : Cell Point). c.parent) cd) ∙ w.parent
      ∙ pc.number in
      let pt : b.p ≡ pc.t = omega arith in
      let l = path_at (lv n qs ts k).cells b.p in
      let lc : l ≡ (nth_cell n qs ts c).path =
      ap (λ (x : ℕ). path_at (lv n qs ts k).cells x) pt ∙ sym (ap (λ (c : Cell Point). c.path) cc') in
      heir_number d (number_inside n qs ts u (suc k) d w.up) ∙ ap (λ (c : Cell Point). own c.path) cd
      ∙ owner_snoc n qs ss os (path_at (lv n qs ts k).cells b.p) b.i (omega (arith, path-length n qs ts k b.p b.below))
      ∙ ap (λ (l : List ℕ). family_after n qs ss os l (own l)) lc
      ∙ ap (family_after n qs ss os (nth_cell n qs ts c).path) (sym (heir_number c h))

  pub heir_family : (c d : ℕ) → c < length ts → Member d (children_of n qs ts c)
      → family_of n qs ts os' c ≡ family_after n qs ss os (nth_cell n qs ts c).path (get_or os' c 0)
  unfolding family_of
  heir_family c d h m =
      first_all (λ d. get_or os' d 0) (get_or os' c 0) (family_after n qs ss os (nth_cell n qs ts c).path (get_or os' c 0)) (children_of n qs ts c)
      (λ d m. heir_child c d h m) d m

  module _ (s : Sound n qs ss) (P : ℕ) (t : T (ownersb n qs ss P os)) where
    pub number_in : (c : ℕ) → c < length ts → (1 ≤ get_or os' c 0) × (get_or os' c 0 ≤ P)
    number_in c h =
        let (k, m) = level_at_lem n qs ts u c h in
        let p = stands n qs ts u k c m in
        subst (λ (o : ℕ). (1 ≤ o) × (o ≤ P)) (sym (ap (λ (c : ℕ). get_or os' c 0) p.number ∙ heir_owner k p.t p.below))
        (owner_in n qs ss os s P t ts k p.t p.below)

    pub heirs : T (ownersb n qs ts P os')
    unfolding ownersb
    heirs =
        let one : T (eqb (length os') (length ts)) = rw (eq-eqb (length os') (length ts) heirs_many) tt in
        let all : T (allb (λ o. leb 1 o && leb o P) os') =
        all_each (λ o. leb 1 o && leb o P) 0 os' (λ i h.
        let (a, b) = number_in i (omega (arith, heirs_many)) in
        and_both (leb 1 (get_or os' i 0)) (leb (get_or os' i 0) P) (le→leb 1 (get_or os' i 0) a) (le→leb (get_or os' i 0) P b)) in
        and_both (eqb (length os') (length ts) && allb (λ o. leb 1 o && leb o P) os')
        (allb (λ c. allb (λ d. eqb (get_or os' d 0) (family_of n qs ts os' c)) (children_of n qs ts c)) (range 0 (length ts)))
        (and_both (eqb (length os') (length ts)) (allb (λ o. leb 1 o && leb o P) os') one all)
        (member_all (λ c. allb (λ d. eqb (get_or os' d 0) (family_of n qs ts os' c)) (children_of n qs ts c)) (range 0 (length ts)) (λ c m.
        let (_, h) = member_range 0 (length ts) c m in
        member_all (λ d. eqb (get_or os' d 0) (family_of n qs ts os' c)) (children_of n qs ts c) (λ d q.
        rw (eq-eqb (get_or os' d 0) (family_of n qs ts os' c) (heir_child c d (omega arith) q ∙ sym (heir_family c d (omega arith) q))) tt)))

    pub heirs_admissible : Admissible n qs ts P os'
    heirs_admissible = admissible n qs ts P os' heirs
