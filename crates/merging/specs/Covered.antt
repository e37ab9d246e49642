-- The masters and ghosts of all parts of a split table, whatever the order of the parts.
-- Laws: covered (they have each cell's master, and no other), split_apart (no master twice).
use Rattle.std.specs.Prelude.{◌≡◌, false, ℕ, ◌+◌, ◌≤◌, T, get_or}
use Rattle.std.proofs.Math.Path.{sym, subst}
use Rattle.std.proofs.Common.{◌∙◌, ap, ap₂}
use Rattle.std.proofs.Math.Logic.{⊎_elim}
use mathlib.Core.List.{List, [], ◌∷◌, flat_map, Memᴰ, flatten}
use Rattle.base.specs.Lists.{memberb}
use Rattle.base.specs.Bools.{not_both}
use Rattle.mesh.specs.Cells.{Cell}
use Rattle.mesh.specs.Weights.{Point}
use Rattle.soundness.specs.Sound.{Sound, lv}
use Rattle.base.specs.Member.{Member, member_cases}
use Rattle.parts.specs.Owners.{nth_cell, ownersb}
use Rattle.parts.specs.Held.{Entry, masterb, entries_of}
use Rattle.splitting.specs.Numbers.{at_level, stands, level_at_lem}
use Rattle.splitting.specs.Admissible.{admissible}
use Rattle.shares.specs.Grow.{entry_by}
use Rattle.shares.specs.Held.{master_held, held_is, same_path, held_once}
use Rattle.base.specs.Distinct.{NoDup, no_dup_append, in_flat, flat_in}
use Rattle.merging.specs.Merge.{Covers}
use Rattle.merging.specs.Complete.{master_paths, path_from, paths_once, paths_append}

module _ (n : ℕ) (qs : List (List ℕ)) (ss : List ℕ) (s : Sound n qs ss) (P : ℕ) (os : List ℕ) (t : T (ownersb n qs ss P os))
    (ps : List ℕ) (every : (p : ℕ) → 1 ≤ p → p ≤ P → Member p ps) where
  pub covered : Covers n qs ss (flat_map (entries_of n qs ss os) ps)
  covered =
      record {
        each = λ k i h.
            let a = at_level n qs ss s k i h in
            let c = (lv n qs ss k).first + i in
            let (p, x, y, m) = (admissible n qs ss P os t).A2 ((lv n qs ss k).first + i) a.inside in
            subst (λ (e : Entry). Memᴰ e (flat_map (entries_of n qs ss os) ps))
            (ap₂ (λ (l : List ℕ) (x : ℕ). entry_by l x false) (ap (λ (c : Cell Point). c.path) a.cell_is) a.status_is)
            (in_flat (entries_of n qs ss os) ps p (entry_by (nth_cell n qs ss ((lv n qs ss k).first + i)).path
            (get_or ss ((lv n qs ss k).first + i) 0) false)
            (every p x y) (master_held n qs ss os p ((lv n qs ss k).first + i) a.inside m));
        none_else = λ e m g.
            let (p, _, x) = flat_in (entries_of n qs ss os) ps e m in
            let w = held_is n qs ss os p e x in
            let (k, mc) = level_at_lem n qs ss s w.c w.below in
            let pl = stands n qs ss s k w.c mc in
            let a = at_level n qs ss s k pl.t pl.below in
            record {
              k = k;
              t = pl.t;
              below = pl.below;
              path = ap (λ (e : Entry). e.path) w.is ∙ ap (λ (x : ℕ). (nth_cell n qs ss x).path) pl.number
                  ∙ ap (λ (c : Cell Point). c.path) a.cell_is;
              status = ap (λ (e : Entry). e.status) w.is ∙ ap (λ (x : ℕ). get_or ss x 0) pl.number ∙ a.status_is;
            };
      }

module _ (n : ℕ) (qs : List (List ℕ)) (ss : List ℕ) (s : Sound n qs ss) (P : ℕ) (os : List ℕ) (t : T (ownersb n qs ss P os)) where
  mem_of : (x : ℕ) (l : List ℕ) → Member x l → Memᴰ x l
  unfolding memberb
  mem_of x [] m = absurd m
  mem_of x (y ∷ l) m = ⊎_elim (λ (e : x ≡ y). Memᴰ.head e) (λ (v : Member x l). Memᴰ.tail (mem_of x l v)) (member_cases x y l m)

  -- a cell has one master
  one_master : (p q : ℕ) (e f : Entry) → Memᴰ e (entries_of n qs ss os p) → Memᴰ f (entries_of n qs ss os q)
      → e.ghost ≡ false → f.ghost ≡ false → e.path ≡ f.path → p ≡ q
  one_master p q e f m m' g g' r =
      let v = held_is n qs ss os p e m in
      let w = held_is n qs ss os q f m' in
      let pv = ap (λ (e : Entry). e.path) v.is in
      let pw = ap (λ (e : Entry). e.path) w.is in
      let same : v.c ≡ w.c = same_path n qs ss os p s v.c w.c v.below w.below (sym pv ∙ r ∙ pw) in
      let a : T (masterb os p v.c) =
      ⊎_elim (λ (x : (e.ghost ≡ false) × T (masterb os p v.c)). x.1) (λ x. not_both e.ghost x.0 g) v.kind in
      let b : T (masterb os q w.c) =
      ⊎_elim (λ (x : (f.ghost ≡ false) × T (masterb os q w.c)). x.1) (λ x. not_both f.ghost x.0 g') w.kind in
      (admissible n qs ss P os t).A3 p q v.c a (subst (λ (c : ℕ). T (masterb os q c)) (sym same) b)

  pub split_apart : (ps : List ℕ) → NoDup ps → NoDup (master_paths (flat_map (entries_of n qs ss os) ps))
  unfolding flat_map flatten master_paths
  split_apart [] d = tt
  split_apart (p ∷ l) d =
      subst NoDup (sym (paths_append (entries_of n qs ss os p) (flat_map (entries_of n qs ss os) l)))
      (no_dup_append (master_paths (entries_of n qs ss os p)) (master_paths (flat_map (entries_of n qs ss os) l))
      (paths_once (entries_of n qs ss os p) (held_once n qs ss os p s)) (split_apart l d.1)
      (λ x u v.
      let (e, m, g, r) = path_from (entries_of n qs ss os p) x u in
      let (f, m', g', r') = path_from (flat_map (entries_of n qs ss os) l) x v in
      let (q, a, b) = flat_in (entries_of n qs ss os) l f m' in
      d.0 (subst (λ (y : ℕ). Memᴰ y l) (sym (one_master p q e f m b g g' (r ∙ sym r'))) (mem_of q l a))))
