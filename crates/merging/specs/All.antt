-- The entries of all parts: they cover the step's table, each master once.
--   entries_all X l    the entries of the parts l, one behind the other
--   Where X p l       the new cell with the path l, which the part p owns
-- Laws: entries_cover (each cell of the table has its master there, and no other masters are), where_is (a master's cell), one_part (a
-- path tells its part), all_apart (no master twice).
use Rattle.std.specs.Prelude.{◌≡◌, false, ℕ, ◌<◌, length, get_or}
use Rattle.std.proofs.Math.Path.{refl, subst}
use Rattle.std.proofs.Common.{sym, ◌∙◌, ap, ap₂}
use Rattle.std.proofs.Math.Logic.{⊎_elim}
use mathlib.Core.List.{List, [], ◌∷◌, ◌++◌, Memᴰ}
use Rattle.base.specs.Bools.{not_both}
use Rattle.mesh.specs.Table.{Level}
use Rattle.lineage.specs.Paths.{path_at}
use Rattle.lineage.specs.Met.{new_at}
use Rattle.exchange.specs.Finite.{Finite}
use Rattle.parts.specs.Held.{Entry}
use Rattle.splitting.specs.Paths.{level_below, new_lv, new_one_place}
use Rattle.shares.specs.Settled.{Settled, entries_in, new_level_in, own_in}
use Rattle.shares.specs.Present.{new_entry}
use Rattle.shares.proofs.Present.{masters_in_lem}
use Rattle.shares.proofs.Entries.{entries_are}
use Rattle.shares.proofs.Once.{each_once}
use Rattle.shares.specs.Share.{table_in}
use Rattle.base.specs.Distinct.{NoDup, no_dup_append}
use Rattle.merging.specs.Merge.{Covers}
use Rattle.merging.specs.Complete.{master_paths, path_from, paths_once, paths_append}

module _ {Part : Type 0} {F : Finite Part} (X : Settled F) where
  unfoldable pub entries_all : List Part → List Entry
  entries_all [] = []
  entries_all (p ∷ l) = entries_in X p ++ entries_all l

  of_part : (p : Part) (e : Entry) (l : List Part) → Memᴰ p l → Memᴰ e (entries_in X p) → Memᴰ e (entries_all l)
  unfolding entries_all
  of_part p e l (mathlib.Core.List.Memᴰ.head {x = x} {xs = xs} q) m = mathlib.Core.List.Memᴰ.append_left (entries_all xs) (subst (λ y. Memᴰ e (entries_in X y)) q m)
  of_part p e l (mathlib.Core.List.Memᴰ.tail {x = x} {xs = xs} t) m = mathlib.Core.List.Memᴰ.append_right (entries_in X x) (of_part p e xs t m)

  in_all : (l : List Part) (p : Part) (e : Entry) → Memᴰ p l → Memᴰ e (entries_in X p) → Memᴰ e (entries_all l)
  in_all l p e u m = of_part p e l u m

  all_in : (l : List Part) (e : Entry) → Memᴰ e (entries_all l) → (p : Part) × Memᴰ p l × Memᴰ e (entries_in X p)
  unfolding entries_all
  all_in [] e m = absurd (mathlib.Core.List.Memᴰ.not-nil m)
  all_in (p ∷ l) e m =
      ⊎_elim (λ (u : Memᴰ e (entries_in X p)). (p, mathlib.Core.List.Memᴰ.head refl, u))
      (λ (u : Memᴰ e (entries_all l)). let (q, a, v) = all_in l e u in (q, mathlib.Core.List.Memᴰ.tail a, v))
      (mathlib.Core.List.Memᴰ.append_cases (entries_in X p) m)

  pub entries_cover : (l : List Part) → ((p : Part) → Memᴰ p l) → Covers X.n X.qs (table_in X) (entries_all l)
  entries_cover l every =
      record {
        each = λ k i h.
            let g : i < length (new_level_in X k).cells =
            subst (λ (v : Level). i < length v.cells) (new_lv X.n X.qs X.ss X.ms k) h in
            subst (λ (e : Entry). Memᴰ e (entries_all l))
            (sym (ap {A = Level} {B = Entry} (λ v. record { path = path_at v.cells i; status = get_or v.statuses i 0; ghost = false })
            (new_lv X.n X.qs X.ss X.ms k)))
            (in_all l (own_in X k i) (new_entry X.n X.qs X.ss X.ms k i false) (every (own_in X k i))
            (masters_in_lem X (own_in X k i) k i (level_below X.n X.qs (table_in X) k i h) g refl));
        none_else = λ e m g.
            let (p, _, x) = all_in l e m in
            let w = entries_are X p e x in
            let q = sym (new_lv X.n X.qs X.ss X.ms w.k) in
            record {
              k = w.k;
              t = w.i;
              below = subst (λ (v : Level). w.i < length v.cells) q w.below;
              path = w.path ∙ ap (λ (v : Level). path_at v.cells w.i) q;
              status = w.status ∙ ap (λ (v : Level). get_or v.statuses w.i 0) q;
            };
      }

  abbrev n : ℕ
  n = X.n

  abbrev qs : List (List ℕ)
  qs = X.qs

  abbrev ss : List ℕ
  ss = X.ss

  abbrev ms : List ℕ
  ms = X.ms

  -- a master's path tells its part
  pub record Where (p : Part) (l : List ℕ) : Type 0 where
    pub k : ℕ
    pub i : ℕ
    pub high : k < 12
    pub below : i < length (new_at n qs ss ms k).cells
    pub path : l ≡ path_at (new_at n qs ss ms k).cells i
    pub owned : own_in X k i ≡ p

  owned_path : (p : Part) (e : Entry) → Memᴰ e (entries_in X p) → e.ghost ≡ false → (l : List ℕ) → e.path ≡ l → Where p l
  owned_path p e u g l q =
      let w = entries_are X p e u in
      record {
        k = w.k;
        i = w.i;
        high = w.high;
        below = w.below;
        path = sym q ∙ w.path;
        owned = ⊎_elim (λ (x : (e.ghost ≡ false) × (own_in X w.k w.i ≡ p)). x.1) (λ x. not_both e.ghost x.0 g) w.kind;
      }

  pub where_is : (p : Part) (l : List ℕ) → Memᴰ l (master_paths (entries_in X p)) → Where p l
  where_is p l m = let (e, u, g, q) = path_from (entries_in X p) l m in owned_path p e u g l q

  one_part : (p q : Part) (l : List ℕ) → Where p l → Where q l → p ≡ q
  one_part p q l a b =
      let (x, y) = new_one_place n qs ss ms a.k a.i b.k b.i a.below b.below (sym a.path ∙ b.path) in
      sym a.owned ∙ ap₂ (λ (x y : ℕ). own_in X x y) x y ∙ b.owned

  pub all_apart : (l : List Part) → NoDup l → NoDup (master_paths (entries_all l))
  unfolding entries_all master_paths
  all_apart [] d = tt
  all_apart (p ∷ l) d =
      subst NoDup (sym (paths_append (entries_in X p) (entries_all l)))
      (no_dup_append (master_paths (entries_in X p)) (master_paths (entries_all l))
      (paths_once (entries_in X p) (each_once X p)) (all_apart l d.1)
      (λ x u v.
      let (e, m, g, r) = path_from (entries_all l) x v in
      let (q, a, b) = all_in l e m in
      d.0 (subst (λ y. Memᴰ y l) (sym (one_part p q x (where_is p x u) (owned_path q e b g x r))) a)))
