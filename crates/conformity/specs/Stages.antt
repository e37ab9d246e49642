-- The cells of a level and the leaves below, level by level.
--   leaves_on l           the leaves of a level; leaves_at n qs ss j  those of the level j
--   below n qs ss j      the leaves of the levels below j
--   stage n qs ss j      these and the cells of the level j
-- Laws: below_next (one level more), below_old (the leaves below are old), pattern_at, reads_at (the pattern of a regular cell), carry (how
-- often some points are there one level up, by how often others are there on the level).
use Rattle.std.specs.Prelude.{◌≡◌, refl, Bool, true, false, T, length, get_or, take}
use Rattle.std.proofs.Common.{sym, ◌∙◌, ap, ap₂, inl, inr, mul-add, arith, eqb-true}
use Rattle.std.proofs.Math.Path.{subst}
use mathlib.Core.List.{List, [], ◌∷◌, ◌++◌, flat_map, append_assoc, append-nil}
use Prim.Native.Nat.{ℕ, zero, suc, ◌+◌, ◌*◌, ◌<◌, ◌≤◌}
use Rattle.base.specs.Lists.{sameb}
use Rattle.base.specs.Bools.{one_if, is_true, not_both}
use Rattle.cutting.specs.Rule.{split, family}
use Rattle.mesh.specs.Cells.{Cell, redb, pattern_of, edge, heldb, red_edges, no_cell}
use Rattle.mesh.specs.Weights.{Point, point}
use Rattle.mesh.specs.Table.{Level, levels_of, next}
use Rattle.base.specs.Every.{All, all_append, all_more}
use Rattle.lattice.specs.Levels.{no_level, IfRegular}
use Rattle.carriers.specs.Lists.{held_at}
use Rattle.carriers.specs.Carrier.{joins_self}
use Rattle.carriers.specs.Patterns.{split_red, split_pattern}
use Rattle.carriers.specs.Refined.{status_regular, status_green, pattern_red, pattern_green, asked_small}
use Rattle.soundness.specs.Held.{red_at_lem, closed_at, closed-length, regular_at}
use Rattle.soundness.specs.Sound.{Sound, lv, level_closed, level_next}
use Rattle.conformity.specs.Leaves.{leaves_in}
use Rattle.conformity.specs.Having.{withinb, count, count_digits, count_both, Scaled, count_scaled, digits_leaf, Carried, count_level}
use Rattle.conformity.specs.Shared.{Reads}
use Rattle.conformity.specs.Open.{leaves_each}
use Rattle.conformity.specs.Old.{OldCell, reds_at}
use Rattle.conformity.specs.Olds.{old_at_lem}

-- Rule 4.1.
abbrev pub leaves_on : Level → List (Cell Point)
leaves_on l = leaves_in l.cells l.statuses

module _ (n : ℕ) (qs : List (List ℕ)) (ss : List ℕ) where
  abbrev pub leaves_at : ℕ → List (Cell Point)
  leaves_at j = leaves_on (lv n qs ss j)

  unfoldable pub below : ℕ → List (Cell Point)
  unfolding flat_map
  below j = flat_map leaves_on (take j (levels_of n qs ss))

  abbrev pub stage : ℕ → List (Cell Point)
  stage j = below j ++ (lv n qs ss j).cells

take_next : (ls : List Level) (j : ℕ) → flat_map leaves_on (take (suc j) ls) ≡ flat_map leaves_on (take j ls) ++ leaves_on (get_or ls j no_level)
unfolding flat_map leaves_in
take_next [] zero = refl
take_next [] (suc j) = refl
take_next (l ∷ ls) zero = append-nil (leaves_on l)
take_next (l ∷ ls) (suc j) = ap (λ (r : List (Cell Point)). leaves_on l ++ r) (take_next ls j)
    ∙ sym (append_assoc (leaves_on l) (flat_map leaves_on (take j ls)) (leaves_on (get_or ls j no_level)))

pub below_next : (n : ℕ) (qs : List (List ℕ)) (ss : List ℕ) (j : ℕ) → below n qs ss (suc j) ≡ below n qs ss j ++ leaves_at n qs ss j
unfolding below
below_next n qs ss j = take_next (levels_of n qs ss) j

module _ (n : ℕ) (qs : List (List ℕ)) (ss : List ℕ) (s : Sound n qs ss) (regular : (i : ℕ) → All (IfRegular n i) (lv n qs ss i).cells)
  where
    pub below_old : (j i : ℕ) → i ≤ j → j ≤ 10 → All (OldCell n qs ss j) (below n qs ss i)
    unfolding below
    below_old j zero h l = tt
    below_old j (suc i) h l =
        subst (All (OldCell n qs ss j)) (sym (below_next n qs ss i))
        (all_append (OldCell n qs ss j) (below n qs ss i) (leaves_at n qs ss i) (below_old j i (omega arith) l)
        (leaves_each (OldCell n qs ss j) (lv n qs ss i).cells (lv n qs ss i).statuses
        (λ u hu g e. old_at_lem n qs ss s regular i u j (omega arith) l hu (inl (omega arith)))))

    -- the pattern of a regular cell
    module _ (j v : ℕ) (hv : v < length (lv n qs ss j).cells) where
      pub pattern_at : pattern_of (get_or (lv n qs ss j).statuses v 0) < 64
      pattern_at =
          let l = lv n qs ss j in
          asked_small (red_edges [] l.cells l.statuses) (get_or l.cells v no_cell) (get_or l.statuses v 0)
          (closed_at l (level_closed n qs ss s.closed j) v hv).1

      pub reads_at : T (get_or (lv n qs ss j).cells v no_cell).regular → Reads (reds_at n qs ss j) (get_or (lv n qs ss j).cells v no_cell)
          (pattern_of (get_or (lv n qs ss j).statuses v 0))
      reads_at rv y hy = go (redb (get_or (lv n qs ss j).statuses v 0)) refl
        where
          go : (b : Bool) → redb (get_or (lv n qs ss j).statuses v 0) ≡ b
              → split (pattern_of (get_or (lv n qs ss j).statuses v 0)) y ≡ heldb sameb (reds_at n qs ss j)
              (edge [] (get_or (lv n qs ss j).cells v no_cell) y)
          go true e =
              let l = lv n qs ss j in
              let c = get_or l.cells v no_cell in
              let w : T (heldb sameb (reds_at n qs ss j) (edge [] c y)) = red_at_lem (edge [] c y) l.cells l.statuses (record {
                i = v;
                below = hv;
                known = (closed_at l (level_closed n qs ss s.closed j) v hv).0;
                red = eqb-true (get_or l.statuses v 0) 64 e;
                has = held_at [] c sameb (edge [] c y) y hy (joins_self (edge [] c y));
              }) in
              ap (λ (p : ℕ). split p y) (pattern_red (get_or l.statuses v 0) e) ∙ split_red y hy
              ∙ sym (is_true (heldb sameb (reds_at n qs ss j) (edge [] c y)) w)
          go false e =
              let l = lv n qs ss j in
              let c = get_or l.cells v no_cell in
              let t = get_or l.statuses v 0 in
              let st = (closed_at l (level_closed n qs ss s.closed j) v hv).1 in
              ap (λ (p : ℕ). split p y) (pattern_green t e ∙ status_green (reds_at n qs ss j) c t st rv e)
              ∙ split_pattern [] sameb (reds_at n qs ss j) c y hy

    pub carry : (j : ℕ) → j < 10 → (u t : List Point) (h : ℕ)
        → ((v : ℕ) → v < length (lv n qs ss j).cells → T (get_or (lv n qs ss j).cells v no_cell).regular
        → count_digits u (point (get_or (lv n qs ss j).cells v no_cell)) (family (pattern_of (get_or (lv n qs ss j).statuses v 0))) ≡ h * one_if
        (withinb t (get_or (lv n qs ss j).cells v no_cell).points))
        → ((o : Cell Point) → OldCell n qs ss j o → Scaled u t h o)
        → count u (stage n qs ss (suc j)) ≡ h * count t (stage n qs ss j)
    carry j hj u t h f g =
        let l = lv n qs ss j in
        let a : count u (below n qs ss j) ≡ h * count t (below n qs ss j) =
        count_scaled u t h (below n qs ss j)
        (all_more (OldCell n qs ss j) (Scaled u t h) g (below n qs ss j) (below_old j j (omega arith) (omega arith))) in
        let b : count u (leaves_at n qs ss j) + count u (next l.first l.cells l.statuses) ≡ h * count t l.cells =
        count_level u t h l.first l.cells l.statuses (closed-length l (level_closed n qs ss s.closed j))
        (λ v hv. at v hv (get_or l.cells v no_cell).regular refl) in
        let e0 : stage n qs ss (suc j) ≡ (below n qs ss j ++ leaves_at n qs ss j) ++ next l.first l.cells l.statuses = ap₂ ◌++◌
        (below_next n qs ss j) (level_next n qs ss j (omega arith)) in
        let e1 = count_both u (below n qs ss j ++ leaves_at n qs ss j) (next l.first l.cells l.statuses) in
        let e2 = count_both u (below n qs ss j) (leaves_at n qs ss j) in
        let e3 = count_both t (below n qs ss j) l.cells in
        ap (count u) e0 ∙ e1 ∙ ap (λ (m : ℕ). m + count u (next l.first l.cells l.statuses)) e2
        ∙ omega (arith, a, b) ∙ sym (mul-add h (count t (below n qs ss j)) (count t l.cells)) ∙ ap (λ (m : ℕ). h * m) (sym e3)
      where
        at : (v : ℕ) → v < length (lv n qs ss j).cells → (b : Bool) → (get_or (lv n qs ss j).cells v no_cell).regular ≡ b
            → Carried u t h (get_or (lv n qs ss j).cells v no_cell) (get_or (lv n qs ss j).statuses v 0)
        at v hv true e =
            let l = lv n qs ss j in
            let c = get_or l.cells v no_cell in
            let rc : T c.regular = rw e tt in
            let r = regular_at n j l (regular j) v hv rc in
            let k = f v hv rc in (
              λ z. sym (digits_leaf u c r.four) ∙ ap (λ (s : ℕ). count_digits u (point c) (family (pattern_of s))) (sym z) ∙ k,
              λ z. k,
            )
        at v hv false e =
            let l = lv n qs ss j in
            let c = get_or l.cells v no_cell in
            let t' = get_or l.statuses v 0 in
            let st = (closed_at l (level_closed n qs ss s.closed j) v hv).1 in (
              λ z. g c (old_at_lem n qs ss s regular j v j (omega arith) (omega arith) hv (inr e)),
              λ z. not_both c.regular (is_true c.regular (status_regular (reds_at n qs ss j) c t' st z)) e,
            )
