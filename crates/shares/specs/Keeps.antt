-- What the owners' rule keeps (section 15 of the method), for two sound tables ss and ts over one mesh, of which the second has the owners
-- owners_after os ts.
-- Laws: coarse_keeps (a coarse cell keeps its owner), family_keeps (a family keeps its owner, cut anew or not), family_first (a first
-- family is with its parent's owner).
use Rattle.std.specs.Prelude.{◌≡◌, ◌≢◌, Bool, ◌&&◌, not, ℕ, ◌+◌, ◌<◌, eqb}
use Rattle.std.proofs.Math.Path.{sym, ap}
use Rattle.std.proofs.Common.{◌∙◌}
use mathlib.Core.List.{List, [], ◌∷◌}
use Rattle.std.proofs.Math.Decide.{ℕ_discrete}
use native.Mathlib.Omega.{arith}
use Rattle.std.proofs.Math.ListN.{length, get_or}
use borrow.Author.Tests.{eqb-false, ne_eqb}
use Rattle.base.specs.Lists.{sameb, sameb_eq}
use Rattle.base.specs.Bools.{is_false, and_left, and_right, and_both}
use Rattle.base.specs.Places.{sameb_self}
use Rattle.base.specs.Range.{range, member_range, range_member}
use Rattle.mesh.specs.Cells.{Cell}
use Rattle.mesh.specs.Weights.{Point}
use Rattle.mesh.specs.Laws.{length-coarse}
use Rattle.lineage.specs.Paths.{path_at, coarse_at}
use Rattle.lineage.specs.Met.{old_coarse}
use Rattle.soundness.specs.Sound.{Sound, lv, level_there}
use Rattle.base.specs.Member.{Member, filtered_member, member_filtered}
use Rattle.parts.specs.Owners.{nth_cell, family_of, refined_at, family_after, owner_down, owner_after, owners_after}
use Rattle.splitting.specs.Members.{first_all, first_none}
use Rattle.splitting.specs.Numbers.{first_zero, numbers_of, at_level, level_at_lem, kid_some}
use Rattle.splitting.specs.Split.{leaf_owner}
use Rattle.splitting.specs.Heirs.{heir_number, heir_family}
use Rattle.shares.specs.Held.{same_path}

-- the refined cells with a path
module _ (n : ℕ) (qs : List (List ℕ)) (ss : List ℕ) (l : List ℕ) where
  abbrev passes : ℕ → Bool
  passes c = sameb (nth_cell n qs ss c).path l && not (eqb (get_or ss c 0) 0)

  refined_in : (c : ℕ) → c < length ss → (nth_cell n qs ss c).path ≡ l → get_or ss c 0 ≢ 0 → Member c (refined_at n qs ss l)
  unfolding refined_at
  refined_in c h e z =
      member_filtered passes (range 0 (length ss)) c (range_member 0 (length ss) c (omega arith) (omega arith))
      (and_both (sameb (nth_cell n qs ss c).path l) (not (eqb (get_or ss c 0) 0)) (rw (e, sameb_self l) tt)
      (rw (ne_eqb (get_or ss c 0) 0 z) tt))

  in_refined : (c : ℕ) → Member c (refined_at n qs ss l) → (c < length ss) × ((nth_cell n qs ss c).path ≡ l) × (get_or ss c 0 ≢ 0)
  unfolding refined_at
  in_refined c m =
      let (a, b) = filtered_member passes (range 0 (length ss)) c m in
      let (_, h) = member_range 0 (length ss) c a in (
        omega arith,
        sameb_eq (nth_cell n qs ss c).path l (and_left (sameb (nth_cell n qs ss c).path l) (not (eqb (get_or ss c 0) 0)) b),
        eqb-false (get_or ss c 0) 0 (is_false (eqb (get_or ss c 0) 0) (and_right (sameb (nth_cell n qs ss c).path l)
            (not (eqb (get_or ss c 0) 0)) b)),
      )

module _ (n : ℕ) (qs : List (List ℕ)) (ss os ts : List ℕ) (s : Sound n qs ss) (u : Sound n qs ts) where
  abbrev os' : List ℕ
  os' = owners_after n qs ss os ts

  pub coarse_keeps : (c : ℕ) → c < length qs → get_or os' c 0 ≡ get_or os c 0
  unfolding owner_after owner_down
  coarse_keeps c h =
      let e = old_coarse n qs ts [] in
      let g : c < length (lv n qs ts 0).cells = omega (arith, ap length e, length-coarse n qs) in
      let a = at_level n qs ts u 0 c g in
      let z : (lv n qs ts 0).first + c ≡ c = omega (arith, first_zero n qs ts (level_there n qs ts 0 c g)) in
      let p : (nth_cell n qs ts c).path ≡ c ∷ [] =
      ap (λ (x : ℕ). (nth_cell n qs ts x).path) (sym z) ∙ ap (λ (c : Cell Point). c.path) a.cell_is
      ∙ ap (λ (cs : List (Cell Point)). path_at cs c) e ∙ ap (λ (c : Cell Point). c.path) (coarse_at n qs c h) in
      heir_number n qs ss os ts u c (omega (arith, a.inside, z)) ∙ ap (owner_after n qs ss os) p

  pub family_keeps : (c d : ℕ) → c < length ss → d < length ts → (nth_cell n qs ss c).path ≡ (nth_cell n qs ts d).path → get_or ss c 0 ≢ 0
      → get_or ts d 0 ≢ 0 → family_of n qs ts os' d ≡ family_of n qs ss os c
  unfolding family_after
  family_keeps c d hc hd e zc zd =
      let (k, m) = level_at_lem n qs ts u d hd in
      let (j, mj) = kid_some n qs ts u k d m zd in
      let l = (nth_cell n qs ts d).path in
      heir_family n qs ss os ts u d j hd mj
      ∙ first_all (family_of n qs ss os) (get_or os' d 0) (family_of n qs ss os c) (refined_at n qs ss l)
      (λ x w.
      let (h, p, _) = in_refined n qs ss (nth_cell n qs ts d).path x w in
      ap (family_of n qs ss os) (same_path n qs ss os 0 s x c h hc (p ∙ sym e)))
      c (refined_in n qs ss (nth_cell n qs ts d).path c hc e zc)

  pub family_first : (d : ℕ) → d < length ts
      → ((c : ℕ) → c < length ss → (nth_cell n qs ss c).path ≡ (nth_cell n qs ts d).path → get_or ss c 0 ≡ 0)
      → family_of n qs ts os' d ≡ get_or os' d 0
  unfolding family_after
  family_first d hd none = go (ℕ_discrete (get_or ts d 0) 0) (level_at_lem n qs ts u d hd)
    where
      go : Dec (get_or ts d 0 ≡ 0) → (k : ℕ) × Member d (numbers_of n qs ts k) → family_of n qs ts os' d ≡ get_or os' d 0
      go (yes z) (k, m) = leaf_owner n qs ts u os' k d m z
      go (no z) (k, m) =
          let (j, mj) = kid_some n qs ts u k d m z in
          heir_family n qs ss os ts u d j hd mj
          ∙ first_none (family_of n qs ss os) (get_or os' d 0) (refined_at n qs ss (nth_cell n qs ts d).path)
          (λ x w. let (h, p, y) = in_refined n qs ss (nth_cell n qs ts d).path x w in y (none x h p))
