-- How many slots there are: at most six for each cell.
-- Laws: keys_few (of a level), slots_below_lem (of lower levels), slots_all (of the table). More in proofs/Sizes.
use Rattle.std.specs.Prelude.{◌≡◌, true, false, ℕ, zero, suc, ◌+◌, ◌*◌, ◌≤◌, length}
use Rattle.std.proofs.Math.Path.{refl}
use Rattle.std.proofs.Common.{◌∙◌, ap, ⊎_elim}
use mathlib.Core.List.{List, [], ◌∷◌, ◌++◌, flat_map}
use native.Mathlib.Omega.{arith}
use Rattle.std.proofs.Math.ListN.{length-append}
use Rattle.base.specs.Bools.{either}
use Rattle.base.specs.Limits.{most_slots}
use Rattle.base.specs.Places.{hasb, add, add_old, add_new}
use Rattle.base.specs.Range.{range, length-range}
use Rattle.mesh.specs.Cells.{edges}
use Rattle.edges.specs.Pairs.{Pair, sorted, isb, add_pair, add_pairs}
use Rattle.soundness.specs.Sound.{Sound}
use Rattle.split.specs.Columns.{numbered_cell, level_at, cells_below, keys_at, slots_below}
use Rattle.tasks.specs.Levels.{below_more, below_all}
use Rattle.tasks.specs.Edges.{slots_follow}

add_few : (es : List Pair) (e : Pair) → length (add_pair es e) ≤ suc (length es)
unfolding add_pair
add_few es e =
    ⊎_elim
    (λ (t : hasb isb es (sorted e) ≡ true).
    let z : length (add isb es (sorted e)) ≡ length es = ap length (add_old isb es (sorted e) t) in
    omega arith)
    (λ (t : hasb isb es (sorted e) ≡ false).
    let z : length (add isb es (sorted e)) ≡ length (es ++ (sorted e ∷ [])) = ap length (add_new isb es (sorted e) t) in
    omega (arith, length-append es (sorted e ∷ [])))
    (either (hasb isb es (sorted e)))

adds_few : (es l : List Pair) → length (add_pairs es l) ≤ length es + length l
unfolding add_pairs
adds_few es [] = omega arith
adds_few es (e ∷ l) = omega (arith, add_few es e, adds_few (add_pair es e) l)

module _ (n : ℕ) (qs : List (List ℕ)) (ss : List ℕ) where
  length-six : (l : List ℕ) → length (flat_map (λ c. edges 0 (numbered_cell n qs ss c)) l) ≡ 6 * length l
  unfolding flat_map edges
  length-six [] = refl
  length-six (c ∷ l) =
      length-append (edges 0 (numbered_cell n qs ss c)) (flat_map (λ c. edges 0 (numbered_cell n qs ss c)) l) ∙ omega (arith, length-six l)

  pub keys_few : (k : ℕ) → length (keys_at n qs ss k) ≤ 6 * length (level_at n qs ss k).cells
  unfolding keys_at
  keys_few k =
      let l = range (cells_below n qs ss k) (length (level_at n qs ss k).cells) in
      omega (
        arith,
        adds_few [] (flat_map (λ c. edges 0 (numbered_cell n qs ss c)) (range (cells_below n qs ss k) (length (level_at n qs ss k).cells))),
        length-six (range (cells_below n qs ss k) (length (level_at n qs ss k).cells)),
        length-range (cells_below n qs ss k) (length (level_at n qs ss k).cells),
      )

  pub slots_none : slots_below n qs ss 0 ≡ 0
  unfolding slots_below
  slots_none = refl

  slots_below_lem : (k : ℕ) → slots_below n qs ss k ≤ 6 * cells_below n qs ss k
  slots_below_lem zero = omega (arith, slots_none)
  slots_below_lem (suc k) = omega (arith, slots_follow n qs ss k, below_more n qs ss k, keys_few k, slots_below_lem k)

  module _ (s : Sound n qs ss) where
    pub slots_all : (k : ℕ) → slots_below n qs ss k ≤ most_slots
    slots_all k = omega (arith, slots_below_lem k, below_all n qs ss s k, s.many, s.few)
