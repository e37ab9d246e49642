-- The numbers of first children.
--   first_children m ss   the number of the first child of each cell, in a table ss over m coarse cells, and the count of all cells
--   Firsts m ss ks       ks has the first child of each cell of the table ss, which has as many cells as statuses
-- Laws: first_start, first_add, first_next, first_up (how first_child grows), firsts_top, firsts_up (the same of ks), first_at,
-- firsts_taken, length-firsts (ks from its equation).
-- Assumes nothing.
use Rattle.std.specs.Prelude.{◌≡◌, ℕ, suc, ◌+◌, ◌-◌, ◌≤◌, ◌<◌, take, drop}
use Rattle.std.proofs.Math.Path.{sym, ap}
use Rattle.std.proofs.Common.{◌∙◌, take-add, take-suc, get_or-take}
use mathlib.Core.List.{List, [], ◌∷◌, ◌++◌, map}
use Rattle.std.proofs.Math.Nat.{zero-add}
use native.Mathlib.Omega.{arith}
use Rattle.std.proofs.Math.ListN.{length, get_or, length-take, length-map}
use Rattle.std.proofs.Math.Seq.{take_at}
use Rattle.mesh.specs.Table.{size_of, sizes}
use Rattle.base.specs.Every.{get_d_map}
use Rattle.lineage.specs.Olds.{first_child}
use Rattle.mesh.specs.Laws.{sizes_append}
use Rattle.base.specs.Range.{range, length-range, range_at}

-- the children of one cell more
sizes_next : (ss : List ℕ) (k : ℕ) → k < length ss → sizes (take (suc k) ss) ≡ sizes (take k ss) + size_of (get_or ss k 0)
unfolding sizes
sizes_next ss k h = ap sizes (take-suc ss k 0 h) ∙ sizes_append (take k ss) (get_or ss k 0 ∷ []) ∙ omega arith

-- Rule 3.2: where each family begins.
unfoldable pub first_children : ℕ → List ℕ → List ℕ
unfolding first_child range
first_children m ss = map (first_child m ss) (range 0 (suc (length ss)))

module _ (m : ℕ) (ss : List ℕ) where
  pub first_add : (a b : ℕ) → first_child m ss (a + b) ≡ first_child m ss a + sizes (take b (drop a ss))
  unfolding first_child
  first_add a b = rw (take-add a b ss, sizes_append (take a ss) (take b (drop a ss))) (omega arith)

  pub first_next : (k : ℕ) → k < length ss → first_child m ss (suc k) ≡ first_child m ss k + size_of (get_or ss k 0)
  unfolding first_child
  first_next k h = rw (sizes_next ss k h) (omega arith)

  pub first_up : (a b : ℕ) → a ≤ b → first_child m ss a ≤ first_child m ss b
  first_up a b h = let e : b ≡ a + (b - a) = omega arith in rw e (rw (first_add a (b - a)) (omega arith))

  pub first_start : first_child m ss 0 ≡ m
  unfolding first_child sizes
  first_start = omega arith

pub record Firsts (m : ℕ) (ss ks : List ℕ) : Type 0 where
  pub at : (c : ℕ) → c ≤ length ss → get_or ks c 0 ≡ first_child m ss c
  pub whole : first_child m ss (length ss) ≡ length ss

module _ (m : ℕ) (ss ks : List ℕ) where
  pub first_at : take (suc (length ss)) ks ≡ first_children m ss → (c : ℕ) → c ≤ length ss → get_or ks c 0 ≡ first_child m ss c
  unfolding first_children
  first_at e c h =
      sym (get_or-take (suc (length ss)) ks c 0 (omega arith)) ∙ ap (λ (l : List ℕ). get_or l c 0) e
      ∙ get_d_map (first_child m ss) (range 0 (suc (length ss))) c 0 0 (rw (length-range 0 (suc (length ss))) (omega arith))
      ∙ ap (first_child m ss) (range_at 0 (suc (length ss)) c 0 (omega arith) ∙ zero-add c)

  -- what first_children leaves
  pub firsts_taken : (rest : List ℕ) → ks ≡ first_children m ss ++ rest → take (suc (length ss)) ks ≡ first_children m ss
  unfolding first_children
  firsts_taken rest e =
      ap (take (suc (length ss))) e
      ∙ take_at (first_children m ss) rest (suc (length ss)) (length-map (range 0 (suc (length ss))) (first_child m ss)
      ∙ length-range 0 (suc (length ss)))

  -- as many as cells, and one
  pub length-firsts : take (suc (length ss)) ks ≡ first_children m ss → length ss < length ks
  unfolding first_children
  length-firsts e =
      omega (
        arith,
        length-take (suc (length ss)) ks,
        ap length e ∙ length-map (range 0 (suc (length ss))) (first_child m ss) ∙ length-range 0 (suc (length ss)),
      )

  module _ (f : Firsts m ss ks) where
    pub firsts_top : (c : ℕ) → c ≤ length ss → get_or ks c 0 ≤ length ss
    firsts_top c h = rw (f.at c h) (omega (arith, first_up m ss c (length ss) h, f.whole))

    pub firsts_up : (a b : ℕ) → a ≤ b → b ≤ length ss → get_or ks a 0 ≤ get_or ks b 0
    firsts_up a b h g = rw (f.at a (omega arith), f.at b g) (first_up m ss a b h)
