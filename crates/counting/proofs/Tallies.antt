-- How many statuses pass a test, one more cell at a time.
-- Assumes nothing.
use Rattle.std.proofs.Common.{◌≡◌, refl, sym, ◌∙◌, Bool, true, false, List, [], ◌∷◌, ◌++◌, ℕ, suc, ◌+◌, ◌-◌, ◌≤◌, ◌<◌, length, get_or, take, arith}
use Rattle.std.proofs.Math.Seq.{take-suc}
use Rattle.std.proofs.lemmas.List.{length-take}
use Rattle.base.specs.Lists.{filterb}
use Rattle.base.specs.Bools.{one_if, one_most}
use Rattle.mesh.specs.Counts.{count_if}
use Rattle.rows.specs.Numbered.{part}
use Rattle.rows.specs.Laws.{length_part}
use Rattle.counting.specs.Levels.{counts_at, own_counts}

module _ (f : ℕ → Bool) where
  count_cons : (s : ℕ) (ss : List ℕ) → count_if f (s ∷ ss) ≡ one_if (f s) + count_if f ss
  unfolding count_if filterb one_if
  count_cons s ss = go (f s) refl
    where
      go : (b : Bool) → f s ≡ b → length (filterb f (s ∷ ss)) ≡ one_if (f s) + length (filterb f ss)
      go true e = rw (e, filterb) (omega arith)
      go false e = rw (e, filterb) (omega arith)

  count_snoc : (ss : List ℕ) (s : ℕ) → count_if f (ss ++ (s ∷ [])) ≡ count_if f ss + one_if (f s)
  count_snoc [] s = count_cons s [] ∙ none
    where
      none : one_if (f s) + count_if f [] ≡ count_if f [] + one_if (f s)
      none = omega arith
  count_snoc (x ∷ ss) s = omega (arith, count_cons x (ss ++ (s ∷ [])), count_cons x ss, count_snoc ss s)

  count_few : (ss : List ℕ) → count_if f ss ≤ length ss
  unfolding count_if filterb
  count_few [] = omega arith
  count_few (s ∷ ss) = omega (arith, count_cons s ss, one_most (f s), count_few ss)

  pub count_most : (l : List ℕ) (m : ℕ) → count_if f (take m l) ≤ m
  count_most l m = omega (arith, count_few (take m l), length-take m l)

  pub count_none : 0 ≡ count_if f []
  unfolding count_if filterb
  count_none = refl

  -- a turn adds 1 for a status that passes
  pub count_turn : (l : List ℕ) (i : ℕ) → i < length l → {n m : ℕ} → n ≡ count_if f (take i l) → m ≡ one_if (f (get_or l i 0))
      → n + m ≡ count_if f (take (i + 1) l)
  count_turn l i h p q =
      let k : i + 1 ≡ suc i = omega arith in
      rw (p, q, k, take-suc l i 0 h) (sym (count_snoc (take i l) (get_or l i 0)))

pub own_is : (first last : ℕ) (ss : List ℕ) → first ≤ last → last ≤ length ss → own_counts (part ss first (last - first)) ≡ counts_at first last ss
unfolding own_counts counts_at
own_is first last ss h g = rw (length_part ss first (last - first) (omega arith))

pub own_four : (own : List ℕ) → length (own_counts own) ≡ 4
unfolding own_counts
own_four own = refl
