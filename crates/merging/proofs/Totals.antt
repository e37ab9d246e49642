-- The masters of all parts are as many as the cells of the step's table, so 8 and 9 follow from the totals (ends).
use Rattle.std.specs.Prelude.{◌≡◌, Bool, false, ℕ, zero, suc, ◌+◌, ◌≤◌, ◌<◌, pred, T}
use Rattle.std.proofs.Math.Path.{refl, sym, ap, ap₂}
use Rattle.std.proofs.Common.{◌∙◌, subst, arith, leb→le, le→leb, length-append}
use Rattle.std.proofs.Math.Bool.{not}
use mathlib.Core.List.{List, [], ◌∷◌, Memᴰ, flatten}
use Rattle.std.proofs.Math.Dec.{leb}
use Rattle.std.proofs.Math.ListN.{length}
use Rattle.base.specs.Limits.{most_cells, most_levels}
use Rattle.base.specs.Refuse.{refuse}
use Rattle.base.specs.Answer.{Accepted}
use Rattle.base.specs.Bools.{same_test}
use Rattle.lineage.specs.Olds.{step_by}
use Rattle.lineage.specs.Paths.{path_at}
use Rattle.lineage.specs.Met.{new_at}
use Rattle.soundness.specs.Grown.{new_many}
use Rattle.exchange.specs.Finite.{Finite, sum_over}
use Rattle.rounds.specs.Rounds.{capped}
use Rattle.rounds.specs.Among.{largest_in}
use Rattle.splitting.specs.Paths.{new-length}
use Rattle.shares.specs.Settled.{Settled, entries_in, own_in}
use Rattle.shares.specs.Present.{new_entry}
use Rattle.shares.proofs.Present.{masters_in_lem}
use Rattle.base.specs.Distinct.{NoDup}
use Rattle.merging.specs.Complete.{master_paths, path_by, paths_append, masters_counted}
use Rattle.merging.specs.All.{entries_all, entries_cover, where_is, all_apart}
use Rattle.merging.specs.Limits.{top_of, end_of, largest_from, capped_few, levels_eleven}

-- a path on level 11
longer : (l : List ℕ) → 10 < pred (length l) → 12 ≤ length l
longer l h = go (length l) h
  where
    go : (n : ℕ) → 10 < pred n → 12 ≤ n
    go zero h = absurd (omega arith)
    go (suc n) h = omega arith

top_from : (ls : List (List ℕ)) → 10 < top_of ls → (l : List ℕ) × Memᴰ l ls × (10 < pred (length l))
unfolding top_of
top_from ls h = largest_from (λ l. pred (length l)) 10 ls h

top_by : (ls : List (List ℕ)) (l : List ℕ) → Memᴰ l ls → length l ≡ 12 → 11 ≤ top_of ls
unfolding top_of
top_by ls l m e = let z : pred (length l) ≡ 11 = ap pred e in omega (arith, largest_in (λ l. pred (length l)) ls l m)

module _ {Part : Type 0} {F : Finite Part} (X : Settled F) where
  abbrev n : ℕ
  n = X.n

  abbrev qs : List (List ℕ)
  qs = X.qs

  abbrev ss : List ℕ
  ss = X.ss

  abbrev ms : List ℕ
  ms = X.ms

  abbrev masters_of : Part → ℕ
  masters_of = Rattle.merging.specs.Totals.masters_of X

  length-all : (l : List Part) → sum_over masters_of l ≡ length (master_paths (entries_all X l))
  unfolding sum_over entries_all master_paths
  length-all [] = refl
  length-all (p ∷ l) =
      ap (λ (x : ℕ). masters_of p + x) (length-all l) ∙ sym (length-append (master_paths (entries_in X p)) (master_paths (entries_all X l)))
      ∙ ap length (sym (paths_append (entries_in X p) (entries_all X l)))

  -- as many masters as cells
  totals_are : (l : List Part) → ((p : Part) → Memᴰ p l) → NoDup l → sum_over masters_of l ≡ length (flatten (step_by n qs ss ms))
  totals_are l every d =
      length-all l ∙ masters_counted n qs (flatten (step_by n qs ss ms)) (entries_all X l) (entries_cover X l every) (all_apart X l d)
      ∙ sym (new_many n qs ss ms)

  -- a master on level 11
  deep_by : (i : ℕ) → i < length (new_at n qs ss ms 11).cells
      → (p : Part) × ((l : List ℕ) × Memᴰ l (master_paths (entries_in X p)) × (length l ≡ 12))
  deep_by i h =
      let p = own_in X 11 i in (
        p,
        (
          path_at (new_at n qs ss ms 11).cells i,
          path_by (entries_in X p) (new_entry n qs ss ms 11 i false) (masters_in_lem X p 11 i (omega arith) h refl) refl,
          new-length n qs ss ms 11 i h,
        ),
      )

  deep_from : (p : Part) (l : List ℕ) → Memᴰ l (master_paths (entries_in X p)) → 12 ≤ length l
      → (i : ℕ) × (i < length (new_at n qs ss ms 11).cells)
  deep_from p l m e =
      let w = where_is X p l m in
      let q : suc w.k ≡ length l = sym (new-length n qs ss ms w.k w.i w.below) ∙ ap length (sym w.path) in
      let z : w.k ≡ 11 = omega (arith, w.high) in
      (w.i, subst (λ (k : ℕ). w.i < length (new_at n qs ss ms k).cells) z w.below)

  abbrev high_in : ℕ
  high_in = Rattle.merging.specs.Totals.high_in X

  high_is : leb 11 high_in ≡ leb 1 (length (new_at n qs ss ms 11).cells)
  high_is = same_test (leb 11 high_in) (leb 1 (length (new_at n qs ss ms 11).cells)) up down
    where
      up : T (leb 11 high_in) → T (leb 1 (length (new_at n qs ss ms 11).cells))
      up t =
          let h = leb→le 11 high_in t in
          let (p, _, g) = largest_from (λ p. top_of (master_paths (entries_in X p))) 10 F.list (omega arith) in
          let (l, m, k) = top_from (master_paths (entries_in X p)) g in
          let (i, b) = deep_from p l m (longer l k) in
          le→leb 1 (length (new_at n qs ss ms 11).cells) (omega arith)

      down : T (leb 1 (length (new_at n qs ss ms 11).cells)) → T (leb 11 high_in)
      down t =
          let h = leb→le 1 (length (new_at n qs ss ms 11).cells) t in
          let (p, (l, m, e)) = deep_by 0 (omega arith) in
          le→leb 11 high_in
          (omega (
            arith,
            top_by (master_paths (entries_in X p)) l m e,
            largest_in (λ p. top_of (master_paths (entries_in X p)))
                F.list p (F.all p),
          ))

  -- what every part finds from the totals is what the serial step answers
  pub ends : NoDup F.list → end_of (capped (sum_over masters_of F.list)) high_in
      ≡ refuse 8 (leb (length (step_by n qs ss ms)) most_levels) (refuse 9 (leb (length (flatten (step_by n qs ss ms))) most_cells) Accepted)
  unfolding end_of
  ends d =
      ap₂ (λ (a b : Bool). refuse 8 a (refuse 9 b Accepted)) (ap not high_is ∙ sym (levels_eleven n qs ss ms))
      (capped_few (sum_over masters_of F.list) ∙ ap (λ (x : ℕ). leb x most_cells) (totals_are F.list F.all d))
