-- A cell that was there has after the step what it keeps.
-- Law: status_kept.
use Rattle.std.specs.Prelude.{◌≡◌, ◌⊎◌, Bool, true, false, ℕ, ◌<◌, T, length}
use Rattle.std.proofs.Math.Path.{sym, ap}
use Rattle.std.proofs.Common.{◌∙◌, inl, inr}
use mathlib.Core.List.{List, [], map}
use Rattle.std.proofs.Math.ListN.{get_or}
use borrow.Author.Tests.{eqb-true}
use Rattle.base.specs.Lists.{sameb}
use Rattle.base.specs.Bools.{either}
use Rattle.mesh.specs.Cells.{redb, heldb, bits_of, pattern, no_cell}
use Rattle.mesh.specs.Table.{soundb}
use Rattle.kept.specs.Laws.{kept_red, kept_pattern}
use Rattle.kept.specs.KeptAt.{kept_at}
use Rattle.lineage.specs.Same.{Is, Fresh}
use Rattle.lineage.specs.Flags.{new_red_at}
use Rattle.lineage.specs.Met.{Matched, old_at, old_above, new_at, flagged, met}
use Rattle.carriers.specs.Joins.{Edge}
use Rattle.soundness.specs.Sound.{Sound, sound_from}
use Rattle.soundness.specs.Meets.{edges_alike}
use Rattle.succession.specs.After.{new_edges, new_status_lem}

module _ (n : ℕ) (qs : List (List ℕ)) (ss ms : List ℕ) (s : Sound n qs ss) where
  abbrev sound : T (soundb n qs ss)
  sound = sound_from n qs ss s

  abbrev will : ℕ → ℕ → Bool
  will k t = new_red_at ms (old_above n qs ss k) (old_at n qs ss k) t

  pub status_kept : (k : ℕ) → k < 12 → (v : ℕ) → v < length (new_at n qs ss ms k).cells → (t : ℕ)
      → Is (old_at n qs ss k) t (get_or (new_at n qs ss ms k).cells v no_cell) → T (get_or (new_at n qs ss ms k).cells v no_cell).regular
      → get_or (new_at n qs ss ms k).statuses v 0 ≡ kept_at n qs ss ms k t
  unfolding pattern
  status_kept k g v h t is r = go (met n qs ss ms sound k v h r)
    where
      by : redb (get_or (new_at n qs ss ms k).statuses v 0) ≡ will k t → (will k t ≡ true) ⊎ (will k t ≡ false)
          → get_or (new_at n qs ss ms k).statuses v 0 ≡ kept_at n qs ss ms k t
      by e (inl y) =
          eqb-true (get_or (new_at n qs ss ms k).statuses v 0) 64 (e ∙ y)
          ∙ sym (kept_red [] sameb (new_edges n qs ss ms k) (will k t) (get_or (old_at n qs ss k).cells t no_cell) y)
      by e (inr y) =
          new_status_lem n qs ss ms s k g v h r (e ∙ y)
          ∙ ap (λ (l : List Edge). bits_of (map (heldb sameb (new_edges n qs ss ms k)) l))
          (sym (edges_alike (get_or (old_at n qs ss k).cells t no_cell) (get_or (new_at n qs ss ms k).cells v no_cell) is.points))
          ∙ sym (kept_pattern [] sameb (new_edges n qs ss ms k) (will k t) (get_or (old_at n qs ss k).cells t no_cell) y)

      go : Matched ms (old_above n qs ss k) (old_at n qs ss k) (get_or (new_at n qs ss ms k).cells v no_cell)
          (get_or (new_at n qs ss ms k).statuses v 0)
          ⊎ ((redb (get_or (new_at n qs ss ms k).statuses v 0) ≡ false) × Fresh (old_at n qs ss k)
          (get_or (new_at n qs ss ms k).cells v no_cell))
          → get_or (new_at n qs ss ms k).statuses v 0 ≡ kept_at n qs ss ms k t
      go (inl w) =
          let y : w.t ≡ t = (flagged n qs ss ms sound k).paths w.t t w.is.below is.below (w.is.path ∙ sym is.path) in
          by (w.red ∙ ap (will k) y) (either (will k t))
      go (inr (a, f)) = absurd (f t is.below is.regular is.path)
