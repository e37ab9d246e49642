-- A coarse mesh at rest is sound: one level, of leaves.
-- Assumes nothing.
use Rattle.std.specs.Prelude.{◌≡◌, refl, Bool, true, ◌&&◌, ◌||◌, ℕ, zero, suc, ◌≤◌, ◌<◌, eqb, leb, length, take, replicate}
use Rattle.std.proofs.Math.Path.{sym}
use Rattle.std.proofs.Common.{◌∙◌, ap, arith, take_all}
use mathlib.Core.List.{List, [], ◌∷◌, flat_map, append-nil}
use Rattle.std.proofs.lemmas.List.{length-replicate}
use borrow.Author.Tests.{le-leb, eq-eqb}
use Rattle.base.specs.Limits.{most_cells, most_levels}
use Rattle.base.specs.Lists.{allb, sameb}
use Rattle.mesh.specs.Cells.{Cell, edges, heldb, red_edges, closed_from, status_of, pattern, children, bits_of}
use Rattle.mesh.specs.Weights.{Point, coarse_from, coarse_cells}
use Rattle.mesh.specs.Table.{Level, next, levels, levels_of, cells_of, closedb, apartb, soundb}
use Rattle.replay.specs.Run.{rest_table}
use Rattle.mesh.specs.Laws.{length_from}

abbrev zeros : ℕ → List ℕ
zeros k = replicate k 0

no_children : (k : ℕ) (cs : List (Cell Point)) (j : ℕ) → next k cs (zeros j) ≡ []
unfolding next children
no_children k [] j = refl
no_children k (c ∷ cs) zero = refl
no_children k (c ∷ cs) (suc j) = no_children (suc k) cs j

no_reds : (cs : List (Cell Point)) (j : ℕ) → red_edges [] cs (zeros j) ≡ []
unfolding red_edges
no_reds [] j = refl
no_reds (c ∷ cs) zero = refl
no_reds (c ∷ cs) (suc j) = no_reds cs j

all_closed : (n i : ℕ) (qs : List (List ℕ)) → closed_from [] sameb [] (coarse_from n i qs) (zeros (length qs)) ≡ true
unfolding closed_from coarse_from status_of pattern edges bits_of heldb
all_closed n i [] = refl
all_closed n i (q ∷ qs) = all_closed n (suc i) qs

-- a coarse cell is regular
all_regular : (f : Cell Point → Bool) (n i : ℕ) (qs : List (List ℕ)) → allb (λ c. c.regular || f c) (coarse_from n i qs) ≡ true
unfolding allb coarse_from
all_regular f n i [] = refl
all_regular f n i (q ∷ qs) = all_regular f n (suc i) qs

-- one level
rest_levels : (n : ℕ) (q : List ℕ) (qs : List (List ℕ))
    → levels_of n (q ∷ qs) (rest_table (q ∷ qs)) ≡ record { first = 0; cells = coarse_cells n (q ∷ qs); statuses = rest_table (q ∷ qs) } ∷ []
unfolding levels_of levels coarse_cells coarse_from
rest_levels n q qs =
    let t : take (length (coarse_from n 1 qs)) (zeros (length qs)) ≡ zeros (length qs) =
    take_all (length (coarse_from n 1 qs)) (zeros (length qs)) (omega (arith, length_from n 1 qs, length-replicate {A = ℕ} (length qs) 0)) in
    rw (t, no_children 1 (coarse_from n 1 qs) (length qs))

abbrev tests : List Level → List ℕ → Bool
tests ls ss =
    (eqb (length ss) (length (cells_of ls)) && (leb (length ls) most_levels && leb (length (cells_of ls)) most_cells))
    && (allb closedb ls && apartb (cells_of ls) ss)

sound_tests : (n : ℕ) (qs : List (List ℕ)) (ss : List ℕ) → soundb n qs ss ≡ tests (levels_of n qs ss) ss
unfolding soundb
sound_tests n qs ss = refl

module _ (n : ℕ) (qs : List (List ℕ)) where
  abbrev cs : List (Cell Point)
  cs = coarse_cells n qs

  rest_cells : (k : ℕ) → cells_of (record { first = k; cells = cs; statuses = rest_table qs } ∷ []) ≡ cs
  unfolding cells_of flat_map
  rest_cells k = append-nil cs

  rest_count : length cs ≡ length qs
  unfolding coarse_cells
  rest_count = length_from n 0 qs

  rest_closed : (k : ℕ) → closedb (record { first = k; cells = cs; statuses = rest_table qs }) ≡ true
  unfolding closedb coarse_cells
  rest_closed k = rw (no_reds cs (length qs)) (all_closed n 0 qs)

  rest_apart : apartb cs (rest_table qs) ≡ true
  unfolding apartb coarse_cells
  rest_apart = all_regular _ n 0 qs

  rest_tests : length qs ≤ most_cells → tests (record { first = 0; cells = cs; statuses = rest_table qs } ∷ []) (rest_table qs) ≡ true
  unfolding allb
  rest_tests f =
      rw (
        rest_cells 0,
        rest_closed 0,
        rest_apart,
        eq-eqb (length (rest_table qs)) (length cs) (length-replicate {A = ℕ} (length qs) 0
            ∙ sym rest_count),
        le-leb (length cs) most_cells (omega (arith, rest_count)),
      )

pub rest_sound : (n : ℕ) (qs : List (List ℕ)) → 0 < length qs → length qs ≤ most_cells → soundb n qs (rest_table qs) ≡ true
rest_sound n [] s f = absurd (omega arith)
rest_sound n (q ∷ qs) s f =
    sound_tests n (q ∷ qs) (rest_table (q ∷ qs)) ∙ ap (λ (ls : List Level). tests ls (rest_table (q ∷ qs))) (rest_levels n q qs)
    ∙ rest_tests n (q ∷ qs) f
