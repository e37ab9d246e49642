-- The counts of every level from the statuses alone. The cells of a level have the numbers from `first` to before `last`; those
-- one level up follow, from `last` on. A level with no cell is the end.
--   next_end first last ss        the end of the level one up
--   counts_at first last ss       the counts of the level: cells, red, green, leaves
--   own_counts own                those of cells with these statuses
--   level_counts f first last ss  the counts of the level and of those above it, f levels at most
--   level_number f first last ss  how many levels these are
--   level_end f first last ss     the end of the last of them
--   Levels ss coarse             the statuses are those of a table with this many coarse cells, within the limits
use Rattle.std.specs.Prelude.{◌≡◌, refl, Bool, true, false, List, [], ◌∷◌, ◌++◌, ℕ, zero, suc, ◌+◌, ◌*◌, ◌-◌, ◌≤◌, ◌<◌, eqb, leb, ltb, length}
use Rattle.std.proofs.Common.{arith, lt-ltb, le-ltb}
use Rattle.base.specs.Limits.{most_cells, most_levels}
use Rattle.base.specs.Lists.{allb}
use Rattle.mesh.specs.Cells.{redb}
use Rattle.mesh.specs.Counts.{count_if, greenb}
use Rattle.mesh.specs.Table.{sizes}
use Rattle.rows.specs.Numbered.{part}

-- Rules 3.2, 4.4: where the next level ends, by how many children there are.
unfoldable pub next_end : ℕ → ℕ → List ℕ → ℕ
unfolding sizes
next_end first last ss = last + sizes (part ss first (last - first))

-- Rule 9.5: the row of a level.
unfoldable pub counts_at : ℕ → ℕ → List ℕ → List ℕ
unfolding count_if greenb
counts_at first last ss =
    let own = part ss first (last - first) in
    (last - first) ∷ count_if redb own ∷ count_if greenb own ∷ count_if (λ s. eqb s 0) own ∷ []

-- Rule 9.5: the row of cells with these statuses.
unfoldable pub own_counts : List ℕ → List ℕ
unfolding count_if greenb
own_counts own = length own ∷ count_if redb own ∷ count_if greenb own ∷ count_if (λ s. eqb s 0) own ∷ []

-- Rule 9.5: the rows from this level on.
unfoldable pub level_counts : ℕ → ℕ → ℕ → List ℕ → List ℕ
unfolding counts_at next_end
level_counts zero first last ss = []
level_counts (suc f) first last ss =
    elim (ltb first last) [ true ↦ counts_at first last ss ++ level_counts f last (next_end first last ss) ss | false ↦ [] ]

-- Rule 4.4: how many levels have cells.
unfoldable pub level_number : ℕ → ℕ → ℕ → List ℕ → ℕ
unfolding next_end
level_number zero first last ss = 0
level_number (suc f) first last ss = elim (ltb first last) [ true ↦ suc (level_number f last (next_end first last ss) ss) | false ↦ 0 ]

-- Rule 4.4: where the last of them ends.
unfoldable pub level_end : ℕ → ℕ → ℕ → List ℕ → ℕ
unfolding next_end
level_end zero first last ss = first
level_end (suc f) first last ss = elim (ltb first last) [ true ↦ level_end f last (next_end first last ss) ss | false ↦ first ]

-- Rules 3.4, 4.1, 6.1: statuses within the limits, one for each cell.
pub record Levels (ss : List ℕ) (coarse : ℕ) : Type 0 where
  pub statuses : allb (λ s. leb s 64) ss ≡ true
  pub small : length ss ≤ most_cells
  pub few : level_number 12 0 coarse ss ≤ most_levels
  pub whole : level_end 12 0 coarse ss ≡ length ss

-- a level with cells, and the end
module _ (f first last : ℕ) (ss : List ℕ) where
  pub counts_more : first < last → level_counts (suc f) first last ss ≡ counts_at first last ss ++ level_counts f last (next_end first last ss)
      ss
  unfolding level_counts
  counts_more h = rw (lt-ltb first last h, level_counts)

  pub number_more : first < last → level_number (suc f) first last ss ≡ suc (level_number f last (next_end first last ss) ss)
  unfolding level_number
  number_more h = rw (lt-ltb first last h, level_number)

  pub end_more : first < last → level_end (suc f) first last ss ≡ level_end f last (next_end first last ss) ss
  unfolding level_end
  end_more h = rw (lt-ltb first last h, level_end)

pub counts_none : (f first last : ℕ) (ss : List ℕ) → last ≤ first → level_counts f first last ss ≡ []
unfolding level_counts
counts_none zero first last ss h = refl
counts_none (suc f) first last ss h = rw (le-ltb first last h, level_counts)

pub number_none : (f first last : ℕ) (ss : List ℕ) → last ≤ first → level_number f first last ss ≡ 0
unfolding level_number
number_none zero first last ss h = refl
number_none (suc f) first last ss h = rw (le-ltb first last h, level_number)

pub end_none : (f first last : ℕ) (ss : List ℕ) → last ≤ first → level_end f first last ss ≡ first
unfolding level_end
end_none zero first last ss h = refl
end_none (suc f) first last ss h = rw (le-ltb first last h, level_end)

-- four numbers a level
pub counts-length : (f first last : ℕ) (ss : List ℕ) → length (level_counts f first last ss) ≡ 4 * level_number f first last ss
unfolding level_counts level_number
counts-length zero first last ss = refl
counts-length (suc f) first last ss = go (ltb first last) refl (counts-length f last (next_end first last ss) ss)
  where
    go : (b : Bool) → ltb first last ≡ b → length (level_counts f last (next_end first last ss) ss) ≡ 4 * level_number f last
        (next_end first last ss) ss
        → length (level_counts (suc f) first last ss) ≡ 4 * level_number (suc f) first last ss
    go true e i = rw (e, level_counts, level_number) (omega (arith, i))
    go false e i = rw (e, level_counts, level_number)

pub next_after : (first last : ℕ) (ss : List ℕ) → last ≤ next_end first last ss
unfolding next_end
next_after first last ss = omega arith
