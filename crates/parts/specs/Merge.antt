-- Merging: the masters among the entries of all parts, put in the order of a table, level by level (section 15 of the method).
--   lookup es l            the status of the master with the path l among the entries es; 0 where there is none
--   child_paths ls ts       the paths one level up of the cells with the paths ls and the statuses ts
--   gather h es ls         at most h levels of statuses, from the cells with the paths ls on
--   merged es m            the table that the entries es make over m coarse cells, level by level
--   masters es             the masters among the entries es
--   filledb h es ls        each of the places ls, and of those that the statuses ask for up to h levels, has a master
--   completeb es m         the entries have a master for each place of the table that they make, and no other masters
use Rattle.std.specs.Prelude.{Bool, true, false, ◌&&◌, not, ℕ, zero, suc, eqb, length}
use mathlib.Core.List.{List, [], ◌∷◌, ◌++◌, map, flat_map, flatten}
use Rattle.base.specs.Lists.{allb, anyb, filterb, sameb}
use Rattle.base.specs.Range.{range}
use Rattle.mesh.specs.Table.{size_of}
use Rattle.parts.specs.Held.{Entry}

-- Rule 15.12.
unfoldable pub lookup : List Entry → List ℕ → ℕ
unfolding sameb
lookup [] l = 0
lookup (e ∷ es) l = elim (not e.ghost && sameb e.path l) [ true ↦ e.status | false ↦ lookup es l ]

-- Rule 3.3.
unfoldable pub child_paths : List (List ℕ) → List ℕ → List (List ℕ)
unfolding size_of range
child_paths [] ts = []
child_paths (l ∷ ls) [] = []
child_paths (l ∷ ls) (t ∷ ts) = map (λ i. l ++ (i ∷ [])) (range 0 (size_of t)) ++ child_paths ls ts

-- Rule 15.12.
unfoldable pub gather : ℕ → List Entry → List (List ℕ) → List (List ℕ)
unfolding lookup child_paths
gather zero es ls = []
gather (suc h) es [] = []
gather (suc h) es (l ∷ ls) = let ts = map (lookup es) (l ∷ ls) in ts ∷ gather h es (child_paths (l ∷ ls) ts)

-- Rule 15.12: twelve levels, as in a table: one more than is allowed
unfoldable pub merged : List Entry → ℕ → List (List ℕ)
unfolding gather range
merged es m = gather 12 es (map (λ i. i ∷ []) (range 0 m))

-- Rule 15.2.
unfoldable pub masters : List Entry → List Entry
unfolding filterb
masters es = filterb (λ e. not e.ghost) es

-- Rule 15.16: no master missing
unfoldable pub filledb : ℕ → List Entry → List (List ℕ) → Bool
unfolding masters lookup child_paths allb anyb sameb
filledb zero es ls = true
filledb (suc h) es [] = true
filledb (suc h) es (l ∷ ls) =
    allb (λ k. anyb (λ e. sameb e.path k) (masters es)) (l ∷ ls) && filledb h es (child_paths (l ∷ ls) (map (lookup es) (l ∷ ls)))

-- Rule 15.16.
unfoldable pub completeb : List Entry → ℕ → Bool
unfolding filledb masters merged range flat_map flatten
completeb es m = filledb 12 es (map (λ i. i ∷ []) (range 0 m)) && eqb (length (masters es)) (length (flatten (merged es m)))
