-- The statuses of closed levels are the table. That a step without marks on a sound table gives the same table is in proofs/Unmarked.
use Rattle.std.specs.Prelude.{◌≡◌, ℕ, zero, suc, ◌+◌, T, drop}
use Rattle.std.proofs.Math.Path.{refl, ap}
use Rattle.std.proofs.Common.{sym, ◌∙◌, length-append, take-add}
use mathlib.Core.List.{List, [], ◌∷◌, ◌++◌, flat_map, flatten}
use Rattle.std.proofs.Math.ListN.{length, take}
use Rattle.base.specs.Lists.{allb}
use Rattle.base.specs.Bools.{and_right}
use Rattle.mesh.specs.Cells.{Cell}
use Rattle.mesh.specs.Weights.{Point}
use Rattle.mesh.specs.Table.{Level, next, levels, cells_of, closedb}
use Rattle.identity.specs.Again.{status_lists}

-- the statuses of closed levels are the table, as far as it has cells
pub statuses_all : (h k : ℕ) (cs : List (Cell Point)) (rest : List ℕ) → T (allb closedb (levels h k cs rest))
    → flatten (status_lists (levels h k cs rest)) ≡ take (length (cells_of (levels h k cs rest))) rest
unfolding levels allb closedb cells_of flat_map flatten
statuses_all zero k cs rest u = refl
statuses_all (suc h) k [] rest u = refl
statuses_all (suc h) k (c ∷ cs) rest u =
    let cs' = c ∷ cs in
    let ts = take (length cs') rest in
    let l : Level = record { first = k; cells = cs'; statuses = ts } in
    let ls : List Level = levels h (k + length cs') (next k cs' ts) (drop (length cs') rest) in
    let i : flatten (status_lists ls) ≡ take (length (cells_of ls)) (drop (length cs') rest) = statuses_all h (k + length cs') (next k cs' ts)
    (drop (length cs') rest) (and_right (closedb l) (allb closedb ls) u) in
    ap (λ (x : List ℕ). ts ++ x) i
    ∙ sym (ap (λ (x : ℕ). take x rest) (length-append cs' (cells_of ls)) ∙ take-add (length cs') (length (cells_of ls)) rest)
