-- `columns::put_ten` meets its contract: a turn writes the next number.
use Prim.Native.Nat.{◌+◌, ◌*◌}
use lib.ListN.{get_or}
use Rattle.base.specs.Limits.{most_cells}
use Rattle.store.specs.Written.{WroteAt}
use Rattle.columns.proofs.put_ten.Given as goal

abbrev pub invariant-loop-j : goal.invariant-loop-j
invariant-loop-j l = WroteAt (λ i. most_cells * i + l.c) (λ i. get_or l.ten i 0) l.j l.initial.cols l.cols
