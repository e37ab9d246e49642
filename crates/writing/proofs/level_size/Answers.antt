-- `writing::level_size` meets its contract: a part of the table is lent.
use Rattle.std.proofs.Common.{◌-◌, arith}
use Rattle.base.specs.Bools.{is_true}
use Rattle.growth.specs.Parts.{small_part}
use Rattle.writing.proofs.level_size.Goals as goal

pub level_size-requires-clause-status_value : goal.level_size-requires-clause-status_value
level_size-requires-clause-status_value c =
    let n = c.args.last - c.args.first in
    is_true _ (small_part c.args.table.now c.args.first n (omega arith) (λ k g h. c.requires.2 k g (omega (arith, h))))
