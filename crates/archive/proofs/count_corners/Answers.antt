-- The records are taken while they have the letter.
use Rattle.std.proofs.Common.{◌∙◌, ◌/◌, ℕ, List, arith, rules, length, get_or}
use borrow.Author.Tests.{tests}
use lib.Dec.{eqb}
use Rattle.std.proofs.lemmas.Iterator.{YieldsList-from_slice}
use Rattle.std.proofs.lemmas.Iterator.Search.{YieldsList-from_take_while}
use Rattle.std.proofs.lemmas.Iterator.Consumers.{count_from_yields_List}
use Rattle.archive.proofs.Tests.{counted_records, taken}
use Rattle.archive.proofs.count_corners.Goals as goal

pub returns : goal.returns
returns c =
    let bs = c.args.bytes.now in
    let rs = c.as_chunks.result.0.now in
    let test = λ (r : List ℕ). eqb (get_or r 0 0) 86 in
    count_from_yields_List _ c.count.result c.count.ensures.ran
    (YieldsList-from_take_while _ test (YieldsList-from_slice rs cc) (search rules) (search rules) (λ x b q k. search (rules, tests)))
    ∙ taken test rs
    ∙ rw c.as_chunks.ensures.front (counted_records 86 13 (omega arith) (length bs / 13) (length bs) bs (omega arith) (omega arith) (omega arith))
