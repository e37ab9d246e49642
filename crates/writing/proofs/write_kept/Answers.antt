-- `writing::write_kept` meets its contract: the statuses are copied at once, and the invariant says that the numbers before are written.
use Rattle.std.proofs.Common.{◌≡◌, ◌∙◌, ap₂, ℕ, List, ◌++◌, ◌+◌, ◌-◌, ◌≤◌, length, take, drop, arith, append-nil}
use Rattle.std.proofs.Math.ListN.{length-take}
use Rattle.std.proofs.lemmas.List.{take_all, drop_all}
use Rattle.rows.specs.Numbered.{part}
use Rattle.rows.specs.Laws.{length_part}
use Rattle.writing.proofs.Front.{copied, numbers_start, numbers_more, numbers_all}
use Rattle.writing.proofs.write_kept.Goals as goal

pub loop-i-init : goal.loop-i-init
loop-i-init c = numbers_start c.args.old.now c.args.at c.args.first c.args.count (omega arith)

pub loop-i-preserved : goal.loop-i-preserved
loop-i-preserved c =
    numbers_more c.args.old.now c.args.at c.args.first c.args.count (omega arith) c.loop-i.i c.loop-i.old c.loop-i-test.true c.loop-i.invariant

pub returns : goal.returns
returns c =
    let w : c.args.first + c.args.count - c.args.first ≡ c.args.count = omega arith in
    let vs = part c.args.kept.now c.args.first c.args.count in
    let n : c.args.at + c.args.count - c.args.at ≡ length vs =
    omega (arith, length_part c.args.kept.now c.args.first c.args.count c.requires.first_in_bounds.0) in
    let few : (l : List ℕ) → length (take c.args.count l) ≤ c.args.count = λ l. omega (arith, length-take c.args.count l) in
    let v : c.args.at + c.args.count - c.args.at ≡ c.args.count = omega arith in
    let same : c.copy_statuses.new.to ≡ vs =
    rw (w, v) at c.copy_statuses.ensures
    ∙ ap₂ ◌++◌ (take_all c.args.count vs (few (drop c.args.first c.args.kept.now)))
    (drop_all c.args.count (take c.args.count (drop c.args.at c.args.table.now)) (few (drop c.args.at c.args.table.now)))
    ∙ append-nil vs in
    record {
      statuses = copied c.args.table.now c.args.at _ vs _ n same;
      olds = numbers_all c.args.old.now c.args.at c.args.first c.args.count (omega arith) c.loop-i.i c.loop-i.old c.loop-i-test.false c.loop-i.invariant;
    }
