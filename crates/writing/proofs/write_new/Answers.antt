-- `writing::write_new` meets its contract: both parts are written at once.
use Rattle.std.proofs.Common.{◌≡◌, ◌+◌, ◌-◌, ◌∙◌, ap, ℕ, length, replicate, arith}
use Rattle.std.proofs.lemmas.List.{length-replicate}
use Rattle.rows.specs.Laws.{length_part}
use Rattle.writing.proofs.Front.{copied}
use Rattle.writing.proofs.write_new.Goals as goal

pub returns : goal.returns
returns c =
    let n = length c.args.fresh.now in
    let e : c.args.at + n - c.args.at ≡ n = omega arith in
    let k = length_part c.args.old.now c.args.at (c.args.at + n - c.args.at) (omega arith) in
    record {
      statuses = copied c.args.table.now c.args.at _ c.args.fresh.now _ e c.copy_from_slice.ensures.after;
      olds = copied c.args.old.now c.args.at _ (replicate n 65535) _ (omega (arith, length-replicate {A = ℕ} n 65535))
          (c.fill.ensures.after (λ y e. e) ∙ ap (λ (m : ℕ). replicate m 65535) (k ∙ e));
    }
