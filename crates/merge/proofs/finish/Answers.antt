-- `merge::finish` meets its contract: the examination tells whether the table is sound.
use Rattle.std.proofs.Common.{◌≡◌, ◌*◌, refl, sym, ◌∙◌, arith, lit<, ap, ℕ, ◌++◌, length, take, drop}
use Rattle.pairs.specs.Keys.{clear_new}
use Rattle.std.proofs.Math.Seq.{length-take-le}
use Rattle.std.proofs.Math.ListN.{replicate, length-replicate}
use Rattle.base.specs.Fours.{fours}
use Rattle.mesh.specs.Table.{soundb}
use Rattle.merge.proofs.Answers.{mesh_fits, told_unsound, told_sound}
use Rattle.merge.proofs.finish.Goals as goal

pub examine-requires : goal.examine-requires
examine-requires c = (
  lit< tt,
  (
    mesh_fits c.args.mesh.now c.args.m c.args.n c.told-mesh c.requires.le_m.1 c.requires.le_m.0 c.requires.le_m.2 c.requires.cells,
    (λ h.
        let l : length {A = ℕ} (replicate 32768 0) ≡ 32768 = length-replicate {A = ℕ} 32768 0 in
        record { in_coarse = omega arith; in_rows = omega arith; in_mids = h }),
  ),
)

pub returns-then-is_err : goal.returns-then-is_err
returns-then-is_err c = (
  refl,
  record {
    unsound = told_unsound (soundb c.args.n (fours (take (4 * c.args.m) c.args.mesh.now)) (take c.args.row.now.known c.args.row.now.statuses))
        c.examine.result c.examine.ensures.answer (sym c.is_err.ensures.value ∙ c.if-is_err.true);
    same = refl;
  },
)

pub returns : goal.returns
returns c = (
  refl,
  record {
    sound = told_sound (soundb c.args.n (fours (take (4 * c.args.m) c.args.mesh.now)) (take c.args.row.now.known c.args.row.now.statuses))
        c.examine.result c.examine.ensures.answer (sym c.is_err.ensures.value ∙ c.if-is_err.false);
    written =
        c.copy_statuses.ensures
        ∙ ap (λ (n : ℕ). take c.args.row.now.known c.args.row.now.statuses ++ drop n c.args.table.now)
        (sym (length-take-le c.args.row.now.known c.args.row.now.statuses (omega (arith, c.args.row.now.sized.2, c.args.row.now.behind))));
  },
)

pub invariant_of-mids : goal.invariant_of-mids
invariant_of-mids c =
    record { sized = (refl, refl, refl, refl); in_order = (clear_new 4096 (omega arith)).empty _ _ _; up = omega arith }
