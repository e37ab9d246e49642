-- `tables::check_level` meets its contract: the sizes are looked at before the red edges are listed, so that they have room.
use Rattle.std.proofs.Common.{◌*◌, ◌≤◌, length, rules, arith, refl}
use Rattle.tables.specs.Space.{ready, checked, checked_torn}
use Rattle.tables.proofs.check_level.Goals as goal

pub red_level-requires : goal.red_level-requires
red_level-requires g c =
    let l : 8 * c.args.last ≤ length c.args.rows.now = omega (arith, c.if-last-status.false, c.requires.room.0) in (
      search rules,
      (
        record { up = c.requires.first_le_last; inside = c.if-last-status.false },
        ready c.args.rows.now c.args.status.now c.args.first c.args.last c.args.red.now c.start_level.new.self c.start_level.ensures.from
            c.start_level.ensures.kept c.requires.reds c.requires.first_le_last l c.if-last-status.false c.requires.statuses.few
            (omega (arith, c.if-size-status.false, c.level_size-size.ensures, c.if-last-status.false)) c.requires.room.1,
      ),
    )

pub returns-then-not-closed_level : goal.returns-then-not-closed_level
returns-then-not-closed_level g c =
    let l : 8 * c.args.last ≤ length c.args.rows.now = omega (arith, c.if-last-status.false, c.requires.room.0) in (
      refl,
      checked_torn c.args.rows.now c.args.status.now c.args.first c.args.last c.args.red.now c.start_level.new.self c.start_level.ensures.from
          c.start_level.ensures.kept c.requires.reds c.requires.first_le_last l c.if-last-status.false c.requires.statuses.few
          (omega (arith, c.if-size-status.false, c.level_size-size.ensures, c.if-last-status.false)) c.red_level.ensures c.closed_level.ensures
          c.if-not-closed_level.true,
    )

pub returns : goal.returns
returns g c =
    let l : 8 * c.args.last ≤ length c.args.rows.now = omega (arith, c.if-last-status.false, c.requires.room.0) in
    checked c.args.rows.now c.args.status.now c.args.first c.args.last c.args.red.now c.start_level.new.self c.start_level.ensures.from
    c.start_level.ensures.kept c.requires.reds c.requires.first_le_last l c.if-last-status.false c.requires.statuses.few
    (omega (arith, c.if-size-status.false, c.level_size-size.ensures, c.if-last-status.false)) c.red_level.ensures c.closed_level.ensures
    c.if-not-closed_level.false c.level_size-size.ensures
