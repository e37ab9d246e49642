-- `listing::put_digits` meets its contract: no more digits, one digit, or more of them.
use Prim.Native.Nat.{◌/◌}
use Rattle.listing.specs.Put.{put_as, put_more}
use Rattle.listing.proofs.Digits.{no_more, one_digit, more_digits, digits_room}
use Rattle.listing.proofs.+put_digits.Goals.{then-more-eq0-via-then-more-eq0, then-more-eq0-via-else-more-eq0+then-n-lt10}
use Rattle.listing.proofs.+put_digits.Goals as goal

pub returns-then-more-eq0 : goal.returns-then-more-eq0
returns-then-more-eq0 t c =
    elim c.then-more-eq0.branch [
      | then-more-eq0-via-then-more-eq0 w ↦ put_as (no_more c.args.more c.args.n w.if-more-eq0.true) c.put_digit.ensures
      | then-more-eq0-via-else-more-eq0+then-n-lt10 w ↦ put_as (one_digit c.args.more c.args.n w.if-n-lt10.true) c.put_digit.ensures
    ]

pub put_digit-requires-2 : goal.put_digit-requires-2
put_digit-requires-2 t c = digits_room c.args.more (c.args.n / 10) c.if-more-eq0.false c.requires c.put_digits-p.ensures

pub returns : goal.returns
returns t c =
    put_as (more_digits c.args.more c.args.n c.if-more-eq0.false c.if-n-lt10.false)
    (put_more c.put_digits-p.ensures c.put_digit-2.ensures)
