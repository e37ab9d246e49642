-- `listing::put_number` meets its contract: a number has at most five digits.
use Rattle.listing.specs.Lines.{decimal}
use Rattle.listing.proofs.put_number.Goals as goal

pub returns : goal.returns
unfolding decimal
returns c =
    c.put_digits.ensures
