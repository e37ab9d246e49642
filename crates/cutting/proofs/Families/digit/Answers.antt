-- A digit of the table is its value and 48.
use Rattle.cutting.proofs.Table.{digits_right}
use Rattle.cutting.proofs.Families.digit.Goals as goal

pub returns : goal.returns
returns c = digits_right c.args.self.now.digits c.args.self.now.digits_value c.args.at
