-- The table is read at the pattern.
use Rattle.cutting.proofs.Table.{starts_right}
use Rattle.cutting.proofs.Families.start.Goals as goal

pub returns : goal.returns
returns c = starts_right c.args.self.now.starts c.args.self.now.starts_value c.args.pattern c.requires
