-- `filling::Source::write_columns` meets its contract: three regions one behind the other.
use Rattle.filling.proofs.Joining.{columns_written}
use Rattle.filling.specs.Regions.{column_by, corner_by}
use Rattle.filling.proofs.Source.write_columns.Goals as goal

pub returns : goal.returns
returns c =
    let s = c.args.self.now in
    columns_written c.args.store.now c.fill_columns.new.region c.fill.new.self c.fill_corners.new.region
    (column_by s.cols.now s.cells c.args.part) (corner_by s.cols.now s.mesh.now c.args.part)
    c.requires c.fill_columns.ensures (c.fill.ensures.after (λ y e. e)) c.fill_corners.ensures
