-- The part is copied into its place.
use Rattle.std.proofs.Common.{◌≡◌, arith, rules}
use Rattle.corners.proofs.Copied.{put_is}
use Rattle.corners.proofs.put.Goals as goal

pub returns : goal.returns
returns g c =
    let e : c.copy_from_slice.new.self ≡ c.args.part.now = search rules in
    rw e (put_is c.args.table.now c.args.part.now c.args.at _ (omega arith) c.requires)
