-- The part is copied into its place.
use Rattle.std.proofs.Common.{◌≡◌, arith, rules}
use Rattle.archive.proofs.Stores.{put_is}
use Rattle.archive.proofs.put.Goals as goal

pub returns : goal.returns
returns c =
    let e : c.copy_from_slice.new.self ≡ c.args.part.now = search rules in
    rw e (put_is c.args.out.now c.args.part.now c.args.at _ (omega arith) c.requires)
