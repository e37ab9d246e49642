-- The text is copied to its place.
use Rattle.std.proofs.Common.{◌≡◌, arith, rules}
use Rattle.listing.proofs.Text.{text_put}
use Rattle.listing.proofs.put_text.Goals as goal

pub returns : goal.returns
returns c =
    let e : c.copy_from_slice.new.self ≡ c.args.text.now = search rules in
    rw e (text_put c.args.out.now c.args.text.now c.args.at _ (omega arith) c.requires)
