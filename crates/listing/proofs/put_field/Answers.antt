-- `listing::put_field` meets its contract: the byte stands behind the number.
use Rattle.listing.specs.Put.{put_more}
use Rattle.listing.proofs.Fields.{number_room}
use Rattle.listing.proofs.put_field.Goals as goal

pub put_byte-requires : goal.put_byte-requires
put_byte-requires c =
    number_room c.args.n
    c.requires c.put_number-p.ensures

pub returns : goal.returns
returns c =
    put_more c.put_number-p.ensures c.put_byte.ensures
