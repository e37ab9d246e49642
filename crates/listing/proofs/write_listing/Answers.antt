-- `listing::write_listing` meets its contract: the lines stand behind the header.
use Rattle.listing.specs.Lines.{listing}
use Rattle.listing.specs.Put.{put_more, put_front}
use Rattle.listing.proofs.write_listing.Goals as goal

pub returns : goal.returns
unfolding listing
returns c =
    let p = put_front (put_more c.put_text-p.ensures
    c.put_lines.ensures) in
    record { out_value = p.0; value = p.1 }
