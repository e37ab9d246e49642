-- The number stands behind the word.
use Rattle.listing.specs.Put.{put_as, put_more, put_front}
use Rattle.listing.proofs.Text.{refusal_is}
use Rattle.listing.proofs.write_refusal.Goals as goal

pub returns : goal.returns
returns c =
    let p = put_front (put_as (refusal_is _ _ c.from.ensures) (put_more c.put_text-p.ensures c.put_field.ensures)) in
    record { out_value = p.0; value = p.1 }
