-- `merge::row::Row::coarse` meets its contract: a turn writes the next coarse cell's key.
use Rattle.std.proofs.Common.{◌≡◌, refl, arith, add-one}
use Rattle.merge.proofs.Rows.{headed_none, headed_more, seeded, seeded_keys}
use Rattle.merge.proofs.row.Row.coarse.Goals as goal

pub loop-i-init : goal.loop-i-init
loop-i-init c = headed_none

pub loop-i-preserved : goal.loop-i-preserved
loop-i-preserved c = rw (add-one c.loop-i.i) (headed_more c.loop-i.heads c.loop-i.i c.loop-i.invariant (omega arith))

pub invariant_of-result-clause-sized : goal.invariant_of-result-clause-sized
invariant_of-result-clause-sized c = (c.loop-i.invariant.long, refl, refl)

pub invariant_of-result-clause-keys : goal.invariant_of-result-clause-keys
invariant_of-result-clause-keys c =
    let k : c.loop-i.i ≡ c.args.m = omega arith in
    seeded_keys c.loop-i.heads c.args.m c.requires (rw k at c.loop-i.invariant)

pub returns : goal.returns
returns c =
    let k : c.loop-i.i ≡ c.args.m = omega arith in
    (seeded c.loop-i.heads c.args.m c.requires (rw k at c.loop-i.invariant), refl, refl)
