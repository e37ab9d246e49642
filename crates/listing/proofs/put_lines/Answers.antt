-- A turn writes the line of a level.
use Rattle.std.proofs.Common.{◌∙◌, ap, rules}
use Rattle.listing.specs.Put.{put_as}
use Rattle.listing.proofs.Levels.{lined_next, lined_end, row_four, level_lines, level_lines_are}
use Rattle.listing.proofs.put_lines.Goals as goal

pub loop-level-preserved : goal.loop-level-preserved
loop-level-preserved c = lined_next c.loop-level.invariant (search rules) (rw c.as_chunks.ensures.front (row_four c.args.counts.now c.loop-level.level (rw c.as_chunks.ensures.front at c.loop-level-test.true))) c.put_line-p.ensures

pub returns : goal.returns
returns c =
    put_as (ap (level_lines 0) c.as_chunks.ensures.front ∙ level_lines_are 0 c.args.counts.now) (lined_end c.loop-level.invariant (search rules))
