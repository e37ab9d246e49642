use Rattle.partstep.proofs.Stepping.{clear_long, clear_cells, placed_usable, told_usable, entered_totals}
use Rattle.partstep.proofs.enter_totals.Goals as goal

pub place_cells-requires : goal.place_cells-requires
place_cells-requires c = (
  clear_long _ c.requires _
      c.clear.ensures,
  clear_cells _ c.requires _
      c.clear.ensures,
)

pub post_totals-requires : goal.post_totals-requires
post_totals-requires c =
    placed_usable _ c.requires _
    c.clear.ensures _ c.place_cells.ensures

pub post_end-requires : goal.post_end-requires
post_end-requires c =
    told_usable _
    c.requires _
    c.clear.ensures _
    c.place_cells.ensures _ c.post_totals.ensures

pub returns : goal.returns
returns c =
    entered_totals _
    c.requires _
    c.clear.ensures _
    c.place_cells.ensures _ _
    c.post_totals.ensures c.post_end.ensures
