-- `merge::masters::Masters::load_entry` meets its contract: a ghost, no room, or a master.
use Rattle.std.proofs.Common.{refl, sym, ◌∙◌, arith}
use Rattle.held.specs.Held.{entry_in}
use Rattle.merge.specs.Load.{load_ghost, load_full, load_master}
use Rattle.merge.proofs.masters.Masters.load_entry.Goals as goal

pub returns-then-is_ghost : goal.returns-then-is_ghost
returns-then-is_ghost c = load_ghost (entry_in c.args.store.now c.args.j) c.args.self.now (sym c.is_ghost.ensures ∙ c.if-is_ghost.true)

pub returns-then-n-ge-MOST_CELLS : goal.returns-then-n-ge-MOST_CELLS
returns-then-n-ge-MOST_CELLS c = (
  refl,
  load_full (entry_in c.args.store.now c.args.j) c.args.self.now (sym c.is_ghost.ensures ∙ c.if-is_ghost.false) (omega arith),
)

pub returns : goal.returns
returns c =
    load_master (entry_in c.args.store.now c.args.j) c.args.self.now (sym c.is_ghost.ensures ∙ c.if-is_ghost.false) (omega arith)
    c.key_of-key.result.head c.key_of-key.result.digits c.status_of.result c.key_of-key.ensures c.status_of.ensures.0 _ c.add.ensures.added
    c.add.ensures.one.0 refl
