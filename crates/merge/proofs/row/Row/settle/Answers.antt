-- `merge::row::Row::settle` meets its contract: no master, no status, too deep, no room, or a status and its children.
use Rattle.std.proofs.Common.{refl, ◌∙◌, arith, add-one, length-set}
use Rattle.merge.proofs.Settling.{own, shallow, settle_none, settle_status, settle_deep, settle_room, settle_keys, settle_on}
use Rattle.merge.proofs.row.Row.settle.Goals as goal

pub returns-in_default : goal.returns-in_default
returns-in_default c = (refl, settle_none c.args.masters.now c.args.self.now c.requires c.in_default.ensures)

pub returns-then-status-gt64 : goal.returns-then-status-gt64
returns-then-status-gt64 c =
    (refl, settle_status c.args.masters.now c.args.self.now c.requires c.in-Some.at c.in-Some.ensures c.if-status-gt64.true)

pub returns-then-x-ge2560 : goal.returns-then-x-ge2560
returns-then-x-ge2560 c = (
  refl,
  settle_deep c.args.masters.now c.args.self.now c.requires c.in-Some.at c.in-Some.ensures c.size_of-size.result c.size_of-size.ensures.0
      c.size_of-size.ensures.1 c.if-size-gt0.true c.if-x-ge2560.true,
)

pub returns-then-end-size-gt-MOST_CELLS : goal.returns-then-end-size-gt-MOST_CELLS
returns-then-end-size-gt-MOST_CELLS c = (
  refl,
  settle_room c.args.masters.now c.args.self.now c.requires c.in-Some.at c.in-Some.ensures c.size_of-size.result c.size_of-size.ensures.0
      c.size_of-size.ensures.1 c.if-end-size-gt-MOST_CELLS.true,
)

pub push-requires : goal.push-requires
push-requires c =
    record {
      key = (
        own c.args.masters.now c.args.self.now c.requires,
        (λ h. omega (arith, shallow _ _ c.else-size-gt0.either h)),
        c.size_of-size.ensures.1,
      );
      room = (omega (arith, c.args.self.now.sized.0), omega (arith, c.args.self.now.sized.1));
    }

pub invariant_of-self-clause-keys : goal.invariant_of-self-clause-keys
invariant_of-self-clause-keys c =
    rw (add-one c.args.self.now.found) (settle_keys c.args.masters.now c.args.self.now c.requires c.in-Some.at c.in-Some.ensures
    c.size_of-size.result c.size_of-size.ensures.0 c.size_of-size.ensures.1 (shallow _ _ c.else-size-gt0.either) c.push.new.heads c.push.new.digits c.push.ensures)

pub invariant_of-self-clause-sized : goal.invariant_of-self-clause-sized
invariant_of-self-clause-sized c = (
  c.push.auto.heads ∙ c.args.self.now.sized.0,
  c.push.auto.digits ∙ c.args.self.now.sized.1,
  length-set _ _ _ ∙ c.args.self.now.sized.2,
)

pub returns : goal.returns
returns c =
    settle_on c.args.masters.now c.args.self.now c.requires c.in-Some.at c.in-Some.ensures
    c.size_of-size.result c.size_of-size.ensures.0 c.size_of-size.ensures.1 (shallow _ _ c.else-size-gt0.either) c.push.new.heads c.push.new.digits c.push.ensures
    _ refl refl refl (add-one c.args.self.now.found) refl
