-- The invariant: what the chain has passed is not the pair.
use Rattle.std.proofs.Common.{rules, sym}
use Rattle.pairs.specs.Chain.{chain_start, chain_hit, chain_stop, chain_turn, chain_less}
use Rattle.pairs.proofs.PairTable.find.Goals as goal

pub loop-e-init : goal.loop-e-init
loop-e-init g c =
    let b = c.bucket_of-b in (
      chain_start c.args.self.now.in_order b.result (search rules) (search rules),
      search rules,
    )

pub returns-then-i-self : goal.returns-then-i-self
returns-then-i-self g c = sym (chain_stop c.args.self.now.in_order c.loop-e.invariant.0 c.loop-e-test.true c.if-i-self.true)

pub returns-then-stands : goal.returns-then-stands
returns-then-stands g c = (
  chain_hit c.args.self.now.in_order c.loop-e.invariant.0 c.loop-e-test.true c.if-i-self.false
      c.stands.ensures
      c.if-stands.true,
  c.loop-e.invariant.0.below c.loop-e-test.true,
)

pub loop-e-smaller : goal.loop-e-smaller
loop-e-smaller g c = chain_less c.args.self.now.in_order c.loop-e.invariant.0 c.loop-e-test.true (search rules)

pub loop-e-preserved : goal.loop-e-preserved
loop-e-preserved g c = (
  chain_turn c.args.self.now.in_order c.loop-e.invariant.0 c.loop-e-test.true c.stands.ensures
      c.if-stands.false,
  search rules,
)
