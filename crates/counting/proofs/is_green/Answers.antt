-- `counting::is_green` meets its contract, case by case.
use Rattle.std.proofs.Common.{◌≡◌, ne_eqb, arith}
use Rattle.mesh.specs.Counts.{greenb}
use Rattle.counting.proofs.is_green.Goals as goal

pub returns-then-status-gt0 : goal.returns-then-status-gt0
unfolding greenb
returns-then-status-gt0 c = rw (ne_eqb c.args.status 0 (omega (arith, c.if-status-gt0.true)))

pub returns-else-status-gt0 : goal.returns-else-status-gt0
unfolding greenb
returns-else-status-gt0 c = let z : c.args.status ≡ 0 = omega (arith, c.if-status-gt0.false) in rw z
