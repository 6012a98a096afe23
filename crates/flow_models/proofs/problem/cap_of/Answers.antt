use Rattle.std.proofs.Common.{arith}
use Rattle.decomposition.proofs.Root.{one-le-cap}
use Rattle.flow_models.proofs.problem.cap_of.Goals as goal

pub loop-range-init : goal.loop-range-init
loop-range-init c = (omega arith, omega (arith, one-le-cap c.args.ranges.now))
