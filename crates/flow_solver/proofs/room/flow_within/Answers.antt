-- What is no flow is a cut.
use Rattle.flow_solver.proofs.Raising.{no_flow}
use Rattle.flow_solver.proofs.room.flow_within.Goals as goal

pub returns : goal.returns
returns c = no_flow c.args.net.now c.args.ranges.now c.in_ok-flow.field-0 c.edges.ensures.net c.in_ok-flow.ensures c.in_default.not-Flow
