use Rattle.lower_flow.proofs.Brought.{bounded-wide}
use Rattle.lower_flow.proofs.bounded.bounded_flow_near.Goals as goal

pub wide_flow_near-requires-clause-bounded : goal.wide_flow_near-requires-clause-bounded
wide_flow_near-requires-clause-bounded c = bounded-wide c.args.ranges.now c.requires.bounded
