use Rattle.lower_flow.specs.Brought.{AreBroughtBefore}
use Rattle.lower_flow.proofs.bounded.brought_within.Given as goal

abbrev pub invariant-loop-e : goal.invariant-loop-e
invariant-loop-e l = AreBroughtBefore l.e l.ranges l.near l.flow.items
