use Rattle.std.proofs.Common.{slice_index}
use Rattle.dag_net.proofs.AddingUp.{AddsUp}
use Rattle.lower_flow.specs.Limits.{most_wide_units}
use Rattle.lower_flow.specs.Residual.{near, far}
use Rattle.lower_flow.proofs.sums.sum_flow.Given as goal

abbrev pub invariant-loop-e : goal.invariant-loop-e
invariant-loop-e l =
    AddsUp most_wide_units (far l.net l.side) (slice_index l.flow) l.net.vertices l.e l.at_far.items × AddsUp most_wide_units (near l.net l.side) (slice_index l.flow) l.net.vertices l.e l.at_near.items
