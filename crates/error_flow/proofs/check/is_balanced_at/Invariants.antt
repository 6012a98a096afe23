use Rattle.std.proofs.Common.{slice_index}
use Rattle.decomposition.specs.Graph.{tail, head}
use Rattle.error_flow.proofs.Steps.{IsSumSoFar}
use Rattle.error_flow.proofs.check.is_balanced_at.Given as goal

abbrev pub invariant-loop-e : goal.invariant-loop-e
invariant-loop-e l =
    IsSumSoFar (head l.net) (slice_index l.flow) l.v l.e l.into × IsSumSoFar (tail l.net) (slice_index l.flow) l.v l.e l.out
