use Rattle.std.proofs.Common.{◌≡◌, ◌≤◌, ◌*◌, slice_index}
use Rattle.decomposition.specs.Answer.{sum_below}
use Rattle.error_flow.specs.Limits.{most_weight}
use Rattle.error_flow.proofs.climb.total.Given as goal

abbrev pub invariant-loop-e : goal.invariant-loop-e
invariant-loop-e l = (l.sum ≡ sum_below (slice_index l.weights) l.e) × (l.sum ≤ l.e * most_weight)
