use Rattle.std.proofs.Common.{ℕ, ◌+◌, ◌≤◌, ◌<◌, slice_index}
use Rattle.decomposition.specs.Instance.{range_at}
use Rattle.flow_solver.proofs.thin.room_along.Given as goal

abbrev pub invariant-loop-e : goal.invariant-loop-e
invariant-loop-e l =
    (k : ℕ) → k < l.e-index → slice_index l.settled (slice_index l.path k) + l.room ≤ (range_at l.ranges (slice_index l.path k)).hi
