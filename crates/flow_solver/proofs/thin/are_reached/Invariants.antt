use Rattle.std.proofs.Common.{ℕ, ◌≤◌, ◌<◌, slice_index}
use Rattle.decomposition.specs.Instance.{range_at}
use Rattle.flow_solver.proofs.thin.are_reached.Given as goal

abbrev pub invariant-loop-e : goal.invariant-loop-e
invariant-loop-e l = (d : ℕ) → d < l.e → (range_at l.ranges d).lo ≤ slice_index l.settled d
