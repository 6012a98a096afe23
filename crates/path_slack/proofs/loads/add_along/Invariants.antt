use Rattle.std.proofs.Common.{◌≡◌, ℕ, ◌+◌, cond, take, slice_index}
use Rattle.decomposition.specs.Graph.{has_edge}
use Rattle.path_slack.proofs.loads.add_along.Given as goal

abbrev pub invariant-loop-e : goal.invariant-loop-e
invariant-loop-e l = (k : ℕ) → slice_index l.sums k ≡ slice_index l.initial.sums k + cond (has_edge (take l.e-index l.path) k) l.amount 0
