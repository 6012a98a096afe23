use Rattle.std.proofs.Common.{ℕ, ◌<◌, slice_index}
use Rattle.decomposition.specs.Graph.{tail}
use Rattle.run_weight.specs.Exits.{IsExit}
use Rattle.run_weight.proofs.exits.first_exit.Given as goal

-- there is no exit at an earlier place
abbrev pub invariant-loop-at : goal.invariant-loop-at
invariant-loop-at l = (k : ℕ) → k < l.at → ¬ IsExit l.net l.run l.path k (slice_index l.places (tail l.net (slice_index l.path k)))
