use Rattle.std.proofs.Common.{◌≡◌, ℕ, take, slice_index}
use Rattle.decomposition.specs.Flow.{rest_after}
use Rattle.greedy_paths.proofs.greedy.take_off.Given as goal

abbrev pub invariant-loop-e : goal.invariant-loop-e
invariant-loop-e l = (k : ℕ) → slice_index l.rest k ≡ rest_after (slice_index l.initial.rest) (take l.e-index l.path) l.weight k
