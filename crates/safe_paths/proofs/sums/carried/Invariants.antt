use Rattle.std.proofs.Common.{◌≡◌, ◌*◌, ◌≤◌, slice_index, take}
use Rattle.safe_paths.specs.Sums.{carried}
use Rattle.safe_paths.proofs.sums.carried.Given as goal

abbrev pub invariant-loop-e : goal.invariant-loop-e
invariant-loop-e l = (l.sum ≡ carried (slice_index l.flow) (take l.e-index l.edges)) × (l.sum ≤ l.e-index * 1000000000000)
