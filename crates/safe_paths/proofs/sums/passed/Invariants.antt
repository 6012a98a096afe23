use Rattle.std.proofs.Common.{◌≡◌, ◌*◌, ◌≤◌, slice_index, take}
use Rattle.safe_paths.specs.Sums.{passed}
use Rattle.safe_paths.proofs.sums.passed.Given as goal

abbrev pub invariant-loop-e : goal.invariant-loop-e
invariant-loop-e l = (l.sum ≡ passed l.net (slice_index l.flow) (take l.e-index l.edges)) × (l.sum ≤ l.e-index * 4096000000000000)
