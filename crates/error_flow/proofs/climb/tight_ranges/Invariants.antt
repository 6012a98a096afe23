use Rattle.std.proofs.Common.{slice_index}
use Rattle.error_flow.specs.Certificate.{level_at}
use Rattle.error_flow.specs.Tight.{AreTightBefore}
use Rattle.error_flow.proofs.climb.tight_ranges.Given as goal

abbrev pub invariant-loop-e : goal.invariant-loop-e
invariant-loop-e l = AreTightBefore l.e l.net (slice_index l.weights) (level_at l.levels) l.ranges.items
