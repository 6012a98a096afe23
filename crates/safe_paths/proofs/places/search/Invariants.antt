use Rattle.std.proofs.Common.{slice_index}
use Rattle.decomposition.specs.SafeRuns.{IsSafeFor, IsMaximal}
use Rattle.safe_paths.specs.Places.{Finds}
use Rattle.safe_paths.proofs.places.search.Given as goal

abbrev pub invariant-loop-k : goal.invariant-loop-k
invariant-loop-k l = Finds (IsMaximal (IsSafeFor l.net (slice_index l.flow))) l.answer l.k 0 l.places.items
