use Rattle.std.proofs.Common.{slice_index}
use Rattle.greedy_paths.proofs.Finding.{WidestBefore}
use Rattle.greedy_paths.proofs.widest.greatest_width.Given as goal

abbrev pub invariant-loop-e : goal.invariant-loop-e
invariant-loop-e l = WidestBefore l.net (slice_index l.rest) l.e l.width
