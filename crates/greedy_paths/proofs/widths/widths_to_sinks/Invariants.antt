use Rattle.std.proofs.Common.{slice_index}
use Rattle.greedy_paths.specs.Widths.{HaveWidthsFrom}
use Rattle.greedy_paths.proofs.widths.widths_to_sinks.Given as goal

abbrev pub invariant-loop-k : goal.invariant-loop-k
invariant-loop-k l = HaveWidthsFrom l.net (slice_index l.rest) l.order l.k l.widths.items
