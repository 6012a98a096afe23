use Rattle.std.proofs.Common.{slice_index}
use Rattle.lower_flow.specs.Clearing.{total_surplus}
use Rattle.lower_flow.proofs.Cleared.{Clears}
use Rattle.lower_flow.proofs.clearing.clear.Given as goal

abbrev pub invariant-loop-search : goal.invariant-loop-search
invariant-loop-search l = Clears l.net l.ranges l.side l.fn.flow l.flow l.search

abbrev pub decreases-loop-search : goal.decreases-loop-search
decreases-loop-search l = total_surplus l.net l.side (slice_index l.flow)
