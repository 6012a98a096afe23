use Rattle.std.proofs.Common.{◌-◌, slice_index}
use Rattle.lower_flow.specs.Residual.{residual}
use Rattle.lower_flow.proofs.Searching.{Runs}
use Rattle.lower_flow.proofs.search.Search.run.Given as goal

abbrev pub invariant-loop-k : goal.invariant-loop-k
invariant-loop-k l = Runs (residual l.net l.ranges l.side (slice_index l.flow)) l.self.entries.items l.self.marked.items l.k

abbrev pub decreases-loop-k : goal.decreases-loop-k
decreases-loop-k l = l.net.vertices - l.k
