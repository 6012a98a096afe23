use Rattle.std.proofs.Common.{◌-◌, length}
use Rattle.decomposition.specs.Graph.{edge_count}
use Rattle.greedy_paths.proofs.Following.{LeadsBack}
use Rattle.greedy_paths.proofs.booking.edges_back.Given as goal

abbrev pub invariant-loop-next : goal.invariant-loop-next
invariant-loop-next l = LeadsBack l.net l.into l.v l.back.items l.next

abbrev pub decreases-loop-next : goal.decreases-loop-next
decreases-loop-next l = edge_count l.net - length l.back.items
