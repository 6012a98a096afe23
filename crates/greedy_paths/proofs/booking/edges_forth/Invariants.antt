use Rattle.std.proofs.Common.{◌-◌, length}
use Rattle.decomposition.specs.Graph.{edge_count}
use Rattle.greedy_paths.proofs.Following.{LeadsForth}
use Rattle.greedy_paths.proofs.booking.edges_forth.Given as goal

abbrev pub invariant-loop-next : goal.invariant-loop-next
invariant-loop-next l = LeadsForth l.net l.out_of l.v l.forth.items l.next

abbrev pub decreases-loop-next : goal.decreases-loop-next
decreases-loop-next l = edge_count l.net - length l.forth.items
