use Rattle.std.proofs.Common.{◌-◌, length, slice_index}
use Rattle.decomposition.specs.Graph.{edge_count}
use Rattle.greedy_paths.proofs.Choosing.{Begins}
use Rattle.greedy_paths.proofs.widest.first_path.Given as goal

abbrev pub invariant-loop-next : goal.invariant-loop-next
invariant-loop-next l = Begins l.net (slice_index l.rest) l.width l.path l.next

abbrev pub decreases-loop-next : goal.decreases-loop-next
decreases-loop-next l = edge_count l.net - length l.path
