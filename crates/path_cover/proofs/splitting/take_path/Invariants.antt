use Rattle.std.proofs.Common.{◌-◌, length, slice_index}
use Rattle.decomposition.specs.Graph.{edge_count}
use Rattle.path_cover.proofs.SplitFlow.{Takes}
use Rattle.path_cover.proofs.splitting.take_path.Given as goal

abbrev pub invariant-loop-next : goal.invariant-loop-next
invariant-loop-next l = Takes l.net (slice_index l.fn.rest) l.first l.path (slice_index l.rest) l.next

abbrev pub decreases-loop-next : goal.decreases-loop-next
decreases-loop-next l = edge_count l.net - length l.path
