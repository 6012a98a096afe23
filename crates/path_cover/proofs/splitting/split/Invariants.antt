use Rattle.std.proofs.Common.{slice_index}
use Rattle.decomposition.specs.Graph.{edge_count}
use Rattle.decomposition.specs.Answer.{sum_below}
use Rattle.path_cover.proofs.SplitFlow.{Splits}
use Rattle.path_cover.proofs.splitting.split.Given as goal

abbrev pub invariant-loop-first : goal.invariant-loop-first
invariant-loop-first l = Splits l.net (slice_index l.flow) l.cover l.rest.items

abbrev pub decreases-loop-first : goal.decreases-loop-first
decreases-loop-first l = sum_below (slice_index l.rest.items) (edge_count l.net)
