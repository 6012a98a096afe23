use Rattle.std.proofs.Common.{◌-◌, slice_index}
use Rattle.std.specs.Option.{option_map_or}
use Rattle.decomposition.specs.Graph.{edge_count, tail}
use Rattle.lower_flow.specs.Residual.{residual}
use Rattle.lower_flow.specs.Search.{entry_at}
use Rattle.lower_flow.proofs.Searching.{Follows}
use Rattle.lower_flow.proofs.search.Search.follow_leaving.Given as goal

abbrev pub invariant-loop-out : goal.invariant-loop-out
invariant-loop-out l =
    Follows (residual l.net l.ranges l.side (slice_index l.flow)) (tail l.net) (entry_at l.fn.self.entries.items l.k).vertex l.fn.self.entries.items l.fn.self.marked.items l.self.entries.items l.self.marked.items l.out

abbrev pub decreases-loop-out : goal.decreases-loop-out
decreases-loop-out l = option_map_or (λ e. edge_count l.net - e) l.out 0
