use Rattle.std.proofs.Common.{◌-◌, slice_index}
use Rattle.std.specs.Option.{option_map_or}
use Rattle.decomposition.specs.Graph.{edge_count, head}
use Rattle.lower_flow.specs.Residual.{residual}
use Rattle.lower_flow.specs.Search.{entry_at}
use Rattle.lower_flow.proofs.Searching.{Follows}
use Rattle.lower_flow.proofs.search.Search.follow_entering.Given as goal

abbrev pub invariant-loop-into : goal.invariant-loop-into
invariant-loop-into l =
    Follows (residual l.net l.ranges l.side (slice_index l.flow)) (head l.net) (entry_at l.fn.self.entries.items l.k).vertex l.fn.self.entries.items l.fn.self.marked.items l.self.entries.items l.self.marked.items l.into

abbrev pub decreases-loop-into : goal.decreases-loop-into
decreases-loop-into l = option_map_or (λ e. edge_count l.net - e) l.into 0
