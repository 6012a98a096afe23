use Rattle.std.proofs.Common.{◌-◌, slice_index}
use Rattle.std.specs.Option.{option_map_or}
use Rattle.decomposition.specs.Graph.{edge_count, head}
use Rattle.dag_net.specs.Marks.{is_set}
use Rattle.path_cover.specs.Search.{entry_at}
use Rattle.path_cover.proofs.Searching.{Follows}
use Rattle.path_cover.proofs.search.Search.follow_entering.Given as goal

abbrev pub invariant-loop-into : goal.invariant-loop-into
invariant-loop-into l =
    Follows l.net (is_set l.needed) (slice_index l.flow) (head l.net) (entry_at l.fn.self.entries.items l.k).vertex l.fn.self.entries.items l.fn.self.marked.items l.self.entries.items l.self.marked.items l.into

abbrev pub decreases-loop-into : goal.decreases-loop-into
decreases-loop-into l = option_map_or (λ e. edge_count l.net - e) l.into 0
