use Rattle.std.proofs.Common.{◌-◌, length, slice_index, vec_len}
use Rattle.std.specs.Option.{option_map_or}
use Rattle.decomposition.specs.Graph.{graph_of}
use Rattle.dag_net.proofs.Taking.{Takes}
use Rattle.dag_net.proofs.order.Peeling.take_vertex.Given as goal

abbrev pub invariant-loop-out : goal.invariant-loop-out
invariant-loop-out l = Takes (graph_of (vec_len l.fn.self.waiting) l.edges) l.k (slice_index l.fn.self.order.items l.k) l.fn.self.order.items l.out l.self.waiting.items l.self.order.items

abbrev pub decreases-loop-out : goal.decreases-loop-out
decreases-loop-out l = option_map_or (λ e. length l.edges - e) l.out 0
