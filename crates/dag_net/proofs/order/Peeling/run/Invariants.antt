use Rattle.std.proofs.Common.{◌≤◌, ◌-◌, vec_len}
use Rattle.decomposition.specs.Graph.{graph_of}
use Rattle.dag_net.specs.Peeling.{PeelsTo}
use Rattle.dag_net.proofs.order.Peeling.run.Given as goal

abbrev pub invariant-loop-k : goal.invariant-loop-k
invariant-loop-k l = PeelsTo (graph_of (vec_len l.fn.self.waiting) l.edges) l.k l.self.waiting.items l.self.order.items × (l.k ≤ vec_len l.self.order)

abbrev pub decreases-loop-k : goal.decreases-loop-k
decreases-loop-k l = vec_len l.fn.self.waiting - l.k
