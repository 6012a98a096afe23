use Rattle.decomposition.specs.Graph.{graph_of, head}
use Rattle.dag_net.proofs.AddingUp.{AddsUp}
use Rattle.dag_net.proofs.order.count_entering.Given as goal

abbrev pub invariant-loop-head : goal.invariant-loop-head
invariant-loop-head l = AddsUp 1 (head (graph_of l.vertices l.edges)) (λ _. 1) l.vertices l.head-index l.counts.items
