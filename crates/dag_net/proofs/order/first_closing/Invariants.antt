use Rattle.std.proofs.Common.{◌≤◌, ◌-◌, length}
use Rattle.decomposition.specs.Graph.{graph_of, graph_before, IsNet}
use Rattle.dag_net.proofs.order.first_closing.Given as goal

abbrev pub invariant-loop-high : goal.invariant-loop-high
invariant-loop-high l =
    (l.low ≤ l.high) × (l.high ≤ length l.edges) × IsNet (graph_before (graph_of l.vertices l.edges) l.low)
    × ¬ IsNet (graph_before (graph_of l.vertices l.edges) l.high)

abbrev pub decreases-loop-high : goal.decreases-loop-high
decreases-loop-high l = l.high - l.low
