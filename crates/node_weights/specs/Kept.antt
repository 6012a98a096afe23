-- What a node graph keeps, and what its fields stand for.
use Rattle.std.specs.Prelude.{◌≡◌, ◌+◌, ◌≤◌, length, All}
use Rattle.decomposition.specs.Graph.{IsNet}
use Rattle.graph_text.specs.Labels.{AreLabels}
use Rattle.graph_text.specs.Reading.{most_weight}
use Rattle.node_weights.specs.NodeText.{NodeLists, most_lines, net_of}
use Rattle.node_weights.specs.declared.graph.NodeGraph.TheInside.{Inside}

-- what holds of all node graphs that are read
pub record IsNodeGraph (graph : NodeLists) : Type 0 where
  pub labels : AreLabels (record { names = graph.names; edges = graph.edges })
  pub weighted : length graph.weights ≡ length graph.names
  pub small : All (λ w. w ≤ most_weight) graph.weights
  pub acyclic : IsNet (net_of graph)
  pub few : length graph.names + length graph.edges ≤ most_lines

-- the graph that the fields stand for
abbrev pub shown : Inside → NodeLists
shown a = record { names = a.labels.names; weights = a.weights.items; edges = a.labels.edges }

abbrev pub IsKept : Inside → Type 0
IsKept a = IsNodeGraph (shown a)
