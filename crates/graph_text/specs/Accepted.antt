-- What holds of every graph that is read, and of the lines of every block.
use Rattle.std.specs.Prelude.{◌≡◌, ◌≤◌, ℕ, ◌==◌, List, length, false, All, Ok}
use Rattle.std.specs.List.{list_any}
use Rattle.decomposition.specs.declared.Mode.{Mode}
use Rattle.decomposition.specs.Graph.{edge_count}
use Rattle.decomposition.specs.Instance.{IsInstance}
use Rattle.graph_text.specs.declared.block.RawGraph.{RawGraph}
use Rattle.graph_text.specs.Labels.{AreLabels}
use Rattle.graph_text.specs.Blocks.{TextBlock, blocks, complete}
use Rattle.graph_text.specs.Reading.{most_edges, most_constraints, read, instance_of}

-- no line of a block has a line feed in it
abbrev pub HasWholeLines : TextBlock → Type 0
HasWholeLines block = All (λ line. list_any (λ b. b == 10) line ≡ false) block.lines

-- a graph that is a valid instance of the model, with labels that have its edges and as many names as it has vertices, and
-- that has few edges and few runs
pub record IsAccepted (mode : Mode) (graph : RawGraph) : Type 0 where
  pub instance : IsInstance mode (instance_of graph)
  pub labels : AreLabels graph.labels
  pub edges : graph.labels.edges ≡ graph.net.edges
  pub vertices : length graph.labels.names ≡ graph.net.vertices
  pub few_edges : edge_count graph.net ≤ most_edges
  pub few_runs : length graph.runs ≤ most_constraints

-- every graph that a block is read as is such a graph
abbrev pub GraphsAreAccepted : Type 0
GraphsAreAccepted = (mode : Mode) (block : TextBlock) (graph : RawGraph) → HasWholeLines block → read mode block ≡ Ok graph → IsAccepted mode graph

-- the blocks of an input, complete or not, have whole lines
abbrev pub BlocksHaveWholeLines : Type 0
BlocksHaveWholeLines = (bytes : List ℕ) → All HasWholeLines (blocks bytes) × All HasWholeLines (complete bytes)
