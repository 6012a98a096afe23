-- What the graph in a draft stands for: the edge lines that it was given.
use Rattle.std.specs.Prelude.{◌≡◌, ℕ, List, map, length, flat_map, All}
use Rattle.decomposition.specs.declared.Mode.{Mode}
use Rattle.graph_text.specs.declared.draft_graph.DraftGraph.{DraftGraph}
pub use Rattle.graph_text.specs.Joined.{HasEdge}
use Rattle.graph_text.specs.Reading.{Line, ends_of, distinct, edge_of, range_of}

-- the names that edge lines mention
abbrev pub names_mentioned : List Line → List (List ℕ)
names_mentioned edges = distinct (flat_map ends_of edges)

-- the numbers of lines
abbrev pub numbers_of : List Line → List ℕ
numbers_of lines = map (λ l. l.number) lines

-- a draft graph of these edge lines
pub record HoldsEdges (mode : Mode) (edges : List Line) (graph : DraftGraph) : Type 0 where
  pub names : graph.labels.names ≡ names_mentioned edges
  pub edges_are : graph.labels.edges ≡ map (edge_of (names_mentioned edges)) edges
  pub ranges_are : graph.ranges ≡ map (range_of mode) edges
  pub numbers : graph.edge_numbers.items ≡ numbers_of edges
  pub shaped : All (λ l. length (ends_of l) ≡ 2) edges
