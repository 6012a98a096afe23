-- The text of the split graph of a node graph: a line for each edge, with its ends and the least and the greatest weight of its paths.
use Rattle.std.specs.Prelude.{ℕ, ◌*◌, List, [], ◌∷◌, ◌++◌, length, map, flat_map, slice_index, slice_index_or, codes, decimal}
use Rattle.std.specs.List.{range_with_len}
use Rattle.report_reading.specs.ReportText.{line}
use Rattle.node_routes.specs.Routes.{VertexGraph}
use Rattle.node_routes.specs.Split.{heaviest}
use Rattle.node_weights.specs.NodeText.{NodeLists}

-- the graph without the names of its vertices
abbrev pub vertex_graph : NodeLists → VertexGraph
vertex_graph g = record { weights = g.weights; edges = g.edges }

-- the name of a vertex
abbrev pub name_of : NodeLists → ℕ → List ℕ
name_of g v = slice_index_or g.names v []

-- the names of the entry and of the exit of a vertex: its name after the letter `i`, and after `o`
abbrev pub entry_of : List ℕ → List ℕ
entry_of name = 105 ∷ name

abbrev pub exit_of : List ℕ → List ℕ
exit_of name = 111 ∷ name

-- an edge of the split graph: the names of its ends, and the least and the greatest weight of the paths on it
pub record NamedEdge : Type 0 where
  pub tail : List ℕ
  pub head : List ℕ
  pub least : ℕ
  pub most : ℕ

-- the edge of a vertex, whose paths weigh just as much as the vertex, and the edge that an edge becomes
abbrev pub named_vertex : NodeLists → ℕ → NamedEdge
named_vertex g v = let weight = slice_index g.weights v in
    record { tail = entry_of (name_of g v); head = exit_of (name_of g v); least = weight; most = weight }

abbrev pub named_link : NodeLists → ℕ × ℕ → NamedEdge
named_link g e = record { tail = exit_of (name_of g e.0); head = entry_of (name_of g e.1); least = 0; most = heaviest g.weights }

-- the edges of the split graph: one for each vertex, by number, and then one for each edge, in order
abbrev pub named_edges : NodeLists → List NamedEdge
named_edges g = map (named_vertex g) (range_with_len 0 (length g.names)) ++ map (named_link g) g.edges

-- the fields of the line of an edge
abbrev pub edge_fields : NamedEdge → List (List ℕ)
edge_fields e = e.tail ∷ e.head ∷ decimal e.least ∷ decimal e.most ∷ []

-- the fields of all lines: the name of the text, the number of the vertices of the split graph, and its edges
abbrev pub split_fields : NodeLists → List (List (List ℕ))
split_fields g = (codes "#" ∷ codes "nodes" ∷ []) ∷ (decimal (2 * length g.names) ∷ []) ∷ map edge_fields (named_edges g)

-- the text: the lines of these fields, each ended by a line feed
unfoldable pub split_text : NodeLists → List ℕ
split_text g = flat_map line (split_fields g)
