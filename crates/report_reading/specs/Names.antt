-- How the labels of a graph stand in a report.
use Rattle.std.specs.Prelude.{ℕ, List, [], ◌∷◌, length, map}
use Rattle.decomposition.specs.Graph.{Graph, graph_of}
use Rattle.graph_text.specs.Labels.{LabelLists, name_at, tail_at, head_at}

-- the graph of the labels
abbrev pub graph_at : LabelLists → Graph
graph_at labels = graph_of (length labels.names) labels.edges

-- the vertices of a run: the first tail, and each head
abbrev pub vertices_at : LabelLists → List ℕ → List ℕ
vertices_at labels [] = []
vertices_at labels (e ∷ edges) = tail_at labels e ∷ map (head_at labels) (e ∷ edges)

-- the names of the vertices of a run
abbrev pub names_along : LabelLists → List ℕ → List (List ℕ)
names_along labels run = map (name_at labels) (vertices_at labels run)
