-- Labels: the names of the vertices of a graph, and its edges.
use Rattle.std.specs.Prelude.{ℕ, ◌<◌, ◌==◌, List, [], ◌∷◌, ◌++◌, length, Bool, not, ◌&&◌, ◌||◌, if◌then◌else◌, slice_index_or, All, IsTrue}
use Rattle.std.specs.List.{list_any, IsDistinct}
use Rattle.std.specs.Str.{bytes_eq}
use Rattle.decomposition.specs.Graph.{same_ends}
use Rattle.graph_text.specs.Lines.{is_blank}

-- the names, by vertex number, and the edges, by edge number, each a pair of a tail and a head
pub record LabelLists : Type 0 where
  pub names : List (List ℕ)
  pub edges : List (ℕ × ℕ)

-- no name and no edge
abbrev pub empty_labels : LabelLists
empty_labels = record { names = []; edges = [] }

-- the name of a vertex
abbrev pub name_at : LabelLists → ℕ → List ℕ
name_at labels v = slice_index_or labels.names v []

-- the vertex that an edge leaves, and the one that it enters
abbrev pub tail_at : LabelLists → ℕ → ℕ
tail_at labels e = (slice_index_or labels.edges e (0, 0)).0

abbrev pub head_at : LabelLists → ℕ → ℕ
head_at labels e = (slice_index_or labels.edges e (0, 0)).1

-- the names with one more at their end, unless it is among them
abbrev pub with_name : List (List ℕ) → List ℕ → List (List ℕ)
with_name names name = if list_any (bytes_eq name) names then names else names ++ name ∷ []

-- whether the bytes are a field: one byte or more, none of them a blank or a line feed
abbrev pub is_field : List ℕ → Bool
is_field name = not (length name == 0) && not (list_any (λ b. is_blank b || (b == 10)) name)

-- what holds of all labels: each name is a field, no name stands twice, the ends of each edge are vertices, and no edge stands twice
pub record AreLabels (labels : LabelLists) : Type 0 where
  pub fields : All (λ name. IsTrue (is_field name)) labels.names
  pub once : IsDistinct bytes_eq labels.names
  pub ends : All (λ edge. (edge.0 < length labels.names) × (edge.1 < length labels.names)) labels.edges
  pub simple : IsDistinct same_ends labels.edges
