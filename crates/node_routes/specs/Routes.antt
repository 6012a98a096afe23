-- Graphs with a weight on each vertex, and the routes that explain the weights.
use Rattle.std.specs.Prelude.{◌≡◌, ℕ, ◌≤◌, ◌<◌, Bool, true, false, ◌&&◌, nat_le, nat_lt, List, [], ◌∷◌, length, slice_index, IsTrue}
use Rattle.std.specs.List.{list_any, list_all}
use Rattle.decomposition.specs.Graph.{Graph, graph_of, is_source, is_sink, same_ends}
use Rattle.decomposition.specs.Answer.{weight_on}

-- a graph with weights on its vertices: a vertex is a place in the list of weights, an edge is the pair of its tail and its head
pub record VertexGraph : Type 0 where
  pub weights : List ℕ
  pub edges : List (ℕ × ℕ)

-- how many vertices it has
abbrev pub vertex_count : VertexGraph → ℕ
vertex_count g = length g.weights

-- the graph without its weights
abbrev pub bare : VertexGraph → Graph
bare g = graph_of (vertex_count g) g.edges

-- whether an edge leads from a vertex to the first of a list, and from each of the list to the next
abbrev pub are_joined : Graph → ℕ → List ℕ → Bool
are_joined g u [] = true
are_joined g u (v ∷ vs) = list_any (λ e. same_ends e (u, v)) g.edges && are_joined g v vs

-- the last of a vertex and those that follow it
abbrev pub last_of : ℕ → List ℕ → ℕ
last_of u [] = u
last_of u (v ∷ vs) = last_of v vs

-- whether the vertices are a route: at least one, neighbours joined by edges, from a vertex that no edge enters to one that no edge leaves
abbrev pub is_route : VertexGraph → List ℕ → Bool
is_route g [] = false
is_route g (v ∷ vs) =
    list_all (λ u. nat_lt u (vertex_count g)) (v ∷ vs) && (is_source (bare g) v && (are_joined (bare g) v vs && is_sink (bare g) (last_of v vs)))

-- a route
abbrev pub IsRoute : VertexGraph → List ℕ → Type 0
IsRoute g route = IsTrue (is_route g route)

-- a node answer: routes, each with a weight of at least 1
abbrev pub IsNodeAnswer : VertexGraph → List (List ℕ × ℕ) → Type 0
IsNodeAnswer g a = IsTrue (list_all (λ entry. is_route g entry.0 && nat_le 1 entry.1) a)

-- the total weight of the routes through a vertex
abbrev pub weight_through : List (List ℕ × ℕ) → ℕ → ℕ
weight_through a v = weight_on a v

-- for each vertex the weights of the routes through it sum to its weight
abbrev pub AddUp : VertexGraph → List (List ℕ × ℕ) → Type 0
AddUp g a = (v : ℕ) → v < vertex_count g → weight_through a v ≡ slice_index g.weights v

-- a node answer that explains the weights
pub record Explains (g : VertexGraph) (a : List (List ℕ × ℕ)) : Type 0 where
  pub answer : IsNodeAnswer g a
  pub sums : AddUp g a

-- an optimal node answer: it explains, and none that explains has fewer routes
pub record IsFewest (g : VertexGraph) (a : List (List ℕ × ℕ)) : Type 0 where
  pub explains : Explains g a
  pub least : (b : List (List ℕ × ℕ)) → Explains g b → length a ≤ length b

-- no node answer explains
abbrev pub IsUnexplained : VertexGraph → Type 0
IsUnexplained g = (a : List (List ℕ × ℕ)) → Explains g a → ⊥

-- every node answer that explains has at least so many routes
abbrev pub NeedsRoutes : VertexGraph → ℕ → Type 0
NeedsRoutes g n = (a : List (List ℕ × ℕ)) → Explains g a → n ≤ length a
