-- Directed acyclic graphs, their runs and their paths.
use Rattle.std.specs.Prelude.{take, ◌≢◌, ◌≡◌, ℕ, zero, suc, Bool, true, false, not, ◌&&◌, ◌||◌, ◌==◌, nat_lt, cond, List, [], ◌∷◌, ◌++◌, map, filter, flat_map, length, slice_index_or, IsTrue}
use Rattle.std.specs.List.{list_any, list_all, IsDistinct}

-- a directed graph: how many vertices there are, and the tail and the head of each edge
pub record Graph : Type 0 where
  pub vertices : ℕ
  pub edges : List (ℕ × ℕ)

-- the graph of so many vertices with these edges
abbrev pub graph_of : ℕ → List (ℕ × ℕ) → Graph
graph_of vertices edges = record { vertices = vertices; edges = edges }

-- the graph without edge e and those after it
abbrev pub graph_before : Graph → ℕ → Graph
graph_before g e = graph_of g.vertices (take e g.edges)

-- how many edges a graph has; an edge is named by its place in the list
abbrev pub edge_count : Graph → ℕ
edge_count g = length g.edges

-- the vertex that an edge leaves
abbrev pub tail : Graph → ℕ → ℕ
tail g e = (slice_index_or g.edges e (0, 0)).0

-- the vertex that an edge enters
abbrev pub head : Graph → ℕ → ℕ
head g e = (slice_index_or g.edges e (0, 0)).1

-- whether no edge enters a vertex
abbrev pub is_source : Graph → ℕ → Bool
is_source g v = not (list_any (λ e. e.1 == v) g.edges)

-- whether no edge leaves a vertex
abbrev pub is_sink : Graph → ℕ → Bool
is_sink g v = not (list_any (λ e. e.0 == v) g.edges)

-- whether a vertex has both incoming and outgoing edges
abbrev pub is_inner : Graph → ℕ → Bool
is_inner g v = not (is_source g v) && not (is_sink g v)

-- whether the edges are a walk from a vertex: each begins where the one before it ends
abbrev pub is_walk_from : Graph → ℕ → List ℕ → Bool
is_walk_from g v [] = true
is_walk_from g v (e ∷ es) = nat_lt e (edge_count g) && ((tail g e == v) && is_walk_from g (head g e) es)

-- the vertex where a walk from a vertex ends
abbrev pub walk_end : Graph → ℕ → List ℕ → ℕ
walk_end g v [] = v
walk_end g v (e ∷ es) = walk_end g (head g e) es

-- whether the edges are a run: a walk of at least one edge
abbrev pub is_run : Graph → List ℕ → Bool
is_run g [] = false
is_run g (e ∷ es) = is_walk_from g (tail g e) (e ∷ es)

-- whether the edges are a path: a run from a source to a sink
abbrev pub is_path : Graph → List ℕ → Bool
is_path g [] = false
is_path g (e ∷ es) = is_source g (tail g e) && (is_run g (e ∷ es) && is_sink g (walk_end g (head g e) es))

-- a run
abbrev pub IsRun : Graph → List ℕ → Type 0
IsRun g es = IsTrue (is_run g es)

-- a path
abbrev pub IsPath : Graph → List ℕ → Type 0
IsPath g es = IsTrue (is_path g es)

-- whether two edges have the same ends
abbrev pub same_ends : ℕ × ℕ → ℕ × ℕ → Bool
same_ends d e = (d.0 == e.0) && (d.1 == e.1)

-- a net: every end is a vertex, no two edges have the same ends, and no walk of at least one edge is closed
pub record IsNet (g : Graph) : Type 0 where
  pub in_range : IsTrue (list_all (λ e. nat_lt e.0 g.vertices && nat_lt e.1 g.vertices) g.edges)
  pub simple : IsDistinct same_ends g.edges
  pub acyclic : (v : ℕ) (es : List ℕ) → IsTrue (is_walk_from g v es) → walk_end g v es ≡ v → es ≡ []

-- whether an edge stands in a list of edges
abbrev pub has_edge : List ℕ → ℕ → Bool
has_edge es e = list_any (λ f. e == f) es

-- whether a list begins with another
abbrev pub begins_with : List ℕ → List ℕ → Bool
begins_with es [] = true
begins_with [] (f ∷ fs) = false
begins_with (e ∷ es) (f ∷ fs) = (e == f) && begins_with es fs

-- whether a list stands in another as consecutive entries
abbrev pub contains_run : List ℕ → List ℕ → Bool
contains_run [] fs = begins_with [] fs
contains_run (e ∷ es) fs = begins_with (e ∷ es) fs || contains_run es fs

-- some path has both edges
abbrev pub EdgesShareAPath : Graph → ℕ → ℕ → Type 0
EdgesShareAPath g e f = (p : List ℕ) × IsPath g p × IsTrue (has_edge p e) × IsTrue (has_edge p f)

-- some path contains both runs
abbrev pub RunsShareAPath : Graph → List ℕ → List ℕ → Type 0
RunsShareAPath g r s = (p : List ℕ) × IsPath g p × IsTrue (contains_run p r) × IsTrue (contains_run p s)

-- the numbers below n, rising
abbrev pub below : ℕ → List ℕ
below zero = []
below (suc n) = below n ++ n ∷ []

-- the edges that leave a vertex, rising
abbrev pub edges_from : Graph → ℕ → List ℕ
edges_from g v = filter (λ e. tail g e == v) (below (edge_count g))

-- the edges that leave a source, rising
abbrev pub edges_from_sources : Graph → List ℕ
edges_from_sources g = filter (λ e. is_source g (tail g e)) (below (edge_count g))

-- the walks of at most n edges from a vertex to a sink, rising
abbrev pub walks_to_sinks : Graph → ℕ → ℕ → List (List ℕ)
walks_to_sinks g zero v = cond (is_sink g v) ([] ∷ []) []
walks_to_sinks g (suc n) v =
    cond (is_sink g v) ([] ∷ []) [] ++ flat_map (λ e. map (λ es. e ∷ es) (walks_to_sinks g n (head g e))) (edges_from g v)

-- all paths of a net, rising by edge list: no run of a net has more edges than the net
abbrev pub paths : Graph → List (List ℕ)
paths g = flat_map (λ e. map (λ es. e ∷ es) (walks_to_sinks g (edge_count g) (head g e))) (edges_from_sources g)

-- an edge list comes before another: entry by entry, a prefix first
abbrev pub is_list_le : List ℕ → List ℕ → Bool
is_list_le [] q = true
is_list_le (e ∷ p) [] = false
is_list_le (e ∷ p) (f ∷ q) = nat_lt e f || ((e == f) && is_list_le p q)

-- an edge list stands before another: entry by entry, a prefix first, and they are not the same
abbrev pub is_list_before : List ℕ → List ℕ → Bool
is_list_before p [] = false
is_list_before [] (f ∷ q) = true
is_list_before (e ∷ p) (f ∷ q) = nat_lt e f || ((e == f) && is_list_before p q)

-- the edge lists rise, and none stands twice
abbrev pub IsRising : List (List ℕ) → Type 0
IsRising [] = Unit {0}
IsRising (p ∷ []) = Unit {0}
IsRising (p ∷ (q ∷ rest)) = IsTrue (is_list_le p q) × (p ≢ q) × IsRising (q ∷ rest)
