-- Edges by which a path may go on.
use Rattle.std.specs.Prelude.{◌≡◌, ℕ, ◌<◌, Option, MatchOption, IsTrue}
use Rattle.decomposition.specs.Graph.{Graph, edge_count, tail, head, is_source, is_sink}

-- an edge that leaves v, if v is no sink
abbrev pub IsEdgeOut : Graph → ℕ → Option ℕ → Type 0
IsEdgeOut g v found = MatchOption found (IsTrue (is_sink g v)) (λ e. (e < edge_count g) × (tail g e ≡ v))

-- an edge that enters v, if v is no source
abbrev pub IsEdgeInto : Graph → ℕ → Option ℕ → Type 0
IsEdgeInto g v found = MatchOption found (IsTrue (is_source g v)) (λ e. (e < edge_count g) × (head g e ≡ v))
