-- Sums along a list of edges.
use Rattle.std.specs.Prelude.{ℕ, List, sum_by}
use Rattle.decomposition.specs.Graph.{Graph, tail}
use Rattle.decomposition.specs.Flow.{flow_out_of}

-- the flow of the edges of a list
abbrev pub carried : (ℕ → ℕ) → List ℕ → ℕ
carried flow es = sum_by flow es

-- the flow out of the vertices that the edges of a list leave
abbrev pub passed : Graph → (ℕ → ℕ) → List ℕ → ℕ
passed g flow es = sum_by (λ e. flow_out_of g flow (tail g e)) es
