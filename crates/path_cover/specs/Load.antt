-- How many paths of a list have an edge, and the edges that paths are still to have.
use Rattle.std.specs.Prelude.{◌≡◌, ℕ, ◌+◌, ◌<◌, ◌≤◌, ◌==◌, cond, List, [], ◌∷◌, Option, MatchOption, IsTrue}
use Rattle.decomposition.specs.Graph.{Graph, edge_count, tail, is_source}

-- how often an edge stands in a list
abbrev pub times : List ℕ → ℕ → ℕ
times [] e = 0
times (d ∷ es) e = cond (d == e) 1 0 + times es e

-- how often an edge stands in the lists together
abbrev pub load : List (List ℕ) → ℕ → ℕ
load [] e = 0
load (p ∷ ps) e = times p e + load ps e

-- an edge with flow that leaves v, if there is one
abbrev pub IsNextLeft : Graph → (ℕ → ℕ) → ℕ → Option ℕ → Type 0
IsNextLeft g rest v found =
    MatchOption found ((e : ℕ) → e < edge_count g → tail g e ≡ v → rest e ≡ 0) (λ e. (e < edge_count g) × (tail g e ≡ v) × (1 ≤ rest e))

-- an edge with flow that leaves a source, if there is one
abbrev pub IsFirstLeft : Graph → (ℕ → ℕ) → Option ℕ → Type 0
IsFirstLeft g rest found =
    MatchOption found ((e : ℕ) → e < edge_count g → IsTrue (is_source g (tail g e)) → rest e ≡ 0) (λ e. (e < edge_count g) × IsTrue (is_source g (tail g e)) × (1 ≤ rest e))
