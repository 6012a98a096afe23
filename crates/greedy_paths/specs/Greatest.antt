-- The edges of greatest flow at each vertex, of those as great the first.
use Rattle.std.specs.Prelude.{◌≡◌, ◌≢◌, ℕ, ◌<◌, ◌≤◌, ◌⊎◌, List, length, slice_index_or, Option, None, MatchOption}
use Rattle.decomposition.specs.Graph.{Graph, edge_count, tail, head}
use Rattle.greedy_paths.specs.declared.greatest.GreatestEdges.{GreatestEdges}

-- edge e has more flow than edge f, or as much and stands no later
abbrev pub IsAhead : (ℕ → ℕ) → ℕ → ℕ → Type 0
IsAhead flow e f = (flow f < flow e) ⊎ ((flow f ≡ flow e) × (e ≤ f))

-- of an edge that was found and a later one, the one that is ahead
abbrev pub IsGreater : (ℕ → ℕ) → Option ℕ → ℕ → ℕ → Type 0
IsGreater flow found e greater =
    MatchOption found (greater ≡ e) (λ d. ((greater ≡ d) × (flow e ≤ flow d)) ⊎ ((greater ≡ e) × (flow d < flow e)))

-- of the first `count` edges whose end is v, the one that is ahead of all, if there is one
abbrev pub IsGreatestAt : (ℕ → ℕ) → (ℕ → ℕ) → ℕ → ℕ → Option ℕ → Type 0
IsGreatestAt end flow count v found =
    MatchOption found ((e : ℕ) → e < count → end e ≢ v) (λ e. (e < count) × (end e ≡ v) × ((f : ℕ) → f < count → end f ≡ v → IsAhead flow e f))

-- such an edge for each of n vertices
pub record AreGreatestAt (end flow : ℕ → ℕ) (n count : ℕ) (found : List (Option ℕ)) : Type 0 where
  pub room : length found ≡ n
  pub at : (v : ℕ) → v < n → IsGreatestAt end flow count v (slice_index_or found v None)

-- for each vertex the edge of greatest flow into it, and the one out of it
pub record AreGreatest (g : Graph) (flow : ℕ → ℕ) (edges : GreatestEdges) : Type 0 where
  pub into : AreGreatestAt (head g) flow g.vertices (edge_count g) edges.into.items
  pub out_of : AreGreatestAt (tail g) flow g.vertices (edge_count g) edges.out_of.items
