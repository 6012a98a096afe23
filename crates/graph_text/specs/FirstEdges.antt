-- The first edge at a vertex, and the first at an unbalanced one.
use Rattle.std.specs.Prelude.{◌≡◌, ℕ, ◌<◌, ◌==◌, ◌||◌, true, false, Option, MatchOption}
use Rattle.decomposition.specs.declared.Mode.{Mode}
use Rattle.decomposition.specs.declared.Mode.TheVariants.{Exact}
use Rattle.decomposition.specs.Flow.{IsBalanced, IsFirstUnbalanced}
use Rattle.decomposition.specs.Graph.{Graph, edge_count, tail, head}

-- the first edge that a vertex is an end of
pub record IsFirstAt (g : Graph) (v e : ℕ) : Type 0 where
  pub there : e < edge_count g
  pub named : ((tail g e == v) || (head g e == v)) ≡ true
  pub earlier : (f : ℕ) → f < e → ((tail g f == v) || (head g f == v)) ≡ false

-- The first edge at the first unbalanced vertex of a flow, where there is one and the flow must be balanced.
abbrev pub IsUnbalancedEdge : Mode → Graph → (ℕ → ℕ) → Option ℕ → Type 0
IsUnbalancedEdge mode g flow found =
    MatchOption found (mode ≡ Exact → IsBalanced g flow) (λ e. (mode ≡ Exact) × (v : ℕ) × IsFirstUnbalanced g flow v × IsFirstAt g v e)
