-- The balanced flow nearest to weights.
use Rattle.std.specs.Prelude.{◌≡◌, ℕ, ◌+◌, ◌-◌, ◌≤◌}
use Rattle.decomposition.specs.Graph.{Graph, edge_count}
use Rattle.decomposition.specs.Answer.{sum_below}
use Rattle.decomposition.specs.Flow.{IsBalanced}

-- how far apart two numbers are
abbrev pub apart : ℕ → ℕ → ℕ
apart x y = (x - y) + (y - x)

-- the change of a flow: over all edges, how far it is from the weights
abbrev pub change : Graph → (ℕ → ℕ) → (ℕ → ℕ) → ℕ
change g weight flow = sum_below (λ e. apart (weight e) (flow e)) (edge_count g)

-- a balanced flow with this change, and no balanced flow changes less
pub record IsNearest (g : Graph) (weight flow : ℕ → ℕ) (total : ℕ) : Type 0 where
  pub balanced : IsBalanced g flow
  pub reached : change g weight flow ≡ total
  pub least : (other : ℕ → ℕ) → IsBalanced g other → total ≤ change g weight other
