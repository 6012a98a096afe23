-- Flows that change the weights by just as much as levels say that they must.
use Rattle.std.specs.Prelude.{◌≡◌, ℕ, ◌<◌, ◌≤◌, List, length, slice_index, ℤ, pos, ◌<ℤ◌}
use Rattle.decomposition.specs.declared.Range.{Range}
use Rattle.decomposition.specs.Graph.{Graph, edge_count}
use Rattle.decomposition.specs.Answer.{sum_below}
use Rattle.decomposition.specs.Instance.{range_at}
use Rattle.error_flow.specs.Certificate.{rise, bound}
use Rattle.error_flow.specs.Nearest.{change}
use Rattle.decomposition.specs.Flow.{IsBalanced}

-- the sum of the weights
abbrev pub total_of : Graph → (ℕ → ℕ) → ℕ
total_of g weight = sum_below weight (edge_count g)

-- the flow of an edge that costs no more than its share: nothing where the level rises by more than 1, at most the weight where by 1, the weight where not at all, at least the
-- weight where it falls; and never more than all weights together
pub record IsTight (total : ℕ) (up : ℤ) (weight : ℕ) (r : Range) : Type 0 where
  pub steep : pos 1 <ℤ up → r.hi ≡ 0
  pub low : pos 0 <ℤ up → r.lo ≡ 0
  pub one : up ≡ pos 1 → r.hi ≡ weight
  pub flat : up ≡ pos 0 → r.hi ≡ weight
  pub high : up <ℤ pos 1 → r.lo ≡ weight
  pub falls : up <ℤ pos 0 → r.hi ≡ total

-- the same for each of the first n edges
pub record AreTightBefore (n : ℕ) (g : Graph) (weight : ℕ → ℕ) (level : ℕ → ℤ) (ranges : List Range) : Type 0 where
  pub count : length ranges ≡ n
  pub each : (e : ℕ) → e < n → IsTight (total_of g weight) (rise g level e) (weight e) (range_at ranges e)

-- for all edges
abbrev pub AreTight : Graph → (ℕ → ℕ) → (ℕ → ℤ) → List Range → Type 0
AreTight g weight level ranges = AreTightBefore (edge_count g) g weight level ranges

-- a balanced flow that changes the weights by just the bound of the levels, and in which no edge has more than all weights together
pub record IsTightFlow (g : Graph) (weight : ℕ → ℕ) (level : ℕ → ℤ) (flow : List ℕ) : Type 0 where
  pub count : length flow ≡ edge_count g
  pub balanced : IsBalanced g (slice_index flow)
  pub reached : bound g weight level ≡ pos (change g weight (slice_index flow))
  pub most : (e : ℕ) → e < edge_count g → slice_index flow e ≤ total_of g weight
