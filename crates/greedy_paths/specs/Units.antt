-- The booked units on each edge, and what they leave of a flow.
use Rattle.std.specs.Prelude.{◌≡◌, ℕ, ◌-◌, ◌≤◌, ◌<◌, List, length, slice_index}
use Rattle.decomposition.specs.Graph.{Graph, edge_count}
use Rattle.decomposition.specs.Answer.{weight_on}

-- for each edge the weight of the paths through it
pub record AreUnits (g : Graph) (booked : List (List ℕ × ℕ)) (units : List ℕ) : Type 0 where
  pub count : length units ≡ edge_count g
  pub each : (e : ℕ) → e < edge_count g → slice_index units e ≡ weight_on booked e

-- what is left of a flow that no edge's units pass
pub record IsRest (g : Graph) (flow : ℕ → ℕ) (booked : List (List ℕ × ℕ)) (rest : List ℕ) : Type 0 where
  pub count : length rest ≡ edge_count g
  pub fits : (e : ℕ) → e < edge_count g → weight_on booked e ≤ flow e
  pub each : (e : ℕ) → slice_index rest e ≡ flow e - weight_on booked e
