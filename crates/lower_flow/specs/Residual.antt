-- Residual graphs: how far the flow on each edge may change, and which vertices are not balanced.
use Rattle.std.specs.Prelude.{◌≡◌, ℕ, ◌-◌, ◌≤◌, ◌<◌, ◌==◌, cond, List, length, slice_index}
use Rattle.decomposition.specs.declared.Range.{Range}
use Rattle.decomposition.specs.declared.Side.{Side}
use Rattle.decomposition.specs.declared.Side.TheVariants.{Entering, Leaving}
use Rattle.decomposition.specs.Graph.{Graph, edge_count, tail, head, is_inner}
use Rattle.decomposition.specs.Answer.{sum_below}
use Rattle.decomposition.specs.Instance.{range_at}
use Rattle.lower_flow.specs.Limits.{most_wide_units}

-- the end from which a surplus goes over an edge that takes more flow: the tail where too much enters, the head where too much leaves
abbrev pub near : Graph → Side → ℕ → ℕ
near g Entering = tail g
near g Leaving = head g

-- the other end
abbrev pub far : Graph → Side → ℕ → ℕ
far g Entering = head g
far g Leaving = tail g

-- the flow of the edges that have a vertex as this end
abbrev pub flow_at : Graph → (ℕ → ℕ) → (ℕ → ℕ) → ℕ → ℕ
flow_at g end flow v = sum_below (λ e. cond (end e == v) (flow e) 0) (edge_count g)

-- for each vertex, the flow of the edges that have it as this end
pub record AreSumsAt (g : Graph) (end flow : ℕ → ℕ) (sums : List ℕ) : Type 0 where
  pub count : length sums ≡ g.vertices
  pub at : (v : ℕ) → v < g.vertices → slice_index sums v ≡ flow_at g end flow v

-- how much more an inner vertex has at the far ends of edges than at their near ends
abbrev pub surplus : Graph → Side → (ℕ → ℕ) → ℕ → ℕ
surplus g side flow v = cond (is_inner g v) (flow_at g (far g side) flow v - flow_at g (near g side) flow v) 0

-- how much less an inner vertex has at the far ends of edges than at their near ends
abbrev pub deficit : Graph → Side → (ℕ → ℕ) → ℕ → ℕ
deficit g side flow v = cond (is_inner g v) (flow_at g (near g side) flow v - flow_at g (far g side) flow v) 0

-- how much a vertex takes up: an inner one its deficit, another one as much as a number can be
abbrev pub lack : Graph → Side → (ℕ → ℕ) → ℕ → ℕ
lack g side flow v = cond (is_inner g v) (flow_at g (near g side) flow v - flow_at g (far g side) flow v) 18446744073709551615

-- no inner vertex has too much
abbrev pub IsCleared : Graph → Side → (ℕ → ℕ) → Type 0
IsCleared g side flow = (v : ℕ) → v < g.vertices → surplus g side flow v ≡ 0

-- one number for each edge, within its range, and ranges that are not too great
pub record IsRanged (g : Graph) (ranges : List Range) (flow : List ℕ) : Type 0 where
  pub one_range_each : length ranges ≡ edge_count g
  pub one_each : length flow ≡ edge_count g
  pub low : (e : ℕ) → e < edge_count g → (range_at ranges e).lo ≤ slice_index flow e
  pub high : (e : ℕ) → e < edge_count g → slice_index flow e ≤ (range_at ranges e).hi
  pub small : (e : ℕ) → e < edge_count g → (range_at ranges e).hi ≤ most_wide_units

-- the ends of the edges, how much more and how much less each may have, and what the vertices have too much and take up
pub record Residual : Type 0 where
  pub vertices : ℕ
  pub edges : ℕ
  pub near : ℕ → ℕ
  pub far : ℕ → ℕ
  pub above : ℕ → ℕ
  pub below : ℕ → ℕ
  pub surplus : ℕ → ℕ
  pub lack : ℕ → ℕ

-- the residual graph of a flow, as seen from one side
abbrev pub residual : Graph → List Range → Side → (ℕ → ℕ) → Residual
residual g ranges side flow = record {
  vertices = g.vertices;
  edges = edge_count g;
  near = near g side;
  far = far g side;
  above = λ e. (range_at ranges e).hi - flow e;
  below = λ e. flow e - (range_at ranges e).lo;
  surplus = surplus g side flow;
  lack = lack g side flow;
}
