-- The flow out of each vertex, and the greatest flow of an edge at it.
use Rattle.std.specs.Prelude.{◌≡◌, ℕ, ◌<◌, ◌≤◌, ◌⊎◌, List, length, slice_index}
use Rattle.decomposition.specs.Graph.{Graph, edge_count, tail, head}
use Rattle.decomposition.specs.Flow.{flow_out_of}
use Rattle.safe_paths.specs.declared.vertex_flows.VertexFlows.{VertexFlows}

-- the greatest flow of the first `count` edges whose end is v; 0 where there is none
pub record IsGreatest (end flow : ℕ → ℕ) (count v most : ℕ) : Type 0 where
  pub above : (e : ℕ) → e < count → end e ≡ v → flow e ≤ most
  pub reached : (most ≡ 0) ⊎ ((e : ℕ) × (e < count) × (end e ≡ v) × (flow e ≡ most))

-- for each of n vertices the greatest flow of the first `count` edges that have it as their end; none is great
pub record AreGreatest (end flow : ℕ → ℕ) (n count : ℕ) (most : List ℕ) : Type 0 where
  pub room : length most ≡ n
  pub at : (v : ℕ) → v < n → IsGreatest end flow count v (slice_index most v)
  pub small : (v : ℕ) → slice_index most v ≤ 1000000000000

-- the flow out of each vertex, no flow being great
pub record AreOutFlows (g : Graph) (flow : ℕ → ℕ) (out : List ℕ) : Type 0 where
  pub room : length out ≡ g.vertices
  pub at : (v : ℕ) → v < g.vertices → slice_index out v ≡ flow_out_of g flow v
  pub small : (v : ℕ) → slice_index out v ≤ 4096000000000000

-- what is said of each vertex is so
pub record AreFlows (g : Graph) (flow : ℕ → ℕ) (at : VertexFlows) : Type 0 where
  pub out : AreOutFlows g flow at.out.items
  pub into : AreGreatest (head g) flow g.vertices (edge_count g) at.greatest_in.items
  pub from : AreGreatest (tail g) flow g.vertices (edge_count g) at.greatest_out.items
