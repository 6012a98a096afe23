-- What enters and leaves each vertex, as two lists.
use Rattle.std.specs.Prelude.{◌≡◌, ℕ, ◌<◌, List, length, slice_index}
use Rattle.decomposition.specs.Graph.{Graph}
use Rattle.decomposition.specs.Flow.{flow_into, flow_out_of}

-- for each vertex, the flow of the edges that enter it and of those that leave it
pub record AreSums (g : Graph) (flow : ℕ → ℕ) (into out : List ℕ) : Type 0 where
  pub into_count : length into ≡ g.vertices
  pub out_count : length out ≡ g.vertices
  pub enters : (v : ℕ) → v < g.vertices → slice_index into v ≡ flow_into g flow v
  pub leaves : (v : ℕ) → v < g.vertices → slice_index out v ≡ flow_out_of g flow v
