-- The loop that clears what vertices have too much, and the vertices that a search has marked.
use Rattle.std.proofs.Common.{ℕ, ◌≤◌, List, slice_index}
use Rattle.decomposition.specs.declared.Range.{Range}
use Rattle.decomposition.specs.declared.Side.{Side}
use Rattle.decomposition.specs.Graph.{Graph}
use Rattle.lower_flow.specs.Residual.{deficit, IsRanged, residual}
use Rattle.lower_flow.specs.Search.{IsSearch, EndsAt}
use Rattle.lower_flow.specs.declared.search.Search.{Search}

-- a flow in which no vertex has a greater deficit than before, and the latest search
pub record Clears (g : Graph) (ranges : List Range) (side : Side) (old flow : List ℕ) (found : Search) : Type 0 where
  pub ranged : IsRanged g ranges flow
  pub kept : (v : ℕ) → deficit g side (slice_index flow) v ≤ deficit g side (slice_index old) v
  pub search : IsSearch (residual g ranges side (slice_index flow)) found.entries.items found.marked.items
  pub ends : EndsAt (residual g ranges side (slice_index flow)) found.entries.items found.marked.items found.target
