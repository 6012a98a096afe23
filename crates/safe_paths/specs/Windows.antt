-- Parts of a path, and their sums.
use Rattle.std.specs.Prelude.{◌≡◌, ℕ, ◌<◌, ◌≤◌, List, length, slice_index, All}
use Rattle.std.specs.List.{slice_range}
use Rattle.decomposition.specs.Graph.{Graph, IsNet, IsPath, edge_count}
use Rattle.decomposition.specs.Answer.{entry_at}
use Rattle.decomposition.specs.Flow.{IsBalanced}
use Rattle.safe_paths.specs.Sums.{carried, passed}
use Rattle.safe_paths.specs.VertexFlows.{AreFlows}
use Rattle.safe_paths.specs.declared.vertex_flows.VertexFlows.{VertexFlows}
use Rattle.safe_paths.specs.declared.windows.Window.{Window}

-- the part of a path from one place up to another
abbrev pub part : List ℕ → ℕ → ℕ → List ℕ
part path from to = slice_range path from to

-- the run in a window
abbrev pub window_run : List ℕ → Window → List ℕ
window_run path w = part path w.from w.to

-- the window lies in the path, and its sums are those of its run
pub record IsWindow (g : Graph) (flow : ℕ → ℕ) (path : List ℕ) (w : Window) : Type 0 where
  pub ordered : w.from ≤ w.to
  pub within : w.to ≤ length path
  pub carries : w.carried ≡ carried flow (window_run path w)
  pub passes : w.passed ≡ passed g flow (window_run path w)

-- a balanced flow of a net, one number an edge and none great, with what is known of each vertex
pub record IsFlowAt (g : Graph) (flow : List ℕ) (at : VertexFlows) : Type 0 where
  pub net : IsNet g
  pub few : edge_count g ≤ 4096
  pub one_each : length flow ≡ edge_count g
  pub small : All (λ w. w ≤ 1000000000000) flow
  pub balanced : IsBalanced g (slice_index flow)
  pub flows : AreFlows g (slice_index flow) at

-- a path of such a net, each of its edges with flow
pub record IsLaidOut (g : Graph) (flow : List ℕ) (at : VertexFlows) (path : List ℕ) : Type 0 where
  pub given : IsFlowAt g flow at
  pub is_path : IsPath g path
  pub positive : All (λ e. 1 ≤ slice_index flow e) path

-- such a net and flow, with paths that make up the flow
pub record IsSearched (g : Graph) (flow : List ℕ) (at : VertexFlows) (a : List (List ℕ × ℕ)) : Type 0 where
  pub given : IsFlowAt g flow at
  pub each : (k : ℕ) → k < length a → IsLaidOut g flow at (entry_at a k).0
