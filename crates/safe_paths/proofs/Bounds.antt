-- Bounds of the sums of windows, within 64 bits.
use Rattle.std.proofs.Common.{◌≤◌, ℕ, ◌==◌, List, length, slice_index, arith}
use Rattle.std.proofs.lemmas.List.Elements.{All-from_get_or}
use Rattle.std.proofs.lemmas.List.Sums.{sum_by-le}
use Rattle.decomposition.specs.Graph.{Graph, edge_count, tail}
use Rattle.decomposition.specs.Flow.{flow_out_of}
use Rattle.decomposition.proofs.Walks.{walk-length}
use Rattle.decomposition.proofs.Exchange.{PathParts, path-parts}
use Rattle.safe_paths.specs.Windows.{IsLaidOut, IsWindow, window_run}
use Rattle.safe_paths.specs.declared.vertex_flows.VertexFlows.{VertexFlows}
use Rattle.safe_paths.specs.declared.windows.Window.{Window}
use Rattle.safe_paths.proofs.OutSums.{small-at, sum_below-bound}
use Rattle.safe_paths.proofs.Parts.{length-part}

module _ (g : Graph) (flow : List ℕ) (at : VertexFlows) (path : List ℕ) (laid : IsLaidOut g flow at path) where
  path-few : length path ≤ 4096
  path-few =
      let parts : PathParts g path = path-parts g path laid.is_path in
      omega (arith, walk-length g laid.given.net parts.start path parts.walk, laid.given.few)

  out-few : (v : ℕ) → flow_out_of g (slice_index flow) v ≤ 4096000000000000
  out-few v =
      omega (
        arith,
        laid.given.few,
        sum_below-bound (λ e. tail g e == v) (slice_index flow) 1000000000000 (edge_count g) (small-at 1000000000000 flow laid.given.small),
      )

  module _ (w : Window) (window : IsWindow g (slice_index flow) path w) where
    window-few : length (window_run path w) ≤ 4096
    window-few = omega (arith, path-few, length-part path w.from w.to window.ordered window.within)

    pub carried-small : w.carried ≤ 4096000000000000
    carried-small =
        omega (
          arith,
          window.carries,
          window-few,
          sum_by-le (slice_index flow) 1000000000000 (window_run path w)
              (All-from_get_or (λ e. slice_index flow e ≤ 1000000000000) (window_run path w) 0 (λ k h. small-at 1000000000000 flow laid.given.small (slice_index (window_run path w) k))),
        )

    pub passed-small : w.passed ≤ 16777216000000000000
    passed-small =
        omega (
          arith,
          window.passes,
          window-few,
          sum_by-le (λ e. flow_out_of g (slice_index flow) (tail g e)) 4096000000000000 (window_run path w)
              (All-from_get_or (λ e. flow_out_of g (slice_index flow) (tail g e) ≤ 4096000000000000) (window_run path w) 0 (λ k h. out-few (tail g (slice_index (window_run path w) k)))),
        )
