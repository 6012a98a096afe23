-- The weights of a graph that was read.
use Rattle.std.proofs.Common.{◌≡◌, ◌==◌, ℕ, ◌<◌, ◌≤◌, ◌&&◌, cond, nat_le, length, slice_index, sym, ap, ◌∙◌, arith, leb-true}
use Rattle.std.specs.Prelude.{All}
use Rattle.std.proofs.lemmas.Bool.{and_parts}
use Rattle.std.proofs.lemmas.List.{length-map, get_or-map as get_or-map_in}
use Rattle.std.proofs.Math.ListN.{get_or-map}
use Rattle.decomposition.specs.declared.Range.{Range}
use Rattle.decomposition.specs.Graph.{edge_count, tail, head}
use Rattle.decomposition.specs.Flow.{IsBalanced}
use Rattle.decomposition.specs.Instance.{range_at}
use Rattle.decomposition.proofs.Root.{all-place}
use Rattle.decomposition.proofs.Sums.{sum_below-same}
use Rattle.graph_text.specs.Accepted.{IsAccepted}
use Rattle.graph_text.specs.declared.block.RawGraph.{RawGraph}
use Rattle.flowruns_cli.specs.RightTexts.{runs_mode, weights_of}

module _ (graph : RawGraph) (valid : IsAccepted runs_mode graph) where
  -- there is one for each edge
  pub weights_each : length (weights_of graph) ≡ edge_count graph.net
  weights_each = length-map graph.ranges (λ (r : Range). r.lo) ∙ valid.instance.ranged

  -- they are bounded
  pub weights_small : All (λ w. w ≤ 1000000000000) (weights_of graph)
  weights_small k d there =
      let inside : k < length graph.ranges = omega (arith, length-map graph.ranges (λ (r : Range). r.lo)) in
      let r = range_at graph.ranges k in
      let bounds = and_parts (nat_le r.lo r.hi) (nat_le r.hi 1000000000000)
      (all-place (λ (r : Range). nat_le r.lo r.hi && nat_le r.hi 1000000000000) graph.ranges (record { lo = 0; hi = 0 }) k valid.instance.bounded inside) in
      omega (arith, leb-true r.lo r.hi bounds.0, leb-true r.hi 1000000000000 bounds.1, get_or-map_in (λ (r : Range). r.lo) graph.ranges k (record { lo = 0; hi = 0 }) d inside)

  weight-at : (e : ℕ) → (range_at graph.ranges e).lo ≡ slice_index (weights_of graph) e
  weight-at e = sym (get_or-map (λ (r : Range). r.lo) graph.ranges e (record { lo = 0; hi = 0 }))

  -- they are balanced
  pub weights_balanced : IsBalanced graph.net (slice_index (weights_of graph))
  weights_balanced v inner =
      let g = graph.net in
      let low : ℕ → ℕ = λ e. (range_at graph.ranges e).lo in
      let weight : ℕ → ℕ = slice_index (weights_of graph) in
      sum_below-same (λ e. cond (head g e == v) (weight e) 0) (λ e. cond (head g e == v) (low e) 0) (edge_count g)
      (λ e inside. ap (λ w. cond (head g e == v) w 0) (sym (weight-at e)))
      ∙ valid.instance.fits.1 v inner
      ∙ sum_below-same (λ e. cond (tail g e == v) (low e) 0) (λ e. cond (tail g e == v) (weight e) 0) (edge_count g)
      (λ e inside. ap (λ w. cond (tail g e == v) w 0) (weight-at e))
