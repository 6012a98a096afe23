-- The weights of a graph that was read.
use Rattle.std.proofs.Common.{◌<◌, ◌≤◌, ◌&&◌, nat_le, length, arith, leb-true}
use Rattle.std.specs.Prelude.{All}
use Rattle.std.proofs.lemmas.Bool.{and_parts}
use Rattle.std.proofs.lemmas.List.{length-map, get_or-map}
use Rattle.decomposition.specs.declared.Range.{Range}
use Rattle.decomposition.specs.Instance.{range_at}
use Rattle.decomposition.proofs.Root.{all-place}
use Rattle.graph_text.specs.Accepted.{IsAccepted}
use Rattle.graph_text.specs.declared.block.RawGraph.{RawGraph}
use Rattle.flownear_cli.specs.RightTexts.{near_mode, weights_of}

-- they are bounded
pub weights_small : (graph : RawGraph) → IsAccepted near_mode graph → All (λ w. w ≤ 1000000000000) (weights_of graph)
weights_small graph valid k d there =
    let inside : k < length graph.ranges = omega (arith, length-map graph.ranges (λ (r : Range). r.lo)) in
    let r = range_at graph.ranges k in
    let bounds = and_parts (nat_le r.lo r.hi) (nat_le r.hi 1000000000000)
    (all-place (λ (r : Range). nat_le r.lo r.hi && nat_le r.hi 1000000000000) graph.ranges (record { lo = 0; hi = 0 }) k valid.instance.bounded inside) in
    omega (arith, leb-true r.lo r.hi bounds.0, leb-true r.hi 1000000000000 bounds.1, get_or-map (λ (r : Range). r.lo) graph.ranges k (record { lo = 0; hi = 0 }) d inside)
