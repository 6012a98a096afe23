-- What has too much and what takes up more, as sums over the edges, and the flow in which nothing has too much from either side.
use Rattle.std.proofs.Common.{◌≡◌, ℕ, ◌-◌, ◌<◌, ◌≤◌, cond, List, length, slice_index, refl, arith}
use Rattle.decomposition.specs.declared.Range.{Range}
use Rattle.decomposition.specs.declared.Side.{Side}
use Rattle.decomposition.specs.declared.Side.TheVariants.{Entering, Leaving}
use Rattle.decomposition.specs.Graph.{Graph, IsNet, edge_count, is_inner}
use Rattle.decomposition.specs.Flow.{flow_into, flow_out_of}
use Rattle.decomposition.specs.Instance.{IsFlowWithin}
use Rattle.decomposition.proofs.Nets.{IsBalanced-from_none}
use Rattle.lower_flow.specs.Residual.{near, far, AreSumsAt, surplus, deficit, lack, IsCleared, IsRanged}
use Rattle.lower_flow.specs.Found.{with_ranges}

-- as it is read off the sums
module _ (g : Graph) (side : Side) (flow : ℕ → ℕ) (at_far at_near : List ℕ) (v : ℕ) (fars : AreSumsAt g (far g side) flow at_far) (nears : AreSumsAt g (near g side) flow at_near) (there : v < g.vertices) where
  pub surplus-read : surplus g side flow v ≡ cond (is_inner g v) (slice_index at_far v - slice_index at_near v) 0
  surplus-read = rw (fars.at v there, nears.at v there) refl

  pub lack-read : lack g side flow v ≡ cond (is_inner g v) (slice_index at_near v - slice_index at_far v) 18446744073709551615
  lack-read = rw (fars.at v there, nears.at v there) refl

-- cleared from both sides, a flow is balanced
pub IsFlowWithin-cleared : (g : Graph) → IsNet g → (ranges : List Range) (first flow : List ℕ) → IsRanged g ranges flow → IsCleared g Entering (slice_index first)
    → ((v : ℕ) → deficit g Leaving (slice_index flow) v ≤ deficit g Leaving (slice_index first) v) → IsCleared g Leaving (slice_index flow)
    → (length flow ≡ edge_count g) × IsFlowWithin (with_ranges g ranges) (slice_index flow)
IsFlowWithin-cleared g net ranges first flow ranged entering kept leaving = (
  ranged.one_each,
  record {
    balanced = IsBalanced-from_none g (slice_index flow) net (λ v h inner.
        let before : flow_into g (slice_index first) v - flow_out_of g (slice_index first) v ≡ 0 = rw inner at (entering v h) in
        let less : flow_into g (slice_index flow) v - flow_out_of g (slice_index flow) v ≤ flow_into g (slice_index first) v - flow_out_of g (slice_index first) v = rw inner at (kept v) in
        let other : flow_out_of g (slice_index flow) v - flow_into g (slice_index flow) v ≡ 0 = rw inner at (leaving v h) in
        omega arith);
    low = ranged.low;
    high = ranged.high;
  },
)
