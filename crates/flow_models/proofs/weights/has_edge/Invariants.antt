use Rattle.std.proofs.Common.{◌≡◌, ◌≤◌, ◌<◌, ◌-◌, ℕ, length, slice_index}
use Rattle.flow_models.proofs.weights.has_edge.Given as goal

-- the place of the edge, if it has one, is not yet ruled out
abbrev pub invariant-loop-low : goal.invariant-loop-low
invariant-loop-low l = (l.high ≤ length l.run) × ((k : ℕ) → k < length l.run → slice_index l.run k ≡ l.e → (l.low ≤ k) × (k < l.high))

abbrev pub decreases-loop-low : goal.decreases-loop-low
decreases-loop-low l = l.high - l.low
