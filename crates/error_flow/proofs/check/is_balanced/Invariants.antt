use Rattle.std.proofs.Common.{ℕ, ◌<◌, slice_index}
use Rattle.std.specs.Prelude.{IsTrue}
use Rattle.decomposition.specs.Graph.{is_inner}
use Rattle.decomposition.specs.Flow.{IsBalancedAt}
use Rattle.error_flow.proofs.check.is_balanced.Given as goal

-- each inner vertex so far is balanced
abbrev pub invariant-loop-v : goal.invariant-loop-v
invariant-loop-v l = (u : ℕ) → u < l.v → IsTrue (is_inner l.net u) → IsBalancedAt l.net (slice_index l.flow) u
