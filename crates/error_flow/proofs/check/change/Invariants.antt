use Rattle.std.proofs.Common.{◌≡◌, ◌≤◌, ◌*◌, slice_index}
use Rattle.decomposition.specs.Answer.{sum_below}
use Rattle.error_flow.specs.Nearest.{apart}
use Rattle.error_flow.proofs.check.change.Given as goal

-- the change of the edges so far, at most 2^64 each
abbrev pub invariant-loop-e : goal.invariant-loop-e
invariant-loop-e l = (l.sum ≡ sum_below (λ e. apart (slice_index l.weights e) (slice_index l.flow e)) l.e) × (l.sum ≤ l.e * 18446744073709551615)
