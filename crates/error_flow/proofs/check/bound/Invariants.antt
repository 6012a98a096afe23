use Rattle.std.proofs.Common.{◌≡◌, ◌*◌, slice_index}
use Rattle.std.specs.Prelude.{pos, ◌≤ℤ◌, ◌+ℤ◌}
use Rattle.error_flow.specs.Limits.{most_weight}
use Rattle.error_flow.specs.Certificate.{level_at, bound_before}
use Rattle.error_flow.proofs.check.bound.Given as goal

-- the shares of the edges so far, each from -10^12 to 10^12
abbrev pub invariant-loop-e : goal.invariant-loop-e
invariant-loop-e l =
    (l.sum ≡ bound_before l.net (slice_index l.weights) (level_at l.levels) l.e)
    × (l.sum ≤ℤ pos (l.e * most_weight))
    × (pos 0 ≤ℤ (l.sum +ℤ pos (l.e * most_weight)))
