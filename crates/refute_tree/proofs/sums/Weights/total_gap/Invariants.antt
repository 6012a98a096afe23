use Rattle.std.proofs.Common.{◌^◌, ◌≡◌, ◌≤◌, ◌*◌}
use Rattle.decomposition.specs.Answer.{sum_below}
use Rattle.refute_tree.specs.Sums.{outside}
use Rattle.refute_tree.proofs.sums.Weights.total_gap.Given as goal

abbrev pub invariant-loop-e : goal.invariant-loop-e
invariant-loop-e l = (l.gap ≡ sum_below (outside l.self l.ranges) l.e) × (l.gap ≤ 2 ^ 96 * l.e)
