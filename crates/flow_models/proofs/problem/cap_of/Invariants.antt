use Rattle.std.proofs.Common.{◌≡◌, ◌≤◌, drop, max}
use Rattle.decomposition.specs.Instance.{greatest_hi}
use Rattle.flow_models.proofs.problem.cap_of.Given as goal

abbrev pub invariant-loop-range : goal.invariant-loop-range
invariant-loop-range l = (1 ≤ l.cap) × (max l.cap (greatest_hi (drop l.range-index l.ranges)) ≡ greatest_hi l.ranges)
