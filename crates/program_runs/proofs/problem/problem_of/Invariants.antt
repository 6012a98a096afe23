use Rattle.std.proofs.Common.{◌≡◌, take}
use Rattle.program_runs.proofs.problem.problem_of.Given as goal

abbrev pub invariant-loop-range : goal.invariant-loop-range
invariant-loop-range l = l.ranges ≡ take l.range-index l.range-items
