use Rattle.std.proofs.Common.{◌≡◌, take}
use Rattle.flow_solver.proofs.interval.path_of.Given as goal

abbrev pub invariant-loop-e : goal.invariant-loop-e
invariant-loop-e l = l.copy ≡ take l.e-index l.path
