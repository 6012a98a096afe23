use Rattle.std.proofs.Common.{◌≤◌}
use Rattle.flow_models.specs.Problem.{instance}
use Rattle.flow_solver.specs.Halved.{IsHalving, steps_left}
use Rattle.flow_solver.proofs.least_error.halve_error.Given as goal

abbrev pub invariant-loop-halved : goal.invariant-loop-halved
invariant-loop-halved l = IsHalving l.nodes l.k (instance l.net l.problem) l.halved × (l.halved.upper ≤ l.fn.begun.upper)

abbrev pub decreases-loop-halved : goal.decreases-loop-halved
decreases-loop-halved l = steps_left l.halved
