use Rattle.std.proofs.Common.{ℕ, ◌<◌}
use Rattle.flow_models.specs.Problem.{instance}
use Rattle.flow_solver.specs.Crowds.{CarriesTaken}
use Rattle.flow_solver.proofs.crowds.find_crowd.Given as goal

abbrev pub invariant-loop-edge : goal.invariant-loop-edge
invariant-loop-edge l = (e : ℕ) → e < l.edge → CarriesTaken (instance l.net l.problem) e
