use Rattle.flow_models.specs.Problem.{instance}
use Rattle.flow_solver.specs.Crowds.{AreTakenApart}
use Rattle.flow_solver.proofs.crowds.rules_apart.Given as goal

abbrev pub invariant-loop-rule : goal.invariant-loop-rule
invariant-loop-rule l = AreTakenApart l.rule (instance l.net l.problem) l.edge l.apart
