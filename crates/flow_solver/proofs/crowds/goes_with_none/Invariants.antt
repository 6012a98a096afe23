use Rattle.std.proofs.Common.{◌↔◌, drop}
use Rattle.decomposition.specs.Certificates.{AreRunsApart}
use Rattle.flow_models.specs.Problem.{instance}
use Rattle.flow_solver.proofs.crowds.goes_with_none.Given as goal

abbrev pub invariant-loop-other : goal.invariant-loop-other
invariant-loop-other l =
    AreRunsApart (instance l.net l.problem) l.rule (drop l.other-index l.others) ↔ AreRunsApart (instance l.net l.problem) l.rule l.others
