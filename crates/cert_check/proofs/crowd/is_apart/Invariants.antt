use Rattle.std.proofs.Common.{◌↔◌, drop}
use Rattle.decomposition.specs.Certificates.{AreRunsApart}
use Rattle.flow_models.specs.Problem.{instance}
use Rattle.cert_check.proofs.crowd.is_apart.Given as goal

abbrev pub invariant-loop-other : goal.invariant-loop-other
invariant-loop-other l =
    AreRunsApart (instance l.net l.p) l.rule (drop l.other-index l.others) ↔ AreRunsApart (instance l.net l.p) l.rule l.others
