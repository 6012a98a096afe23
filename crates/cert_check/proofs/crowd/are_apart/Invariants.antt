use Rattle.std.proofs.Common.{◌↔◌, drop}
use Rattle.decomposition.specs.Certificates.{AllRunsApart}
use Rattle.flow_models.specs.Problem.{instance}
use Rattle.cert_check.proofs.crowd.are_apart.Given as goal

abbrev pub invariant-loop-i : goal.invariant-loop-i
invariant-loop-i l = AllRunsApart (instance l.net l.p) (drop l.i l.rules) ↔ AllRunsApart (instance l.net l.p) l.rules
