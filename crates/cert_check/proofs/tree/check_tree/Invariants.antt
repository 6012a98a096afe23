use Rattle.flow_models.specs.Problem.{instance}
use Rattle.cert_check.proofs.Checking.{IsChecked}
use Rattle.cert_check.proofs.tree.check_tree.Given as goal

abbrev pub invariant-loop-k : goal.invariant-loop-k
invariant-loop-k l = IsChecked (instance l.net l.p) l.d l.tokens l.k l.front
