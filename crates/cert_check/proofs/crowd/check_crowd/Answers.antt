use Rattle.std.proofs.Common.{arith}
use Rattle.std.proofs.lemmas.Grind.{common_steps}
use Rattle.flow_models.specs.Problem.{instance}
use Rattle.decomposition.proofs.Crowds.{crowds_refute}
use Rattle.cert_check.proofs.crowd.check_crowd.Goals as goal

pub returns-then-all_go_through-clause-exact : goal.returns-then-all_go_through-clause-exact
returns-then-all_go_through-clause-exact c = grind (arith, common_steps)

pub returns-then-all_go_through-clause-refutes : goal.returns-then-all_go_through-clause-refutes
returns-then-all_go_through-clause-refutes c = λ says a answer covers none.
    crowds_refute (instance c.args.net.now c.args.p.now) c.args.edge c.args.rules.now a
    ((returns-then-all_go_through-clause-exact c).0 says) answer covers none
