use Rattle.std.proofs.Common.{sym, ◌∙◌}
use Rattle.flow_models.specs.Problem.{instance}
use Rattle.decomposition.proofs.Cuts.{cuts_refute}
use Rattle.cert_check.proofs.Cutting.{cut-decides, no_cut}
use Rattle.cert_check.proofs.cut.check_cut.Goals as goal

pub returns-then-all_go_on-clause-exact : goal.returns-then-all_go_on-clause-exact
returns-then-all_go_on-clause-exact c =
    cut-decides (instance c.args.net.now c.args.p.now) c.args.side c.opposite.result c.args.vertices.now c.sum_of_hi.result c.sum_of_lo.result
    (sym c.all_go_on.ensures ∙ c.if-all_go_on.true) c.opposite.ensures c.sum_of_hi.ensures c.sum_of_lo.ensures

pub returns-then-all_go_on-clause-refutes : goal.returns-then-all_go_on-clause-refutes
returns-then-all_go_on-clause-refutes c = λ says a answer none.
    cuts_refute (instance c.args.net.now c.args.p.now) c.args.side c.args.vertices.now a c.vertices.ensures.net
    ((returns-then-all_go_on-clause-exact c).0 says) answer none

pub returns-else-all_go_on-clause-exact : goal.returns-else-all_go_on-clause-exact
returns-else-all_go_on-clause-exact c =
    no_cut (instance c.args.net.now c.args.p.now) c.args.side c.args.vertices.now c.all_go_on.result
    (sym c.all_go_on.ensures ∙ c.if-all_go_on.false) c.if-all_go_on.false
