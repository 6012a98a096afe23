use Rattle.std.proofs.Common.{List, IsTrue, subst, sym}
use Rattle.std.specs.Prelude.{◌↔◌}
use Rattle.decomposition.specs.declared.Token.{Token}
use Rattle.decomposition.specs.Tokens.{IsRefutation}
use Rattle.flow_models.specs.Problem.{instance}
use Rattle.cert_check.specs.Tree.{IsVerdictOf}
use Rattle.cert_check.proofs.Trees.{refuting_tells}
use Rattle.cert_check.proofs.certs.refutes.Goals as goal

pub returns : goal.returns
returns c =
    let i = instance c.args.net.now c.args.p.now in
    let tree = c.args.tree.now in
    subst (λ r. IsTrue r ↔ IsRefutation i tree.decision tree.tokens) (sym c.refutes.ensures)
    (refuting_tells i tree.decision tree.tokens c.in_ok-verdict.verdict
    (subst (λ (ts : List Token). IsVerdictOf i tree.decision ts c.in_ok-verdict.verdict) c.as_slice.ensures c.in_ok-verdict.ensures.exact))
