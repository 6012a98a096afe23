use Rattle.std.proofs.Common.{List, IsTrue, subst, sym}
use Rattle.std.specs.Prelude.{◌↔◌}
use Rattle.decomposition.specs.declared.Token.{Token}
use Rattle.decomposition.specs.Tokens.{IsTrail}
use Rattle.flow_models.specs.Problem.{instance}
use Rattle.cert_check.specs.Tree.{IsVerdictOf}
use Rattle.cert_check.proofs.Trees.{pending_tells}
use Rattle.cert_check.proofs.trails.leaves_open.Goals as goal

pub returns : goal.returns
returns c =
    let i = instance c.args.net.now c.args.p.now in
    let trail = c.args.trail.now in
    subst (λ r. IsTrue r ↔ IsTrail i trail.decision trail.tokens) (sym c.leaves_open.ensures)
    (pending_tells i trail.decision trail.tokens c.in_ok-verdict.verdict
    (subst (λ (ts : List Token). IsVerdictOf i trail.decision ts c.in_ok-verdict.verdict) c.as_slice.ensures c.in_ok-verdict.ensures.exact))
