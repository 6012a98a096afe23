-- The verdict says that the tokens refute, and there are no more than are allowed.
use Rattle.std.proofs.Common.{◌≡◌, ◌∙◌, length, sym, subst, ap, arith}
use Rattle.decomposition.specs.Tokens.{IsRefutation}
use Rattle.cert_check.specs.Tree.{IsVerdictOf}
use Rattle.flow_models.specs.Problem.{instance}
use Rattle.flow_solver.proofs.Attempts.{refuted_by_tokens}
use Rattle.flow_solver.proofs.checked.checked_tree.Goals as goal

pub returns-in-Refutes : goal.returns-in-Refutes
returns-in-Refutes c =
    let i = instance c.args.net.now c.args.problem.now in
    let trail = c.in_ok-trail_of-in-Refutes.field-0 in
    let told = subst (IsVerdictOf i c.in-Some.field-0.decision c.as_slice.result.now) c.in-Refutes.is c.in_ok-check_tree.ensures.exact in
    let asked = c.in_ok-trail_of-in-Refutes.ensures.decision in
    let tokens : trail.tokens ≡ c.as_slice.result.now = c.in_ok-trail_of-in-Refutes.ensures.tokens ∙ (c.as_slice-in-Refutes.ensures.value ∙ sym c.as_slice.ensures.value) in
    let refuted = subst (λ d. IsRefutation i d trail.tokens) (sym asked) (subst (IsRefutation i c.in-Some.field-0.decision) (sym tokens) told) in
    refuted_by_tokens c.args.nodes i trail c.in_ok-trail_of-in-Refutes.ensures.small.0 c.in_ok-trail_of-in-Refutes.ensures.small.1 (omega arith) (omega (arith, c.requires.searched.few_rules))
    (omega (arith, ap length tokens, ap length c.as_slice.ensures.value, c.len.ensures, c.if-len-nodes.false)) refuted
