use Rattle.std.proofs.Common.{◌∙◌, sym, ap, subst, arith}
use Rattle.flow_models.specs.Problem.{instance}
use Rattle.refute_tree.proofs.Applying.{applied, refused}
use Rattle.cert_check.specs.Tree.{IsVerdictOf, verdict_of}
use Rattle.cert_check.proofs.Checking.{checked_none, checked_more, checked_illegal, checked_all, verdict_is, refutes_is}
use Rattle.cert_check.proofs.tree.check_tree.Goals as goal

pub loop-k-init : goal.loop-k-init
loop-k-init c = checked_none (instance c.args.net.now c.args.p.now) c.args.d.now c.args.tokens.now c.in_ok-front.front c.in_ok-front.ensures

pub returns-then-not-apply-clause-exact : goal.returns-then-not-apply-clause-exact
returns-then-not-apply-clause-exact c =
    checked_illegal (instance c.args.net.now c.args.p.now) c.args.d.now c.args.tokens.now c.loop-k.k c.loop-k.front _ c.loop-k.invariant c.loop-k-test.true
    (refused c.loop-k.front _ c.apply.new.self c.apply.result c.apply.ensures c.if-not-apply.true)

pub loop-k-preserved : goal.loop-k-preserved
loop-k-preserved c =
    checked_more (instance c.args.net.now c.args.p.now) c.args.d.now c.args.tokens.now c.loop-k.k c.loop-k.front c.apply.new.self _ c.loop-k.invariant c.loop-k-test.true
    (applied c.loop-k.front _ c.apply.new.self c.apply.result c.apply.ensures c.if-not-apply.false)

pub returns-clause-exact : goal.returns-clause-exact
returns-clause-exact c =
    let i = instance c.args.net.now c.args.p.now in
    let d = c.args.d.now in
    let ts = c.args.tokens.now in
    subst (IsVerdictOf i d ts) (sym (c.verdict_of.ensures ∙ ap verdict_of c.left.ensures))
    (verdict_is i d ts c.loop-k.front.boxes (checked_all i d ts c.loop-k.k c.loop-k.front c.loop-k.invariant (omega (arith, c.loop-k-test.false))))

pub returns-clause-refutes : goal.returns-clause-refutes
returns-clause-refutes c = refutes_is (instance c.args.net.now c.args.p.now) c.args.d.now c.args.tokens.now c.verdict_of.result (returns-clause-exact c)
