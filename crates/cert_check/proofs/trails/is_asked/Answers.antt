use Rattle.flow_models.specs.Problem.{instance}
use Rattle.cert_check.proofs.Asked.{asked_below}
use Rattle.cert_check.proofs.trails.is_asked.Goals as goal

pub returns-in-Exact : goal.returns-in-Exact
returns-in-Exact c =
    let i = instance c.args.net.now c.args.p.now in
    asked_below c.args.mode.now i c.args.lower c.args.upper c.in-Some.upper c.args.d.now c.is_below.result c.in-Exact.is c.in-Some.is (c.is_below.ensures i)
