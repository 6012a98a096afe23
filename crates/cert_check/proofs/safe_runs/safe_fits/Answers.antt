use Rattle.flow_models.specs.Problem.{instance}
use Rattle.cert_check.proofs.Rising.{listed_tells}
use Rattle.cert_check.proofs.safe_runs.safe_fits.Goals as goal

pub returns : goal.returns
returns c =
    listed_tells c.args.mode.now (instance c.args.net.now c.args.p.now) c.args.solved.now.safe c.in-Some.runs c.in_ok-maximal.maximal c.are_same.result
    c.in-Some.is c.in-Exact.is c.in_ok-maximal.ensures c.are_same.ensures
