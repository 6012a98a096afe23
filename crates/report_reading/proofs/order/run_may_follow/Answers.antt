use Rattle.std.proofs.Common.{[], arith}
use Rattle.decomposition.specs.Graph.{is_list_before}
use Rattle.report_reading.proofs.Following.{may_follow-last}
use Rattle.report_reading.proofs.order.run_may_follow.Goals as goal

pub returns : goal.returns
returns c =
    let step = may_follow-last is_list_before c.args.runs.now [] c.args.run.now (omega arith) in
    cc
