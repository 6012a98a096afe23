use Rattle.std.proofs.Common.{[], arith}
use Rattle.decomposition.specs.Answer.{comes_before}
use Rattle.report_reading.proofs.Following.{may_follow-last}
use Rattle.report_reading.proofs.order.path_may_follow.Goals as goal

pub returns : goal.returns
returns c =
    let step = may_follow-last comes_before c.args.paths.now ([], 0) (c.args.path.now, c.args.weight) (omega arith) in
    cc
