use Rattle.std.proofs.Common.{nat_lt, arith}
use Rattle.report_reading.proofs.Following.{may_follow-last}
use Rattle.report_reading.proofs.order.is_above.Goals as goal

pub returns-else-count-eq0 : goal.returns-else-count-eq0
returns-else-count-eq0 c = may_follow-last nat_lt c.args.ids.now 0 c.args.next (omega arith)
