use Rattle.std.proofs.Common.{◌∙◌, ap}
use Rattle.std.specs.Ordering.{is_lt}
use Rattle.report_reading.proofs.Following.{is_list_before-cmp}
use Rattle.report_reading.proofs.order.is_list_before.Goals as goal

pub returns : goal.returns
returns c = c.is_lt.ensures ∙ ap is_lt c.cmp.ensures ∙ is_list_before-cmp c.args.first.now c.args.second.now
