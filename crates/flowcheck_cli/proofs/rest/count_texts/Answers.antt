use Rattle.std.proofs.Common.{length, ap, arith}
use Rattle.flowcheck_cli.proofs.Counting.{report_texts-few}
use Rattle.flowcheck_cli.proofs.rest.count_texts.Goals as goal

pub overflow_add-count : goal.overflow_add-count
overflow_add-count c = omega (arith, c.requires, c.loop-count.invariant, ap length c.in-Some.ensures.texts, report_texts-few c.args.reports.now)
