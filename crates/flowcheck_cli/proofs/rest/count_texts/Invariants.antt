use Rattle.std.proofs.Common.{◌≡◌, ◌+◌, length}
use Rattle.flowcheck_cli.specs.ReportTexts.{report_texts}
use Rattle.flowcheck_cli.proofs.rest.count_texts.Given as goal

abbrev pub invariant-loop-count : goal.invariant-loop-count
invariant-loop-count l = l.count + length (report_texts l.rest.bytes) ≡ length (report_texts l.reports)

abbrev pub decreases-loop-count : goal.decreases-loop-count
decreases-loop-count l = length (report_texts l.rest.bytes)
