use Rattle.report_reading.proofs.Complete.{bad_lines_are_of_no_report}
use Rattle.report_reading.proofs.laws.bad_lines_are_of_no_report.Goals as goal

pub returns : goal.returns
returns c = bad_lines_are_of_no_report
