use Rattle.report_reading.proofs.Complete.{texts_are_of_one_report}
use Rattle.report_reading.proofs.laws.texts_are_of_one_report.Goals as goal

pub returns : goal.returns
returns c = texts_are_of_one_report
