use Rattle.report_reading.proofs.Lawful.{reports_are_regular}
use Rattle.report_reading.proofs.laws.reports_are_regular.Goals as goal

pub returns : goal.returns
returns c = reports_are_regular
