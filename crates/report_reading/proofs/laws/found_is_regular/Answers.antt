use Rattle.report_reading.proofs.Lawful.{found_is_regular}
use Rattle.report_reading.proofs.laws.found_is_regular.Goals as goal

pub returns : goal.returns
returns c = found_is_regular
