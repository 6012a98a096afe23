use Rattle.std.proofs.Common.{ap}
use Rattle.report_reading.specs.ReportText.{number_or_none}
use Rattle.path_report.proofs.Putting.{PutsText-equal}
use Rattle.path_report.proofs.trails.put_trail_line.Goals as goal

pub returns-in-Some : goal.returns-in-Some
returns-in-Some g c = PutsText-equal (cc (ap number_or_none c.in-Some.is)) c.line-in-Some.ensures
