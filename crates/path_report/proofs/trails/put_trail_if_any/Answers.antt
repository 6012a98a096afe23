use Rattle.std.proofs.Common.{ap, sym}
use Rattle.report_reading.specs.ReportText.{trail_text}
use Rattle.path_report.proofs.Putting.{PutsText-equal}
use Rattle.path_report.proofs.trails.put_trail_if_any.Goals as goal

pub returns-in-Some : goal.returns-in-Some
returns-in-Some g c = PutsText-equal (ap trail_text (sym c.in-Some.is)) c.put_trail.ensures
