use Rattle.std.proofs.Common.{ap, sym}
use Rattle.report_reading.specs.ReportText.{body_text}
use Rattle.path_report.proofs.Putting.{PutsText-equal}
use Rattle.path_report.proofs.writer.put_body.Goals as goal

pub returns-in-Solved : goal.returns-in-Solved
returns-in-Solved g c = PutsText-equal (ap (body_text c.args.labels.now) (sym c.in-Solved.is)) c.put_solved.ensures
