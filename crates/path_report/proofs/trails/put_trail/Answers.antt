use Rattle.std.proofs.Common.{ap}
use Rattle.std.specs.Prelude.{flat_map}
use Rattle.report_reading.specs.ReportText.{token_line}
use Rattle.path_report.proofs.Putting.{PutsText-before, PutsText-equal, PutsText-raised, PutsText-then}
use Rattle.path_report.proofs.trails.put_trail.Goals as goal

pub returns-in_err-put_trail_line : goal.returns-in_err-put_trail_line
returns-in_err-put_trail_line g c = PutsText-raised c.from_residual.ensures.0 (PutsText-before _ c.in_err-put_trail_line.ensures)

pub returns : goal.returns
returns g c =
    PutsText-then c.in_ok-put_trail_line.ensures (PutsText-equal (ap (flat_map token_line) c.as_slice.ensures) c.put_tokens.ensures)
