use Rattle.std.proofs.Common.{arith}
use Rattle.report_reading.specs.ReportText.{rule_line}
use Rattle.path_report.proofs.Putting.{PutsText-next, PutsText-raised, PutsText-stopped}
use Rattle.path_report.proofs.certs.put_rules.Goals as goal

pub returns-in_err-put_place : goal.returns-in_err-put_place
returns-in_err-put_place g c =
    PutsText-raised c.from_residual.ensures.0
    (PutsText-stopped rule_line c.args.rules.now c.loop-c.c-index 0 (omega arith) c.loop-c.invariant c.in_err-put_place.ensures)

pub loop-c-preserved : goal.loop-c-preserved
loop-c-preserved g c = PutsText-next rule_line c.args.rules.now c.loop-c.c-index 0 (omega arith) c.loop-c.invariant c.in_ok-put_place.ensures
