use Rattle.std.proofs.Common.{take}
use Rattle.std.specs.Prelude.{flat_map}
use Rattle.report_reading.specs.ReportText.{rule_line}
use Rattle.path_report.proofs.Putting.{HasPut}
use Rattle.path_report.proofs.certs.put_rules.Given as goal

abbrev pub invariant-loop-c : goal.invariant-loop-c
invariant-loop-c g l =
    HasPut (flat_map rule_line (take l.c-index l.rules)) g.O.Output.written g.O.Output.faults l.fn.out l.out l.fn.page l.page
