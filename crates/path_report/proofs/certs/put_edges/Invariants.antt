use Rattle.std.proofs.Common.{take}
use Rattle.std.specs.Prelude.{flat_map}
use Rattle.report_reading.specs.ReportText.{edge_line}
use Rattle.path_report.proofs.Putting.{HasPut}
use Rattle.path_report.proofs.certs.put_edges.Given as goal

abbrev pub invariant-loop-e : goal.invariant-loop-e
invariant-loop-e g l =
    HasPut (flat_map (edge_line l.labels) (take l.e-index l.edges)) g.O.Output.written g.O.Output.faults l.fn.out l.out l.fn.page l.page
