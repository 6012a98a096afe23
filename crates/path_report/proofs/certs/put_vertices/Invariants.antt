use Rattle.std.proofs.Common.{take}
use Rattle.std.specs.Prelude.{flat_map}
use Rattle.report_reading.specs.ReportText.{vertex_line}
use Rattle.path_report.proofs.Putting.{HasPut}
use Rattle.path_report.proofs.certs.put_vertices.Given as goal

abbrev pub invariant-loop-v : goal.invariant-loop-v
invariant-loop-v g l =
    HasPut (flat_map (vertex_line l.labels) (take l.v-index l.vertices)) g.O.Output.written g.O.Output.faults l.fn.out l.out l.fn.page l.page
