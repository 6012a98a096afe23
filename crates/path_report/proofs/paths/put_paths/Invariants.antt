use Rattle.std.proofs.Common.{take}
use Rattle.std.specs.Prelude.{flat_map}
use Rattle.report_reading.specs.ReportText.{path_line}
use Rattle.path_report.proofs.Putting.{HasPut}
use Rattle.path_report.proofs.paths.put_paths.Given as goal

abbrev pub invariant-loop-k : goal.invariant-loop-k
invariant-loop-k g l =
    HasPut (flat_map (path_line l.labels) (take l.k l.paths)) g.O.Output.written g.O.Output.faults l.fn.out l.out l.fn.page l.page
