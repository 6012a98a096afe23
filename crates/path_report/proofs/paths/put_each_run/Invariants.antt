use Rattle.std.proofs.Common.{take}
use Rattle.std.specs.Prelude.{flat_map}
use Rattle.report_reading.specs.ReportText.{run_line}
use Rattle.path_report.proofs.Putting.{HasPut}
use Rattle.path_report.proofs.paths.put_each_run.Given as goal

abbrev pub invariant-loop-k : goal.invariant-loop-k
invariant-loop-k g l =
    HasPut (flat_map (run_line l.labels) (take l.k l.runs)) g.O.Output.written g.O.Output.faults l.fn.out l.out l.fn.page l.page
