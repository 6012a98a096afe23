use Rattle.std.proofs.Common.{take}
use Rattle.std.specs.Prelude.{flat_map}
use Rattle.report_reading.specs.ReportText.{token_line}
use Rattle.path_report.proofs.Putting.{HasPut}
use Rattle.path_report.proofs.trails.put_tokens.Given as goal

abbrev pub invariant-loop-token : goal.invariant-loop-token
invariant-loop-token g l =
    HasPut (flat_map token_line (take l.token-index l.tokens)) g.O.Output.written g.O.Output.faults l.fn.out l.out l.fn.page l.page
