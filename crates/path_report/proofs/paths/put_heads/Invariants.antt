use Rattle.std.proofs.Common.{take}
use Rattle.std.specs.Prelude.{flat_map}
use Rattle.graph_text.specs.Labels.{name_at, head_at}
use Rattle.path_report.specs.Sending.{spaced}
use Rattle.path_report.proofs.Putting.{HasPut}
use Rattle.path_report.proofs.paths.put_heads.Given as goal

abbrev pub invariant-loop-e : goal.invariant-loop-e
invariant-loop-e g l =
    HasPut (flat_map (λ e. spaced (name_at l.labels (head_at l.labels e))) (take l.e-index l.run)) g.O.Output.written g.O.Output.faults l.fn.out l.out l.fn.page l.page
