use Rattle.std.proofs.Common.{take}
use Rattle.std.specs.Prelude.{flat_map}
use Rattle.path_report.specs.Sending.{spaced}
use Rattle.path_report.proofs.Putting.{HasPut}
use Rattle.path_report.proofs.page.Page.fields.Given as goal

abbrev pub invariant-loop-field : goal.invariant-loop-field
invariant-loop-field g l = HasPut (flat_map (λ f. spaced f.now) (take l.field-index l.fields)) g.O.Output.written g.O.Output.faults l.fn.out l.out l.fn.self l.self
