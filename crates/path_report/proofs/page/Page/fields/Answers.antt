use Rattle.std.proofs.Common.{arith}
use Rattle.path_report.specs.Sending.{spaced}
use Rattle.path_report.proofs.Putting.{PutsText-next, PutsText-stopped, PutsText-raised}
use Rattle.path_report.proofs.page.Page.fields.Goals as goal

pub returns-in_err-field : goal.returns-in_err-field
returns-in_err-field g c =
    PutsText-raised c.from_residual.ensures.0
    (PutsText-stopped (λ f. spaced f.now) c.args.fields.now c.loop-field.field-index _ (omega arith) c.loop-field.invariant c.in_err-field.ensures)

pub loop-field-preserved : goal.loop-field-preserved
loop-field-preserved g c =
    PutsText-next (λ f. spaced f.now) c.args.fields.now c.loop-field.field-index _ (omega arith) c.loop-field.invariant c.in_ok-field.ensures
