use Rattle.std.proofs.Common.{Err, refl, ◌∙◌, sym, append-nil}
use Rattle.path_report.proofs.Putting.{PutsText-written, PutsText-raised}
use Rattle.path_report.proofs.page.Page.flush.Goals as goal

pub returns-in_err-write_whole-clause-text : goal.returns-in_err-write_whole-clause-text
returns-in_err-write_whole-clause-text g c =
    let failed = c.in_err-write_whole.ensures in
    PutsText-raised {T = Unit {0}} c.from_residual.ensures.0
    (PutsText-written (Err c.in_err-write_whole.field-0.0) (c.self.view_is ∙ sym (append-nil _)) tt failed.err failed.cause refl)
