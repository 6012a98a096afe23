use Rattle.path_report.proofs.Putting.{PutsText-then, PutsText-before, PutsText-raised}
use Rattle.path_report.proofs.page.Page.field.Goals as goal

pub returns-in_err-put : goal.returns-in_err-put
returns-in_err-put g c = PutsText-raised c.from_residual.ensures.0 (PutsText-before _ c.in_err-put.ensures)

pub returns : goal.returns
returns g c = PutsText-then c.in_ok-put.ensures c.put-2.ensures
