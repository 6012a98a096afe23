use Rattle.path_report.proofs.Lines.{line-of}
use Rattle.path_report.proofs.Putting.{PutsText-then, PutsText-before, PutsText-raised, PutsText-equal}
use Rattle.path_report.proofs.page.Page.line.Goals as goal

pub returns-in_err-put : goal.returns-in_err-put
returns-in_err-put g c =
    PutsText-raised c.from_residual.ensures.0
    (PutsText-equal (line-of (λ f. f.now) c.args.word.now c.args.fields.now) (PutsText-before _ (PutsText-before _ c.in_err-put.ensures)))

pub returns-in_err-fields : goal.returns-in_err-fields
returns-in_err-fields g c =
    PutsText-raised c.from_residual-in_err-fields.ensures.0
    (PutsText-equal (line-of (λ f. f.now) c.args.word.now c.args.fields.now)
    (PutsText-before _ (PutsText-then c.in_ok-put.ensures c.in_err-fields.ensures)))

pub returns : goal.returns
returns g c =
    PutsText-equal (line-of (λ f. f.now) c.args.word.now c.args.fields.now)
    (PutsText-then (PutsText-then c.in_ok-put.ensures c.in_ok-fields.ensures) c.put-2.ensures)
