use Rattle.path_report.proofs.Putting.{PutsText-before, PutsText-raised, PutsText-then}
use Rattle.path_report.proofs.solved.put_marks.Goals as goal

pub returns-in_err-put_mark : goal.returns-in_err-put_mark
returns-in_err-put_mark g c = PutsText-raised c.from_residual.ensures.0 (PutsText-before _ (PutsText-before _ c.in_err-put_mark.ensures))

pub returns-in_err-put_bound : goal.returns-in_err-put_bound
returns-in_err-put_bound g c =
    PutsText-raised c.from_residual-in_err-put_bound.ensures.0
    (PutsText-before _ (PutsText-then c.in_ok-put_mark.ensures c.in_err-put_bound.ensures))

pub returns : goal.returns
returns g c = PutsText-then (PutsText-then c.in_ok-put_mark.ensures c.in_ok-put_bound.ensures) c.put_bound-2.ensures
