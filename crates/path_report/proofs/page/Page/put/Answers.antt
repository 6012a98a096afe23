use Rattle.path_report.proofs.Putting.{PutsText-then, PutsText-before, PutsText-raised}
use Rattle.path_report.proofs.page.Page.put.Goals as goal

pub returns-in_err-flush : goal.returns-in_err-flush
returns-in_err-flush g c = PutsText-raised c.from_residual.ensures.0 (PutsText-before c.args.piece.now c.in_err-flush.ensures.text)

pub returns-then-room-piece : goal.returns-then-room-piece
returns-then-room-piece g c = PutsText-then c.in_ok-flush.ensures.text c.start.ensures
