use Rattle.std.proofs.Common.{ap, sym, ◌++◌}
use Rattle.path_report.proofs.Putting.{PutsText-written}
use Rattle.path_report.proofs.page.Page.start.Goals as goal

pub returns-then-room-piece : goal.returns-then-room-piece
returns-then-room-piece g c =
    let wrote = c.write_whole.ensures in
    PutsText-written c.write_whole.result (sym (ap (λ held. held ++ c.args.piece.now) c.requires)) wrote.ok wrote.err wrote.cause c.requires
