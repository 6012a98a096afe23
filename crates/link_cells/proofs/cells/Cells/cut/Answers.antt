use Rattle.std.proofs.Common.{refl}
use Rattle.link_cells.proofs.Keeping.{shown-take}
use Rattle.link_cells.proofs.cells.Cells.cut.Goals as goal

pub returns : goal.returns
returns c =
    shown-take c.self.inside (record { room = c.self.inside.room; cells = c.truncate.new.self }) c.args.self.now c.args.mark c.self.view_is refl c.truncate.ensures.items
