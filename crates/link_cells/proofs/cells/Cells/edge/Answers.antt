use Rattle.std.proofs.Common.{◌<◌, sym, ◌∙◌, vec_len}
use Rattle.link_cells.specs.Cells.{list_at}
use Rattle.link_cells.proofs.Keeping.{in_use, list-read}
use Rattle.link_cells.proofs.cells.Cells.edge.Goals as goal
use Rattle.link_cells.proofs.cells.Cells.edge.Goals.{In-Some}

-- the cell is in use
there : (c : In-Some) → c.in-Some.k < vec_len c.self.inside.cells
there c =
    in_use c.self.inside c.args.self.now c.args.tail c.in-Some.k c.self.view_is (sym c.tail.view_is ∙ c.in-Some.is) c.requires.live

pub index-requires : goal.index-requires
index-requires c = there c

pub returns : goal.returns
returns c =
    let b = (goal.at.returns c).In-Some in
    (list_at c.args.self.now.lists c.index.result.now.below, list-read c.self.inside c.args.self.now c.args.tail c.in-Some.k c.index.result.now c.self.invariant c.self.view_is (sym c.tail.view_is ∙ c.in-Some.is) (there b) c.index.ensures)
