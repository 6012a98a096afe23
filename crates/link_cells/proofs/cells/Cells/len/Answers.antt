use Rattle.std.proofs.Common.{arith}
use Rattle.link_cells.proofs.Keeping.{cell-count, no_longer}
use Rattle.link_cells.proofs.cells.Cells.len.Goals as goal

pub overflow_cast-result : goal.overflow_cast-result
overflow_cast-result c = omega (arith, c.self.invariant.fits, c.self.invariant.in_word, c.len.ensures)

pub returns-clause-len : goal.returns-clause-len
returns-clause-len c = omega (arith, cell-count c.self.inside c.args.self.now c.self.view_is, c.len.ensures)

pub returns-clause-no_longer : goal.returns-clause-no_longer
returns-clause-no_longer c tail =
    omega (arith, no_longer c.self.inside c.args.self.now tail c.self.view_is, c.len.ensures)
