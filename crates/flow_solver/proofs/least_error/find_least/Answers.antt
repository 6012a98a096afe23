-- The first answer is between 0 and its error, which is small.
use Rattle.std.proofs.Common.{arith, sym}
use Rattle.flow_models.specs.Problem.{instance}
use Rattle.flow_solver.proofs.Halving.{between_first, error_small}
use Rattle.flow_solver.proofs.least_error.find_least.Goals as goal

pub overflow_cast-begun : goal.overflow_cast-begun
overflow_cast-begun c =
    let i = instance c.args.net.now c.args.problem.now in
    let small = error_small c.args.k i c.args.first c.requires.valid (omega (arith, c.edges.ensures.edges, c.edges.ensures.few)) c.requires.few c.requires.found in
    omega (arith, small, c.error_of.ensures)

pub halve_error-requires-clause-between : goal.halve_error-requires-clause-between
halve_error-requires-clause-between c =
    let i = instance c.args.net.now c.args.problem.now in
    record {
      between = between_first c.args.nodes c.args.k i c.args.first c.error_of.result c.requires.valid (omega (arith, c.edges.ensures.edges, c.edges.ensures.few)) c.requires.few c.requires.found (sym c.error_of.ensures);
      spent = tt;
    }
