-- More paths are known than are refuted.
use Rattle.std.proofs.Common.{length, subst}
use Rattle.flow_models.specs.Problem.{instance}
use Rattle.flow_solver.specs.Searched.{StopsAt}
use Rattle.flow_solver.proofs.Floors.{raised_over}
use Rattle.flow_solver.proofs.counting.find_fewer.Goals as goal

pub returns-clause-finds : goal.returns-clause-finds
returns-clause-finds c =
    let i = instance c.args.net.now c.args.problem.now in
    let a = c.in_ok-paths.field-0.paths in
    let known = c.in_ok-paths.ensures.known in
    let stops = subst (λ n. StopsAt c.args.nodes i n (length a) c.in_ok-paths.field-0.ending) c.floor_of-floor.ensures c.in_ok-paths.ensures.stops in
    (known.0, known.1, c.ending_over-ending.ensures c.args.nodes i c.args.width (length a) (raised_over c.args.nodes i c.args.width c.args.raised a c.requires.valid c.requires.raised known.0) stops)
