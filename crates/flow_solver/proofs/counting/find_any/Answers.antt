-- The paths that the search for any finds are known.
use Rattle.std.proofs.Common.{◌+◌, Some, refl, subst}
use Rattle.decomposition.specs.declared.Decision.{Decision}
use Rattle.flow_models.specs.Problem.{instance}
use Rattle.flow_solver.specs.Searched.{AttemptsAs}
use Rattle.flow_solver.proofs.FoundPaths.{found_known}
use Rattle.flow_solver.proofs.counting.find_any.Goals as goal

pub find_fewer-requires-clause-known : goal.find_fewer-requires-clause-known
find_fewer-requires-clause-known c =
    let i = instance c.args.net.now c.args.problem.now in
    let d : Decision = record { slots = c.edges-2.result + c.len.result; limit = Some 0 } in
    found_known i d c.in-Found.paths c.requires.valid refl (subst (AttemptsAs c.args.nodes i d) c.in-Found.is c.in_ok-paths.ensures)
