-- An answer of few enough paths without error is known.
use Rattle.std.proofs.Common.{◌+◌, Some, refl, subst}
use Rattle.std.specs.Prelude.{IfSome}
use Rattle.decomposition.specs.declared.Decision.{Decision}
use Rattle.flow_models.specs.Problem.{instance}
use Rattle.flow_solver.specs.Searched.{IsFoundFor}
use Rattle.flow_solver.proofs.FoundPaths.{found_known}
use Rattle.flow_solver.proofs.narrowing.narrow_open.Goals as goal

pub find_fewer-requires-clause-known : goal.find_fewer-requires-clause-known
find_fewer-requires-clause-known c =
    let i = instance c.args.net.now c.args.problem.now in
    let d : Decision = record { slots = c.edges-2.result + c.len.result; limit = Some 0 } in
    found_known i d c.in-Some.paths c.requires.valid refl (subst (λ a. IfSome a (IsFoundFor i d)) c.in-Some.is c.in_ok-found.ensures.paths)
