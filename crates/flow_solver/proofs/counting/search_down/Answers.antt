-- The paths that a search finds are fewer.
use Rattle.std.proofs.Common.{◌-◌, Some, refl, arith, subst}
use Rattle.decomposition.specs.declared.Decision.{Decision}
use Rattle.flow_models.specs.Problem.{instance}
use Rattle.flow_solver.specs.Searched.{AttemptsAs}
use Rattle.flow_solver.proofs.FoundPaths.{found_known}
use Rattle.flow_solver.proofs.counting.search_down.Goals as goal

pub loop-alloc-preserved : goal.loop-alloc-preserved
loop-alloc-preserved c =
    let i = instance c.args.net.now c.args.problem.now in
    let d : Decision = record { slots = c.len-in-loop-alloc.result - 1; limit = Some 0 } in
    let found = subst (AttemptsAs c.args.nodes i d) c.in-Found.is c.in_ok-fewer.ensures in (
      found_known i d c.in-Found.fewer c.requires.valid refl found,
      omega (arith, found.few, c.loop-alloc.invariant.1, c.len-in-loop-alloc.ensures.len),
      omega (arith, found.few, c.loop-alloc.invariant.2, c.len-in-loop-alloc.ensures.len),
    )
