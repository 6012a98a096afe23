use Rattle.std.proofs.Common.{◌≤◌, length}
use Rattle.decomposition.specs.declared.Mode.TheVariants.{Interval}
use Rattle.flow_models.specs.Problem.{instance}
use Rattle.flow_solver.specs.Searched.{AreFewPaths, IsKnown}
use Rattle.flow_solver.proofs.counting.search_down.Given as goal

abbrev pub invariant-loop-alloc : goal.invariant-loop-alloc
invariant-loop-alloc l =
    IsKnown Interval (instance l.net l.problem) l.paths × AreFewPaths (instance l.net l.problem) l.paths × (length l.paths ≤ length l.fn.first)

abbrev pub decreases-loop-alloc : goal.decreases-loop-alloc
decreases-loop-alloc l = length l.paths
