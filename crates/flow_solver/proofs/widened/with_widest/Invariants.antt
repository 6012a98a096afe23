use Rattle.std.proofs.Common.{◌-◌, ◌≤◌, length}
use Rattle.flow_solver.proofs.Widening.{IsWidening}
use Rattle.flow_solver.proofs.widened.with_widest.Given as goal

abbrev pub invariant-loop-alloc : goal.invariant-loop-alloc
invariant-loop-alloc l = IsWidening l.net l.weights l.fn.booked l.paths l.sums.items × (length l.paths ≤ l.k)

abbrev pub decreases-loop-alloc : goal.decreases-loop-alloc
decreases-loop-alloc l = l.k - length l.paths
