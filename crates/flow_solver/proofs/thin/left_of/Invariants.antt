use Rattle.flow_solver.specs.Room.{IsLeftOf}
use Rattle.flow_solver.proofs.thin.left_of.Given as goal

abbrev pub invariant-loop-e : goal.invariant-loop-e
invariant-loop-e l = IsLeftOf l.e l.flow l.settled l.left.items
