use Rattle.greedy_paths.proofs.Counting.{LeavesUnits}
use Rattle.greedy_paths.proofs.units.rest_of.Given as goal

abbrev pub invariant-loop-e : goal.invariant-loop-e
invariant-loop-e l = LeavesUnits l.net l.booked l.flow l.e l.rest.items
