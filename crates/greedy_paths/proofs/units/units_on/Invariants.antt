use Rattle.greedy_paths.proofs.Counting.{CountsUnits}
use Rattle.greedy_paths.proofs.units.units_on.Given as goal

abbrev pub invariant-loop-i : goal.invariant-loop-i
invariant-loop-i l = CountsUnits l.net l.booked l.i l.units.items
