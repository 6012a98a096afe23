use Rattle.flow_solver.specs.Room.{AreAtMost, IsSettling}
use Rattle.flow_solver.proofs.thin.settle_paths.Given as goal

abbrev pub invariant-loop : goal.invariant-loop
invariant-loop l = IsSettling l.net l.ranges l.settling × AreAtMost l.fn.first.settled.items l.settling.settled.items
