use Rattle.flow_solver.specs.Room.{AreRaisedBefore}
use Rattle.flow_solver.proofs.room.raised_by.Given as goal

abbrev pub invariant-loop-e : goal.invariant-loop-e
invariant-loop-e l = AreRaisedBefore l.e l.ranges l.least l.raised
