use Rattle.lower_flow.proofs.Sending.{Sends}
use Rattle.lower_flow.proofs.clearing.send.Given as goal

abbrev pub invariant-loop-e : goal.invariant-loop-e
invariant-loop-e l = Sends l.net l.ranges l.side l.fn.flow l.search.entries.items l.target l.flow l.at

abbrev pub decreases-loop-e : goal.decreases-loop-e
decreases-loop-e l = l.at
