use Rattle.dag_net.specs.Entering.{EnterFrom}
use Rattle.dag_net.proofs.entering.Entering.of.Given as goal

abbrev pub invariant-loop-e : goal.invariant-loop-e
invariant-loop-e l = EnterFrom l.net l.e l.first.items l.next.items
