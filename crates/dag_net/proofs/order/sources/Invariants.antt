use Rattle.dag_net.specs.Peeling.{AreSourcesBelow}
use Rattle.dag_net.proofs.order.sources.Given as goal

abbrev pub invariant-loop-v : goal.invariant-loop-v
invariant-loop-v l = AreSourcesBelow l.counts l.v l.found.items
