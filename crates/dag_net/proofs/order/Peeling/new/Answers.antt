use Rattle.std.proofs.Common.{List, ℕ, length, subst}
use Rattle.decomposition.specs.Graph.{graph_of}
use Rattle.dag_net.specs.Peeling.{AreSourcesBelow}
use Rattle.dag_net.proofs.Sources.{Peels-first}
use Rattle.dag_net.proofs.order.Peeling.new.Goals as goal

pub returns : goal.returns
returns c =
    Peels-first (graph_of c.args.vertices c.args.edges.now) c.in_ok-waiting.waiting.items c.in_ok-order.order.items c.in_ok-waiting.ensures
    (subst (λ (counts : List ℕ). AreSourcesBelow counts (length counts) c.in_ok-order.order.items) c.deref.ensures.value c.in_ok-order.ensures)
