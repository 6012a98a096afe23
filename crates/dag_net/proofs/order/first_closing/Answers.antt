use Rattle.std.proofs.Common.{subst, arith}
use Rattle.std.proofs.Math.Seq.{take-length}
use Rattle.decomposition.specs.Graph.{graph_of, IsNet}
use Rattle.dag_net.proofs.BuildLemmas.{IsNet-none}
use Rattle.dag_net.proofs.order.first_closing.Goals as goal

pub loop-high-init : goal.loop-high-init
loop-high-init c =
    let edges = c.args.edges.now in (
      omega arith,
      omega arith,
      IsNet-none c.args.vertices,
      λ net. c.requires.none (subst (λ xs. IsNet (graph_of c.args.vertices xs)) (take-length edges) net),
    )
