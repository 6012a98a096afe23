use Rattle.std.proofs.Common.{◌-◌, ◌+◌, ◌<◌, take, vec_len, arith}
use Rattle.decomposition.specs.Graph.{graph_of, tail}
use Rattle.dag_net.specs.Peeling.{is_listed}
use Rattle.dag_net.proofs.PeelingSteps.{Peels-few}
use Rattle.dag_net.proofs.order.Peeling.run.Goals as goal

pub loop-k-smaller : goal.loop-k-smaller
loop-k-smaller c =
    let g = graph_of (vec_len c.args.self.now.waiting) c.args.edges.now in
    let order = c.loop-k.self.order.items in
    let few = Peels-few g (λ d. is_listed (take c.loop-k.k order) (tail g d)) c.loop-k.self.waiting.items order c.loop-k.invariant.0 in
    let less : vec_len c.args.self.now.waiting - (c.loop-k.k + 1) < vec_len c.args.self.now.waiting - c.loop-k.k = omega (arith, few, c.loop-k-test.true, c.len.ensures, c.loop-k.self.order.ok.0) in
    less
