use Rattle.std.proofs.Common.{◌≡◌, vec_len, length, subst, arith}
use Rattle.decomposition.specs.Graph.{graph_of}
use Rattle.dag_net.specs.Peeling.{PeelsTo}
use Rattle.dag_net.proofs.PeelingSteps.{IsOrder-from_peels, none-from_peels}
use Rattle.dag_net.proofs.order.find_order.Goals as goal
use Rattle.dag_net.proofs.order.find_order.Goals.{In_ok-run}

-- all is taken away that can be
peels : (c : In_ok-run) → PeelsTo (graph_of c.args.vertices c.args.edges.now) (length c.run.new.self.order.items) c.run.new.self.waiting.items c.run.new.self.order.items
peels c =
    let order = c.run.new.self.order in
    let count : vec_len c.in_ok-peeling.peeling.waiting ≡ c.args.vertices = omega (arith, c.in_ok-peeling.ensures.room, c.in_ok-peeling.peeling.waiting.ok.0) in
    let size : vec_len order ≡ length order.items = omega (arith, order.ok.0) in
    subst (λ k. PeelsTo (graph_of c.args.vertices c.args.edges.now) k c.run.new.self.waiting.items order.items) size
    (subst (λ n. PeelsTo (graph_of n c.args.edges.now) (vec_len order) c.run.new.self.waiting.items order.items) count c.in_ok-run.ensures)

pub returns-then-len-vertices : goal.returns-then-len-vertices
returns-then-len-vertices c =
    none-from_peels (graph_of c.args.vertices c.args.edges.now) c.run.new.self.waiting.items c.run.new.self.order.items (peels (goal.at.returns-then-len-vertices c).In_ok-run)
    (omega (arith, c.if-len-vertices.true, c.len.ensures, c.run.new.self.order.ok.0)) c.requires.inside

pub returns : goal.returns
returns c =
    IsOrder-from_peels (graph_of c.args.vertices c.args.edges.now) c.run.new.self.waiting.items c.run.new.self.order.items (peels (goal.at.returns c).In_ok-run)
    (omega (arith, c.if-len-vertices.false, c.len.ensures, c.run.new.self.order.ok.0))
