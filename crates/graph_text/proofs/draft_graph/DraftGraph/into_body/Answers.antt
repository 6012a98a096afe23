use Rattle.std.proofs.Common.{Err, ap, ◌∙◌}
use Rattle.graph_text.proofs.DraftBodies.{body-cycle, body-unknown, body-unbalanced, body-graph}
use Rattle.graph_text.proofs.draft_graph.DraftGraph.into_body.Goals as goal

pub returns-in-Err : goal.returns-in-Err
returns-in-Err c = λ lines holds listed rises none.
    let self = c.args.self in
    let found = rw c.in-Err.is at c.in_ok-net.ensures in
    ap Err c.refusal.ensures
    ∙ body-cycle c.args.mode lines rises none self.labels holds.names holds.edges_are self.edge_numbers.items holds.numbers self.ranges holds.ranges_are c.args.constraints.now listed c.in-Err.edge found.0 found.1

pub returns-in-Err-2 : goal.returns-in-Err-2
returns-in-Err-2 c = λ lines holds listed rises none.
    let self = c.args.self in
    let built = rw c.in-Ok.is at c.in_ok-net.ensures in
    body-unknown c.args.mode lines rises none self.labels holds.names holds.edges_are self.edge_numbers.items holds.numbers self.ranges holds.ranges_are c.args.constraints.now listed c.in-Ok.net built.0 built.1 c.in-Err-2.line
    (rw c.in-Err-2.is at c.in_ok-runs.ensures)

pub returns-in-Some : goal.returns-in-Some
returns-in-Some c = λ lines holds listed rises none.
    let self = c.args.self in
    let built = rw c.in-Ok.is at c.in_ok-net.ensures in
    let linked = rw c.in-Ok-2.is at c.in_ok-runs.ensures in
    let found = rw c.in-Some.is at c.in_ok-edge.ensures in
    ap Err c.refusal-in-Some.ensures
    ∙ body-unbalanced c.args.mode lines rises none self.labels holds.names holds.edges_are self.edge_numbers.items holds.numbers self.ranges holds.ranges_are c.args.constraints.now listed c.in-Ok.net built.0 built.1 linked.0 c.in-Some.edge found

pub returns : goal.returns
returns c = λ lines holds listed rises none.
    let self = c.args.self in
    let built = rw c.in-Ok.is at c.in_ok-net.ensures in
    let linked = rw c.in-Ok-2.is at c.in_ok-runs.ensures in
    let found = rw c.in_default.is at c.in_ok-edge.ensures in
    body-graph c.args.mode lines rises none self.labels holds.names holds.edges_are self.edge_numbers.items holds.numbers self.ranges holds.ranges_are c.args.constraints.now listed c.in-Ok.net built.0 built.1 linked.0 c.in-Ok-2.runs linked.1 found
