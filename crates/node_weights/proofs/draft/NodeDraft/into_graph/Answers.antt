use Rattle.std.proofs.Common.{◌≡◌, ◌≢◌, ◌<◌, ℕ, List, length, Ok, Err, sym, ap, subst, ◌∙◌, arith}
use Rattle.std.specs.Prelude.{AllPairs, slice_index}
use Rattle.std.proofs.lemmas.List.{get_or_default}
use Rattle.decomposition.specs.Graph.{graph_of, IsNet}
use Rattle.std.proofs.lemmas.Map.Made.{AllPairs-from_IsDistinct}
use Rattle.decomposition.proofs.Nets.{same_ends-Decides}
use Rattle.dag_net.specs.Build.{FollowsNet, ClosesCycle}
use Rattle.graph_text.proofs.Finishing.{no_repeated}
use Rattle.node_weights.proofs.Graphs.{weights-count, weights-small, numbers-edges, net-is, graph-is}
use Rattle.node_weights.proofs.Refusals.{read-graph, read-cycle}
use Rattle.node_weights.specs.Kept.{IsNodeGraph}
use Rattle.node_weights.specs.NodeText.{edge_numbers}
use Rattle.node_weights.specs.declared.node_fault.NodeWhy.TheVariants.{Cycle}
use Rattle.node_weights.proofs.draft.NodeDraft.into_graph.Goals as goal
use Rattle.node_weights.proofs.draft.NodeDraft.into_graph.Goals.{In-Ok}

-- the graph of the draft, where its edges make a net
graph_of_draft : (c : In-Ok) → IsNodeGraph (record { names = c.args.self.labels.names; weights = c.args.self.weights.items; edges = c.args.self.labels.edges })
graph_of_draft c =
    let held = c.requires.1.holds in
    record {
      labels = c.edges.ensures.labels;
      weighted = weights-count c.requires.0 c.args.self held;
      small = weights-small c.requires.0 c.args.self held;
      acyclic = subst IsNet (c.in-Ok.ensures.net ∙ (λ i. graph_of (c.vertices-vertices.ensures.vertices i) (c.edges.ensures.edges i))) c.in-Ok.ensures.sound;
      few = c.args.self.few;
    }

pub invariant_of-result : goal.invariant_of-result
invariant_of-result c = graph_of_draft c

pub returns-in-Ok-clause-sound : goal.returns-in-Ok-clause-sound
returns-in-Ok-clause-sound c = graph_of_draft (goal.at.returns-in-Ok-clause-sound c).In-Ok

pub returns-in-Ok-clause-ok : goal.returns-in-Ok-clause-ok
returns-in-Ok-clause-ok c = λ lines all.
    read-graph lines all.none
    (subst IsNet (c.in-Ok.ensures.net ∙ net-is lines c.args.self all.holds c.vertices-vertices.result c.edges.result.now c.vertices-vertices.ensures.vertices c.edges.ensures.edges) c.in-Ok.ensures.sound)
    ∙ ap Ok (graph-is lines c.args.self all.holds)

pub index-requires : goal.index-requires
index-requires c =
    let fault = rw c.in-Err-Cycle.field-0-is at c.in-Err-Cycle.ensures.err in
    omega (arith, fault.0.there, numbers-edges c.requires.0 c.args.self c.requires.1.holds, ap (λ (es : List (ℕ × ℕ)). length es) c.edges.ensures.edges, c.args.self.edge_numbers.ok.0)

pub returns-in-Err-Cycle-clause-err : goal.returns-in-Err-Cycle-clause-err
returns-in-Err-Cycle-clause-err c = λ lines all.
    let same = net-is lines c.args.self all.holds c.vertices-vertices.result c.edges.result.now c.vertices-vertices.ensures.vertices c.edges.ensures.edges in
    let fault = rw c.in-Err-Cycle.field-0-is at c.in-Err-Cycle.ensures.err in
    let within : c.in-Err-Cycle.edge < length c.args.self.edge_numbers.items =
    omega (arith, fault.0.there, numbers-edges lines c.args.self all.holds, ap (λ (es : List (ℕ × ℕ)). length es) c.edges.ensures.edges) in
    let number : c.index.result.now ≡ slice_index (edge_numbers lines) c.in-Err-Cycle.edge =
    c.index.ensures
    ∙ sym (get_or_default c.args.self.edge_numbers.items c.in-Err-Cycle.edge 0 c.index.result.now within)
    ∙ ap (λ ns. slice_index ns c.in-Err-Cycle.edge) all.holds.numbers in
    read-cycle lines all.none c.in-Err-Cycle.edge (subst (λ g. FollowsNet g c.in-Err-Cycle.edge) same fault.0) (subst (λ g. ClosesCycle g c.in-Err-Cycle.edge) same fault.3)
    ∙ sym (ap (λ n. Err (n, Cycle)) number)

pub unreachable-requires-in-Err-Repeated : goal.unreachable-requires-in-Err-Repeated
unreachable-requires-in-Err-Repeated c =
    let edges = c.edges.result.now in
    let labels = c.args.self.labels in
    let distinct : AllPairs (λ a b. a ≢ b) edges = subst (λ (es : List (ℕ × ℕ)). AllPairs (λ a b. a ≢ b) es) (sym c.edges.ensures.edges) (AllPairs-from_IsDistinct same_ends-Decides labels.edges c.edges.ensures.labels.simple) in
    let fault = rw c.in-Err-Repeated.field-0-is at c.in-Err-Repeated.ensures.err in
    no_repeated (graph_of c.vertices-vertices.result edges) distinct c.in-Err-Repeated.field-0-0 fault.0.there fault.2
