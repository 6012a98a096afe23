use Rattle.std.proofs.Common.{◌≢◌, ℕ, List, sym, subst}
use Rattle.std.specs.Prelude.{AllPairs}
use Rattle.decomposition.specs.Graph.{graph_of}
use Rattle.std.proofs.lemmas.Map.Made.{AllPairs-from_IsDistinct}
use Rattle.decomposition.proofs.Nets.{same_ends-Decides}
use Rattle.graph_text.proofs.Finishing.{no_repeated}
use Rattle.graph_text.proofs.draft_graph.DraftGraph.build_net.Goals as goal

pub unreachable-requires-in-Err-Repeated : goal.unreachable-requires-in-Err-Repeated
unreachable-requires-in-Err-Repeated c =
    let edges = c.edges.result.now in
    let labels = c.args.self.now.labels in
    let distinct : AllPairs (λ a b. a ≢ b) edges = subst (λ (es : List (ℕ × ℕ)). AllPairs (λ a b. a ≢ b) es) (sym c.edges.ensures.edges) (AllPairs-from_IsDistinct same_ends-Decides labels.edges c.edges.ensures.labels.simple) in
    let fault = rw c.in-Err-Repeated.field-0-is at c.in-Err-Repeated.ensures.err in
    no_repeated (graph_of c.vertices.result edges) distinct c.in-Err-Repeated.field-0-0 fault.0.there fault.2
