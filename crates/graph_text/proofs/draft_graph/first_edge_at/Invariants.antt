use Rattle.std.proofs.Common.{◌≡◌, ℕ, ◌<◌, ◌==◌, ◌||◌, false}
use Rattle.decomposition.specs.Graph.{tail, head}
use Rattle.graph_text.proofs.draft_graph.first_edge_at.Given as goal

abbrev pub invariant-loop-e : goal.invariant-loop-e
invariant-loop-e l = (f : ℕ) → f < l.e → ((tail l.net f == l.v) || (head l.net f == l.v)) ≡ false
