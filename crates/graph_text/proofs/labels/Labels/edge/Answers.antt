use Rattle.std.proofs.Common.{ℕ, Some, ap, ◌∙◌, position}
use Rattle.decomposition.specs.Graph.{same_ends}
use Rattle.graph_text.specs.Labels.{LabelLists}
use Rattle.decomposition.proofs.Nets.{same_ends-Decides}
use Rattle.graph_text.proofs.Places.{position-Decides}
use Rattle.graph_text.proofs.labels.Labels.edge.Goals as goal

pub returns-clause-found : goal.returns-clause-found
returns-clause-found c =
    let found =
    position-Decides same_ends-Decides c.args.self.now.edges (c.args.u, c.args.v) (0, 0) (Some c.in_ok-e.e)
    (c.in_ok-e.ensures.index ∙ ap (λ (l : LabelLists). position (same_ends (c.args.u, c.args.v)) l.edges) c.self.view_is) in
    (found.0, ap (λ (p : ℕ × ℕ). p.0) found.1, ap (λ (p : ℕ × ℕ). p.1) found.1)
