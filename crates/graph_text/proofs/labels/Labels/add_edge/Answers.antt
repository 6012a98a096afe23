use Rattle.std.proofs.Common.{ap, ◌∙◌, not}
use Rattle.std.specs.List.{list_any}
use Rattle.decomposition.specs.Graph.{same_ends}
use Rattle.graph_text.specs.Labels.{LabelLists}
use Rattle.graph_text.proofs.Naming.{new_edge}
use Rattle.graph_text.proofs.labels.Labels.add_edge.Goals as goal

pub returns-clause-new : goal.returns-clause-new
returns-clause-new c =
    new_edge c.args.self.now.edges (c.args.tail, c.args.head) c.in_ok-is_new.is_new
    (c.in_ok-is_new.ensures.added ∙ ap (λ (l : LabelLists). not (list_any (same_ends (c.args.tail, c.args.head)) l.edges)) c.self.view_is)
