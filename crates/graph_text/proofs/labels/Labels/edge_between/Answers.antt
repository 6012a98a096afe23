use Rattle.std.proofs.Common.{inl, inr, ◌∙◌}
use Rattle.std.specs.Str.{bytes_eq}
use Rattle.graph_text.specs.Reading.{vertex_of}
use Rattle.graph_text.proofs.DraftGraphs.{HasEdge-numbers}
use Rattle.graph_text.proofs.Linking.{place-missing, no_edge}
use Rattle.graph_text.proofs.labels.Labels.edge_between.Goals as goal

pub returns-in_err-u-clause-place : goal.returns-in_err-u-clause-place
returns-in_err-u-clause-place c =
    let labels = c.args.self.now in
    c.from_residual.ensures
    ∙ no_edge labels c.in_err-u.ensures.labels (vertex_of labels.names c.args.tail.now) (vertex_of labels.names c.args.head.now)
    (inl (place-missing (bytes_eq c.args.tail.now) labels.names c.in_err-u.ensures.place))

pub returns-in_err-v-clause-place : goal.returns-in_err-v-clause-place
returns-in_err-v-clause-place c =
    let labels = c.args.self.now in
    c.from_residual-in_err-v.ensures
    ∙ no_edge labels c.in_err-v.ensures.labels (vertex_of labels.names c.args.tail.now) (vertex_of labels.names c.args.head.now)
    (inr (place-missing (bytes_eq c.args.head.now) labels.names c.in_err-v.ensures.place))

pub returns-clause-joined : goal.returns-clause-joined
returns-clause-joined c =
    let labels = c.args.self.now in
    let first = c.in_ok-u.ensures in
    let second = c.in_ok-v.ensures in
    HasEdge-numbers labels c.args.tail.now c.args.head.now c.in_ok-u.u c.in_ok-v.v c.edge.result first.place second.place first.found second.found c.edge.ensures.found
