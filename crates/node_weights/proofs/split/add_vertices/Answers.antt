use Rattle.std.proofs.Common.{ℕ, List, ◌++◌, ap, ◌∙◌}
use Rattle.report_reading.specs.ReportText.{line}
use Rattle.node_weights.specs.SplitText.{named_vertex, edge_fields}
use Rattle.node_weights.proofs.SplitTexts.{vertex_lines-more}
use Rattle.node_weights.proofs.split.add_vertices.Goals as goal

pub loop-v-preserved : goal.loop-v-preserved
loop-v-preserved c =
    let g = c.args.graph.now in
    c.in_ok-add_vertex.ensures
    ∙ ap (λ (x : List ℕ). x ++ line (edge_fields (named_vertex g c.loop-v.v))) c.loop-v.invariant
    ∙ vertex_lines-more g c.args.text.now.items c.loop-v.v
