use Rattle.std.proofs.Common.{ℕ, List, [], ◌∷◌, ◌++◌, ◌*◌, length, ap, ◌∙◌}
use Rattle.std.specs.Prelude.{codes, decimal}
use Rattle.report_reading.specs.ReportText.{line}
use Rattle.node_weights.proofs.SplitTexts.{vertex_lines, link_lines, split_text-parts}
use Rattle.node_weights.proofs.split.split_text.Goals as goal

pub returns : goal.returns
returns c =
    let g = c.args.graph.now in
    c.from_vec.ensures
    ∙ c.in_ok-add_links.ensures
    ∙ ap (λ (x : List ℕ). x ++ link_lines g g.edges)
    (c.in_ok-add_vertices.ensures
    ∙ ap (λ (x : List ℕ). x ++ vertex_lines g (length g.names))
    (c.in_ok-add_count.ensures
    ∙ ap (λ (x : List ℕ). x ++ line (decimal (2 * length g.names) ∷ []))
    (c.in_ok-add_line.ensures ∙ ap (λ (x : List ℕ). x ++ line (codes "#" ∷ codes "nodes" ∷ [])) c.new-text.ensures.items)))
    ∙ split_text-parts g
