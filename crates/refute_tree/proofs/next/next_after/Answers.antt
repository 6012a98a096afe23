use Rattle.std.proofs.Common.{sym, ap, ◌∙◌}
use Rattle.decomposition.specs.Graph.{is_source}
use Rattle.refute_tree.proofs.NextEdges.{next-at_source, next-at_vertex}
use Rattle.refute_tree.proofs.next.next_after.Goals as goal

pub returns-then-is_source : goal.returns-then-is_source
returns-then-is_source c =
    let g = c.args.net.now in
    next-at_source g c.args.edge c.edges-edges.result c.source_edge.result (ap (is_source g) (sym c.tail.ensures.tail) ∙ sym c.is_source.ensures ∙ c.if-is_source.true) c.edges-edges.ensures.edges c.source_edge.ensures

pub returns-else-is_source : goal.returns-else-is_source
returns-else-is_source c =
    let g = c.args.net.now in
    next-at_vertex g c.args.edge c.next_out.result (ap (is_source g) (sym c.tail.ensures.tail) ∙ sym c.is_source.ensures ∙ c.if-is_source.false) c.next_out.ensures
