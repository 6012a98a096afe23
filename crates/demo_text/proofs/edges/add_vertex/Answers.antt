use Rattle.std.proofs.Common.{map, ap, ◌∙◌}
use Rattle.demo_text.specs.Demo.{name_of}
use Rattle.demo_text.proofs.GatheredEnds.{vertex_there, vertex_new}
use Rattle.demo_text.proofs.edges.add_vertex.Goals as goal

pub returns-then-has_vertex : goal.returns-then-has_vertex
returns-then-has_vertex c = vertex_there c.args.known.now.items c.as_slice.result.now c.args.vertex c.has_vertex.result c.as_slice.ensures.value c.has_vertex.ensures c.if-has_vertex.true

pub returns : goal.returns
returns c =
    ap (map name_of) c.in_ok-push.ensures.items
    ∙ vertex_new c.args.known.now.items c.as_slice.result.now c.args.vertex c.has_vertex.result c.as_slice.ensures.value c.has_vertex.ensures c.if-has_vertex.false
