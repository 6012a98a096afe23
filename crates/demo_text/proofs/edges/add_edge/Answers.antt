use Rattle.std.proofs.Common.{map, ap, ◌∙◌}
use Rattle.demo_text.specs.Demo.{ends_of}
use Rattle.demo_text.proofs.GatheredUses.{use_there, use_new}
use Rattle.demo_text.proofs.edges.add_edge.Goals as goal

pub returns-then-has_edge : goal.returns-then-has_edge
returns-then-has_edge c = use_there c.args.used.now.items c.as_slice.result.now c.args.edge c.has_edge.result c.as_slice.ensures.value c.has_edge.ensures c.if-has_edge.true

pub returns : goal.returns
returns c =
    ap (map ends_of) c.in_ok-push.ensures.items
    ∙ use_new c.args.used.now.items c.as_slice.result.now c.args.edge c.has_edge.result c.as_slice.ensures.value c.has_edge.ensures c.if-has_edge.false
