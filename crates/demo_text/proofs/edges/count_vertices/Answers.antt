use Rattle.std.proofs.Common.{map}
use Rattle.demo_text.specs.Demo.{name_of}
use Rattle.demo_text.proofs.GatheredEnds.{ends_more}
use Rattle.demo_text.proofs.edges.count_vertices.Goals as goal

pub loop-edge-preserved : goal.loop-edge-preserved
loop-edge-preserved c =
    ends_more c.args.edges.now c.loop-edge.edge-index _ (map name_of c.loop-edge.known.items) _ _ c.loop-edge-test.true c.loop-edge.invariant c.in_ok-add_vertex.ensures c.in_ok-add_vertex-2.ensures
