use Rattle.std.proofs.Common.{◌==◌, arith}
use Rattle.std.proofs.lemmas.Bool.{or_parts, eqb-false}
use Rattle.decomposition.specs.Graph.{tail, head}
use Rattle.decomposition.proofs.Balance.{inner-parts}
use Rattle.decomposition.proofs.Walks.{edge_out_of}
use Rattle.graph_text.proofs.draft_graph.first_edge_at.Goals as goal

pub unreachable-requires : goal.unreachable-requires
unreachable-requires c =
    let g = c.args.net.now in
    let v = c.args.v in
    let out = edge_out_of g v (inner-parts g v c.requires).1 in
    let fails = or_parts (tail g out.0 == v) (head g out.0 == v) (c.loop-e.invariant out.0 (omega (arith, out.1))) in
    eqb-false (tail g out.0) v fails.0 out.2
