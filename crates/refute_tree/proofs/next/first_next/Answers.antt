use Rattle.std.proofs.Common.{subst}
use Rattle.decomposition.specs.Reach.{IsBegun}
use Rattle.refute_tree.proofs.NextEdges.{last_inside, first-at_sources, first-at_end}
use Rattle.refute_tree.proofs.next.first_next.Goals as goal

pub head-requires : goal.head-requires
head-requires c = last_inside c.args.net.now c.in-Some.ensures.0 c.in-Some.last (subst (IsBegun c.args.net.now) c.in-Some.ensures.1 c.requires.begun)

pub returns-in-Some : goal.returns-in-Some
returns-in-Some c = first-at_end c.args.net.now _ c.in-Some.ensures.0 c.in-Some.last c.head.result c.first_out.result c.in-Some.ensures.1 c.head.ensures.head c.first_out.ensures

pub returns-in-None : goal.returns-in-None
returns-in-None c = first-at_sources c.args.net.now _ c.edges.result c.source_edge.result c.in-None.ensures c.edges.ensures.edges c.source_edge.ensures
