use Rattle.std.proofs.Common.{subst}
use Rattle.decomposition.specs.Reach.{IsBegun}
use Rattle.link_cells.specs.Links.{walk_of}
use Rattle.refute_tree.proofs.Overlapping.{begun-last, leads-last}
use Rattle.refute_tree.proofs.misses.leads_to.Goals as goal

pub head-requires : goal.head-requires
head-requires c =
    let g = c.args.net.now in
    (begun-last g c.in-Some.ensures.0 c.in-Some.last (subst (λ w. IsBegun g w) c.in-Some.ensures.1 c.requires.begun)).0

pub returns-in-Some : goal.returns-in-Some
returns-in-Some c =
    leads-last c.args.net.now (walk_of c.args.links.now.links c.args.slot) c.in-Some.ensures.0 c.args.run.now c.in-Some.last c.head.result c.tail.result
    c.requires.begun c.requires.run c.in-Some.ensures.1 c.head.ensures.head c.tail.ensures.tail c.reaches.result c.reaches.ensures
