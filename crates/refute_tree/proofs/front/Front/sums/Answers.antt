use Rattle.std.proofs.Common.{◌<◌, vec_len, length, ◌∙◌, ap, arith}
use Rattle.decomposition.specs.Graph.{edge_count}
use Rattle.refute_tree.specs.Front.{Boxes}
use Rattle.refute_tree.proofs.Fronts.{first-kept, sums-kept}
use Rattle.refute_tree.proofs.front.Front.sums.Goals as goal
use Rattle.refute_tree.proofs.front.Front.sums.Goals.{After-self}

-- the edge is one of those that weights are kept for
inside : (c : After-self) → (c.args.edge < vec_len c.self.inside.beside.sums.low) × (c.args.edge < vec_len c.self.inside.beside.sums.high)
inside c =
    let room = (first-kept c.self.inside c.args.self.now c.self.view_is c.self.invariant c.requires.some).totals.room in
    let edges = ap (λ (x : Boxes). edge_count x.instance.graph) c.self.view_is in
    (omega (arith, c.requires.edge, room.low, edges), omega (arith, c.requires.edge, room.high, edges))

pub low_on-requires : goal.low_on-requires
low_on-requires c = record { edge = (inside (goal.at.low_on-requires c).After-self).0 }

pub high_on-requires-clause-edge : goal.high_on-requires-clause-edge
high_on-requires-clause-edge c = (inside (goal.at.high_on-requires-clause-edge c).After-self).1

pub high_on-requires-clause-small : goal.high_on-requires-clause-small
high_on-requires-clause-small c = (sums-kept c.self.inside c.args.self.now c.self.view_is c.self.invariant c.requires.some).small

pub returns-clause-low : goal.returns-clause-low
returns-clause-low c =
    let there : c.args.edge < length c.self.inside.beside.sums.low.items = omega (arith, (inside (goal.at.returns-clause-low c).After-self).0, c.self.inside.beside.sums.low.ok.0) in
    c.low_on.ensures ∙ (sums-kept c.self.inside c.args.self.now c.self.view_is c.self.invariant c.requires.some).low c.args.edge there

pub returns-clause-high : goal.returns-clause-high
returns-clause-high c =
    let there : c.args.edge < length c.self.inside.beside.sums.high.items = omega (arith, (inside (goal.at.returns-clause-high c).After-self).1, c.self.inside.beside.sums.high.ok.0) in
    c.high_on.ensures ∙ (sums-kept c.self.inside c.args.self.now c.self.view_is c.self.invariant c.requires.some).high c.args.edge there
