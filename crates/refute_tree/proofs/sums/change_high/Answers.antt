use Rattle.std.proofs.Common.{ℕ, Bool, List, length, sym, subst, arith}
use Rattle.decomposition.specs.Graph.{tail, has_edge, paths}
use Rattle.decomposition.specs.Boxes.{may_have}
use Rattle.decomposition.specs.Reach.{reaches}
use Rattle.link_cells.specs.Links.{walk_of}
use Rattle.refute_tree.proofs.SumsAlong.{has_edge-end}
use Rattle.refute_tree.proofs.SumsWeights.{AreParts, above_first, above_second, changes_both}
use Rattle.refute_tree.proofs.SumsWalks.{begun-distinct, begun-inside, walk-parts}
use Rattle.refute_tree.proofs.sums.change_high.Goals as goal
use Rattle.refute_tree.proofs.sums.change_high.Goals.{After-head}

pub head-requires : goal.head-requires
head-requires c = begun-inside c.args.net.now _ c.requires.begun c.args.last (has_edge-end _ c.requires.last.0 c.args.last c.requires.last.1)

-- the edges ahead of the walk, and those that it has
abbrev walk : After-head → List ℕ
walk c = walk_of c.args.links.now.links c.args.slot

abbrev ahead : After-head → ℕ → Bool
ahead c e = reaches c.args.net.now c.head.result (tail c.args.net.now e)

abbrev either : After-head → ℕ → Bool
either c = may_have (paths c.args.net.now) (walk c)

parts : (c : After-head) → AreParts (either c) (ahead c) (has_edge (walk c)) (length c.args.high.now)
parts c =
    let g = c.args.net.now in
    subst (λ v. AreParts (either c) (λ e. reaches g v (tail g e)) (has_edge (walk c)) (length c.args.high.now)) (sym c.head.ensures.head)
    (walk-parts g c.requires.net (walk c) c.requires.last.0 c.args.last (length c.args.high.now) c.requires.begun c.requires.last.1 c.requires.room)

pub change_ahead-requires-clause-there : goal.change_ahead-requires-clause-there
change_ahead-requires-clause-there c =
    let at = (goal.at.change_ahead-requires-clause-there c).After-head in
    above_first (either at) (ahead at) (has_edge (walk at)) c.args.less c.args.more c.args.high.now c.args.high.now (parts at) c.requires.there

pub change_along-requires-clause-once : goal.change_along-requires-clause-once
change_along-requires-clause-once c = begun-distinct c.args.net.now c.requires.net _ c.requires.begun

pub change_along-requires-clause-inside : goal.change_along-requires-clause-inside
change_along-requires-clause-inside c = λ e has. omega (arith, begun-inside c.args.net.now _ c.requires.begun e has, c.requires.room)

pub change_along-requires-clause-there : goal.change_along-requires-clause-there
change_along-requires-clause-there c =
    let at = (goal.at.change_along-requires-clause-there c).After-head in
    above_second (either at) (ahead at) (has_edge (walk at)) c.args.less c.args.more c.args.high.now c.change_ahead.new.weights (parts at) (omega arith) c.change_ahead.ensures c.requires.there

pub returns : goal.returns
returns c =
    let at = (goal.at.returns c).After-head in
    changes_both (either at) (ahead at) (has_edge (walk at)) c.args.less c.args.more c.args.high.now c.change_ahead.new.weights (parts at) c.change_along.new.weights (omega arith) c.change_ahead.ensures c.change_along.ensures
