use Rattle.std.proofs.Common.{◌≡◌, ◌<◌, ◌≤◌, ◌+◌, ◌-◌, ◌++◌, ◌∷◌, [], ◌∙◌, true, ap, sym, subst, arith, slice_index, eqb, length}
use Rattle.std.specs.List.{IsDistinct}
use Rattle.decomposition.specs.Graph.{has_edge}
use Rattle.link_cells.specs.Links.{walk_of, walk_to}
use Rattle.refute_tree.proofs.SumsAlong.{ChangesButFor, still, changes_last, distinct-push, has_edge-end, has_edge-front}
use Rattle.refute_tree.proofs.Walking.{live_at, less_live, whole_at, edge_at}
use Rattle.refute_tree.proofs.sums.change_along.Goals as goal
use Rattle.refute_tree.proofs.sums.change_along.Goals.{After-edge_of-e}

-- the edge stands in what is left of the walk
left : (c : After-edge_of-e) → has_edge (walk_to c.args.links.now.links c.loop-at.at) c.edge_of-e.result ≡ true
left c =
    let links = c.args.links.now.links in
    let end = edge_at links c.loop-at.at c.in-Some.cell c.edge_of-e.result c.in-Some.is c.edge_of-e.ensures c.loop-at.invariant.live in
    has_edge-end _ end.0 c.edge_of-e.result end.1

-- and so in the walk
on_walk : (c : After-edge_of-e) → has_edge (walk_of c.args.links.now.links c.args.slot) c.edge_of-e.result ≡ true
on_walk c = c.loop-at.invariant.on c.edge_of-e.result (left c)

inside : (c : After-edge_of-e) → c.edge_of-e.result < length c.args.weights.now
inside c = c.requires.inside c.edge_of-e.result (on_walk c)

-- its weight is the one that it had, and what is taken off is there
had : (c : After-edge_of-e) → slice_index c.loop-at.weights c.edge_of-e.result ≡ slice_index c.args.weights.now c.edge_of-e.result
had c =
    let links = c.args.links.now.links in
    still (walk_of links c.args.slot) (walk_to links c.loop-at.at) c.edge_of-e.result c.args.less c.args.more c.args.weights.now c.loop-at.weights (on_walk c) (left c) (inside c) c.loop-at.invariant.changed

fits : (c : After-edge_of-e) → c.args.less ≤ slice_index c.loop-at.weights c.edge_of-e.result
fits c = omega (arith, had c, c.requires.there c.edge_of-e.result (inside c) (on_walk c))

pub bounds-weights-e : goal.bounds-weights-e
bounds-weights-e c = omega (arith, inside (goal.at.bounds-weights-e c).After-edge_of-e)

pub bounds-weights-e-in-Some : goal.bounds-weights-e-in-Some
bounds-weights-e-in-Some c = omega (arith, inside (goal.at.bounds-weights-e-in-Some c).After-edge_of-e)

pub overflow_sub-rest : goal.overflow_sub-rest
overflow_sub-rest c = omega (arith, fits (goal.at.overflow_sub-rest c).After-edge_of-e)

pub loop-at-preserved : goal.loop-at-preserved
loop-at-preserved c =
    let before = (goal.at.loop-at-preserved c).After-edge_of-e in
    let links = c.args.links.now.links in
    let walk = walk_of links c.args.slot in
    let e = c.edge_of-e.result in
    let rest = walk_to links c.cell_before-at.result in
    let whole : walk_to links c.loop-at.at ≡ rest ++ e ∷ [] = whole_at links c.loop-at.at c.in-Some.cell rest c.in-Some.is c.cell_before-at.ensures.walk ∙ ap (λ d. rest ++ d ∷ []) (sym c.edge_of-e.ensures) in
    let once = subst (IsDistinct eqb) whole c.loop-at.invariant.once in
    record {
      live = less_live links c.in-Some.cell c.cell_before-at.result (live_at links c.loop-at.at c.in-Some.cell c.in-Some.is c.loop-at.invariant.live) c.cell_before-at.ensures.before;
      once = (distinct-push rest e once).0;
      on = λ f has. c.loop-at.invariant.on f (has_edge-front _ rest e f whole has);
      changed = changes_last walk rest e c.args.less c.args.more _ c.args.weights.now c.loop-at.weights once (omega (arith, inside before)) (omega arith) (on_walk before) (fits before)
          (ap (λ x. slice_index c.loop-at.weights e - x + c.from-in-Some.result) c.from.ensures ∙ ap (λ x. slice_index c.loop-at.weights e - c.args.less + x) c.from-in-Some.ensures)
          (subst (λ xs. ChangesButFor xs walk c.args.less c.args.more c.args.weights.now c.loop-at.weights) whole c.loop-at.invariant.changed);
    }
