use Rattle.std.proofs.Common.{◌+◌, ◌-◌, ◌<◌, ℕ, None, subst, sym, arith}
use Rattle.std.specs.Option.{option_map_or}
use Rattle.std.proofs.lemmas.List.{get_or_read}
use Rattle.decomposition.specs.Graph.{edge_count, head}
use Rattle.dag_net.specs.Entering.{IsFirstInto}
use Rattle.dag_net.proofs.EdgesInTurn.{cursor-falls}
use Rattle.path_cover.proofs.Sending.{IsOneInto-first, IsEdgeInto-first}
use Rattle.path_cover.proofs.ways.edge_back.Goals as goal
use Rattle.path_cover.proofs.ways.edge_back.Goals.{After-index-into-in-Some}

pub loop-into-init : goal.loop-into-init
loop-into-init c =
    let entering = c.requires.entering in
    let first = rw (← get_or_read c.args.entering.now.first.items c.args.v c.index-into.result.now (omega (arith, c.requires.vertex, entering.vertices_count)) c.index-into.ensures None) at (entering.firsts c.args.v c.requires.vertex) in
    IsOneInto-first c.args.net.now c.args.v 0 c.index-into.result.now first

-- the next edge that enters the vertex
next : (c : After-index-into-in-Some) → IsFirstInto c.args.net.now c.args.v (c.in-Some.e + 1) c.index-into-in-Some.result.now
next c =
    let e = c.in-Some.e in
    let into = rw c.in-Some.is at c.loop-into.invariant in
    let is = rw (← get_or_read c.args.entering.now.next.items e c.index-into-in-Some.result.now (omega (arith, into.0, c.requires.entering.edges_count)) c.index-into-in-Some.ensures None) at (c.requires.entering.nexts e (omega arith) into.0) in
    subst (λ u. IsFirstInto c.args.net.now u (e + 1) c.index-into-in-Some.result.now) into.1 is

pub loop-into-smaller : goal.loop-into-smaller
loop-into-smaller c =
    let g = c.args.net.now in
    let m = edge_count g in
    let into = rw c.in-Some.is at c.loop-into.invariant in
    subst (λ out. option_map_or (λ (e : ℕ). m - e) c.index-into-in-Some.result.now 0 < option_map_or (λ (e : ℕ). m - e) out 0) (sym c.in-Some.is)
    (cursor-falls m (head g) c.args.v c.in-Some.e c.index-into-in-Some.result.now into.0 (next (goal.at.loop-into-smaller c).After-index-into-in-Some))

pub loop-into-preserved : goal.loop-into-preserved
loop-into-preserved c = IsOneInto-first c.args.net.now c.args.v (c.in-Some.e + 1) c.index-into-in-Some.result.now (next (goal.at.loop-into-preserved c).After-index-into-in-Some)

pub returns : goal.returns
returns c =
    let entering = c.requires.entering in
    let first = rw (← get_or_read c.args.entering.now.first.items c.args.v c.index.result.now (omega (arith, c.requires.vertex, entering.vertices_count)) c.index.ensures None) at (entering.firsts c.args.v c.requires.vertex) in
    IsEdgeInto-first c.args.net.now c.args.v c.index.result.now first
