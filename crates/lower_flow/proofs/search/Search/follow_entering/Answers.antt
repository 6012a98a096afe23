use Rattle.std.proofs.Common.{◌+◌, ◌-◌, ◌<◌, ℕ, None, length, slice_index, ap, subst, sym, arith}
use Rattle.std.specs.Option.{option_map_or}
use Rattle.std.proofs.lemmas.List.{get_or_read}
use Rattle.decomposition.specs.Graph.{edge_count, head}
use Rattle.dag_net.specs.Entering.{IsFirstInto}
use Rattle.lower_flow.specs.Residual.{residual}
use Rattle.lower_flow.specs.Search.{entry_at, IsFollowed}
use Rattle.lower_flow.specs.declared.search.Reached.{Reached}
use Rattle.dag_net.proofs.EdgesInTurn.{cursor-falls}
use Rattle.lower_flow.proofs.Searching.{entry-read, read-below, Follows-start, Follows-more}
use Rattle.lower_flow.proofs.search.Search.follow_entering.Goals as goal
use Rattle.lower_flow.proofs.search.Search.follow_entering.Goals.{After-index-into-in-Some}

pub index-into-requires : goal.index-into-requires
index-into-requires c =
    let old = c.args.self.now in
    let r = residual c.args.net.now c.args.ranges.now c.args.side (slice_index c.args.flow.now) in
    let below = read-below r old.entries.items old.marked.items c.args.k c.index.result.now c.requires.search (omega (arith, c.requires.place, old.entries.ok.0)) c.index.ensures in
    omega (arith, below, c.requires.entering.vertices_count, c.args.entering.now.first.ok.0)

pub loop-into-init : goal.loop-into-init
loop-into-init c =
    let g = c.args.net.now in
    let r = residual g c.args.ranges.now c.args.side (slice_index c.args.flow.now) in
    let old = c.args.self.now in
    let within : c.args.k < length old.entries.items = omega (arith, c.requires.place, old.entries.ok.0) in
    let read = ap (λ (x : Reached). x.vertex) (entry-read old.entries.items c.args.k c.index.result.now within c.index.ensures) in
    let v = c.index.result.now.vertex in
    let there : v < g.vertices = read-below r old.entries.items old.marked.items c.args.k c.index.result.now c.requires.search within c.index.ensures in
    let first = rw (← get_or_read c.args.entering.now.first.items v c.index-into.result.now (omega (arith, there, c.requires.entering.vertices_count)) c.index-into.ensures None) at (c.requires.entering.firsts v there) in
    Follows-start r (head g) (entry_at old.entries.items c.args.k).vertex old.entries.items old.marked.items c.index-into.result.now c.requires.search (subst (λ u. IsFirstInto g u 0 c.index-into.result.now) read first)

-- the next edge that enters the vertex
next : (c : After-index-into-in-Some) → IsFirstInto c.args.net.now (entry_at c.args.self.now.entries.items c.args.k).vertex (c.in-Some.e + 1) c.index-into-in-Some.result.now
next c =
    let g = c.args.net.now in
    let e = c.in-Some.e in
    let f = rw c.in-Some.is at c.loop-into.invariant in
    let is = rw (← get_or_read c.args.entering.now.next.items e c.index-into-in-Some.result.now (omega (arith, f.done.0, c.requires.entering.edges_count)) c.index-into-in-Some.ensures None) at (c.requires.entering.nexts e (omega arith) f.done.0) in
    subst (λ u. IsFirstInto g u (e + 1) c.index-into-in-Some.result.now) f.done.1 is

pub loop-into-smaller : goal.loop-into-smaller
loop-into-smaller c =
    let g = c.args.net.now in
    let m = edge_count g in
    let f = rw c.in-Some.is at c.loop-into.invariant in
    subst (λ out. option_map_or (λ (e : ℕ). m - e) c.index-into-in-Some.result.now 0 < option_map_or (λ (e : ℕ). m - e) out 0) (sym c.in-Some.is)
    (cursor-falls m (head g) (entry_at c.args.self.now.entries.items c.args.k).vertex c.in-Some.e c.index-into-in-Some.result.now f.done.0 (next (goal.at.loop-into-smaller c).After-index-into-in-Some))

pub loop-into-preserved : goal.loop-into-preserved
loop-into-preserved c =
    let g = c.args.net.now in
    let r = residual g c.args.ranges.now c.args.side (slice_index c.args.flow.now) in
    let old = c.args.self.now in
    let v = (entry_at old.entries.items c.args.k).vertex in
    let e = c.in-Some.e in
    let f = rw c.in-Some.is at c.loop-into.invariant in
    let within : c.args.k < length old.entries.items = omega (arith, c.requires.place, old.entries.ok.0) in
    let same = f.grows.same c.args.k within in
    let here = subst (λ (x : Reached). IsFollowed r c.follow.new.self.marked.items x.vertex e) same c.in_ok-follow.ensures.followed in
    Follows-more r (head g) v old.entries.items old.marked.items c.loop-into.self.entries.items c.loop-into.self.marked.items e c.follow.new.self.entries.items c.follow.new.self.marked.items c.index-into-in-Some.result.now
    f c.in_ok-follow.ensures.search c.in_ok-follow.ensures.grows here (next (goal.at.loop-into-preserved c).After-index-into-in-Some)
