use Rattle.std.proofs.Common.{◌+◌, ◌-◌, ◌<◌, ℕ, None, length, slice_index, sym, subst, arith}
use Rattle.std.specs.Option.{option_map_or}
use Rattle.std.proofs.lemmas.List.{get_or_read}
use Rattle.decomposition.specs.Graph.{edge_count, head}
use Rattle.dag_net.specs.Entering.{IsFirstInto}
use Rattle.dag_net.specs.Marks.{is_set}
use Rattle.path_cover.specs.Search.{entry_at, IsFollowed}
use Rattle.path_cover.specs.declared.search.Reached.{Reached}
use Rattle.dag_net.proofs.EdgesInTurn.{cursor-falls}
use Rattle.path_cover.proofs.Searching.{entry-read, Follows-start, Follows-more, vertex-below}
use Rattle.path_cover.proofs.search.Search.follow_entering.Goals as goal
use Rattle.path_cover.proofs.search.Search.follow_entering.Goals.{After-index-into-in-Some}

pub loop-into-init : goal.loop-into-init
loop-into-init c =
    let g = c.args.net.now in
    let old = c.args.self.now in
    let within : c.args.k < length old.entries.items = omega (arith, c.requires.at.place, old.entries.ok.0) in
    let read = entry-read old.entries.items c.args.k c.index.result.now within c.index.ensures in
    let v = c.index.result.now.vertex in
    let there : v < g.vertices = omega (arith, read, vertex-below g (is_set c.args.needed.now) (slice_index c.args.flow.now) old.entries.items old.marked.items c.args.k c.requires.at.search within) in
    let first = rw (← get_or_read c.args.entering.now.first.items v c.index-into.result.now (omega (arith, there, c.requires.entering.vertices_count)) c.index-into.ensures None) at (c.requires.entering.firsts v there) in
    Follows-start g (is_set c.args.needed.now) (slice_index c.args.flow.now) (head g) (entry_at old.entries.items c.args.k).vertex old.entries.items old.marked.items c.index-into.result.now c.requires.at.search
    (subst (λ u. IsFirstInto g u 0 c.index-into.result.now) read first)

-- the next edge that enters the vertex
next : (c : After-index-into-in-Some) → IsFirstInto c.args.net.now (entry_at c.args.self.now.entries.items c.args.k).vertex (c.in-Some.e + 1) c.index-into-in-Some.result.now
next c =
    let g = c.args.net.now in
    let e = c.in-Some.e in
    let f = rw c.in-Some.is at c.loop-into.invariant in
    let is = rw (← get_or_read c.args.entering.now.next.items e c.index-into-in-Some.result.now (omega (arith, f.done.0, c.requires.entering.edges_count)) c.index-into-in-Some.ensures None) at (c.requires.entering.nexts e (omega arith) f.done.0) in
    subst (λ u. IsFirstInto g u (e + 1) c.index-into-in-Some.result.now) f.done.1 is

pub loop-into-smaller : goal.loop-into-smaller
loop-into-smaller c =
    let g = c.args.net.now in
    let m = edge_count g in
    let f = rw c.in-Some.is at c.loop-into.invariant in
    subst (λ out. option_map_or (λ (e : ℕ). m - e) c.index-into-in-Some.result.now 0 < option_map_or (λ (e : ℕ). m - e) out 0) (sym c.in-Some.is)
    (cursor-falls m (head g) (entry_at c.args.self.now.entries.items c.args.k).vertex c.in-Some.e c.index-into-in-Some.result.now f.done.0 (next (goal.at.loop-into-smaller c).After-index-into-in-Some))

pub loop-into-preserved : goal.loop-into-preserved
loop-into-preserved c =
    let g = c.args.net.now in
    let needed = is_set c.args.needed.now in
    let flow = slice_index c.args.flow.now in
    let old = c.args.self.now in
    let v = (entry_at old.entries.items c.args.k).vertex in
    let e = c.in-Some.e in
    let f = rw c.in-Some.is at c.loop-into.invariant in
    let within : c.args.k < length old.entries.items = omega (arith, c.requires.at.place, old.entries.ok.0) in
    let same = f.grows.same c.args.k within in
    let here = subst (λ (x : Reached). IsFollowed g needed flow c.follow.new.self.marked.items x.vertex e) same c.in_ok-follow.ensures.followed in
    Follows-more g needed flow (head g) v old.entries.items old.marked.items c.loop-into.self.entries.items c.loop-into.self.marked.items e c.follow.new.self.entries.items c.follow.new.self.marked.items c.index-into-in-Some.result.now
    f c.in_ok-follow.ensures.kept.search c.in_ok-follow.ensures.kept.grows here (next (goal.at.loop-into-preserved c).After-index-into-in-Some)
