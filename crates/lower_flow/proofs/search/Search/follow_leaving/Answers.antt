use Rattle.std.proofs.Common.{◌+◌, ◌<◌, length, slice_index, subst, arith}
use Rattle.decomposition.specs.Graph.{tail}
use Rattle.dag_net.specs.Chain.{IsFirstOut}
use Rattle.lower_flow.specs.Residual.{residual}
use Rattle.lower_flow.specs.Search.{entry_at, IsFollowed}
use Rattle.lower_flow.specs.declared.search.Reached.{Reached}
use Rattle.lower_flow.proofs.Searching.{read-below, Follows-more}
use Rattle.lower_flow.proofs.search.Search.follow_leaving.Goals as goal

pub first_out-out-requires : goal.first_out-out-requires
first_out-out-requires c =
    let old = c.args.self.now in
    read-below (residual c.args.net.now c.args.ranges.now c.args.side (slice_index c.args.flow.now)) old.entries.items old.marked.items c.args.k c.index.result.now c.requires.search (omega (arith, c.requires.place, old.entries.ok.0)) c.index.ensures

pub loop-out-preserved : goal.loop-out-preserved
loop-out-preserved c =
    let g = c.args.net.now in
    let r = residual g c.args.ranges.now c.args.side (slice_index c.args.flow.now) in
    let old = c.args.self.now in
    let v = (entry_at old.entries.items c.args.k).vertex in
    let e = c.in-Some.e in
    let f = rw c.in-Some.is at c.loop-out.invariant in
    let within : c.args.k < length old.entries.items = omega (arith, c.requires.place, old.entries.ok.0) in
    let same = f.grows.same c.args.k within in
    let here = subst (λ (x : Reached). IsFollowed r c.follow.new.self.marked.items x.vertex e) same c.in_ok-follow.ensures.followed in
    let next = subst (λ u. IsFirstOut g u (e + 1) c.next_out-out.result) f.done.1 c.next_out-out.ensures in
    Follows-more r (tail g) v old.entries.items old.marked.items c.loop-out.self.entries.items c.loop-out.self.marked.items e c.follow.new.self.entries.items c.follow.new.self.marked.items c.next_out-out.result
    f c.in_ok-follow.ensures.search c.in_ok-follow.ensures.grows here next
