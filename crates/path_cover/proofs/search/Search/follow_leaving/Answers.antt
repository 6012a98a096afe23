use Rattle.std.proofs.Common.{◌+◌, ◌<◌, length, slice_index, subst, arith}
use Rattle.decomposition.specs.Graph.{tail}
use Rattle.dag_net.specs.Chain.{IsFirstOut}
use Rattle.dag_net.specs.Marks.{is_set}
use Rattle.path_cover.specs.Search.{entry_at, IsFollowed}
use Rattle.path_cover.specs.declared.search.Reached.{Reached}
use Rattle.path_cover.proofs.Searching.{Follows-more}
use Rattle.path_cover.proofs.search.Search.follow_leaving.Goals as goal

pub loop-out-preserved : goal.loop-out-preserved
loop-out-preserved c =
    let g = c.args.net.now in
    let needed = is_set c.args.needed.now in
    let flow = slice_index c.args.flow.now in
    let old = c.args.self.now in
    let v = (entry_at old.entries.items c.args.k).vertex in
    let e = c.in-Some.e in
    let f = rw c.in-Some.is at c.loop-out.invariant in
    let within : c.args.k < length old.entries.items = omega (arith, c.requires.place, old.entries.ok.0) in
    let same = f.grows.same c.args.k within in
    let here = subst (λ (x : Reached). IsFollowed g needed flow c.follow.new.self.marked.items x.vertex e) same c.in_ok-follow.ensures.followed in
    let next = subst (λ u. IsFirstOut g u (e + 1) c.next_out-out.result) f.done.1 c.next_out-out.ensures in
    Follows-more g needed flow (tail g) v old.entries.items old.marked.items c.loop-out.self.entries.items c.loop-out.self.marked.items e c.follow.new.self.entries.items c.follow.new.self.marked.items c.next_out-out.result
    f c.in_ok-follow.ensures.kept.search c.in_ok-follow.ensures.kept.grows here next
