use Rattle.std.proofs.Common.{◌+◌, ◌<◌, slice_index, slice_set, sym, subst, arith}
use Rattle.decomposition.specs.Graph.{tail}
use Rattle.path_cover.proofs.Depth.{depth, depth-le, depth-rises}
use Rattle.path_cover.proofs.Sending.{Brings, Brings-more, Brings-all, Brings-few, IsRaised-set}
use Rattle.path_cover.proofs.carrying.bring_in.Goals as goal

pub overflow_add-flow : goal.overflow_add-flow
overflow_add-flow c =
    let g = c.args.net.now in
    let e = c.in-Some.e in
    let into = rw c.in-Some.is at c.edge_back.ensures in
    let more = subst (λ v. depth g (tail g e) < depth g v) into.1 (depth-rises g c.requires.room.net e into.0) in
    omega (arith, more, depth-le g c.args.v, c.loop-e.invariant.few e, c.requires.room.small e)

pub loop-e-smaller : goal.loop-e-smaller
loop-e-smaller c =
    let g = c.args.net.now in
    let e = c.in-Some.e in
    let into = rw c.in-Some.is at c.edge_back.ensures in
    let more = subst (λ v. depth g (tail g e) < depth g v) into.1 (depth-rises g c.requires.room.net e into.0) in
    let less : depth g c.tail-at.result < depth g c.loop-e.at = subst (λ v. depth g v < depth g c.loop-e.at) (sym c.tail-at.ensures.tail) more in
    less

pub loop-e-preserved : goal.loop-e-preserved
loop-e-preserved c =
    let g = c.args.net.now in
    let e = c.in-Some.e in
    let flow = c.loop-e.flow in
    let into = rw c.in-Some.is at c.edge_back.ensures in
    let new = slice_set flow e (slice_index flow e + 1) in
    subst (Brings g (slice_index c.args.flow.now) (slice_index new) c.args.v) (sym c.tail-at.ensures.tail)
    (Brings-more g c.requires.room.net (slice_index c.args.flow.now) (slice_index flow) (slice_index new) c.args.v c.loop-e.at e into.0 into.1 c.loop-e.invariant (IsRaised-set flow e (omega arith)))

pub returns-clause-more : goal.returns-clause-more
returns-clause-more c = Brings-few c.args.net.now (slice_index c.args.flow.now) (slice_index c.loop-e.flow) c.args.v c.loop-e.at c.loop-e.invariant

pub returns-clause-brought : goal.returns-clause-brought
returns-clause-brought c =
    let source = rw c.in_default.is at c.edge_back.ensures in
    Brings-all c.args.net.now (slice_index c.args.flow.now) (slice_index c.loop-e.flow) c.args.v c.loop-e.at source c.loop-e.invariant
