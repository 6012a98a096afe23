use Rattle.std.proofs.Common.{◌+◌, ◌-◌, ◌<◌, slice_index, slice_set, sym, subst, arith}
use Rattle.decomposition.specs.Graph.{head}
use Rattle.path_cover.proofs.Depth.{depth, depth-le, depth-rises}
use Rattle.path_cover.proofs.Sending.{Sends, Sends-more, Sends-all, Sends-few, IsRaised-set}
use Rattle.path_cover.proofs.carrying.send_on.Goals as goal
use Rattle.path_cover.proofs.carrying.send_on.Goals.{In-Some}

-- the unit has fewer vertices before it
deeper : (c : In-Some) → depth c.args.net.now c.loop-e.at < depth c.args.net.now (head c.args.net.now c.in-Some.e)
deeper c =
    let g = c.args.net.now in
    let out = rw c.in-Some.is at c.edge_onward.ensures in
    subst (λ v. depth g v < depth g (head g c.in-Some.e)) out.1 (depth-rises g c.requires.room.net c.in-Some.e out.0)

pub overflow_add-flow : goal.overflow_add-flow
overflow_add-flow c =
    let g = c.args.net.now in
    let more = deeper (goal.at.overflow_add-flow c).In-Some in
    omega (arith, more, depth-le g (head g c.in-Some.e), c.loop-e.invariant.few c.in-Some.e, c.requires.room.small c.in-Some.e)

pub loop-e-smaller : goal.loop-e-smaller
loop-e-smaller c =
    let g = c.args.net.now in
    let more = subst (λ v. depth g c.loop-e.at < depth g v) (sym c.head-at.ensures.head) (deeper (goal.at.loop-e-smaller c).In-Some) in
    let less : g.vertices - depth g c.head-at.result < g.vertices - depth g c.loop-e.at = omega (arith, more, depth-le g c.head-at.result) in
    less

pub loop-e-preserved : goal.loop-e-preserved
loop-e-preserved c =
    let g = c.args.net.now in
    let e = c.in-Some.e in
    let flow = c.loop-e.flow in
    let out = rw c.in-Some.is at c.edge_onward.ensures in
    let new = slice_set flow e (slice_index flow e + 1) in
    subst (Sends g (slice_index c.args.flow.now) (slice_index new) c.args.v) (sym c.head-at.ensures.head)
    (Sends-more g c.requires.room.net (slice_index c.args.flow.now) (slice_index flow) (slice_index new) c.args.v c.loop-e.at e out.0 out.1 c.loop-e.invariant (IsRaised-set flow e (omega arith)))

pub returns-clause-more : goal.returns-clause-more
returns-clause-more c = Sends-few c.args.net.now (slice_index c.args.flow.now) (slice_index c.loop-e.flow) c.args.v c.loop-e.at c.loop-e.invariant

pub returns-clause-sent : goal.returns-clause-sent
returns-clause-sent c =
    let sink = rw c.in_default.is at c.edge_onward.ensures in
    Sends-all c.args.net.now (slice_index c.args.flow.now) (slice_index c.loop-e.flow) c.args.v c.loop-e.at sink c.loop-e.invariant
