use Rattle.std.proofs.Common.{◌≡◌, ◌+◌, ◌-◌, slice_index, subst, arith}
use Rattle.greedy_paths.specs.Widths.{HaveWidthsFrom}
use Rattle.greedy_paths.proofs.Widening.{HeadsHaveWidths-behind, HaveWidthsFrom-all}
use Rattle.greedy_paths.proofs.widths.widths_to_sinks.Goals as goal

pub width_from-width-requires-clause-heads : goal.width_from-width-requires-clause-heads
width_from-width-requires-clause-heads c =
    let g = c.args.net.now in
    let rest = slice_index c.args.rest.now in
    let order = c.order-order.result.now in
    let same : c.loop-k.k ≡ c.loop-k.k - 1 + 1 = omega arith in
    let before = subst (λ k. HaveWidthsFrom g rest order k c.loop-k.widths.items) same c.loop-k.invariant in
    rw c.deref.ensures.value
    (HeadsHaveWidths-behind g rest order c.order-order.ensures (c.loop-k.k - 1) c.loop-k.widths.items c.vertices.ensures.net (omega (arith, c.order-order.ensures.count)) before)

pub returns : goal.returns
returns c =
    let all : c.loop-k.k ≡ 0 = omega arith in
    HaveWidthsFrom-all c.args.net.now (slice_index c.args.rest.now) c.order-order.result.now c.order-order.ensures c.loop-k.widths.items (rw all at c.loop-k.invariant)
