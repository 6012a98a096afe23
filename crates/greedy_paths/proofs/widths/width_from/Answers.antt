use Rattle.std.proofs.Common.{◌≡◌, slice_index, max, min, sym, ap, ◌∙◌, arith}
use Rattle.decomposition.specs.Graph.{head}
use Rattle.greedy_paths.proofs.Widening.{max_is, min_is, IsWidthFrom-sink, Widens-more, Widens-all}
use Rattle.greedy_paths.proofs.widths.width_from.Goals as goal

pub returns-then-is_sink : goal.returns-then-is_sink
returns-then-is_sink c = IsWidthFrom-sink c.args.net.now (slice_index c.args.rest.now) c.args.v (sym c.is_sink.ensures ∙ c.if-is_sink.true)

pub loop-out-preserved : goal.loop-out-preserved
loop-out-preserved c =
    let g = c.args.net.now in
    let e = c.in-Some.e in
    let w = rw c.in-Some.is at c.loop-out.invariant in
    let read = ap (slice_index c.args.widths.now) c.head.ensures.head in
    let is : c.max-width.result ≡ max c.loop-out.width (min (slice_index c.args.rest.now e) (slice_index c.args.widths.now (head g e)))
    = omega (arith, max_is c.loop-out.width c.min.result, min_is (slice_index c.args.rest.now e) (slice_index c.args.widths.now c.head.result)) in
    Widens-more g (slice_index c.args.rest.now) c.args.v e c.next_out-out.result c.loop-out.width c.max-width.result (slice_index c.args.widths.now (head g e)) w
    (c.requires.heads e w.edges.0 w.edges.1) is c.next_out-out.ensures

pub returns : goal.returns
returns c = Widens-all c.args.net.now (slice_index c.args.rest.now) c.args.v c.loop-out.width (sym c.is_sink.ensures ∙ c.if-is_sink.false) (rw c.in_default.is at c.loop-out.invariant)
