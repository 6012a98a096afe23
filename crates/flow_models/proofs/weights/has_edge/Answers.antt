use Rattle.std.proofs.Common.{◌+◌, ◌-◌, ◌/◌, ◌<◌, length, slice_index, sym, arith}
use Rattle.std.proofs.lemmas.Bool.{iff_false}
use Rattle.decomposition.specs.Graph.{head, tail}
use Rattle.decomposition.specs.Reach.{Reaches}
use Rattle.decomposition.proofs.Runs.{run-place}
use Rattle.flow_models.proofs.Halving.{stands_behind, stands_before, has_edge-none, Reaches-same}
use Rattle.flow_models.proofs.weights.has_edge.Goals as goal

pub head-requires : goal.head-requires
head-requires c =
    let run = c.args.run.now in
    run-place c.args.net.now run (c.loop-low.low + (c.loop-low.high - c.loop-low.low) / 2) c.requires.run (omega arith)

pub loop-low-preserved-then-reaches : goal.loop-low-preserved-then-reaches
loop-low-preserved-then-reaches c =
    let g = c.args.net.now in
    let run = c.args.run.now in
    let middle = c.loop-low.low + (c.loop-low.high - c.loop-low.low) / 2 in
    let inside : middle < length run = omega arith in
    let way : Reaches g (head g (slice_index run middle)) (tail g c.args.e)
    = Reaches-same g c.head.result c.tail-tail.result (head g (slice_index run middle)) (tail g c.args.e) c.head.ensures.head c.tail-tail.ensures.tail (c.reaches.ensures.0 c.if-reaches.true) in (
      c.loop-low.invariant.0,
      λ k there at.
          let behind = stands_behind g c.requires.net run c.args.e middle k c.requires.run inside there at c.if-run-middle.false way in
          (omega (arith, behind), (c.loop-low.invariant.1 k there at).1),
    )

pub loop-low-preserved : goal.loop-low-preserved
loop-low-preserved c =
    let g = c.args.net.now in
    let run = c.args.run.now in
    let middle = c.loop-low.low + (c.loop-low.high - c.loop-low.low) / 2 in (
      omega arith,
      λ k there at.
          let before = stands_before g run c.args.e middle k c.requires.run there at c.if-run-middle.false
          (λ way. iff_false c.reaches.ensures c.if-reaches.false
          (Reaches-same g (head g (slice_index run middle)) (tail g c.args.e) c.head.result c.tail-tail.result (sym c.head.ensures.head) (sym c.tail-tail.ensures.tail) way)) in
          ((c.loop-low.invariant.1 k there at).0, before),
    )

pub returns : goal.returns
returns c =
    sym (has_edge-none c.args.run.now c.args.e (λ k there at.
    let low = (c.loop-low.invariant.1 k there at).0 in
    let high = (c.loop-low.invariant.1 k there at).1 in
    omega (arith, low, high)))
