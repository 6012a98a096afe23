use Rattle.std.proofs.Common.{slice_index, refl, arith}
use Rattle.std.proofs.lemmas.List.{get_or_read}
use Rattle.decomposition.specs.Graph.{tail, head}
use Rattle.dag_net.proofs.AddingUp.{AddsUp, AddsUp-more}
use Rattle.safe_paths.specs.VertexFlows.{AreGreatest}
use Rattle.safe_paths.proofs.OutSums.{small-at}
use Rattle.safe_paths.proofs.Greatest.{AreGreatest-more}
use Rattle.safe_paths.proofs.vertex_flows.flows_at.Goals as goal

pub loop-e-preserved : goal.loop-e-preserved
loop-e-preserved c =
    let g = c.args.net.now in
    let flow = slice_index c.args.flow.now in
    let n = g.vertices in
    let e = c.loop-e.e in
    let from = c.tail-tail.result in
    let to = c.head-head.result in
    let out : AddsUp 1000000000000 (tail g) flow n e c.loop-e.out.items = c.loop-e.invariant.0 in
    let into : AreGreatest (head g) flow n e c.loop-e.greatest_in.items = c.loop-e.invariant.1 in
    let off : AreGreatest (tail g) flow n e c.loop-e.greatest_out.items = c.loop-e.invariant.2 in
    let little = small-at 1000000000000 c.args.flow.now c.requires.small e in (
      AddsUp-more 1000000000000 (tail g) flow n e from c.index_mut.result.now (flow e) c.loop-e.out.items c.tail-tail.ensures.tail (omega (arith, out.room, c.tail-tail.ensures.vertex))
          (get_or_read c.loop-e.out.items from c.index_mut.result.now (omega (arith, out.room, c.tail-tail.ensures.vertex)) c.index_mut.ensures.value 0) refl little out,
      AreGreatest-more (head g) flow n e to c.index.result.now (flow e) c.max.result c.loop-e.greatest_in.items c.head-head.ensures.head (omega (arith, into.room, c.head-head.ensures.vertex))
          (get_or_read c.loop-e.greatest_in.items to c.index.result.now (omega (arith, into.room, c.head-head.ensures.vertex)) c.index.ensures 0) refl little c.max.ensures into,
      AreGreatest-more (tail g) flow n e from c.index-in-loop-e.result.now (flow e) c.max-in-loop-e.result c.loop-e.greatest_out.items c.tail-tail.ensures.tail
          (omega (arith, off.room, c.tail-tail.ensures.vertex))
          (get_or_read c.loop-e.greatest_out.items from c.index-in-loop-e.result.now (omega (arith, off.room, c.tail-tail.ensures.vertex)) c.index-in-loop-e.ensures 0) refl little c.max-in-loop-e.ensures off,
    )
