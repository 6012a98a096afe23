use Rattle.std.proofs.Common.{◌≡◌, ◌<◌, None, length, slice_index, subst, arith, rules}
use Rattle.std.proofs.lemmas.List.{get_or_read}
use Rattle.decomposition.specs.Graph.{edge_count, tail, head}
use Rattle.greedy_paths.specs.Greatest.{AreGreatestAt}
use Rattle.greedy_paths.proofs.Ahead.{AreGreatestAt-none, AreGreatestAt-more}
use Rattle.greedy_paths.proofs.greatest.greatest_edges.Goals as goal

pub loop-e-init : goal.loop-e-init
loop-e-init c =
    let g = c.args.net.now in
    let flow = slice_index c.args.guide.now in
    record {
      into = AreGreatestAt-none (head g) flow g.vertices c.vertices.result c.in_ok-into.into.items c.vertices.ensures.vertices (c.in_ok-into.ensures.items_if_clones_equal (λ y e. search rules));
      out_of = AreGreatestAt-none (tail g) flow g.vertices c.vertices-2.result c.in_ok-out_of.out_of.items c.vertices-2.ensures.vertices (c.in_ok-out_of.ensures.items_if_clones_equal (λ y e. search rules));
    }

pub loop-e-preserved : goal.loop-e-preserved
loop-e-preserved c =
    let g = c.args.net.now in
    let flow = slice_index c.args.guide.now in
    let into : AreGreatestAt (head g) flow g.vertices c.loop-e.e c.loop-e.into.items = c.loop-e.invariant.into in
    let out_of : AreGreatestAt (tail g) flow g.vertices c.loop-e.e c.loop-e.out_of.items = c.loop-e.invariant.out_of in
    let in_into : c.head-head.result < length c.loop-e.into.items = omega (arith, into.room, c.head-head.ensures.vertex) in
    let in_out_of : c.tail-tail.result < length c.loop-e.out_of.items = omega (arith, out_of.room, c.tail-tail.ensures.vertex) in
    record {
      into = AreGreatestAt-more (head g) flow g.vertices c.loop-e.e c.head-head.result c.greater.result c.index.result.now c.loop-e.into.items c.head-head.ensures.head in_into
          (get_or_read c.loop-e.into.items c.head-head.result c.index.result.now in_into c.index.ensures None) c.greater.ensures into;
      out_of = AreGreatestAt-more (tail g) flow g.vertices c.loop-e.e c.tail-tail.result c.greater-in-loop-e.result c.index-in-loop-e.result.now c.loop-e.out_of.items c.tail-tail.ensures.tail in_out_of
          (get_or_read c.loop-e.out_of.items c.tail-tail.result c.index-in-loop-e.result.now in_out_of c.index-in-loop-e.ensures None) c.greater-in-loop-e.ensures out_of;
    }

pub returns-clause-greatest : goal.returns-clause-greatest
returns-clause-greatest c =
    let g = c.args.net.now in
    let flow = slice_index c.args.guide.now in
    let all : c.loop-e.e ≡ edge_count g = omega arith in
    record {
      into = subst (λ count. AreGreatestAt (head g) flow g.vertices count c.loop-e.into.items) all c.loop-e.invariant.into;
      out_of = subst (λ count. AreGreatestAt (tail g) flow g.vertices count c.loop-e.out_of.items) all c.loop-e.invariant.out_of;
    }
