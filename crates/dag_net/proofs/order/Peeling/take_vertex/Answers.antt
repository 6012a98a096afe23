use Rattle.std.proofs.Common.{◌≡◌, ◌-◌, ◌<◌, ℕ, None, length, vec_len, slice_index, sym, subst, arith}
use Rattle.std.specs.Option.{option_map_or}
use Rattle.std.proofs.lemmas.List.{get_or_read}
use Rattle.decomposition.specs.Graph.{graph_of}
use Rattle.dag_net.specs.Chain.{IsFirstOut}
use Rattle.dag_net.proofs.PeelingSteps.{below-place}
use Rattle.dag_net.proofs.Taking.{IsFirstOut-next, Takes-first, Takes-waits, Takes-more, Takes-all, cursor-falls}
use Rattle.dag_net.proofs.order.Peeling.take_vertex.Goals as goal

pub index-out-requires : goal.index-out-requires
index-out-requires c =
    let order = c.args.self.now.order.items in
    let within : c.args.k < length order = omega (arith, c.requires.place, c.args.self.now.order.ok.0) in
    let read = get_or_read order c.args.k c.index.result.now within c.index.ensures 0 in
    omega (arith, read, below-place (graph_of (vec_len c.args.self.now.waiting) c.args.edges.now) _ _ order c.args.k c.requires.peels within, c.requires.chains.vertices_count, c.args.chains.now.first.ok.0)

pub loop-out-init : goal.loop-out-init
loop-out-init c =
    let order = c.args.self.now.order.items in
    let g = graph_of (vec_len c.args.self.now.waiting) c.args.edges.now in
    let v = c.index.result.now in
    let within : c.args.k < length order = omega (arith, c.requires.place, c.args.self.now.order.ok.0) in
    let read : v ≡ slice_index order c.args.k = get_or_read order c.args.k v within c.index.ensures 0 in
    let there : v < vec_len c.args.self.now.waiting = omega (arith, read, below-place g _ _ order c.args.k c.requires.peels within) in
    let first = rw (← get_or_read c.args.chains.now.first.items v c.index-out.result.now (omega (arith, there, c.requires.chains.vertices_count)) c.index-out.ensures None) at (c.requires.chains.firsts v there) in
    Takes-first g c.args.k c.index-out.result.now c.args.self.now.waiting.items order c.requires.peels
    (subst (λ u. IsFirstOut g u 0 c.index-out.result.now) read first)

pub take_edge-requires-clause-waits : goal.take_edge-requires-clause-waits
take_edge-requires-clause-waits c =
    Takes-waits (graph_of (vec_len c.args.self.now.waiting) c.args.edges.now) c.args.k (slice_index c.args.self.now.order.items c.args.k) c.in-Some.e c.args.self.now.order.items c.loop-out.self.waiting.items c.loop-out.self.order.items
    (omega (arith, c.requires.place, c.args.self.now.order.ok.0)) (rw c.in-Some.is at c.loop-out.invariant) c.requires.inside

pub loop-out-smaller : goal.loop-out-smaller
loop-out-smaller c =
    let g = graph_of (vec_len c.args.self.now.waiting) c.args.edges.now in
    let t = rw c.in-Some.is at c.loop-out.invariant in
    let m = length c.args.edges.now in
    subst (λ out. option_map_or (λ (e : ℕ). m - e) c.index-out-in-Some.result.now 0 < option_map_or (λ (e : ℕ). m - e) out 0) (sym c.in-Some.is)
    (cursor-falls g (slice_index c.args.self.now.order.items c.args.k) c.in-Some.e c.index-out-in-Some.result.now t.at.0
    (IsFirstOut-next g (slice_index c.args.self.now.order.items c.args.k) c.in-Some.e _ _ c.index-out-in-Some.result.now c.requires.chains t.at.0 t.at.1 c.index-out-in-Some.ensures))

pub loop-out-preserved : goal.loop-out-preserved
loop-out-preserved c =
    let t = rw c.in-Some.is at c.loop-out.invariant in
    Takes-more (graph_of (vec_len c.args.self.now.waiting) c.args.edges.now) c.args.k (slice_index c.args.self.now.order.items c.args.k) c.in-Some.e c.args.self.now.order.items c.loop-out.self.waiting.items c.loop-out.self.order.items
    (omega (arith, c.requires.place, c.args.self.now.order.ok.0)) t c.requires.inside
    c.index-out-in-Some.result.now c.take_edge.new.self.waiting.items c.take_edge.new.self.order.items
    (IsFirstOut-next (graph_of (vec_len c.args.self.now.waiting) c.args.edges.now) (slice_index c.args.self.now.order.items c.args.k) c.in-Some.e _ _ c.index-out-in-Some.result.now c.requires.chains t.at.0 t.at.1 c.index-out-in-Some.ensures) c.in_ok-take_edge.ensures.waiting c.in_ok-take_edge.ensures.order

pub returns-clause-peels : goal.returns-clause-peels
returns-clause-peels c =
    Takes-all (graph_of (vec_len c.args.self.now.waiting) c.args.edges.now) c.args.k (slice_index c.args.self.now.order.items c.args.k) c.args.self.now.order.items c.loop-out.self.waiting.items c.loop-out.self.order.items
    (omega (arith, c.requires.place, c.args.self.now.order.ok.0)) (rw c.in_default.is at c.loop-out.invariant)
