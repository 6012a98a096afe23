use Rattle.std.proofs.Common.{◌≡◌, ◌+◌, ◌-◌, ◌<◌, length, slice_index, ap, sym, ◌∙◌, arith}
use Rattle.lower_flow.specs.Residual.{lack, residual}
use Rattle.lower_flow.specs.Search.{entry_at}
use Rattle.lower_flow.specs.declared.search.Reached.{Reached}
use Rattle.lower_flow.proofs.Balances.{lack-read}
use Rattle.lower_flow.proofs.Searching.{entry-read, Runs-more, Runs-all, read-below, IsSearch-few}
use Rattle.lower_flow.proofs.search.Search.run.Goals as goal
use Rattle.lower_flow.proofs.search.Search.run.Goals.{After-index-reached, After-lack-lack}

within : (c : After-index-reached) → c.loop-k.k < length c.loop-k.self.entries.items
within c = omega (arith, c.loop-k-test.true, c.len.ensures, c.loop-k.self.entries.ok.0)

below : (c : After-index-reached) → c.index-reached.result.now.vertex < c.args.net.now.vertices
below c =
    read-below (residual c.args.net.now c.args.ranges.now c.args.side (slice_index c.args.flow.now)) c.loop-k.self.entries.items c.loop-k.self.marked.items c.loop-k.k c.index-reached.result.now c.loop-k.invariant.search (within c) c.index-reached.ensures

pub lack-lack-requires-clause-vertex : goal.lack-lack-requires-clause-vertex
lack-lack-requires-clause-vertex c = below (goal.at.lack-lack-requires-clause-vertex c).After-index-reached

read : (c : After-index-reached) → c.index-reached.result.now ≡ entry_at c.loop-k.self.entries.items c.loop-k.k
read c = entry-read c.loop-k.self.entries.items c.loop-k.k c.index-reached.result.now (within c) c.index-reached.ensures

-- what the vertex takes up
lacks : (c : After-lack-lack) → c.index-reached.result.now.vertex < c.args.net.now.vertices → c.index-reached.result.now ≡ entry_at c.loop-k.self.entries.items c.loop-k.k
    → c.lack-lack.result ≡ lack c.args.net.now c.args.side (slice_index c.args.flow.now) (entry_at c.loop-k.self.entries.items c.loop-k.k).vertex
lacks c there is =
    let g = c.args.net.now in
    let at = lack-read g c.args.side (slice_index c.args.flow.now) c.args.sums.now.far.items c.args.sums.now.near.items c.index-reached.result.now.vertex c.requires.far c.requires.near there in
    c.lack-lack.ensures ∙ sym at ∙ ap (λ (x : Reached). lack g c.args.side (slice_index c.args.flow.now) x.vertex) is

pub returns-then-lack-gt0-clause-ends : goal.returns-then-lack-gt0-clause-ends
returns-then-lack-gt0-clause-ends c =
    let at = goal.at.returns-then-lack-gt0-clause-ends c in
    let room : c.index-reached.result.now.room ≡ (entry_at c.loop-k.self.entries.items c.loop-k.k).room = ap (λ (x : Reached). x.room) (read at.After-index-reached) in
    record {
      there = within at.After-index-reached;
      positive = omega (arith, c.min-amount.ensures, c.if-lack-gt0.true, room, c.loop-k.invariant.search.positive c.loop-k.k (within at.After-index-reached));
      gets_there = omega (arith, c.min-amount.ensures, room);
      taken = omega (arith, c.min-amount.ensures, lacks at.After-lack-lack (below at.After-index-reached) (read at.After-index-reached));
    }

pub loop-k-smaller : goal.loop-k-smaller
loop-k-smaller c =
    let r = residual c.args.net.now c.args.ranges.now c.args.side (slice_index c.args.flow.now) in
    let few = IsSearch-few r c.loop-k.self.entries.items c.loop-k.self.marked.items c.loop-k.invariant.search in
    let less : c.args.net.now.vertices - (c.loop-k.k + 1) < c.args.net.now.vertices - c.loop-k.k = omega (arith, few, c.loop-k-test.true, c.len.ensures, c.loop-k.self.entries.ok.0) in
    less

pub loop-k-preserved : goal.loop-k-preserved
loop-k-preserved c =
    let at = goal.at.loop-k-preserved c in
    let r = residual c.args.net.now c.args.ranges.now c.args.side (slice_index c.args.flow.now) in
    let old = c.loop-k.self in
    Runs-more r old.entries.items old.marked.items c.visit.new.self.entries.items c.visit.new.self.marked.items c.loop-k.k c.loop-k.invariant (within at.After-index-reached)
    (omega (arith, c.if-lack-gt0.false, lacks at.After-lack-lack (below at.After-index-reached) (read at.After-index-reached))) c.in_ok-visit.ensures.search c.in_ok-visit.ensures.grows c.in_ok-visit.ensures.visited

pub returns-clause-ends : goal.returns-clause-ends
returns-clause-ends c =
    Runs-all (residual c.args.net.now c.args.ranges.now c.args.side (slice_index c.args.flow.now)) c.loop-k.self.entries.items c.loop-k.self.marked.items c.loop-k.k c.loop-k.invariant
    (omega (arith, c.loop-k-test.false, c.len.ensures, c.loop-k.self.entries.ok.0))
